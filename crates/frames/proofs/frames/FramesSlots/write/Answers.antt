use Rattle.std.proofs.Common.{◌*◌, ap, ◌∙◌}
use Rattle.fabric.specs.Frame.{frame_bytes, frame_of}
use Rattle.frames.specs.Buffer.{overwritten}
use Rattle.frames.proofs.Places.{message_other}
use Rattle.frames.proofs.frames.FramesSlots.write.Goals as goal

pub returns-clause-there : goal.returns-clause-there
returns-clause-there c i _ differ =
    message_other c.args.self.now.bytes.now _ c.args.msg c.args.slot i c.requires c.write_frame.ensures.wrote differ

pub returns-clause-state : goal.returns-clause-state
returns-clause-state c first lanes k e =
    let bs = c.args.self.now.bytes.now in
    λ i. record { bytes = (c.write_frame.ensures.wrote ∙ ap (λ n. overwritten bs (frame_bytes * n) (frame_of c.args.msg)) e) i; first = first }
