use Rattle.std.proofs.Common.{◌≡◌, ◌+◌, ◌-◌, ◌++◌, take, ap, ◌∙◌, arith}
use borrow.Rule.Slice.PartMut.{put_mid}
use Rattle.std.proofs.lemmas.List.{drop-drop}
use Rattle.fabric.specs.Frame.{frame_bytes, frame_of}
use Rattle.frames.proofs.frames.write_frame.Goals as goal

pub returns-clause-wrote : goal.returns-clause-wrote
returns-clause-wrote c =
    let bs = c.args.bytes.now in
    let at = c.args.at in
    let n : at + frame_bytes - at ≡ frame_bytes = omega arith in
    ap (λ m. put_mid at m bs c.copy_from_slice.new.self) n
    ∙ ap (λ f. put_mid at frame_bytes bs f) (c.copy_from_slice.ensures.after ∙ c.encode.ensures.bytes)
    ∙ ap (λ l. take at bs ++ (frame_of c.args.msg ++ l)) (drop-drop frame_bytes at bs)
