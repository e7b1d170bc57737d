use Rattle.std.proofs.Common.{arith, ap, ◌∙◌}
use Rattle.std.proofs.lemmas.Grind.{common_steps}
use Rattle.fabric.specs.Frame.{frame_of}
use Rattle.fabric.proofs.FrameBytes.{frame_back}
use Rattle.fabric.proofs.frame.decode.Goals as goal

pub returns-clause-value : goal.returns-clause-value
returns-clause-value c = grind (arith, common_steps)

pub returns-clause-back : goal.returns-clause-back
returns-clause-back c = ap frame_of (returns-clause-value c) ∙ frame_back c.args.frame.now c.told-frame c.fits-frame
