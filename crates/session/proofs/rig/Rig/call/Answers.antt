use Rattle.std.proofs.Common.{◌≡◌, Result, sym, ap, ◌∙◌}
use Rattle.fabric.specs.Backing.{Backing, Model, no_backing}
use Rattle.frames.specs.Frames.{buffer_backing, frames_model}
use Rattle.ring.specs.Ring.{ring_model}
use Rattle.rules.specs.Checks.{After, after}
use Rattle.rules.specs.declared.answer.Answer.{Answer}
use Rattle.rules.specs.declared.call.Call.{Call}
use Rattle.rules.specs.declared.refusal.Refusal.{Refusal}
use Rattle.rules.specs.declared.state.Size.{Size}
use Rattle.board.specs.Called.{left, called}
use Rattle.board.specs.declared.board.Board.{Board}
use Rattle.stage.specs.Stage.{stage_backing, stage_model}
use Rattle.session.specs.Carrier.{bare, carrier_lanes}
use Rattle.session.proofs.LanesAlone.{lanes_alone}
use Rattle.session.proofs.rig.Rig.call.Goals as goal

-- a call leaves of the board and the bare lanes what it leaves where anything lies behind these
bare_left : (ω : Backing) (b b' : Board) (φ φ' : Model ω) (r : Result Answer Refusal) (call : Call) → left r b' φ' ≡ called b φ call → left r b' (bare φ') ≡ called b (bare φ) call
bare_left ω b b' φ φ' r call made =
    ap (λ (x : Size × After ω). (x.0, after x.1.outcome x.1.state (bare x.1.fabric))) made ∙ ap (λ a. (b.size, a)) (lanes_alone ω b.size b.state φ call)

pub returns-in-Frames : goal.returns-in-Frames
returns-in-Frames c =
    let b = c.args.self.now.board in
    bare_left buffer_backing b c.call-in-Frames.new.self (frames_model c.in-Frames.frames) _ _ c.args.call c.call-in-Frames.ensures.rule
    ∙ ap (λ x. called b (carrier_lanes x) c.args.call) (sym c.in-Frames.is)

pub returns-in-Staged : goal.returns-in-Staged
returns-in-Staged c =
    let b = c.args.self.now.board in
    let stage = c.in-Staged.stage in
    bare_left (stage_backing no_backing) b c.call-in-Staged.new.self (stage_model no_backing stage.registers (ring_model stage.below)) _ _ c.args.call c.call-in-Staged.ensures.rule
    ∙ ap (λ x. called b (carrier_lanes x) c.args.call) (sym c.in-Staged.is)
