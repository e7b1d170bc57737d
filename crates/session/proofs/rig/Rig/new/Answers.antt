use Rattle.std.proofs.Common.{◌≡◌, Ok, Err, Result, IsOk, sym, refl, ap, ◌∙◌}
use Rattle.fabric.specs.Backing.{Model, no_backing}
use Rattle.rules.specs.Make.{make_rule}
use Rattle.rules.specs.declared.refusal.Refusal.{Refusal}
use Rattle.board.specs.Made.{made_of}
use Rattle.board.specs.declared.board.Board.{Board}
use Rattle.session.specs.Playing.{capacity_named}
use Rattle.session.proofs.Opening.{shims_in_range, made_over_empty}
use Rattle.session.proofs.rig.Rig.new.Goals as goal

pub new-carrier-requires : goal.new-carrier-requires
new-carrier-requires c = shims_in_range c.args.asked.shims c.args.asked.lines c.requires

-- a board whose making no rule refuses is made
made_board : (r : Result Board Refusal) → ((e : Refusal) → made_of r ≡ Err e → ⊥) → IsOk r
made_board (Ok b) never = refl
made_board (Err e) never = absurd (never e refl)

pub unwrap-board-requires : goal.unwrap-board-requires
unwrap-board-requires c =
    let asked = c.args.asked in
    made_board c.make_board.result
    (λ e refused. made_over_empty asked.shims asked.lines (capacity_named asked.fabric asked.shims) e c.requires
    (sym refused ∙ c.make_board.ensures ∙ ap (λ (x : Model no_backing). make_rule x.lanes asked.shims asked.lines) c.new-carrier.ensures.lanes))
