use Rattle.std.proofs.Common.{cond, sym, ap, ◌∙◌}
use Rattle.session.specs.Playing.{begun, begun_by, flawed, running}
use Rattle.verdict.specs.declared.verdict.Flaw.TheVariants.{WrongBoard}
use Rattle.session.proofs.session.Phase.first.Goals as goal

pub returns-in-Ok : goal.returns-in-Ok
returns-in-Ok c = λ place.
    let asked = c.in-Ok.asked in
    c.new.ensures place
    ∙ sym (ap (begun_by c.args.sheet.now place) c.in-Ok.is ∙ ap (λ t. cond t (running (begun place asked)) (flawed WrongBoard)) (sym c.is_board_size.ensures ∙ c.if-is_board_size.true))
