use Rattle.handles.proofs.Agreeing.{turn_agrees}
use Rattle.handles.proofs.waiting.Waiting.turn.Goals as goal

pub returns-clause-agrees : goal.returns-clause-agrees
returns-clause-agrees g c =
    let model = g.F.Fabric.model in
    let e = c.turn-outcome in
    turn_agrees c.args.board.now e.new.self (model c.args.fabric.now) (model e.new.fabric) e.result c.args.self c.after.result c.after.ensures e.ensures.rule
