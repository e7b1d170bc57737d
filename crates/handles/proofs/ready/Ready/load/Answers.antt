use Rattle.handles.proofs.Agreeing.{load_agrees}
use Rattle.handles.proofs.ready.Ready.load.Goals as goal

pub returns-clause-agrees : goal.returns-clause-agrees
returns-clause-agrees g c =
    let model = g.F.Fabric.model in
    let e = c.load-outcome in
    load_agrees c.args.board.now e.new.self (model c.args.fabric.now) (model e.new.fabric) e.result c.args.self c.after.result c.after.ensures c.args.line c.args.strength e.ensures.rule
