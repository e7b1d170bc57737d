use Rattle.handles.proofs.Agreeing.{store_agrees}
use Rattle.handles.proofs.ready.Ready.store.Goals as goal

pub returns-clause-agrees : goal.returns-clause-agrees
returns-clause-agrees g c =
    let model = g.F.Fabric.model in
    let e = c.store-outcome in
    store_agrees c.args.board.now e.new.self (model c.args.fabric.now) (model e.new.fabric) e.result c.args.self c.after.result c.after.ensures c.args.line c.args.strength c.args.value e.ensures.rule
