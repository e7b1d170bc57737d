use Rattle.handles.proofs.Agreeing.{fence_agrees}
use Rattle.handles.proofs.ready.Ready.fence.Goals as goal

pub returns-clause-agrees : goal.returns-clause-agrees
returns-clause-agrees g c =
    let model = g.F.Fabric.model in
    let e = c.fence-outcome in
    fence_agrees c.args.board.now e.new.self (model c.args.fabric.now) (model e.new.fabric) e.result c.args.self c.after.result c.after.ensures c.args.strength e.ensures.rule
