use Rattle.handles.proofs.Agreeing.{evict_agrees}
use Rattle.handles.proofs.ready.Ready.evict.Goals as goal

pub returns-clause-agrees : goal.returns-clause-agrees
returns-clause-agrees g c =
    let model = g.F.Fabric.model in
    let e = c.evict-outcome in
    evict_agrees c.args.board.now e.new.self (model c.args.fabric.now) (model e.new.fabric) e.result c.args.self.shim c.args.line e.ensures.rule
