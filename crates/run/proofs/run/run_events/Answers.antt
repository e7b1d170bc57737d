use Rattle.std.proofs.Common.{arith}
use Rattle.run.proofs.Loop.{ordered}
use Rattle.run.proofs.run.run_events.Goals as goal

pub returns-clause-order : goal.returns-clause-order
returns-clause-order g c =
    let model = g.F.Fabric.model in
    let l = c.loop-event in
    let long = l.auto.events in
    let start = c.in_ok-board.board in
    ordered g.F.Fabric.backing (model c.args.fabric.now) (model l.fabric) c.args.shims c.args.lines c.args.events.now l.events l.event-index start.size l.board.size
    start.state l.board.state c.in_ok-board.ensures l.invariant.size (omega arith) l.invariant.so_far
