-- At each turn, the events that were done with those to come are the whole run.
use Rattle.std.proofs.Common.{◌≡◌, take, drop}
use Rattle.rules.specs.Calls.{run_rule}
use Rattle.run.proofs.Loop.{with_rest}
use Rattle.run.proofs.run.run_events.Given as goal

abbrev pub invariant-loop-event : goal.invariant-loop-event
invariant-loop-event g l =
    let ω = g.F.Fabric.backing in
    let model = g.F.Fabric.model in
    record {
      lender : g.F.Fabric.lender l.fabric ≡ g.F.Fabric.lender l.initial.fabric;
      size : l.board.size ≡ l.initial.board.size;
      so_far :
          with_rest ω l.initial.board.size (take l.event-index l.events) l.board.state (model l.fabric) (drop l.event-index l.events)
          ≡ run_rule ω l.initial.board.size l.initial.board.state (model l.initial.fabric) l.initial.events;
    }
