use Rattle.std.proofs.Common.{◌≡◌, take, drop}
use Rattle.ring.specs.Ring.{no_backing, ring_model}
use Rattle.gombultsei.specs.Run.{answered}
use Rattle.gombultsei.proofs.Loop.{with_rest}
use Rattle.gombultsei.proofs.run.gombultsei_run.Given as goal

-- At each turn, the exchanges that were done with those to come are the whole run.
abbrev pub invariant-loop-exchange : goal.invariant-loop-exchange
invariant-loop-exchange l =
    record {
      size : l.board.size ≡ l.initial.board.size;
      so_far :
          with_rest l.initial.board.size (take l.exchange-index l.exchanges) l.board.state (ring_model l.ring) (drop l.exchange-index l.exchanges)
          ≡ answered no_backing l.initial.board.size l.initial.board.state (ring_model l.initial.ring) l.initial.exchanges;
    }
