use Rattle.std.proofs.Common.{◌≡◌}
use Rattle.rules.specs.Up.{send_all, sent_by}
use Rattle.board.proofs.board.Board.send.Given as goal

abbrev pub invariant-loop-shim : goal.invariant-loop-shim
invariant-loop-shim g l =
    (g.F.Fabric.model l.fabric ≡ send_all g.F.Fabric.backing (λ j. sent_by l.request.hub.now l.request.msg j l.request.kind) (g.F.Fabric.model l.initial.fabric) l.shim)
    × (g.F.Fabric.lender l.fabric ≡ g.F.Fabric.lender l.initial.fabric)
