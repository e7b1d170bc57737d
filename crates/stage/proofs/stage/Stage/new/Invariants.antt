use Rattle.std.proofs.Common.{◌≡◌}
use Rattle.stage.specs.Stage.{firsts_taken}
use Rattle.stage.proofs.Filling.{Filled}
use Rattle.stage.proofs.stage.Stage.new.Given as goal

abbrev pub invariant-loop-lane : goal.invariant-loop-lane
invariant-loop-lane g l =
    let m₀ = g.F.Fabric.model l.initial.below in
    let m = g.F.Fabric.model l.below in
    (g.F.Fabric.backing.bytes_of m.state ≡ g.F.Fabric.backing.bytes_of m₀.state)
    × Filled l.register-items m₀.lanes m.lanes l.lane
    × (m ≡ firsts_taken g.F.Fabric.backing m₀ l.lane)
    × (g.F.Fabric.lender l.below ≡ g.F.Fabric.lender l.initial.below)
