use Rattle.std.proofs.Common.{◌≡◌, ◌≤◌, length, ap, ◌∙◌, arith}
use Rattle.fabric.proofs.Backing.{take_lanes_are, take_bytes}
use Rattle.fabric.specs.Lanes.{lane_limit}
use Rattle.stage.specs.Stage.{firsts_taken}
use Rattle.stage.proofs.Filling.{one_filled, filled_same, filled_lawful, firsts_more}
use Rattle.stage.proofs.stage.Stage.new.Goals as goal

pub loop-lane-preserved : goal.loop-lane-preserved
loop-lane-preserved g c =
    let b = g.F.Fabric.backing in
    let m₀ = g.F.Fabric.model c.args.below in
    let m = g.F.Fabric.model c.loop-lane.below in
    let m' = g.F.Fabric.model c.take.new.self in
    let k = c.loop-lane.lane in
    let i = c.loop-lane.invariant in
    let e = c.take.ensures in (
      take_bytes b c.take.result m m' k e.after ∙ i.0,
      one_filled _ m₀.lanes m.lanes m'.lanes k c.take.result _ i.1 (omega (arith, c.loop-lane-test.true)) e.answer (take_lanes_are b c.take.result m m' k e.after) c.ok.ensures.value,
      firsts_more b m₀ m m' k c.take.result i.2 e.answer e.after,
      e.lender ∙ i.3,
    )

pub invariant_of-result : goal.invariant_of-result
invariant_of-result g c =
    let s = g.met.F.Fabric.sound c.args.below in
    record { lawful = filled_lawful _ (g.F.Fabric.model c.args.below).lanes _ _ c.loop-lane.invariant.1 (omega (arith, c.loop-lane-test.false, s.lane_bound)) s }

pub returns-clause-model : goal.returns-clause-model
returns-clause-model g c =
    let m₀ = g.F.Fabric.model c.args.below in
    let all : length m₀.lanes ≤ c.loop-lane.lane = omega (arith, c.loop-lane-test.false, (g.met.F.Fabric.sound c.args.below).lane_bound) in
    let lanes = filled_same _ m₀.lanes _ _ c.loop-lane.invariant.1 all in
    let end : c.loop-lane.lane ≡ lane_limit = omega (arith, c.loop-lane-test.false) in
    let state = ap (λ q. q.state) c.loop-lane.invariant.2 ∙ ap (λ n. (firsts_taken g.F.Fabric.backing m₀ n).state) end in
    λ i. record { lanes = lanes i; state = state i }
