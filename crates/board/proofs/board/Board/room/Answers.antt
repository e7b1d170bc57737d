use Rattle.std.proofs.Common.{◌≡◌, ℕ, ◌<◌, ◌≤◌, true, false, None, Some, Option, sym, arith, rules, tests}
use Rattle.std.proofs.lemmas.Iterator.{first_from_Range}
use Rattle.std.proofs.iter.runs.Sources.{ranges}
use Rattle.fabric.specs.declared.message.Message.{Message}
use Rattle.rules.specs.Up.{sent_by}
use Rattle.board.proofs.Rooms.{blocked, none_full, first_full, room_for}
use Rattle.board.proofs.board.Board.room.Goals as goal

pub down_lane-requires : goal.down_lane-requires
down_lane-requires g c = search (rules, ranges)

pub returns-in-Some-clause-rule : goal.returns-in-Some-clause-rule
returns-in-Some-clause-rule g c =
    let sent : ℕ → Option Message = λ j. sent_by c.args.request.hub.now c.args.request.msg j c.args.request.kind in
    let lanes = (g.F.Fabric.model c.args.fabric.now).lanes in
    let k = c.in-Some.shim in
    let first : (0 ≤ k) × (k < c.args.self.now.size.shims) × (blocked sent lanes k ≡ true) × ((j : ℕ) → 0 ≤ j → j < k → blocked sent lanes j ≡ false) =
    first_from_Range _ _ _ (Some k) (λ j. blocked sent lanes j ≡ true) (λ j. blocked sent lanes j ≡ false) c.in-Some.ensures.ran (λ x q k. search (rules, tests)) (λ x q k. search (rules, tests)) in
    rw (c.into.ensures, c.down_lane.ensures) (sym (first_full sent lanes c.args.self.now.size.shims k first.1 (λ j lt. first.3 j (omega arith) lt) first.2))

pub returns-in-None : goal.returns-in-None
returns-in-None g c =
    let sent : ℕ → Option Message = λ j. sent_by c.args.request.hub.now c.args.request.msg j c.args.request.kind in
    let lanes = (g.F.Fabric.model c.args.fabric.now).lanes in
    let none : (j : ℕ) → 0 ≤ j → j < c.args.self.now.size.shims → blocked sent lanes j ≡ false =
    first_from_Range _ _ _ None (λ j. blocked sent lanes j ≡ true) (λ j. blocked sent lanes j ≡ false) c.in-None.ensures.ran (λ x q k. search (rules, tests)) (λ x q k. search (rules, tests)) in
    let clear : (j : ℕ) → j < c.args.self.now.size.shims → blocked sent lanes j ≡ false = λ j lt. none j (omega arith) lt in
    record { rule = sym (none_full sent lanes c.args.self.now.size.shims clear); room = room_for sent lanes c.args.self.now.size.shims clear }
