use Rattle.std.proofs.Common.{◌≡◌, Ok, Some, Err, Option, sym, ap, ◌∙◌, arith}
use Rattle.std.specs.Option.{ok_or}
use Rattle.std.proofs.lemmas.Result.{err_from_is_err_and}
use Rattle.rules.specs.Checks.{after}
use Rattle.rules.specs.State.{down_lane, shim_at, with_shim}
use Rattle.rules.specs.declared.answer.Answer.{Answer}
use Rattle.rules.specs.declared.refusal.Refusal.TheVariants.{Foreign}
use Rattle.board.specs.Heard.{hearing, heard}
use Rattle.board.proofs.Deliveries.{down_foreign, down_accepted}
use Rattle.board.proofs.Firsts.{took}
use Rattle.board.proofs.board.Board.down.Goals as goal

pub returns-in_err-answer-clause-rule : goal.returns-in_err-answer-clause-rule
returns-in_err-answer-clause-rule g c =
    let ω = g.F.Fabric.backing in
    let z = c.args.self.now.size in
    let b = c.args.self.now.state in
    let φ = g.F.Fabric.model c.args.fabric.now in
    let s = c.args.shim in
    let m = c.in_ok-msg.msg in
    let y = c.hear.new.shim in
    let found = rw c.down_lane-lane.ensures at c.in_ok-msg.ensures.message in
    let none = c.in_err-answer.ensures.ok_part in
    let p = err_from_is_err_and c.from_residual-in_err-answer.result c.from_residual-in_err-answer.ensures.1 in
    let told : Err c.in_err-answer.field-0.0 ≡ Err (Foreign (down_lane s)) =
    c.in_err-answer.ensures.value ∙ ap (λ (r : Option Answer). ok_or r (Foreign c.down_lane-lane.result)) none ∙ ap (λ k. Err (Foreign k)) c.down_lane-lane.ensures in
    rw (p.1, p.2)
    (ap (λ k. (z, k))
    (ap (λ r. after r (with_shim b s y) (g.F.Fabric.model c.first.new.fabric)) told ∙ ap (λ x. after (Err (Foreign (down_lane s))) (with_shim b s y) x) c.first.ensures.same
    ∙ down_foreign ω z b φ s m found (omega arith) (omega arith) (omega arith) y (ap (λ r. hearing r y) (sym none) ∙ c.hear.ensures)))

pub returns-clause-rule : goal.returns-clause-rule
returns-clause-rule g c =
    let ω = g.F.Fabric.backing in
    let z = c.args.self.now.size in
    let b = c.args.self.now.state in
    let φ = g.F.Fabric.model c.args.fabric.now in
    let s = c.args.shim in
    let m = c.in_ok-msg.msg in
    let y = c.hear.new.shim in
    let a = c.in_ok-answer.answer in
    let found = rw c.down_lane-lane.ensures at c.in_ok-msg.ensures.message in
    let taken =
    rw c.down_lane-lane.ensures at (took ω φ (g.F.Fabric.model c.first.new.fabric) (g.F.Fabric.model c.take.new.self) z s c.down_lane-lane.result m c.take.result
    c.in_ok-msg.ensures.message (omega arith) c.first.ensures.same c.take.ensures.answer c.take.ensures.after) in
    let h : hearing (Some a) y ≡ heard (shim_at b s) m = ap (λ r. hearing r y) (sym c.in_ok-answer.ensures.ok_part) ∙ c.hear.ensures in
    ap (λ k. (z, k)) (ap (λ x. after (Ok a) (with_shim b s y) x) taken ∙ down_accepted ω z b φ s m found (omega arith) (omega arith) (omega arith) y a h)
