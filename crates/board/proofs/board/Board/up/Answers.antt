use Rattle.std.proofs.Common.{Ok, Err, sym, ap, ◌∙◌, subst, arith}
use Rattle.std.proofs.lemmas.Result.{err_from_is_err_and}
use Rattle.fabric.specs.Backing.{Model}
use Rattle.rules.specs.declared.state.HubLine.{HubLine}
use Rattle.rules.specs.Checks.{after}
use Rattle.rules.specs.Refusals.{passing}
use Rattle.rules.specs.State.{with_hub}
use Rattle.rules.specs.Up.{sent_by, full_lanes, hub_by, send_all}
use Rattle.rules.specs.declared.answer.Answer.TheVariants.{Handled}
use Rattle.board.specs.Room.{HasRoom}
use Rattle.board.specs.Upward.{Upward}
use Rattle.board.proofs.Firsts.{took}
use Rattle.board.proofs.Performing.{up_by}
use Rattle.board.proofs.Sends.{room_after_take}
use Rattle.board.proofs.board.Board.up.Goals as goal

pub returns-in_err-room-clause-rule : goal.returns-in_err-room-clause-rule
returns-in_err-room-clause-rule g c =
    let p = err_from_is_err_and c.from_residual-in_err-room.result c.from_residual-in_err-room.ensures.1 in
    let ω = g.F.Fabric.backing in
    let z = c.args.self.now.size in
    let b = c.args.self.now.state in
    let φ = g.F.Fabric.model c.args.fabric.now in
    let s = c.args.shim in
    let m = c.in_ok-msg.msg in
    let r = c.in-Some.request in
    let e = c.in_err-room.field-0.0 in
    let known : Upward z b s m r.msg r.kind r.hub.now = c.in-Some.ensures in
    let found = rw c.up_lane-lane.ensures at c.in_ok-msg.ensures.message in
    rw (p.1, p.2)
    (ap (λ a. (z, a)) (ap (λ x. after (Err e) b x) c.first.ensures.same
    ∙ up_by ω z b φ s m found r.msg r.kind r.hub.now known (Err e)
    (c.in_err-room.ensures.rule ∙ ap (λ (x : Model ω). passing (full_lanes (λ j. sent_by r.hub.now r.msg j r.kind) x.lanes z.shims) (tt {0})) c.first.ensures.same)))

pub send-requires-clause-room : goal.send-requires-clause-room
send-requires-clause-room g c =
    let ω = g.F.Fabric.backing in
    let z = c.args.self.now.size in
    let φ = g.F.Fabric.model c.args.fabric.now in
    let s = c.args.shim in
    let r = c.in-Some.request in
    let taken =
    rw c.up_lane-lane.ensures at (took ω φ (g.F.Fabric.model c.first.new.fabric) (g.F.Fabric.model c.take.new.self) z s c.up_lane-lane.result c.in_ok-msg.msg c.take.result
    c.in_ok-msg.ensures.message (omega arith) c.first.ensures.same c.take.ensures.answer c.take.ensures.after) in
    let Roomy : Model ω → Type 0 = λ x. HasRoom (λ j. sent_by r.hub.now r.msg j r.kind) x.lanes z.shims in
    subst Roomy (sym taken) (room_after_take (λ j. sent_by r.hub.now r.msg j r.kind) φ.lanes s z.shims (subst Roomy c.first.ensures.same c.in_ok-room.ensures.room))

pub returns-clause-rule : goal.returns-clause-rule
returns-clause-rule g c =
    let ω = g.F.Fabric.backing in
    let z = c.args.self.now.size in
    let b = c.args.self.now.state in
    let φ = g.F.Fabric.model c.args.fabric.now in
    let s = c.args.shim in
    let m = c.in_ok-msg.msg in
    let r = c.in-Some.request in
    let found = rw c.up_lane-lane.ensures at c.in_ok-msg.ensures.message in
    let known : Upward z b s m r.msg r.kind r.hub.now = c.in-Some.ensures in
    let taken =
    rw c.up_lane-lane.ensures at (took ω φ (g.F.Fabric.model c.first.new.fabric) (g.F.Fabric.model c.take.new.self) z s c.up_lane-lane.result m c.take.result
    c.in_ok-msg.ensures.message (omega arith) c.first.ensures.same c.take.ensures.answer c.take.ensures.after) in
    let roomy = c.in_ok-room.ensures.rule ∙ ap (λ (x : Model ω). passing (full_lanes (λ j. sent_by r.hub.now r.msg j r.kind) x.lanes z.shims) (tt {0})) c.first.ensures.same in
    ap (λ a. (z, a))
    (ap (λ (h : HubLine). after (Ok (Handled r.kind)) (with_hub b m.line h) (g.F.Fabric.model c.send.new.fabric)) c.performed.ensures
    ∙ ap (λ (x : Model ω). after (Ok (Handled r.kind)) (with_hub b m.line (hub_by r.hub.now r.msg r.kind)) x)
    (c.send.ensures.sent ∙ ap (λ (x : Model ω). send_all ω (λ j. sent_by r.hub.now r.msg j r.kind) x z.shims) taken)
    ∙ up_by ω z b φ s m found r.msg r.kind r.hub.now known (Ok tt) roomy)
