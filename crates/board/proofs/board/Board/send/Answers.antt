use Rattle.std.proofs.Common.{◌≡◌, ◌+◌, sym, ◌∙◌, subst}
use Rattle.rules.specs.Up.{send_all, sent_by}
use Rattle.board.proofs.Sends.{send_none, send_more}
use Rattle.board.proofs.board.Board.send.Goals as goal
use Rattle.board.proofs.board.Board.send.Goals.{in-Some, in_default}

pub loop-shim-preserved : goal.loop-shim-preserved
loop-shim-preserved g c =
    let ω = g.F.Fabric.backing in
    let model = g.F.Fabric.model in
    let φ = model c.args.fabric.now in
    let k = c.loop-shim.shim in
    let Kept : g.row.F.Denot → Type 0 =
    λ x. (model x ≡ send_all ω (λ j. sent_by c.args.request.hub.now c.args.request.msg j c.args.request.kind) φ (k + 1)) × (g.F.Fabric.lender x ≡ g.F.Fabric.lender c.args.fabric.now) in
    elim c.match-reply.branch [
      | in-Some v ↦
          subst Kept (sym v.fabric-is) (
            send_more ω (λ j. sent_by c.args.request.hub.now c.args.request.msg j c.args.request.kind) φ c.args.self.now.size.shims k v.in-Some.answer c.loop-shim-test.true c.requires.lanes c.requires.room
                (v.in-Some.ensures) (model c.loop-shim.fabric) (model v.put.new.self) v.put.result c.loop-shim.invariant.0 (rw v.down_lane.ensures at v.put.ensures.answer)
                (rw v.down_lane.ensures at v.put.ensures.after),
            v.put.ensures.lender ∙ c.loop-shim.invariant.1,
          )
      | in_default v ↦
          subst Kept (sym v.fabric-is) (
            send_none ω (λ j. sent_by c.args.request.hub.now c.args.request.msg j c.args.request.kind) φ k (model c.loop-shim.fabric) c.loop-shim.invariant.0 (v.in_default.ensures),
            c.loop-shim.invariant.1,
          )
    ]
