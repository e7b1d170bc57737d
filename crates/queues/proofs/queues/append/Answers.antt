use Rattle.std.proofs.Common.{◌+◌, ap, ◌∙◌}
use Rattle.queues.specs.Rows.{span_of, place, with_span, put_span, rows_model}
use Rattle.queues.proofs.Calls.{put_model}
use Rattle.queues.proofs.queues.append.Goals as goal

pub returns-clause-after : goal.returns-clause-after
returns-clause-after g c =
    let S = g.S.Slots in
    let s = c.args.slots.now in
    let t = c.write.new.self in
    let k = c.args.lane in
    let w = c.write.ensures in
    let e = c.set_span.ensures in
    let next = c.place.ensures.place ∙ ap (λ r. place (S.rows s) k ((span_of r k).first + (span_of r k).waiting)) c.rows.ensures in
    (λ i. rows_model S.backing ((e.rows ∙ ap (λ r. with_span r k (put_span c.rows.result.now k)) w.rows ∙ ap (λ r. with_span (S.rows s) k (put_span r k)) c.rows.ensures) i) (e.held i) (e.state i))
    ∙ put_model (S.rows s) (S.room s) (S.held s) (g.met.S.Slots.lawful s) k c.requires.in_range c.requires.space c.args.msg (S.held t) _ next w.here w.there S.backing (S.state s) (S.state t) w.state
