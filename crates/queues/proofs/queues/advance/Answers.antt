use Rattle.std.proofs.Common.{◌≡◌, ◌+◌, ◌-◌, ◌%◌, ap, ◌∙◌}
use Rattle.queues.specs.Rows.{span_of, with_span, take_span, rows_model}
use Rattle.queues.proofs.Calls.{take_model}
use Rattle.queues.proofs.queues.advance.Goals as goal

pub returns-clause-after : goal.returns-clause-after
returns-clause-after g c =
    let S = g.S.Slots in
    let s = c.args.slots.now in
    let k = c.args.lane in
    let e = c.set_span.ensures in
    let span : _ ≡ take_span (S.rows s) k =
    λ i. record { first = ((span_of (c.rows.ensures i) k).first + 1) % c.lane_len.ensures i; waiting = (span_of (c.rows.ensures i) k).waiting - 1 } in
    (λ i. rows_model S.backing ((e.rows ∙ ap (λ x. with_span (S.rows s) k x) span) i) (e.held i) (e.state i))
    ∙ take_model (S.rows s) (S.room s) (S.held s) (g.met.S.Slots.lawful s) k c.requires.in_range c.requires.some S.backing (S.state s) (g.met.S.Slots.takes s)
