use Rattle.std.proofs.Common.{Ok, ap, ◌∙◌, rules}
use Rattle.queues.specs.declared.rows.Span.{Span}
use Rattle.queues.specs.Rows.{place}
use Rattle.queues.proofs.Calls.{no_take, empty_take, ok_take}
use Rattle.queues.proofs.queues.look.Goals as goal

pub returns-in_err-span-clause-answer : goal.returns-in_err-span-clause-answer
returns-in_err-span-clause-answer g c =
    let s = c.args.slots.now in
    let n = no_take (g.S.Slots.rows s) (g.S.Slots.held s) c.args.lane c.in_err-span.ensures.none.0 in
    search rules

pub returns-then-span-eq0-clause-answer : goal.returns-then-span-eq0-clause-answer
returns-then-span-eq0-clause-answer g c =
    let S = g.S.Slots in
    let s = c.args.slots.now in
    empty_take (S.rows s) (S.room s) (S.held s) (g.met.S.Slots.lawful s) c.args.lane c.in_ok-span.ensures.there.0 (search rules)

pub returns-clause-answer : goal.returns-clause-answer
returns-clause-answer g c =
    let S = g.S.Slots in
    let s = c.args.slots.now in
    let t = c.in_ok-span.ensures.there in
    ap Ok (c.read.ensures ∙ ap (S.held s) (c.place.ensures.place ∙ ap (λ (y : Span). place (S.rows s) c.args.lane y.first) t.1))
    ∙ ok_take (S.rows s) (S.room s) (S.held s) (g.met.S.Slots.lawful s) c.args.lane t.0 (search rules)
