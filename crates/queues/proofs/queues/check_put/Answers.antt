use Rattle.std.proofs.Common.{rules}
use Rattle.queues.proofs.Calls.{no_put, full_put, ok_put}
use Rattle.queues.proofs.queues.check_put.Goals as goal

pub returns-in_err-span-clause-answer : goal.returns-in_err-span-clause-answer
returns-in_err-span-clause-answer g c =
    let s = c.args.slots.now in
    let n = no_put (g.S.Slots.rows s) (g.S.Slots.held s) c.args.lane c.in_err-span.ensures.none.0 in
    search rules

pub returns-then-span-lane_len-clause-answer : goal.returns-then-span-lane_len-clause-answer
returns-then-span-lane_len-clause-answer g c =
    let S = g.S.Slots in
    let s = c.args.slots.now in
    full_put (S.rows s) (S.room s) (S.held s) (g.met.S.Slots.lawful s) c.args.lane c.in_ok-span.ensures.there.0 (search rules)

pub returns-clause-answer : goal.returns-clause-answer
returns-clause-answer g c =
    let S = g.S.Slots in
    let s = c.args.slots.now in
    ok_put (S.rows s) (S.room s) (S.held s) (g.met.S.Slots.lawful s) c.args.lane c.in_ok-span.ensures.there.0 (search rules)
