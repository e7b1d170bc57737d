use Rattle.std.proofs.Common.{rules, of_calls}
use Rattle.queues.proofs.Calls.{waiting_is, waiting_none}
use Rattle.queues.proofs.queues.waiting.Goals as goal

pub returns : goal.returns
returns g c =
    let S = g.S.Slots in
    let s = c.args.slots.now in
    let some = waiting_is (S.rows s) (S.room s) (S.held s) (g.met.S.Slots.lawful s) c.args.lane in
    let none = waiting_none (S.rows s) (S.held s) c.args.lane in
    search (rules, of_calls)
