use Rattle.std.proofs.Common.{rules, of_calls}
use Rattle.queues.proofs.Calls.{capacity_is, capacity_none}
use Rattle.queues.proofs.queues.capacity.Goals as goal

pub returns : goal.returns
returns g c =
    let S = g.S.Slots in
    let s = c.args.slots.now in
    let some = capacity_is (S.rows s) (S.room s) (S.held s) (g.met.S.Slots.lawful s) c.args.lane in
    let none = capacity_none (S.rows s) (S.held s) c.args.lane in
    search (rules, of_calls)
