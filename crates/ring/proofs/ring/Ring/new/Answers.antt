use Rattle.std.proofs.Common.{replicate}
use Rattle.ring.specs.Table.{blank, message_in}
use Rattle.ring.proofs.Making.{made}
use Rattle.ring.proofs.ring.Ring.new.Goals as goal

pub returns : goal.returns
returns c = record { model = made c.args.shims _ _ (message_in (replicate 256 blank)) c.lanes_for.ensures c.new.ensures }
