-- What a ring means.
use Rattle.std.specs.Prelude.{ℕ}
use Rattle.fabric.specs.Lanes.{empty_lanes}
use Rattle.fabric.specs.Backing.{Model}
pub use Rattle.fabric.specs.Backing.{no_backing}
use Rattle.queues.specs.Rows.{rows_model}
use Rattle.ring.specs.declared.ring.Ring.{Ring}
pub use Rattle.ring.specs.Table.{ring_capacity, lanes_for, blank, message_in}

-- a ring just made
abbrev pub made_ring : ℕ → Model no_backing
made_ring shims = record { lanes = empty_lanes (lanes_for shims) ring_capacity; state = tt }

-- the meaning of a ring
abbrev pub ring_model : Ring → Model no_backing
ring_model r = rows_model no_backing r.rows (message_in r.slots) (λ _. tt)
