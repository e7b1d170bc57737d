-- What a ring is made of.
use Rattle.std.specs.Prelude.{ℕ, ◌*◌, cond, List, nat_le, slice_index_or}
use Rattle.fabric.specs.declared.message.Message.{Message}
use Rattle.fabric.specs.Lanes.{shim_limit}

-- how many messages each lane can hold
abbrev pub ring_capacity : ℕ
ring_capacity = 16

-- two lanes a shim, and none for more shims than a fabric serves
abbrev pub lanes_for : ℕ → ℕ
lanes_for shims = cond (nat_le shims shim_limit) (2 * shims) 0

-- what a slot past the table would hold
abbrev pub blank : Message
blank = record { kind = 0; line = 0; mark = 0; sender = 0; value = 0; stamp = 0 }

-- what slot i holds
abbrev pub message_in : List Message → ℕ → Message
message_in slots i = slice_index_or slots i blank
