-- Lanes by their numbers, and messages that lie in slots.
use Rattle.std.specs.Prelude.{ℕ, zero, suc, ◌+◌, ◌%◌, List, [], ◌∷◌, map}
use Rattle.std.specs.List.{range_with_len}
use Rattle.fabric.specs.declared.message.Message.{Message}
use Rattle.fabric.specs.Lanes.{Lane}

-- the messages from slot f on, where `at` says what a slot holds; after the last slot comes slot 0
unfoldable pub queue : (ℕ → Message) → ℕ → ℕ → ℕ → List Message
queue at capacity f zero = []
queue at capacity f (suc c) = at (f % capacity) ∷ queue at capacity (f + 1) c

-- n lanes, each by its number
abbrev pub lanes_by : ℕ → (ℕ → Lane) → List Lane
lanes_by n lane = map lane (range_with_len 0 n)
