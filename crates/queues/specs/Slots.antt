-- What puts and takes make of what lies behind slots.
use Rattle.std.specs.Prelude.{◌≡◌, ℕ, ◌+◌, ◌*◌, ◌%◌, List, length, slice_index, slice_set}
use Rattle.fabric.specs.declared.message.Message.{Message}
use Rattle.fabric.specs.Lanes.{Lane, messages_of, capacity_of}
use Rattle.fabric.specs.Backing.{Backing}

-- the slot that the next message put on lane k goes to, where `first` has for each lane the first slot in use
abbrev pub put_slot : List Lane → List ℕ → ℕ → ℕ
put_slot lanes first k = capacity_of lanes k * k + (slice_index first k + length (messages_of lanes k)) % capacity_of lanes k

-- the first slots in use once a message is taken from lane k
abbrev pub take_first : List Lane → List ℕ → ℕ → List ℕ
take_first lanes first k = slice_set first k ((slice_index first k + 1) % capacity_of lanes k)

-- x in a slot makes of the state what a put of x does, on the lane whose next slot that is
abbrev pub Puts : (b : Backing) → (List ℕ → b.State) → (List ℕ → b.State) → ℕ → Message → Type 0
Puts b before after slot x = (first : List ℕ) (lanes : List Lane) (k : ℕ) → slot ≡ put_slot lanes first k → after first ≡ b.put_state (before first) lanes k x

-- of the state a take makes only that the first slot in use is the next one
abbrev pub Takes : (b : Backing) → (List ℕ → b.State) → Type 0
Takes b state = (first : List ℕ) (lanes : List Lane) (k : ℕ) → state (take_first lanes first k) ≡ b.take_state (state first) lanes k
