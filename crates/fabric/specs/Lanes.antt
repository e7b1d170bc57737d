-- What the lanes of a fabric are, and what its calls answer and make of them.
use Rattle.std.specs.Prelude.{◌≡◌, ℕ, ◌*◌, ◌<◌, ◌≤◌, Bool, cond, List, [], ◌∷◌, ◌++◌, length, replicate, is_ok, Ok, Err, Result, nat_le, slice_index_or, slice_set}
use Rattle.fabric.specs.declared.message.Message.{Message}
use Rattle.fabric.specs.declared.fault.FabricFault.{FabricFault}
use Rattle.fabric.specs.declared.fault.FabricFault.TheVariants.{NoLane, Full, Empty}

-- a lane: how many messages it can hold, and those that it holds, oldest first
pub record Lane : Type 0 where
  pub capacity : ℕ
  pub messages : List Message

-- how many shims a fabric serves
abbrev pub shim_limit : ℕ
shim_limit = 8

-- how many lanes a fabric has: two a shim
abbrev pub lane_limit : ℕ
lane_limit = 2 * shim_limit

-- how many messages a lane holds
abbrev pub capacity_limit : ℕ
capacity_limit = 64

-- what stands for a lane that does not exist
abbrev pub no_lane : Lane
no_lane = record { capacity = 0; messages = [] }

-- lane k
abbrev pub lane_of : List Lane → ℕ → Lane
lane_of lanes k = slice_index_or lanes k no_lane

-- the messages of lane k
abbrev pub messages_of : List Lane → ℕ → List Message
messages_of lanes k = (lane_of lanes k).messages

-- the capacity of lane k
abbrev pub capacity_of : List Lane → ℕ → ℕ
capacity_of lanes k = (lane_of lanes k).capacity

-- does lane k hold as many messages as its capacity
abbrev pub is_full : List Lane → ℕ → Bool
is_full lanes k = nat_le (capacity_of lanes k) (length (messages_of lanes k))

-- what put answers
abbrev pub put_answer : List Lane → ℕ → Result Unit FabricFault
put_answer lanes k = cond (nat_le (length lanes) k) (Err (NoLane k)) (cond (is_full lanes k) (Err (Full k)) (Ok tt))

-- the first message of a list that lane k holds
abbrev pub first_of : List Message → ℕ → Result Message FabricFault
first_of [] k = Err (Empty k)
first_of (x ∷ xs) k = Ok x

-- what take and look answer
abbrev pub take_answer : List Lane → ℕ → Result Message FabricFault
take_answer lanes k = cond (nat_le (length lanes) k) (Err (NoLane k)) (first_of (messages_of lanes k) k)

-- the messages after the first
abbrev pub rest_of : List Message → List Message
rest_of [] = []
rest_of (x ∷ xs) = xs

-- a lane with other messages
abbrev pub with_messages : Lane → List Message → Lane
with_messages lane xs = record { capacity = lane.capacity; messages = xs }

-- the lanes, where lane k has other messages
abbrev pub set_messages : List Lane → ℕ → List Message → List Lane
set_messages lanes k xs = slice_set lanes k (with_messages (lane_of lanes k) xs)

-- the lanes once x is put on lane k
abbrev pub put_lanes : List Lane → ℕ → Message → List Lane
put_lanes lanes k x = set_messages lanes k (messages_of lanes k ++ x ∷ [])

-- the lanes once the first message of lane k is taken
abbrev pub take_lanes : List Lane → ℕ → List Lane
take_lanes lanes k = set_messages lanes k (rest_of (messages_of lanes k))

-- the lanes after a put that answered r: a refusal leaves them as they were
abbrev pub lanes_after_put : {A : Type 0} → Result A FabricFault → List Lane → ℕ → Message → List Lane
lanes_after_put r lanes k x = cond (is_ok r) (put_lanes lanes k x) lanes

-- the lanes after a take that answered r
abbrev pub lanes_after_take : {A : Type 0} → Result A FabricFault → List Lane → ℕ → List Lane
lanes_after_take r lanes k = cond (is_ok r) (take_lanes lanes k) lanes

-- n empty lanes of one capacity
abbrev pub empty_lanes : ℕ → ℕ → List Lane
empty_lanes n capacity = replicate n (record { capacity = capacity; messages = [] })

-- what holds of the lanes of every fabric
pub record Sound (lanes : List Lane) : Type 0 where
  pub lane_bound : length lanes ≤ lane_limit
  pub capacity_least : (k : ℕ) → k < length lanes → 1 ≤ capacity_of lanes k
  pub capacity_most : (k : ℕ) → capacity_of lanes k ≤ capacity_limit
  pub fits : (k : ℕ) → length (messages_of lanes k) ≤ capacity_of lanes k

-- all lanes have one capacity
abbrev pub Level : List Lane → Type 0
Level lanes = (j k : ℕ) → j < length lanes → k < length lanes → capacity_of lanes j ≡ capacity_of lanes k
