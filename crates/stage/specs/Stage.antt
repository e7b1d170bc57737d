-- What a stage means.
use Rattle.std.specs.Prelude.{◌≡◌, ℕ, zero, suc, ◌<◌, ◌≤◌, List, [], ◌∷◌, ◌++◌, length, None, Option, slice_index_or, refl}
use Rattle.std.specs.Option.{option_to_list}
use Rattle.fabric.specs.declared.message.Message.{Message}
use Rattle.fabric.specs.Lanes.{Lane, lane_limit, with_messages, rest_of, take_answer, lane_of, messages_of, capacity_of}
use Rattle.fabric.specs.Backing.{Backing, Model, after_take}
use Rattle.fabric.specs.Queue.{lanes_by}

-- what the register of lane k holds
abbrev pub register : List (Option Message) → ℕ → Option Message
register rs k = slice_index_or rs k None

-- lane k of a stage: its register, then the list below
abbrev pub stage_lane : List (Option Message) → List Lane → ℕ → Lane
stage_lane rs m k = record { capacity = capacity_of m k; messages = option_to_list (register rs k) ++ messages_of m k }

-- the lanes of a stage
abbrev pub stage_lanes : List (Option Message) → List Lane → List Lane
stage_lanes rs m = lanes_by (length m) (stage_lane rs m)

-- the lanes below, by those of the stage: the first message of each is in the register
abbrev pub below_lanes : List Lane → List Lane
below_lanes ls = lanes_by (length ls) (λ k. with_messages (lane_of ls k) (rest_of (messages_of ls k)))

-- a where xs is empty, else b
abbrev pub if_empty : {A : Type 0} → List Message → A → A → A
if_empty [] a b = a
if_empty (x ∷ xs) a b = b

-- a take from below writes no byte, so neither does one that leaves below alone
pub if_empty_bytes : (b : Backing) (xs : List Message) (s t : b.State) → b.bytes_of t ≡ b.bytes_of s → b.bytes_of (if_empty xs s t) ≡ b.bytes_of s
if_empty_bytes b [] s t e = refl
if_empty_bytes b (x ∷ xs) s t e = e

-- what lies behind a stage is what lies behind the fabric below; the first message of a lane stays in the register
abbrev pub stage_backing : Backing → Backing
stage_backing b =
    record {
      State = b.State;
      bytes_of = b.bytes_of;
      put_state = λ s ls k x. if_empty (messages_of ls k) s (b.put_state s (below_lanes ls) k x);
      take_state = λ s ls k. if_empty (rest_of (messages_of ls k)) s (b.take_state s (below_lanes ls) k);
      take_keeps_bytes = λ s ls k. if_empty_bytes b (rest_of (messages_of ls k)) s (b.take_state s (below_lanes ls) k) (b.take_keeps_bytes s (below_lanes ls) k);
    }

-- the meaning of a stage, by its registers and the fabric below
abbrev pub stage_model : (b : Backing) → List (Option Message) → Model b → Model (stage_backing b)
stage_model b rs m = record { lanes = stage_lanes rs m.lanes; state = m.state }

-- the first message of each of the first n lanes is taken; a lane that does not exist has none
unfoldable pub firsts_taken : (b : Backing) → Model b → ℕ → Model b
firsts_taken b m zero = m
firsts_taken b m (suc k) = after_take b (take_answer (firsts_taken b m k).lanes k) (firsts_taken b m k) k

-- a stage just made over a fabric: the same lanes, each first message now in its register
abbrev pub made_stage : (b : Backing) → Model b → Model (stage_backing b)
made_stage b m = record { lanes = m.lanes; state = (firsts_taken b m lane_limit).state }

-- a register is empty only when its lane is, and counts against the capacity
pub record StageLawful (rs : List (Option Message)) (m : List Lane) : Type 0 where
  pub registers_length : length rs ≡ lane_limit
  pub register_first : (k : ℕ) → k < length m → register rs k ≡ None → messages_of m k ≡ []
  pub fits : (k : ℕ) → k < length m → length (stage_lane rs m k).messages ≤ capacity_of m k
