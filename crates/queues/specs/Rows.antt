-- Lanes that lie in a row of slots.
use Rattle.std.specs.Prelude.{◌≡◌, ℕ, ◌+◌, ◌-◌, ◌*◌, ◌%◌, ◌<◌, ◌≤◌, List, map, length, replicate, slice_index_or, slice_set}
use Rattle.fabric.specs.declared.message.Message.{Message}
use Rattle.fabric.specs.Lanes.{Lane, lane_limit, capacity_limit}
use Rattle.fabric.specs.Backing.{Backing, Model}
use Rattle.fabric.specs.Queue.{queue, lanes_by}
use Rattle.queues.specs.declared.rows.Span.{Span}
use Rattle.queues.specs.declared.rows.Rows.{Rows}

-- what stands for the span of a lane that does not exist
abbrev pub no_span : Span
no_span = record { first = 0; waiting = 0 }

-- the span of lane k
abbrev pub span_of : Rows → ℕ → Span
span_of r k = slice_index_or r.spans k no_span

-- the rows, where lane k has another span
abbrev pub with_span : Rows → ℕ → Span → Rows
with_span r k s = record r { spans = slice_set r.spans k s }

-- the span of lane k after a put on it
abbrev pub put_span : Rows → ℕ → Span
put_span r k = record { first = (span_of r k).first; waiting = (span_of r k).waiting + 1 }

-- the span of lane k after a take from it: the first slot in use moves on
abbrev pub take_span : Rows → ℕ → Span
take_span r k = record { first = ((span_of r k).first + 1) % r.capacity; waiting = (span_of r k).waiting - 1 }

-- the slot of lane k that comes m slots after its first one
abbrev pub place : Rows → ℕ → ℕ → ℕ
place r k m = r.capacity * k + m % r.capacity

-- rows just made: every lane begins at slot 0, and nothing waits
abbrev pub new_rows : ℕ → ℕ → Rows
new_rows n capacity = record { lanes = n; capacity = capacity; spans = replicate lane_limit no_span }

-- for each lane, the first slot in use
abbrev pub firsts : Rows → List ℕ
firsts r = map (λ s. s.first) r.spans

-- lane k: the messages that wait, from its first slot in use on
abbrev pub row_lane : Rows → (ℕ → Message) → ℕ → Lane
row_lane r held k = record { capacity = r.capacity; messages = queue (λ j. held (r.capacity * k + j)) r.capacity (span_of r k).first (span_of r k).waiting }

-- the lanes, where `held` says what a slot holds
abbrev pub row_lanes : Rows → (ℕ → Message) → List Lane
row_lanes r held = lanes_by r.lanes (row_lane r held)

-- the meaning of lanes in slots, with the state of what lies behind these
abbrev pub rows_model : (b : Backing) → Rows → (ℕ → Message) → (List ℕ → b.State) → Model b
rows_model b r held state = record { lanes = row_lanes r held; state = state (firsts r) }

-- lane k exists, and holds fewer messages than its capacity
pub record HasSpace (r : Rows) (k : ℕ) : Type 0 where
  pub in_range : k < r.lanes
  pub space : (span_of r k).waiting < r.capacity

-- lane k exists, and holds a message
pub record HasMessage (r : Rows) (k : ℕ) : Type 0 where
  pub in_range : k < r.lanes
  pub some : 0 < (span_of r k).waiting

-- lane k exists, and can have the span s
pub record SpanFits (r : Rows) (k : ℕ) (s : Span) : Type 0 where
  pub in_range : k < r.lanes
  pub first_most : s.first ≤ r.capacity
  pub waiting_most : s.waiting ≤ r.capacity

-- so many lanes of such a capacity lie in `room` slots
pub record Fit (lanes capacity room : ℕ) : Type 0 where
  pub lane_bound : lanes ≤ lane_limit
  pub capacity_least : 0 < lanes → 1 ≤ capacity
  pub capacity_most : capacity ≤ capacity_limit
  pub all_in : capacity * lanes ≤ room

-- what making gives and every call keeps
pub record RowsLawful (r : Rows) (room : ℕ) : Type 0 where
  pub fit : Fit r.lanes r.capacity room
  pub spans_length : length r.spans ≡ lane_limit
  pub first_most : (k : ℕ) → (span_of r k).first ≤ r.capacity
  pub waiting_most : (k : ℕ) → (span_of r k).waiting ≤ r.capacity
