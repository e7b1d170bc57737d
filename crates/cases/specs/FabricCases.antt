-- Lanes and frames: what a fabric answers and leaves, and what ring, frames, stage and relay make of it.
use Rattle.std.specs.Prelude.{◌≡◌, ℕ, ◌<◌, List, [], ◌∷◌, ◌++◌, length, replicate, slice_index, Some, None, Ok, Err}
use Rattle.fabric.specs.Backing.{Model, no_backing, put_on, take_on, after_put, after_take}
use Rattle.fabric.specs.Frame.{frame_of, message_of}
use Rattle.fabric.specs.Lanes.{Lane, capacity_of, messages_of, Sound, empty_lanes, put_answer, take_answer}
use Rattle.fabric.specs.declared.fault.FabricFault.TheVariants.{NoLane, Full, Empty}
use Rattle.fabric.specs.declared.message.Message.{Message}
use Rattle.frames.specs.Check.{check_answer}
use Rattle.frames.specs.Frames.{buffer_backing, message_in, made_over}
use Rattle.queues.specs.Rows.{firsts, row_lanes, rows_model, new_rows}
use Rattle.queues.specs.Slots.{put_slot, take_first}
use Rattle.queues.specs.declared.rows.Rows.{Rows}
use Rattle.relay.specs.Carrying.{carry_answer, move_in_answer, move_in_bytes}
use Rattle.relay.specs.Moving.{move_answer, after_move}
use Rattle.ring.specs.Ring.{made_ring}
use Rattle.stage.specs.Stage.{stage_backing, stage_model, made_stage}
use Rattle.cases.specs.Scenes.{message, quiet, waiting, filled}

-- two messages, and their frames
abbrev pub a : Message
a = message 1 2 19 3 0x01020304 0x0A0B0C0D

abbrev pub b : Message
b = message 6 0 16 1 0 5

abbrev pub frame_a : List ℕ
frame_a = 0x01 ∷ 0x02 ∷ 0x13 ∷ 0x03 ∷ 0x01 ∷ 0x02 ∷ 0x03 ∷ 0x04 ∷ 0x0A ∷ 0x0B ∷ 0x0C ∷ 0x0D ∷ []

abbrev pub frame_b : List ℕ
frame_b = 0x06 ∷ 0x00 ∷ 0x10 ∷ 0x01 ∷ 0x00 ∷ 0x00 ∷ 0x00 ∷ 0x00 ∷ 0x00 ∷ 0x00 ∷ 0x00 ∷ 0x05 ∷ []

-- lanes of a ring for one shim: a waits on lane 0; a and then b
abbrev pub one_waits : Model no_backing
one_waits = waiting (quiet 1) 0 (a ∷ [])

abbrev pub two_wait : Model no_backing
two_wait = waiting (quiet 1) 0 (a ∷ b ∷ [])

pub record LaneCases : Type 0 where
  -- put: to the end of its lane, and no other changes
  pub put : put_answer one_waits.lanes 0 ≡ Ok tt
  pub put_last : put_answer (waiting (quiet 1) 0 (replicate 15 a)).lanes 0 ≡ Ok tt
  pub put_at_end : after_put no_backing (put_answer one_waits.lanes 0) one_waits 0 b ≡ two_wait
  pub put_no_lane : put_answer one_waits.lanes 2 ≡ Err (NoLane 2)
  pub put_full : put_answer (filled (quiet 1) 1).lanes 1 ≡ Err (Full 1)
  pub put_refused : after_put no_backing (put_answer (filled (quiet 1) 1).lanes 1) (filled (quiet 1) 1) 1 b ≡ filled (quiet 1) 1
  -- take and look: the first message; a take removes it alone
  pub take : take_answer two_wait.lanes 0 ≡ Ok a
  pub take_leaves : after_take no_backing (take_answer two_wait.lanes 0) two_wait 0 ≡ waiting (quiet 1) 0 (b ∷ [])
  pub take_no_lane : take_answer two_wait.lanes 2 ≡ Err (NoLane 2)
  pub take_empty : take_answer two_wait.lanes 1 ≡ Err (Empty 1)
  pub take_refused : after_take no_backing (take_answer two_wait.lanes 1) two_wait 1 ≡ two_wait
  -- the questions
  pub lane_count : length two_wait.lanes ≡ 2
  pub capacity : capacity_of two_wait.lanes 1 ≡ 16
  pub capacity_no_lane : capacity_of two_wait.lanes 2 ≡ 0
  pub waits : length (messages_of two_wait.lanes 0) ≡ 2
  pub waits_no_lane : length (messages_of two_wait.lanes 2) ≡ 0

-- two lanes of three slots each; of lane 1 the last slot is the first in use, and two messages wait. A slot holds its number as kind
abbrev pub round : Rows
round = record { lanes = 2; capacity = 3; spans = record { first = 0; waiting = 0 } ∷ record { first = 2; waiting = 2 } ∷ [] }

abbrev pub slots : ℕ → Message
slots i = message i 0 0 0 0 0

-- 48 bytes for one shim: two lanes of two slots. On lane 1 once a is put, then b; once a is taken; once a is put again
abbrev pub buffer : Model buffer_backing
buffer = made_over (replicate 48 0xFF) 1

abbrev pub both_put : Model buffer_backing
both_put = put_on buffer_backing (put_on buffer_backing buffer 1 a) 1 b

abbrev pub buffer_rows : Rows
buffer_rows = record { lanes = 2; capacity = 2; spans = record { first = 0; waiting = 0 } ∷ record { first = 0; waiting = 2 } ∷ [] }

abbrev pub one_taken : Model buffer_backing
one_taken = take_on buffer_backing both_put 1

-- a stage over a ring for one shim, with a in the register of lane 0 and b below; and one just made over the buffer
abbrev pub staged : List Lane
staged = (stage_model no_backing (Some a ∷ None ∷ []) (waiting (quiet 1) 0 (b ∷ []))).lanes

abbrev pub staged_bytes : Model (stage_backing buffer_backing)
staged_bytes = made_stage buffer_backing buffer

abbrev pub staged_put : Model (stage_backing buffer_backing)
staged_put = put_on (stage_backing buffer_backing) staged_bytes 1 a

pub record FabricCases : Type 0 where
  -- a frame, and back
  pub frame : frame_of a ≡ frame_a
  pub back : message_of frame_a ≡ a
  -- a ring: 16 a lane, two lanes a shim, and none for 0 or 9 shims
  pub ring : made_ring 2 ≡ quiet 2
  pub ring_8 : made_ring 8 ≡ quiet 8
  pub ring_0 : (made_ring 0).lanes ≡ []
  pub ring_9 : (made_ring 9).lanes ≡ []
  -- slots: after the last comes the first
  pub goes_round : messages_of (rows_model no_backing round slots (λ _. tt)).lanes 1 ≡ slots 5 ∷ slots 3 ∷ []
  pub next_slot : put_slot (row_lanes round slots) (firsts round) 1 ≡ 4
  pub next_first : take_first (row_lanes round slots) (firsts round) 1 ≡ 0 ∷ 0 ∷ []
  pub new_rows : row_lanes (new_rows 2 3) slots ≡ empty_lanes 2 3
  -- the check of a buffer: 24 bytes a shim for each message, at most 64
  pub serves : check_answer 24 1 ≡ Ok 1
  pub serves_most : check_answer 100000 1 ≡ Ok 64
  pub serves_8 : check_answer 4096 8 ≡ Ok 21
  pub too_few_bytes : check_answer 23 1 ≡ Err (record {})
  pub no_shims : check_answer 4096 0 ≡ Err (record {})
  pub nine_shims : check_answer 4096 9 ≡ Err (record {})
  -- making writes no byte, a put its slot alone, a take none; a slot is used again
  pub made : buffer.state.bytes ≡ replicate 48 0xFF
  pub made_lanes : length buffer.lanes ≡ 2
  pub no_lanes : (made_over (replicate 23 0xFF) 1).lanes ≡ []
  pub put_bytes : both_put.state.bytes ≡ replicate 24 0xFF ++ (frame_a ++ frame_b)
  pub take_bytes : one_taken.state.bytes ≡ replicate 24 0xFF ++ (frame_a ++ frame_b)
  pub read_back : messages_of (rows_model buffer_backing buffer_rows (message_in both_put.state.bytes) (λ first. record { bytes = both_put.state.bytes; first = first })).lanes 1 ≡ a ∷ b ∷ []
  pub used_again : (put_on buffer_backing one_taken 1 b).state.bytes ≡ replicate 24 0xFF ++ (frame_b ++ frame_b)
  -- a stage: the register, then the list below; it counts against the capacity, and a message in it is not written below
  pub stage : messages_of staged 0 ≡ a ∷ b ∷ []
  pub stage_capacity : capacity_of staged 0 ≡ 16
  pub stage_made : staged_bytes.lanes ≡ buffer.lanes
  pub stage_made_takes : slice_index (made_stage buffer_backing both_put).state.first 1 ≡ 1
  pub stage_put : staged_put.state.bytes ≡ replicate 48 0xFF
  pub stage_put_below : (put_on (stage_backing buffer_backing) staged_put 1 b).state.bytes ≡ replicate 24 0xFF ++ (frame_b ++ replicate 12 0xFF)
  -- moving: the first message of a lane to the end of another; refused as a look is, and then as a put is
  pub move : move_answer two_wait.lanes 0 1 ≡ Ok tt
  pub moved : after_move no_backing (move_answer two_wait.lanes 0 1) two_wait 0 1 ≡ waiting (waiting (quiet 1) 0 (b ∷ [])) 1 (a ∷ [])
  pub move_empty : move_answer two_wait.lanes 1 2 ≡ Err (Empty 1)
  pub move_no_lane : move_answer two_wait.lanes 0 2 ≡ Err (NoLane 2)
  -- carrying and moving in bytes
  pub carry : carry_answer 4096 2 0 3 a ≡ Ok a
  pub carry_no_lanes : carry_answer 47 2 0 3 a ≡ Err (NoLane 0)
  pub move_in : move_in_answer 24 1 0 1 a ≡ Ok tt
  pub move_bytes : move_in_bytes (replicate 24 0xFF) 1 0 1 a ≡ frame_a ++ frame_a

-- what holds of every lawful fabric: an empty lane that is there takes a message, and so no lane has capacity 0; it may have no lanes at all
pub record LawfulCases : Type 0 where
  pub takes : (lanes : List Lane) (k : ℕ) → Sound lanes → k < length lanes → messages_of lanes k ≡ [] → put_answer lanes k ≡ Ok tt
  pub no_room : Sound (empty_lanes 2 0) → ⊥
  pub no_lanes : Sound []
