-- What lies behind lanes whose messages are frames in a buffer.
use Rattle.std.specs.Prelude.{ℕ, ◌+◌, ◌*◌, ◌/◌, List, ◌++◌, length, take, drop, refl}
use Rattle.fabric.specs.declared.message.Message.{Message}
use Rattle.fabric.specs.Lanes.{Lane}
use Rattle.fabric.specs.Backing.{Backing}
use Rattle.fabric.specs.Frame.{frame_bytes, frame_of, message_of}
use Rattle.queues.specs.Slots.{put_slot, take_first}

-- the bytes of the frame that begins at byte p
abbrev pub frame_at : List ℕ → ℕ → List ℕ
frame_at bytes p = take frame_bytes (drop p bytes)

-- the bytes, with a frame written from byte p on
abbrev pub overwritten : List ℕ → ℕ → List ℕ → List ℕ
overwritten bytes p frame = take p bytes ++ (frame ++ drop (p + frame_bytes) bytes)

-- the message in slot i of all
abbrev pub message_in : List ℕ → ℕ → Message
message_in bytes i = message_of (frame_at bytes (frame_bytes * i))

-- how many slots there are in bytes
abbrev pub frames_room : List ℕ → ℕ
frames_room bytes = length bytes / frame_bytes

-- a buffer: its bytes, and for each lane the first slot in use
pub record Buffer : Type 0 where
  pub bytes : List ℕ
  pub first : List ℕ

-- a buffer once x is put on lane k: the slot after those that wait holds its frame
abbrev pub put_buffer : Buffer → List Lane → ℕ → Message → Buffer
put_buffer b lanes k x = record { bytes = overwritten b.bytes (frame_bytes * put_slot lanes b.first k) (frame_of x); first = b.first }

-- a buffer once the first message of lane k is taken: no byte is written
abbrev pub take_buffer : Buffer → List Lane → ℕ → Buffer
take_buffer b lanes k = record { bytes = b.bytes; first = take_first lanes b.first k }

-- behind the lanes lies the buffer
abbrev pub buffer_backing : Backing
buffer_backing = record { State = Buffer; bytes_of = λ b. b.bytes; put_state = put_buffer; take_state = take_buffer; take_keeps_bytes = λ _ _ _. refl }
