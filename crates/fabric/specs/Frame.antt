-- A message as the bytes of a frame, and the bytes of a frame as a message. Numbers have the high byte first.
use Rattle.std.specs.Prelude.{ℕ, ◌+◌, List, ◌∷◌, ◌++◌, take, drop, slice_index}
use Rattle.std.specs.Int.{w32, to_be_bytes, from_be_bytes}
use Rattle.fabric.specs.declared.message.Message.{Message}

-- kind, line, mark and sender take a byte each
abbrev pub header_bytes : ℕ
header_bytes = 4

-- the bytes of a message's value
abbrev pub word_bytes : ℕ
word_bytes = 4

-- the bytes of a message's stamp
abbrev pub stamp_bytes : ℕ
stamp_bytes = 4

-- the bytes of a frame
abbrev pub frame_bytes : ℕ
frame_bytes = header_bytes + word_bytes + stamp_bytes

-- the frame of a message
abbrev pub frame_of : Message → List ℕ
frame_of m = m.kind ∷ m.line ∷ m.mark ∷ m.sender ∷ (to_be_bytes w32 m.value ++ to_be_bytes w32 m.stamp)

-- the message of a frame
abbrev pub message_of : List ℕ → Message
message_of frame =
    record {
      kind = slice_index frame 0;
      line = slice_index frame 1;
      mark = slice_index frame 2;
      sender = slice_index frame 3;
      value = from_be_bytes w32 (take word_bytes (drop header_bytes frame));
      stamp = from_be_bytes w32 (take stamp_bytes (drop (header_bytes + word_bytes) frame));
    }
