-- What a byte buffer means as a fabric.
use Rattle.std.specs.Prelude.{ℕ, ◌*◌, cond, List, [], length, replicate}
use Rattle.fabric.specs.Lanes.{Lane, lane_limit, empty_lanes}
use Rattle.fabric.specs.Backing.{Model}
use Rattle.queues.specs.Rows.{rows_model}
pub use Rattle.frames.specs.Buffer.{frame_at, overwritten, message_in, frames_room, Buffer, put_buffer, take_buffer, buffer_backing}
use Rattle.frames.specs.declared.frames.Frames.{Frames}
use Rattle.frames.specs.Check.{serves, capacity_for}

-- the lanes just made in a buffer of `len` bytes: none where it cannot serve
abbrev pub lanes_over : ℕ → ℕ → List Lane
lanes_over len shims = cond (serves len shims) (empty_lanes (2 * shims) (capacity_for len shims)) []

-- a fabric just made over a buffer: the bytes as they were
abbrev pub made_over : List ℕ → ℕ → Model buffer_backing
made_over bytes shims = record { lanes = lanes_over (length bytes) shims; state = record { bytes = bytes; first = replicate lane_limit 0 } }

-- the meaning of a fabric in a buffer
abbrev pub frames_model : Frames → Model buffer_backing
frames_model f = rows_model buffer_backing f.rows (message_in f.bytes.now) (λ first. record { bytes = f.bytes.now; first = first })
