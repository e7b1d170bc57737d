-- Whether a buffer can serve, and how many messages its lanes then hold.
use Rattle.std.specs.Prelude.{ℕ, ◌*◌, ◌/◌, min, Bool, cond, ◌&&◌, Ok, Err, Result, nat_le}
use Rattle.fabric.specs.Frame.{frame_bytes}
use Rattle.fabric.specs.Lanes.{shim_limit, capacity_limit}
use Rattle.queues.specs.declared.rows.Rows.{Rows}
use Rattle.queues.specs.Rows.{new_rows}
use Rattle.frames.specs.declared.check.FramesFault.{FramesFault}

-- the number of the refusal
abbrev pub fault_number : FramesFault → ℕ
fault_number e = 24

-- how many messages each of two lanes a shim can hold in `len` bytes
abbrev pub capacity_for : ℕ → ℕ → ℕ
capacity_for len shims = min (len / (2 * frame_bytes * shims)) capacity_limit

-- can `len` bytes serve so many shims
abbrev pub serves : ℕ → ℕ → Bool
serves len shims = (nat_le 1 shims && nat_le shims shim_limit) && nat_le 1 (capacity_for len shims)

-- what the check answers
abbrev pub check_answer : ℕ → ℕ → Result ℕ FramesFault
check_answer len shims = cond (serves len shims) (Ok (capacity_for len shims)) (Err (record {}))

-- the lanes made in `len` bytes: none where these cannot serve
abbrev pub rows_for : ℕ → ℕ → Rows
rows_for len shims = cond (serves len shims) (new_rows (2 * shims) (capacity_for len shims)) (new_rows 0 0)
