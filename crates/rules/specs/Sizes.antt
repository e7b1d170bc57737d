-- The sizes that a board can have.
use Rattle.std.specs.Prelude.{ℕ, Bool, ◌&&◌, nat_le}
use Rattle.fabric.specs.Lanes.{shim_limit}

abbrev pub line_limit : ℕ
line_limit = 64

-- a board has 1 to 8 shims and 1 to 64 lines
abbrev pub is_size : ℕ → ℕ → Bool
is_size shims lines = (nat_le 1 shims && nat_le shims shim_limit) && (nat_le 1 lines && nat_le lines line_limit)
