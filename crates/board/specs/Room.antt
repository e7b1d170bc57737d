-- Room for what is sent down.
use Rattle.std.specs.Prelude.{◌≡◌, ℕ, ◌<◌, true, false, List, is_some, Option}
use Rattle.fabric.specs.Lanes.{Lane, is_full}
use Rattle.fabric.specs.declared.message.Message.{Message}
use Rattle.rules.specs.State.{down_lane}

-- no lane is full on which one of the first n shims is sent something
abbrev pub HasRoom : (ℕ → Option Message) → List Lane → ℕ → Type 0
HasRoom sent lanes n = (j : ℕ) → j < n → is_some (sent j) ≡ true → is_full lanes (down_lane j) ≡ false
