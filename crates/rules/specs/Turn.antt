-- The rule of a turn: a down at a shim that waits.
use Rattle.std.specs.Prelude.{ℕ, List, [], ◌∷◌}
use Rattle.fabric.specs.Backing.{Backing, Model}
use Rattle.rules.specs.declared.state.Size.{Size}
use Rattle.rules.specs.declared.state.State.{State}
use Rattle.rules.specs.Checks.{After, unless_refused, no_shim, shim_ready}
use Rattle.rules.specs.Down.{down_rule}
use Rattle.rules.specs.Refusals.{Check}

-- 3 and 14 come before what a down is refused by
abbrev pub turn_checks : Size → State → ℕ → List Check
turn_checks z b s = no_shim z s ∷ shim_ready b s ∷ []

-- a turn of shim s
abbrev pub turn_rule : (ω : Backing) → Size → State → Model ω → ℕ → After ω
turn_rule ω z b φ s = unless_refused b φ (turn_checks z b s) (down_rule ω z b φ s)
