-- The rule of making a board over a fabric: its size has to be one of a board and fit the lanes, and nothing may wait.
use Rattle.std.specs.Prelude.{ℕ, zero, suc, ◌*◌, Bool, false, not, ◌||◌, List, [], ◌∷◌, length, Result, ◌==◌, nat_lt}
use Rattle.fabric.specs.Lanes.{Lane, messages_of}
use Rattle.rules.specs.declared.refusal.Refusal.{Refusal}
use Rattle.rules.specs.declared.refusal.Refusal.TheVariants.{WrongSize, MessageWaits}
use Rattle.rules.specs.declared.state.Size.{Size}
use Rattle.rules.specs.declared.state.State.{State}
use Rattle.rules.specs.Refusals.{Check, refuse_if, passing}
use Rattle.rules.specs.Sizes.{is_size}
use Rattle.rules.specs.State.{fresh_state}

-- does a message wait on one of the first k lanes
abbrev pub any_waits : List Lane → ℕ → Bool
any_waits lanes zero = false
any_waits lanes (suc k) = nat_lt 0 (length (messages_of lanes k)) || any_waits lanes k

abbrev pub make_checks : List Lane → ℕ → ℕ → List Check
make_checks lanes n m =
    refuse_if (not (is_size n m)) WrongSize ∷ refuse_if (not (length lanes == 2 * n)) WrongSize ∷ refuse_if (any_waits lanes (2 * n)) MessageWaits ∷ []

-- a board of n shims and m lines
abbrev pub make_rule : List Lane → ℕ → ℕ → Result (Size × State) Refusal
make_rule lanes n m = passing (make_checks lanes n m) (record { shims = n; lines = m }, fresh_state)
