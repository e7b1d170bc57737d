-- The rule of a load: a held line answers its copy; otherwise a request goes up, and the shim waits.
use Rattle.std.specs.Prelude.{ℕ, cond, List, [], ◌∷◌, Some, Ok}
use Rattle.fabric.specs.Backing.{Backing, Model, put_on}
use Rattle.fabric.specs.Lanes.{Lane}
use Rattle.rules.specs.declared.answer.Answer.TheVariants.{Waits, Value}
use Rattle.rules.specs.declared.state.Size.{Size}
use Rattle.rules.specs.declared.state.State.{State}
use Rattle.rules.specs.declared.state.Wait.TheVariants as wait
use Rattle.rules.specs.declared.strength.Access.TheVariants as access
use Rattle.rules.specs.Checks.{After, after, unless_refused, wrong_lanes, no_shim, no_line, wrong_strength, shim_waits, lane_full}
use Rattle.rules.specs.Refusals.{Check}
use Rattle.rules.specs.Requests.{load_message}
use Rattle.rules.specs.State.{up_lane, line_at, is_held, copy_of, with_wait}

abbrev pub load_checks : Size → State → List Lane → ℕ → ℕ → ℕ → List Check
load_checks z b lanes s x g = wrong_lanes z lanes ∷ no_shim z s ∷ no_line z x ∷ wrong_strength access.Load g ∷ shim_waits b s ∷ []

-- a load of a line that the shim does not hold
abbrev pub load_miss : (ω : Backing) → State → Model ω → ℕ → ℕ → ℕ → After ω
load_miss ω b φ s x g =
    unless_refused b φ (lane_full φ.lanes (up_lane s) ∷ [])
    (after (Ok Waits) (with_wait b s (Some (wait.Load x))) (put_on ω φ (up_lane s) (load_message s x g)))

-- a load by shim s of line x with strength g
abbrev pub load_rule : (ω : Backing) → Size → State → Model ω → ℕ → ℕ → ℕ → After ω
load_rule ω z b φ s x g =
    unless_refused b φ (load_checks z b φ.lanes s x g)
    (cond (is_held (line_at b s x)) (after (Ok (Value (copy_of (line_at b s x)))) b φ) (load_miss ω b φ s x g))
