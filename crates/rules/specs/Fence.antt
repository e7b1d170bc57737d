-- The rule of a fence: a request goes up, and the shim waits.
use Rattle.std.specs.Prelude.{ℕ, List, [], ◌∷◌, Some, Ok}
use Rattle.fabric.specs.Backing.{Backing, Model, put_on}
use Rattle.fabric.specs.Lanes.{Lane}
use Rattle.rules.specs.declared.answer.Answer.TheVariants.{Waits}
use Rattle.rules.specs.declared.state.Size.{Size}
use Rattle.rules.specs.declared.state.State.{State}
use Rattle.rules.specs.declared.state.Wait.TheVariants as wait
use Rattle.rules.specs.declared.strength.Access.TheVariants as access
use Rattle.rules.specs.Checks.{After, after, unless_refused, wrong_lanes, no_shim, wrong_strength, shim_waits, lane_full}
use Rattle.rules.specs.Refusals.{Check}
use Rattle.rules.specs.Requests.{fence_message}
use Rattle.rules.specs.State.{up_lane, with_wait}

abbrev pub fence_checks : Size → State → List Lane → ℕ → ℕ → List Check
fence_checks z b lanes s g = wrong_lanes z lanes ∷ no_shim z s ∷ wrong_strength access.Fence g ∷ shim_waits b s ∷ lane_full lanes (up_lane s) ∷ []

-- a fence by shim s with strength g
abbrev pub fence_rule : (ω : Backing) → Size → State → Model ω → ℕ → ℕ → After ω
fence_rule ω z b φ s g =
    unless_refused b φ (fence_checks z b φ.lanes s g)
    (after (Ok Waits) (with_wait b s (Some wait.Fence)) (put_on ω φ (up_lane s) (fence_message s)))
