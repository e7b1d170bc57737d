-- The rule of an eviction: the line is not held any more, and the hub is told.
use Rattle.std.specs.Prelude.{ℕ, List, [], ◌∷◌, None, Ok}
use Rattle.fabric.specs.Backing.{Backing, Model, put_on}
use Rattle.fabric.specs.Lanes.{Lane}
use Rattle.rules.specs.declared.answer.Answer.TheVariants.{Done}
use Rattle.rules.specs.declared.state.Size.{Size}
use Rattle.rules.specs.declared.state.State.{State}
use Rattle.rules.specs.Checks.{After, after, unless_refused, wrong_lanes, no_shim, no_line, shim_waits, not_held, line_unsettled, lane_full}
use Rattle.rules.specs.Refusals.{Check}
use Rattle.rules.specs.Requests.{drop_message}
use Rattle.rules.specs.State.{up_lane, with_line}

abbrev pub evict_checks : Size → State → List Lane → ℕ → ℕ → List Check
evict_checks z b lanes s x = wrong_lanes z lanes ∷ no_shim z s ∷ no_line z x ∷ shim_waits b s ∷ not_held b s x ∷ line_unsettled b s x ∷ lane_full lanes (up_lane s) ∷ []

-- an eviction of line x by shim s
abbrev pub evict_rule : (ω : Backing) → Size → State → Model ω → ℕ → ℕ → After ω
evict_rule ω z b φ s x =
    unless_refused b φ (evict_checks z b φ.lanes s x)
    (after (Ok Done) (with_line b s x None) (put_on ω φ (up_lane s) (drop_message s x)))
