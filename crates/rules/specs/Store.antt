-- The rule of a store: the shim's copy changes, and the store goes up. An SC store waits for its acknowledgement.
use Rattle.std.specs.Prelude.{ℕ, ◌+◌, cond, List, [], ◌∷◌, Some, None, Ok, Option}
use Rattle.fabric.specs.Backing.{Backing, Model, put_on}
use Rattle.fabric.specs.Lanes.{Lane}
use Rattle.rules.specs.declared.answer.Answer.TheVariants.{Done, Waits}
use Rattle.rules.specs.declared.state.Held.{Held}
use Rattle.rules.specs.declared.state.Size.{Size}
use Rattle.rules.specs.declared.state.State.{State}
use Rattle.rules.specs.declared.state.Wait.TheVariants as wait
use Rattle.rules.specs.declared.strength.Access.TheVariants as access
use Rattle.rules.specs.Checks.{After, after, unless_refused, wrong_lanes, no_shim, no_line, wrong_strength, shim_waits, at_limit, lane_full}
use Rattle.rules.specs.Refusals.{Check}
use Rattle.rules.specs.Requests.{store_message}
use Rattle.rules.specs.State.{up_lane, line_at, is_held, held_at, unsettled_at, with_wait, with_line, with_store}
use Rattle.rules.specs.Strengths.{is_sc}

abbrev pub store_checks : Size → State → List Lane → ℕ → ℕ → ℕ → List Check
store_checks z b lanes s x g =
    wrong_lanes z lanes ∷ no_shim z s ∷ no_line z x ∷ wrong_strength access.Store g ∷ shim_waits b s ∷ at_limit b s x ∷ lane_full lanes (up_lane s) ∷ []

-- a line that is not held becomes unsettled, with stamp 1; a held line's stamp rises by one
abbrev pub line_stored : Option Held → ℕ → Option Held
line_stored None v = unsettled_at v 1
line_stored (Some h) v = held_at h.settled v (h.stamp + 1)

-- the state after a store of v by shim s to line x
abbrev pub stored : State → ℕ → ℕ → ℕ → State
stored b s x v = with_line (with_store b) s x (line_stored (line_at b s x) v)

-- an accepted store
abbrev pub store_accepted : (ω : Backing) → State → Model ω → ℕ → ℕ → ℕ → ℕ → After ω
store_accepted ω b φ s x g v =
    let φ' = put_on ω φ (up_lane s) (store_message s x g (is_held (line_at b s x)) v) in
    cond (is_sc g) (after (Ok Waits) (with_wait (stored b s x v) s (Some (wait.Store x))) φ') (after (Ok Done) (stored b s x v) φ')

-- a store by shim s of v to line x with strength g
abbrev pub store_rule : (ω : Backing) → Size → State → Model ω → ℕ → ℕ → ℕ → ℕ → After ω
store_rule ω z b φ s x g v = unless_refused b φ (store_checks z b φ.lanes s x g) (store_accepted ω b φ s x g v)
