-- What a call leaves is a step of the machine: how that is shown, whatever the call.
use Rattle.std.proofs.Common.{◌≡◌, ℕ, ◌*◌, false, not, eqb, ◌≢◌, List, length, get_or, None, refl, ap}
use Rattle.std.proofs.lemmas.Bool.{eqb-true, not-false}
use Rattle.fabric.specs.Backing.{Backing, Model}
use Rattle.fabric.specs.Lanes.{Lane}
use Rattle.rules.specs.Checks.{After, unless_refused}
use Rattle.rules.specs.Refusals.{Check}
use Rattle.rules.specs.State.{with_shim}
use Rattle.rules.specs.declared.state.Shim.{Shim}
use Rattle.rules.specs.declared.state.Size.{Size}
use Rattle.rules.specs.declared.state.State.{State}
use Rattle.rules.proofs.Passed as passed
use Rattle.rules.proofs.Passed.{Passed, any_refused}
use Rattle.order.specs.Common.{Call}
use Rattle.order.proofs.Machine.{Board, Same, SameShim, Step, refused}
use Rattle.run.proofs.Meaning.{wait_of, line_of, meaning}
use Rattle.run.proofs.Tables.{Fits, shim_there}

-- what a call c leaves is a step from where it began
pub record Follows {ω : Backing} (z : Size) (b : State) (φ : Model ω) (c : Call) (a : After ω) : Type 0 where
  pub fits : Fits z a.state
  pub step : Step z.shims (meaning b φ.lanes) (meaning a.state a.fabric.lanes) c a.outcome

pub same : (b : Board) → Same b b
same b =
    record {
      hub = record { word = λ x. refl; stamp = λ x. refl; shares = λ x s. refl };
      shim = λ s. record { wait = refl; line = λ x. refl };
      up = λ s. refl;
      down = λ s. refl;
    }

-- a refusal is a step, so only what is left by a call that passes its tests has to be looked at
pub unless : {ω : Backing} (z : Size) (b : State) (φ : Model ω) (c : Call) → Fits z b → (checks : List Check) (accepted : After ω)
    → (Passed checks → Follows z b φ c accepted) → Follows z b φ c (unless_refused b φ checks accepted)
unless z b φ c fits checks accepted h =
    passed.unless b φ (Follows z b φ c) checks accepted
    (any_refused b φ (Follows z b φ c) (λ e. record { fits = fits; step = refused c e (same (meaning b φ.lanes)) }) checks) h

-- WHAT THE TESTS SAY

pub lanes_fit : (z : Size) (lanes : List Lane) → not (eqb (length lanes) (2 * z.shims)) ≡ false → length lanes ≡ 2 * z.shims
lanes_fit z lanes h = eqb-true (length lanes) (2 * z.shims) (not-false (eqb (length lanes) (2 * z.shims)) h)

-- a change of one shim leaves the others
pub other_shim : (b : State) (s j : ℕ) (shim : Shim) (lanes lanes' : List Lane) → j ≢ s → SameShim (meaning b lanes) (meaning (with_shim b s shim) lanes') j
other_shim b s j shim lanes lanes' ne =
    let e = shim_there b s j shim ne in
    record { wait = ap (λ (y : Shim). wait_of y.wait) e; line = λ x. ap (λ (y : Shim). line_of (get_or y.lines x None)) e }
