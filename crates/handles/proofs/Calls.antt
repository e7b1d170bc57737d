-- A call of a ready shim says that it waits exactly where the shim waits afterwards, and is not refused because it waited.
use Rattle.std.proofs.Common.{◌≡◌, ℕ, ◌<◌, ◌≤◌, Bool, true, false, cond, not, leb, ◌≢◌, [], ◌∷◌, length, Ok, Err, sym, refl, ap, ◌∙◌, arith, get_or-set_same, length-set}
use mathlib.Core.Bool.{false≢true}
use Rattle.std.proofs.lemmas.Bool.{leb-false}
use Rattle.fabric.specs.Backing.{Backing, Model}
use Rattle.rules.specs.Checks.{After, after, lane_full}
use Rattle.rules.specs.Evict.{evict_checks, evict_rule}
use Rattle.rules.specs.Fence.{fence_checks, fence_rule}
use Rattle.rules.specs.Load.{load_checks, load_miss, load_rule}
use Rattle.rules.specs.State.{up_lane, is_ready, wait_at, line_at, is_held, copy_of, with_shim, with_store}
use Rattle.rules.specs.Store.{store_checks, stored, store_accepted, store_rule}
use Rattle.rules.specs.Strengths.{is_sc}
use Rattle.rules.specs.declared.answer.Answer.TheVariants.{Value}
use Rattle.rules.specs.declared.refusal.Refusal.{Refusal}
use Rattle.rules.specs.declared.refusal.Refusal.TheVariants.{ShimWaits}
use Rattle.rules.specs.declared.state.Shim.{Shim}
use Rattle.rules.specs.declared.state.Size.{Size}
use Rattle.rules.specs.declared.state.State.{State}
use Rattle.rules.proofs.Passed.{Passed, unless}
use Rattle.handles.specs.Handles.{waits}

-- what a call of shim s leaves, where that shim was ready
pub record Taken {ω : Backing} (s : ℕ) (a : After ω) : Type 0 where
  pub ready : is_ready (wait_at a.state s) ≡ not (waits a.outcome)
  pub taken : a.outcome ≢ Err ShimWaits

-- .. by a call that never waits
abbrev pub Stays : {ω : Backing} → ℕ → After ω → Type 0
Stays s a = Taken s a × (waits a.outcome ≡ false)

-- what a replaced shim waits for
pub replaced : (b : State) {s : ℕ} (shim : Shim) → s < length b.shims → is_ready (wait_at (with_shim b s shim) s) ≡ is_ready shim.wait
replaced b {s = s} shim lt = ap (λ (y : Shim). is_ready y.wait) (get_or-set_same b.shims s shim _ lt)

module _ {ω : Backing} (z : Size) (b : State) (φ : Model ω) (s : ℕ) (long : z.shims ≤ length b.shims) (ready : is_ready (wait_at b s) ≡ true) where
  -- a refusal for another reason, and one for the wait, which does not come
  keep : {e : Refusal} → e ≢ ShimWaits → Taken s (after (Err e) b φ)
  keep other = record { ready = ready; taken = λ e. other cc }

  not_waited : {A : Type 0} → not (is_ready (wait_at b s)) ≡ true → A
  not_waited q = absurd (false≢true (ap not (sym ready) ∙ q))

  either : (t : Bool) {a a' : After ω} → Taken s a → Taken s a' → Taken s (cond t a a')
  either true k k' = k
  either false k k' = k'

  low : leb z.shims s ≡ false → s < length b.shims
  low shim = let k = leb-false z.shims s shim in omega arith

  pub load_taken : (x g : ℕ) → Taken s (load_rule ω z b φ s x g)
  load_taken x g = unless b φ (Taken s) (load_checks z b φ.lanes s x g) _ (λ q. keep (λ e. cc), (λ q. keep (λ e. cc), (λ q. keep (λ e. cc), (λ q. keep (λ e. cc), (not_waited, tt))))) accepted
    where
      accepted : Passed (load_checks z b φ.lanes s x g) → Taken s (cond (is_held (line_at b s x)) (after (Ok (Value (copy_of (line_at b s x)))) b φ) (load_miss ω b φ s x g))
      accepted (lanes, (shim, rest)) =
          either (is_held (line_at b s x)) record { ready = ready; taken = λ e. cc }
          (unless b φ (Taken s) (lane_full φ.lanes (up_lane s) ∷ []) _ (λ q. keep (λ e. cc), tt) (λ k. record { ready = replaced b _ (low shim); taken = λ e. cc }))

  pub store_taken : (x g v : ℕ) → Taken s (store_rule ω z b φ s x g v)
  store_taken x g v =
      unless b φ (Taken s) (store_checks z b φ.lanes s x g) _
      (λ q. keep (λ e. cc), (λ q. keep (λ e. cc), (λ q. keep (λ e. cc), (λ q. keep (λ e. cc), (not_waited, (λ q. keep (λ e. cc), (λ q. keep (λ e. cc), tt))))))) accepted
    where
      accepted : Passed (store_checks z b φ.lanes s x g) → Taken s (store_accepted ω b φ s x g v)
      accepted (lanes, (shim, rest)) =
          let lt = low shim in
          either (is_sc g) record { ready = replaced (stored b s x v) _ (rw length-set lt); taken = λ e. cc } record { ready = replaced (with_store b) _ lt ∙ ready; taken = λ e. cc }

  pub fence_taken : (g : ℕ) → Taken s (fence_rule ω z b φ s g)
  fence_taken g =
      unless b φ (Taken s) (fence_checks z b φ.lanes s g) _ (λ q. keep (λ e. cc), (λ q. keep (λ e. cc), (λ q. keep (λ e. cc), (not_waited, (λ q. keep (λ e. cc), tt)))))
      (λ (lanes, (shim, rest)). record { ready = replaced b _ (low shim); taken = λ e. cc })

  pub evict_taken : (x : ℕ) → Stays s (evict_rule ω z b φ s x)
  evict_taken x =
      unless b φ (Stays s) (evict_checks z b φ.lanes s x) _
      (λ q. stay (λ e. cc), (λ q. stay (λ e. cc), (λ q. stay (λ e. cc), (not_waited, (λ q. stay (λ e. cc), (λ q. stay (λ e. cc), (λ q. stay (λ e. cc), tt)))))))
      (λ k. (record { ready = replaced b _ (low k.1.0) ∙ ready; taken = λ e. cc }, refl))
    where
      stay : {e : Refusal} → e ≢ ShimWaits → Stays s (after (Err e) b φ)
      stay other = (keep other, refl)
