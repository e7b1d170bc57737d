-- A store is a step of the machine: the shim changes its copy, and sends the store up.
use Rattle.std.proofs.Common.{◌≡◌, ℕ, ◌+◌, ◌/◌, ◌%◌, ◌<◌, ◌≤◌, Bool, true, false, cond, not, eqb, set, is_some, Some, None, Ok, Option, sym, refl, subst, ⊎_elim, add-one, arith, length-set}
use mathlib.Core.Bool.{false≢true}
use Rattle.std.proofs.lemmas.Bool.{eq-eqb, ne_eqb, leb-false, cases_lt}
use Rattle.fabric.specs.Backing.{Backing, Model, put_on}
use Rattle.fabric.specs.declared.message.Message.{Message}
use Rattle.rules.specs.Checks.{after}
use Rattle.rules.specs.Requests.{store_message}
use Rattle.rules.specs.State.{up_lane, is_held, shim_at, wait_at, line_at, with_shim, with_wait, with_store}
use Rattle.rules.specs.Store.{store_checks, line_stored, stored, store_accepted, store_rule}
use Rattle.rules.specs.Strengths.{fitting, mark_of, mark_strength, asks_sync}
use Rattle.rules.specs.declared.state.Held.{Held}
use Rattle.rules.specs.declared.state.Shim.{Shim}
use Rattle.rules.specs.declared.state.Size.{Size}
use Rattle.rules.specs.declared.state.State.{State}
use Rattle.rules.specs.declared.state.Wait as rules
use Rattle.rules.specs.declared.state.Wait.TheVariants as wait
use Rattle.rules.specs.declared.strength.Access.TheVariants as access
use Rattle.order.specs.Common.{Store, Done, Waits}
use Rattle.order.proofs.Machine.{Request, Write, Writes, unheld, line_after, wait_after, stores}
use Rattle.run.proofs.Meaning.{wait_of, line_held, line_of, request_of}
use Rattle.run.proofs.Tables.{Fits, shim_twice, fits_shim, fits_store}
use Rattle.run.proofs.Sending.{Sender, sender, line_changes, sends}
use Rattle.rules.proofs.Passed.{Passed}
use Rattle.run.proofs.Steps.{Follows, unless}

-- the strengths that a store takes are small numbers
small_strength : (g : ℕ) → not (is_some (fitting access.Store g)) ≡ false → g ≤ 3
unfolding fitting
small_strength g h =
    ⊎_elim (λ (l : 3 < g). absurd (false≢true (sym (rw (ne_eqb g 0 (λ e. omega arith), ne_eqb g 1 (λ e. omega arith), ne_eqb g 2 (λ e. omega arith), ne_eqb g 3 (λ e. omega arith)) at h))))
    (λ (l : g ≤ 3). l) (cases_lt 3 g)

-- a mark is read as it was made
mark_reads : (g : ℕ) (k : Bool) → g ≤ 3 → (mark_strength (mark_of g k) ≡ g) × (asks_sync (mark_of g k) ≡ k)
mark_reads g true h = (omega arith, eq-eqb ((g + 16) / 16 % 2) 1 (omega arith))
mark_reads g false h = (omega arith, ne_eqb ((g + 0) / 16 % 2) 1 (λ e. omega arith))

-- the shim's line changes as the machine has it
stored_line : (l : Option Held) (v : ℕ) → line_of (line_stored l v) ≡ line_after (Writes (unheld (line_of l)) v) (line_of l)
stored_line None v = refl
stored_line (Some h) v = go h.settled
  where
    go : (u : Bool) → line_held u v (h.stamp + 1) ≡ line_after (Writes (unheld (line_held u h.copy h.stamp)) v) (line_held u h.copy h.stamp)
    go true = rw add-one
    go false = rw add-one

-- the store asks to be synchronised where the machine's does
unheld_is : (l : Option Held) → not (is_held l) ≡ unheld (line_of l)
unheld_is None = refl
unheld_is (Some h) = go h.settled
  where
    go : (u : Bool) → false ≡ unheld (line_held u h.copy h.stamp)
    go true = refl
    go false = refl

module _ {ω : Backing} (z : Size) (b : State) (φ : Model ω) (s : ℕ) (fits : Fits z b) (x g v : ℕ) where
  abbrev l₀ : Option Held
  l₀ = line_at b s x

  -- the shim after the store, if it waits for w
  abbrev new : Option rules.Wait → Shim
  new w = record (shim_at b s) { wait = w; lines = set (shim_at b s).lines x (line_stored l₀ v) }

  abbrev message : Message
  message = store_message s x g (is_held l₀) v

  abbrev request : Request
  request = Write x g (unheld (line_of l₀)) v

  abbrev φ' : Model ω
  φ' = put_on ω φ (up_lane s) message

  module _ (by : Sender z b φ.lanes s) (on_line : x < z.lines) (small : g ≤ 3) where
    reads : request_of message ≡ request
    reads = let k = mark_reads g (not (is_held l₀)) small in rw (k.0, k.1, unheld_is l₀)

    leaves : (w : Option rules.Wait) → wait_of w ≡ wait_after request → Follows z b φ (Store s x g v) (after (Ok (cond (eqb g 3) Waits Done)) (with_shim (with_store b) s (new w)) φ')
    leaves w waits =
        let change = line_changes z b s request fits by.low w x (line_stored l₀ v) on_line waits (rw (eq-eqb x x refl) (stored_line l₀ v)) (λ y ne. rw (ne_eqb y x ne)) in
        record {
          fits = fits_shim z (with_store b) (fits_store z b fits) s by.low (new w) (length-set (shim_at b s).lines x (line_stored l₀ v));
          step = stores s x g v by.low (sends z b φ.lanes s fits by message request reads (new w) change);
        }

    -- split on whether the store is SC
    split : (t : Bool) → eqb g 3 ≡ t → Follows z b φ (Store s x g v) (cond t (after (Ok Waits) (with_wait (stored b s x v) s (Some (wait.Store x))) φ') (after (Ok Done) (stored b s x v) φ'))
    split true q =
        subst (λ (c : State). Follows z b φ (Store s x g v) (after (Ok Waits) c φ'))
        (sym (shim_twice z (with_store b) (fits_store z b fits) s by.low (new (wait_at b s)) (λ y. record y { wait = Some (wait.Store x) })))
        (rw q at (leaves (Some (wait.Store x)) (rw q)))
    split false q = rw q at (leaves (wait_at b s) (rw q by.ready))

    store_leaves : Follows z b φ (Store s x g v) (store_accepted ω b φ s x g v)
    store_leaves = let plain : g % 16 ≡ g = omega arith in rw plain (split (eqb g 3) refl)

  pub store_follows : Follows z b φ (Store s x g v) (store_rule ω z b φ s x g v)
  store_follows = unless z b φ (Store s x g v) fits (store_checks z b φ.lanes s x g) (store_accepted ω b φ s x g v) accepted
    where
      accepted : Passed (store_checks z b φ.lanes s x g) → Follows z b φ (Store s x g v) (store_accepted ω b φ s x g v)
      accepted (lanes, (shim, (line, (strength, (waits, (limit, (full, end))))))) =
          store_leaves (sender z b φ.lanes s lanes shim waits) (leb-false z.lines x line) (small_strength g strength)
