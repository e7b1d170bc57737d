-- The written orders are orders.
use Rattle.std.proofs.Common.{◌≡◌, ℕ, Bool, true, false, ◌||◌, eqb, List, [], ◌∷◌, Option, None, Some, Ok, Err, sym, ap, ◌∙◌, refl, arith, inl, inr}
use Rattle.std.specs.Prelude.{Contains, not, slice_get}
use Rattle.std.proofs.lemmas.Bool.{eq-eqb, false≢true}
use Rattle.order.specs.Common.{Trace, Call, Answer, Outcome, Load, Store, Fence, Evict, Up, Down, Done, Waits, Value, shim_of, At, IsLoad, at_once, later, Stands, a_store, a_load, a_fence, MayPrecede, CommonOrder}
use Rattle.law_cases.specs.Examples.{plain_order, own_order, crossed_order}
use Rattle.law_cases.specs.Law.{HasOrder, busy}
use Rattle.law_cases.specs.Neighbours.{passes_sc, no_fences, StandsUnfenced, leaves_out}
use Rattle.law_cases.specs.Sheets.{plain, own, crossed, both_sc, both_fenced, lost}
use Rattle.law_cases.proofs.AsStated.{to_law}
use Rattle.law_cases.proofs.Decided.{StandsAt, may_stand, has, contained, Each, order_good, order_by, then}
use Rattle.law_cases.proofs.Places.{everywhere, at_each, no_earlier}

stands_at : (t : Trace) (i s : ℕ) → Stands t i s → StandsAt may_stand t i s
stands_at t i s (a_store x w (g, a, at)) = (Store s x g w, Ok a, at, refl, refl)
stands_at t i s (a_load x w (at_once g at)) = (Load s x g, Ok (Value w), at, refl, refl)
stands_at t i s (a_load x w (later g d at l down first)) = (Load s x g, Ok Waits, at, refl, refl)
stands_at t i s (a_fence (g, d, at, l, down)) = (Fence s g, Ok Waits, at, refl, refl)

-- whether what stands at a place may stand in an order
abbrev pub can_stand : Option (Call × Outcome) → Bool
can_stand None = false
can_stand (Some (c, r)) = may_stand c r

pub stands_not : (t : Trace) (i s : ℕ) → can_stand (slice_get t i) ≡ false → Stands t i s → ⊥
stands_not t i s h m =
    let (c, r, at, e, shim) = stands_at t i s m in
    let f : may_stand c r ≡ false = rw at at h in
    false≢true (sym f ∙ e)

-- whether all that may stand are in the list
abbrev all_in : (Call → Outcome → Bool) → Trace → List ℕ → Bool
all_in stand t o = everywhere (λ i c r. not (stand c r) || has o i) t

all_there : (stand : Call → Outcome → Bool) (t : Trace) (o : List ℕ) → all_in stand t o ≡ true → (i s : ℕ) → StandsAt stand t i s → Contains o i
all_there stand t o h i s (c, r, at, e, shim) = contained o i (then (stand c r) _ (at_each (λ i c r. not (stand c r) || has o i) t h i c r at) e)

-- a load may precede the stores that pass a test of their strength
module _ (test : ℕ → Bool) where
  abbrev passes : Call → Call → Outcome → Bool
  passes (Load s x g) (Store q y f w) (Ok a) = test f
  passes d c r = false

  abbrev LoadAndStore : Trace → ℕ → ℕ → ℕ → Type 0
  LoadAndStore t s j i = IsLoad t j s × (x : ℕ) × (f : ℕ) × (w : ℕ) × (a : Answer) × At t i (Store s x f w) (Ok a) × test f ≡ true

  load_and_store : (t : Trace) (s j i : ℕ) (d c : Call) (q r : Outcome) → At t j d q → At t i c r → shim_of d ≡ s → shim_of c ≡ s → passes d c r ≡ true → LoadAndStore t s j i
  load_and_store t s j i (Load a x g) (Store b y f w) q (Ok r) load store d_own c_own h = ((x, g, q, rw d_own at load), y, f, w, r, rw c_own at store, h)
  load_and_store t s j i (Load a x g) (Store b y f w) q (Err r) load store d_own c_own h = absurd (false≢true h)
  load_and_store t s j i (Load a x g) (Load b y f) q r load store d_own c_own h = absurd (false≢true h)
  load_and_store t s j i (Load a x g) (Fence b f) q r load store d_own c_own h = absurd (false≢true h)
  load_and_store t s j i (Load a x g) (Evict b y) q r load store d_own c_own h = absurd (false≢true h)
  load_and_store t s j i (Load a x g) (Up b) q r load store d_own c_own h = absurd (false≢true h)
  load_and_store t s j i (Load a x g) (Down b) q r load store d_own c_own h = absurd (false≢true h)
  load_and_store t s j i (Store a x g w) c q r load store d_own c_own h = absurd (false≢true h)
  load_and_store t s j i (Fence a g) c q r load store d_own c_own h = absurd (false≢true h)
  load_and_store t s j i (Evict a x) c q r load store d_own c_own h = absurd (false≢true h)
  load_and_store t s j i (Up a) c q r load store d_own c_own h = absurd (false≢true h)
  load_and_store t s j i (Down a) c q r load store d_own c_own h = absurd (false≢true h)

abbrev not_sc : ℕ → Bool
not_sc f = not (eqb f 3)

weak_passes : (t : Trace) (s j i : ℕ) (d c : Call) (q r : Outcome) → At t j d q → At t i c r → shim_of d ≡ s → shim_of c ≡ s → passes not_sc d c r ≡ true → MayPrecede t s j i
weak_passes t s j i d c q r load store d_own c_own h =
    let (l, x, f, w, a, at, k) = load_and_store not_sc t s j i d c q r load store d_own c_own h in
    (l, (x, f, w, a, at, λ e. false≢true (ap not (sym (eq-eqb f 3 e)) ∙ k)))

order : (t : Trace) (o : List ℕ) → order_good t o may_stand (passes not_sc) ≡ true → all_in may_stand t o ≡ true → Each (λ i. (s : ℕ) × Stands t i s) o → CommonOrder t busy o
order t o h k only = to_law (order_by t o may_stand (passes not_sc) Stands Stands MayPrecede (stands_at t) (weak_passes t) h only (λ i s m. all_there may_stand t o k i s (stands_at t i s m)))

pub plain_ordered : CommonOrder plain busy plain_order
plain_ordered =
    order plain plain_order refl refl (
      (0, a_load 1 0 (later 0 2 refl (omega arith) refl (no_earlier plain 0 2 0 refl))),
      (
        (0, a_load 1 0 (at_once 0 refl)),
        (
          (1, a_load 0 0 (later 0 5 refl (omega arith) refl (no_earlier plain 3 5 1 refl))),
          (
            (1, a_load 0 0 (at_once 0 refl)),
            (
              (0, a_store 0 1 (0, Done, refl)),
              (
                (1, a_store 1 1 (0, Done, refl)),
                tt,
              ),
            ),
          ),
        ),
      ),
    )

pub own_ordered : CommonOrder own busy own_order
own_ordered =
    order own own_order refl refl (
      (0, a_load 1 0 (later 0 2 refl (omega arith) refl (no_earlier own 0 2 0 refl))),
      (
        (0, a_load 0 1 (at_once 0 refl)),
        (
          (0, a_load 1 0 (at_once 0 refl)),
          (
            (1, a_load 0 0 (later 0 5 refl (omega arith) refl (no_earlier own 3 5 1 refl))),
            (
              (1, a_load 1 1 (at_once 0 refl)),
              (
                (1, a_load 0 0 (at_once 0 refl)),
                (
                  (1, a_store 1 1 (0, Done, refl)),
                  (
                    (0, a_store 0 1 (0, Done, refl)),
                    tt,
                  ),
                ),
              ),
            ),
          ),
        ),
      ),
    )

pub crossed_ordered : CommonOrder crossed busy crossed_order
crossed_ordered =
    order crossed crossed_order refl refl (
      (1, a_store 0 2 (0, Done, refl)),
      (
        (0, a_store 0 1 (0, Done, refl)),
        (
          (1, a_load 0 1 (at_once 0 refl)),
          (
            (1, a_load 1 0 (later 0 11 refl (omega arith) refl (no_earlier crossed 9 11 1 refl))),
            (
              (0, a_fence (3, 16, refl, omega arith, refl)),
              tt,
            ),
          ),
        ),
      ),
    )

-- ## orders that only a weaker law has

abbrev any : ℕ → Bool
any f = true

pub passes_sc_order : HasOrder passes_sc both_sc busy
passes_sc_order = (
  2 ∷ 3 ∷ 0 ∷ 1 ∷ [],
  order_by both_sc (2 ∷ 3 ∷ 0 ∷ 1 ∷ []) may_stand (passes any) Stands Stands passes_sc.Passes (stands_at both_sc) pass refl (
    (0, a_load 1 0 (at_once 0 refl)),
    (
      (1, a_load 0 0 (at_once 0 refl)),
      (
        (0, a_store 0 1 (3, Waits, refl)),
        (
          (1, a_store 1 1 (3, Waits, refl)),
          tt,
        ),
      ),
    ),
  )
      (λ i s m. all_there may_stand both_sc (2 ∷ 3 ∷ 0 ∷ 1 ∷ []) refl i s (stands_at both_sc i s m)),
)
  where
    pass : (s j i : ℕ) (d c : Call) (q r : Outcome) → At both_sc j d q → At both_sc i c r → shim_of d ≡ s → shim_of c ≡ s → passes any d c r ≡ true → passes_sc.Passes both_sc s j i
    pass s j i d c q r load store d_own c_own h =
        let (l, x, f, w, a, at, k) = load_and_store any both_sc s j i d c q r load store d_own c_own h in (l, x, w, (f, a, at))

abbrev unfenced : Call → Outcome → Bool
unfenced (Store s x g w) (Ok a) = true
unfenced (Load s x g) (Ok a) = true
unfenced c r = false

unfenced_at : (t : Trace) (i s : ℕ) → StandsUnfenced t i s → StandsAt unfenced t i s
unfenced_at t i s (inl (x, w, (g, a, at))) = (Store s x g w, Ok a, at, refl, refl)
unfenced_at t i s (inr (x, w, at_once g at)) = (Load s x g, Ok (Value w), at, refl, refl)
unfenced_at t i s (inr (x, w, later g d at l down first)) = (Load s x g, Ok Waits, at, refl, refl)

pub no_fences_order : HasOrder no_fences both_fenced busy
no_fences_order = (
  3 ∷ 7 ∷ 0 ∷ 4 ∷ [],
  order_by both_fenced (3 ∷ 7 ∷ 0 ∷ 4 ∷ []) unfenced (passes not_sc) StandsUnfenced StandsUnfenced MayPrecede (unfenced_at both_fenced) (weak_passes both_fenced) refl (
    (0, inr (1, 0, at_once 0 refl)),
    (
      (1, inr (0, 0, at_once 0 refl)),
      (
        (0, inl (0, 1, (0, Done, refl))),
        (
          (1, inl (1, 1, (0, Done, refl))),
          tt,
        ),
      ),
    ),
  )
      (λ i s m. all_there unfenced both_fenced (3 ∷ 7 ∷ 0 ∷ 4 ∷ []) refl i s (unfenced_at both_fenced i s m)),
)

pub leaves_out_order : HasOrder leaves_out lost busy
leaves_out_order = ([], order_by lost [] may_stand (passes not_sc) Stands (λ t i s. ⊥) MayPrecede (stands_at lost) (weak_passes lost) refl tt (λ i s m. absurd m))
