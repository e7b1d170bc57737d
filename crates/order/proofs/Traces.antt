-- A trace that grows by one call at its end, and how many of its first calls pass a test.
use Rattle.std.proofs.Common.{◌≡◌, ℕ, zero, suc, ◌+◌, ◌<◌, ◌≤◌, Bool, true, ◌&&◌, eqb, ◌⊎◌, [], ◌∷◌, ◌++◌, length, take, refl, ap, inl, inr, arith}
use Rattle.std.specs.List.{filter}
use Rattle.std.proofs.lemmas.List.{take-append-le}
use Rattle.order.specs.Common.{Call, Outcome, Trace, At, shim_of}
use Rattle.order.proofs.Lists.{one_if, length_kept}

abbrev pub then : Trace → Call → Outcome → Trace
then t c a = t ++ (c, a) ∷ []

pub at_old : (t r : Trace) (i : ℕ) {c : Call} {a : Outcome} → At t i c a → At (t ++ r) i c a
at_old [] r i h = let z : ◌≡◌ {A = ℕ} 0 1 = cc in absurd (omega arith)
at_old (e ∷ t) r zero h = h
at_old (e ∷ t) r (suc i) h = at_old t r i h

pub at_new : (t : Trace) (c : Call) (a : Outcome) → At (then t c a) (length t) c a
at_new [] c a = refl
at_new (e ∷ t) c a = at_new t c a

pub at_lt : (t : Trace) (i : ℕ) {c : Call} {a : Outcome} → At t i c a → i < length t
at_lt [] i h = let z : ◌≡◌ {A = ℕ} 0 1 = cc in absurd (omega arith)
at_lt (e ∷ t) zero h = omega arith
at_lt (e ∷ t) (suc i) h = omega (arith, at_lt t i h)

pub at_same : (t : Trace) (i : ℕ) {c c' : Call} {a a' : Outcome} → At t i c a → At t i c' a' → (c ≡ c') × (a ≡ a')
at_same t i {c = c} {c' = c'} {a = a} {a' = a'} h k =
    let q : ◌≡◌ {A = Call × Outcome} (c, a) (c', a') = cc in
    (ap (λ (e : Call × Outcome). e.0) q, ap (λ (e : Call × Outcome). e.1) q)

-- a call of the longer trace is one of the shorter, or the last
abbrev pub OldOrLast : Trace → Call → Outcome → ℕ → Call → Outcome → Type 0
OldOrLast t c₀ a₀ i c a = At t i c a ⊎ ((i ≡ length t) × (c ≡ c₀) × (a ≡ a₀))

pub at_snoc : (t : Trace) (c₀ : Call) (a₀ : Outcome) {i : ℕ} {c : Call} {a : Outcome} → At (then t c₀ a₀) i c a → OldOrLast t c₀ a₀ i c a
at_snoc [] c₀ a₀ {i = zero} h = let q = at_same ((c₀, a₀) ∷ []) 0 {c' = c₀} {a' = a₀} h refl in inr (refl, q.0, q.1)
at_snoc [] c₀ a₀ {i = suc i} h = let z : ◌≡◌ {A = ℕ} 0 1 = cc in absurd (omega arith)
at_snoc (e ∷ t) c₀ a₀ {i = zero} h = inl h
at_snoc (e ∷ t) c₀ a₀ {i = suc i} {c = c} {a = a} h = go (at_snoc t c₀ a₀ {i = i} h)
  where
    go : OldOrLast t c₀ a₀ i c a → OldOrLast (e ∷ t) c₀ a₀ (suc i) c a
    go (inl k) = inl k
    go (inr k) = inr (ap suc k.0, k.1, k.2)

pub at_moved : (t : Trace) {i j : ℕ} {c : Call} {a : Outcome} → i ≡ j → At t i c a → At t j c a
at_moved t e h = rw e at h

pub length_then : (t : Trace) (c : Call) (a : Outcome) → length (then t c a) ≡ suc (length t)
length_then [] c a = refl
length_then (e ∷ t) c a = ap suc (length_then t c a)

-- how many of the first k calls pass a test
abbrev pub tally : (Call → Outcome → Bool) → Trace → ℕ → ℕ
tally f t k = length (filter (λ e. f e.0 e.1) (take k t))

-- the test with the shim in it: how many pass this one is `count`
abbrev pub of_shim : (Call → Outcome → Bool) → ℕ → Call → Outcome → Bool
of_shim f s c a = eqb (shim_of c) s && f c a

pub tally_old : (f : Call → Outcome → Bool) (t r : Trace) (k : ℕ) → k ≤ length t → tally f (t ++ r) k ≡ tally f t k
tally_old f t r k h = rw take-append-le

pub tally_new : (f : Call → Outcome → Bool) (t : Trace) (c : Call) (a : Outcome) → tally f (then t c a) (suc (length t)) ≡ tally f t (length t) + one_if (f c a)
tally_new f [] c a = length_kept (f c a) (c, a) []
tally_new f (e ∷ t) c a = omega (arith, length_kept {A = Call × Outcome}, tally_new f t c a)

pub tally_less : (f : Call → Outcome → Bool) (t : Trace) (i k : ℕ) (c : Call) (a : Outcome) → At t i c a → f c a ≡ true → i < k → tally f t i < tally f t k
tally_less f [] i k c a h q l = let z : ◌≡◌ {A = ℕ} 0 1 = cc in absurd (omega arith)
tally_less f (e ∷ t) i zero c a h q l = absurd (omega arith)
tally_less f (e ∷ t) zero (suc k) c a h q l = let j : e ≡ (c, a) = cc in rw (j, q) (omega arith)
tally_less f (e ∷ t) (suc i) (suc k) c a h q l = omega (arith, length_kept {A = Call × Outcome}, tally_less f t i k c a h q (omega arith))
