-- Every place of a written trace is looked at by computation; and what stands before what in an order.
use Rattle.std.proofs.Common.{◌≡◌, eqb, ltb, ◌<◌, ℕ, zero, suc, Bool, true, false, ◌&&◌, ◌||◌, ◌≢◌, ◌⊎◌, List, [], ◌∷◌, Option, None, Some, Ok, sym, ap, ◌∙◌, subst, inl, inr, arith, refl}
use Rattle.std.specs.Prelude.{slice_get, Contains, not, ◌==◌}
use Rattle.std.proofs.lemmas.Bool.{eqb-true, lt-ltb, eq-eqb, cases_order, ne_eqb, true≢false, false≢true}
use Rattle.order.specs.Common.{Trace, End, Call, Outcome, At, Stored, Gave, Before, MayPrecede, LastWord}
use Rattle.order.specs.Common.{Value, Load, Store, Fence, Evict, Up, Down}
use Rattle.rules.specs.Strengths.{strength_number}
use Rattle.rules.specs.declared.strength.Strength.TheVariants.{SeqCst}
use Rattle.law_cases.specs.Law.{Words, OrderBy}
use Rattle.order.proofs.Lists.{Compared}
use Rattle.order.proofs.Sort.{contained_member, placed}

-- whether each place of a trace passes a test; whether one does
abbrev pub everywhere : (ℕ → Call → Outcome → Bool) → Trace → Bool
everywhere test [] = true
everywhere test ((c, r) ∷ t) = test 0 c r && everywhere (λ i. test (suc i)) t

abbrev pub somewhere : (ℕ → Call → Outcome → Bool) → Trace → Bool
somewhere test [] = false
somewhere test ((c, r) ∷ t) = test 0 c r || somewhere (λ i. test (suc i)) t

pub both : (a b : Bool) → a && b ≡ true → (a ≡ true) × (b ≡ true)
both true b h = (refl, h)
both false b h = absurd (false≢true h)

pub either : {C : Type 0} (a b : Bool) → a || b ≡ true → (a ≡ true → C) → (b ≡ true → C) → C
either true b h f g = f refl
either false b h f g = g h

pub or_left : (a b : Bool) → a ≡ true → a || b ≡ true
or_left true b h = refl
or_left false b h = absurd (false≢true h)

pub or_right : (a b : Bool) → b ≡ true → a || b ≡ true
or_right true b h = refl
or_right false b h = h

pub at_each : (test : ℕ → Call → Outcome → Bool) (t : Trace) → everywhere test t ≡ true → (i : ℕ) (c : Call) (r : Outcome) → At t i c r → test i c r ≡ true
at_each test [] h i c r a = let z : ◌≡◌ {A = ℕ} 0 1 = cc in absurd (omega arith)
at_each test ((d, q) ∷ t) h zero c r a =
    let e : ◌≡◌ {A = Call × Outcome} (d, q) (c, r) = cc in
    subst (λ (y : Call × Outcome). test 0 y.0 y.1 ≡ true) e (both (test 0 d q) _ h).0
at_each test ((d, q) ∷ t) h (suc i) c r a = at_each (λ i. test (suc i)) t (both (test 0 d q) _ h).1 i c r a

pub at_one : (test : ℕ → Call → Outcome → Bool) (t : Trace) → somewhere test t ≡ true → (i : ℕ) × (c : Call) × (r : Outcome) × At t i c r × test i c r ≡ true
at_one test [] h = absurd (false≢true h)
at_one test ((d, q) ∷ t) h =
    either (test 0 d q) _ h (λ e. (0, d, q, refl, e)) (λ e. let (i, c, r, a, k) = at_one (λ i. test (suc i)) t e in (suc i, c, r, a, k))

pub one_at : (test : ℕ → Call → Outcome → Bool) (t : Trace) (i : ℕ) (c : Call) (r : Outcome) → At t i c r → test i c r ≡ true → somewhere test t ≡ true
one_at test [] i c r a h = let z : ◌≡◌ {A = ℕ} 0 1 = cc in absurd (omega arith)
one_at test ((d, q) ∷ t) zero c r a h =
    let e : ◌≡◌ {A = Call × Outcome} (c, r) (d, q) = cc in
    or_left (test 0 d q) _ (subst (λ (y : Call × Outcome). test 0 y.0 y.1 ≡ true) e h)
one_at test ((d, q) ∷ t) (suc i) c r a h = or_right (test 0 d q) _ (one_at (λ i. test (suc i)) t i c r a h)

module _ (o : List ℕ) (once : (p q i : ℕ) → slice_get o p ≡ Some i → slice_get o q ≡ Some i → p ≡ q) where
  pub not_both : (i j : ℕ) → Before o i j → Before o j i → ⊥
  not_both i j (p, q, a, b, l) (p', q', a', b', l') = omega (arith, once p q' i a b', once q p' j b a')

  pub through : (i j k : ℕ) → Before o i j → Before o j k → Before o i k
  through i j k (p, q, a, b, l) (p', q', a', b', l') = (p, q', a, b', omega (arith, once q p' j b a'))

-- two places in an order stand one before the other
pub one_first : (o : List ℕ) (i j : ℕ) → i ≢ j → Contains o i → Contains o j → Before o i j ⊎ Before o j i
one_first o i j ne ci cj = go (placed o i (contained_member o i ci)) (placed o j (contained_member o j cj))
  where
    go : (p : ℕ) × (slice_get o p ≡ Some i) → (q : ℕ) × (slice_get o q ≡ Some j) → Before o i j ⊎ Before o j i
    go (p, a) (q, b) = cases (cases_order p q)
      where
        cases : Compared p q → Before o i j ⊎ Before o j i
        cases (inl e) = absurd (ne (let z : Some i ≡ Some j = sym a ∙ ap (slice_get o) e ∙ b in cc))
        cases (inr (inl l)) = inl (p, q, a, b, l)
        cases (inr (inr l)) = inr (q, p, b, a, l)

-- a test of a store's line and word; other calls pass
abbrev pub of_store : (ℕ → ℕ → Bool) → Call → Bool
of_store test (Store s x g w) = test x w
of_store test (Load s x g) = true
of_store test (Fence s g) = true
of_store test (Evict s x) = true
of_store test (Up s) = true
of_store test (Down s) = true

-- an accepted store passes a test that all stores of the trace pass
pub stored_at : (test : ℕ → ℕ → ℕ → Bool) (t : Trace) → everywhere (λ k c r. of_store (test k) c) t ≡ true → (i s x w : ℕ) → Stored t i s x w → test i x w ≡ true
stored_at test t h i s x w (g, a, k) = at_each (λ k c r. of_store (test k) c) t h i (Store s x g w) (Ok a) k

-- no store writes 0; only the one at place k writes w to line x
abbrev pub no_zero : Trace → Bool
no_zero t = everywhere (λ i c r. of_store (λ y v. not (eqb v 0)) c) t

abbrev pub one_writes : Trace → ℕ → ℕ → ℕ → Bool
one_writes t x w k = everywhere (λ i c r. of_store (λ y v. not (eqb y x && eqb v w) || eqb i k) c) t

pub zero_unstored : (t : Trace) → no_zero t ≡ true → (i s x : ℕ) → Stored t i s x 0 → ⊥
zero_unstored t h i s x stored = false≢true (stored_at (λ i y v. not (eqb v 0)) t h i s x 0 stored)

pub only_store : (t : Trace) (x w k : ℕ) → one_writes t x w k ≡ true → (i s : ℕ) → Stored t i s x w → i ≡ k
only_store t x w k h i s stored =
    let e = stored_at (λ i y v. not (eqb y x && eqb v w) || eqb i k) t h i s x w stored in
    let f : not (true && true) || eqb i k ≡ true = rw (eq-eqb x x refl, eq-eqb w w refl) at e in
    eqb-true i k f

-- no down of shim s between places i and d tells it a word
abbrev pub word_told : ℕ → Call → Outcome → Bool
word_told s (Down q) (Ok (Value w)) = q == s
word_told s c r = false

abbrev pub no_word : Trace → ℕ → ℕ → ℕ → Bool
no_word t i d s = everywhere (λ k c r. not (ltb i k && (ltb k d && word_told s c r))) t

pub no_earlier : (t : Trace) (i d s : ℕ) → no_word t i d s ≡ true → (k v : ℕ) → i < k → k < d → At t k (Down s) (Ok (Value v)) → ⊥
no_earlier t i d s h k v a b at =
    let e = at_each (λ k c r. not (ltb i k && (ltb k d && word_told s c r))) t h k (Down s) (Ok (Value v)) at in
    let f : not (true && (true && (s == s))) ≡ true = rw (lt-ltb i k a, lt-ltb k d b) at e in
    let g : not true ≡ true = rw (eq-eqb s s refl) at f in
    false≢true g

-- whether what stands at a place is a load; a store that is not SC
abbrev pub is_load : Option (Call × Outcome) → Bool
is_load None = false
is_load (Some (Load s x g, r)) = true
is_load (Some (Store s x g w, r)) = false
is_load (Some (Fence s g, r)) = false
is_load (Some (Evict s x, r)) = false
is_load (Some (Up s, r)) = false
is_load (Some (Down s, r)) = false

abbrev pub is_weak_store : Option (Call × Outcome) → Bool
is_weak_store None = false
is_weak_store (Some (Store s x g w, r)) = not (g == strength_number SeqCst)
is_weak_store (Some (Load s x g, r)) = false
is_weak_store (Some (Fence s g, r)) = false
is_weak_store (Some (Evict s x, r)) = false
is_weak_store (Some (Up s, r)) = false
is_weak_store (Some (Down s, r)) = false

-- only a load may precede, and only a store that is not SC be preceded
pub must_follow : (t : Trace) (i j s : ℕ) → is_load (slice_get t j) && is_weak_store (slice_get t i) ≡ false → ¬ MayPrecede t s j i
must_follow t i j s h ((y, f, r, load), (x, g, w, a, store, weak)) =
    let e : not (g == strength_number SeqCst) ≡ false = rw (load, store) at h in
    true≢false (sym (ap not (ne_eqb g (strength_number SeqCst) weak)) ∙ e)

module _ {v : Words} {t : Trace} {z : End} {o : List ℕ} (h : OrderBy v t z o) where
  -- a load that gave 0, which no store wrote, stands before a store to its line that it would see if it stood behind
  pub old_first : (j k s q x w : ℕ) → (Before o k j → v.LooksAt o j s k q) → Gave t j s x 0 → no_zero t ≡ true → Stored t k q x w → k ≢ j
      → Contains o j → Contains o k → Before o j k
  old_first j k s q x w see gave none stored ne cj ck = go (h.loads j s x 0 gave) (one_first o k j ne ck cj)
    where
      go : LastWord t o (v.LooksAt o j s) x 0 → Before o k j ⊎ Before o j k → Before o j k
      go l (inr b) = b
      go (inl (i, p, zero_stored, counts, others)) (inl b) = absurd (zero_unstored t none i p x zero_stored)
      go (inr (unseen, e)) (inl b) = absurd (unseen k q w stored (see b))

  -- a load that gave a word which only one store to its line wrote, and which sees no store but those before it, stands behind that store
  pub new_behind : (j k s x w : ℕ) → ((q : ℕ) → v.LooksAt o j s k q → Before o k j) → Gave t j s x w → w ≢ 0 → one_writes t x w k ≡ true → Before o k j
  new_behind j k s x w see gave ne only = go (h.loads j s x w gave)
    where
      go : LastWord t o (v.LooksAt o j s) x w → Before o k j
      go (inl (i, p, stored, counts, others)) = see p (subst (λ (n : ℕ). v.LooksAt o j s n p) (only_store t x w k only i p stored) counts)
      go (inr (unseen, e)) = absurd (ne e)
