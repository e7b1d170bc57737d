-- Places sorted by a key, and at equal keys by the place itself.
use Rattle.std.proofs.Common.{◌≡◌, ℕ, zero, suc, ◌<◌, ◌⊎◌, List, [], ◌∷◌, length, Some, sym, ap, ◌∙◌, inl, inr, arith}
use Rattle.std.specs.Prelude.{slice_get, slice_index_or, Contains}
use Rattle.std.proofs.lemmas.Bool.{cases_order}
use Rattle.order.specs.Common.{Before}
use Rattle.order.proofs.Lists.{Compared, Member}

-- ## insertion sort

module _ (key : ℕ → ℕ) where
  abbrev pub Lex : ℕ → ℕ → Type 0
  Lex i j = (key i < key j) ⊎ ((key i ≡ key j) × (i < j))

  pub lex_cases : (i j : ℕ) → (i ≡ j) ⊎ (Lex i j ⊎ Lex j i)
  lex_cases i j = go (cases_order (key i) (key j)) (cases_order i j)
    where
      go : Compared (key i) (key j) → Compared i j → (i ≡ j) ⊎ (Lex i j ⊎ Lex j i)
      go (inr (inl h)) d = inr (inl (inl h))
      go (inr (inr h)) d = inr (inr (inl h))
      go (inl h) (inl d) = inl d
      go (inl h) (inr (inl d)) = inr (inl (inr (h, d)))
      go (inl h) (inr (inr d)) = inr (inr (inr (sym h, d)))

  lex_trans : (i j k : ℕ) → Lex i j → Lex j k → Lex i k
  lex_trans i j k (inl p) (inl q) = inl (omega arith)
  lex_trans i j k (inl p) (inr q) = inl (omega arith)
  lex_trans i j k (inr p) (inl q) = inl (omega arith)
  lex_trans i j k (inr p) (inr q) = inr (omega arith)

  pub lex_irrefl : (i : ℕ) → Lex i i → ⊥
  lex_irrefl i (inl p) = omega arith
  lex_irrefl i (inr p) = omega arith

  pick : {i j : ℕ} → (i ≡ j) ⊎ (Lex i j ⊎ Lex j i) → List ℕ → List ℕ → List ℕ
  pick (inl e) a b = a
  pick (inr (inl h)) a b = a
  pick (inr (inr h)) a b = b

  pub insert : ℕ → List ℕ → List ℕ
  insert i [] = i ∷ []
  insert i (j ∷ l) = pick (lex_cases i j) (i ∷ (j ∷ l)) (j ∷ insert i l)

  pub sort : List ℕ → List ℕ
  sort [] = []
  sort (i ∷ l) = insert i (sort l)

  abbrev pub Rising : List ℕ → Type 0
  Rising [] = Unit {0}
  Rising (i ∷ l) = ((j : ℕ) → Member j l → Lex i j) × Rising l

  member_insert : (k i : ℕ) (l : List ℕ) → Member k (insert i l) → (k ≡ i) ⊎ Member k l
  unfolding insert pick
  member_insert k i [] m = m
  member_insert k i (j ∷ l) m = go (lex_cases i j) (member_insert k i l) m
    where
      go : (c : (i ≡ j) ⊎ (Lex i j ⊎ Lex j i)) → (Member k (insert i l) → (k ≡ i) ⊎ Member k l) → Member k (pick c (i ∷ (j ∷ l)) (j ∷ insert i l)) → (k ≡ i) ⊎ Member k (j ∷ l)
      go (inl e) r m = m
      go (inr (inl h)) r m = m
      go (inr (inr h)) r (inl e) = inr (inl e)
      go (inr (inr h)) r (inr m) = swap (r m)
        where
          swap : (k ≡ i) ⊎ Member k l → (k ≡ i) ⊎ Member k (j ∷ l)
          swap (inl e) = inl e
          swap (inr m) = inr (inr m)

  insert_member : (k i : ℕ) (l : List ℕ) → (k ≡ i) ⊎ Member k l → Member k (insert i l)
  unfolding insert pick
  insert_member k i [] m = m
  insert_member k i (j ∷ l) m = go (lex_cases i j) (insert_member k i l) m
    where
      go : (c : (i ≡ j) ⊎ (Lex i j ⊎ Lex j i)) → ((k ≡ i) ⊎ Member k l → Member k (insert i l)) → (k ≡ i) ⊎ Member k (j ∷ l) → Member k (pick c (i ∷ (j ∷ l)) (j ∷ insert i l))
      go (inl e) r m = m
      go (inr (inl h)) r m = m
      go (inr (inr h)) r (inl e) = inr (r (inl e))
      go (inr (inr h)) r (inr (inl e)) = inl e
      go (inr (inr h)) r (inr (inr m)) = inr (r (inr m))

  rising_insert : (i : ℕ) (l : List ℕ) → Rising l → (Member i l → ⊥) → Rising (insert i l)
  unfolding insert pick
  rising_insert i [] r n = ((λ j m. absurd m), tt)
  rising_insert i (j ∷ l) r n = go (lex_cases i j) (rising_insert i l r.1 (λ m. n (inr m)))
    where
      go : (c : (i ≡ j) ⊎ (Lex i j ⊎ Lex j i)) → Rising (insert i l) → Rising (pick c (i ∷ (j ∷ l)) (j ∷ insert i l))
      go (inl e) r' = absurd (n (inl e))
      go (inr (inl h)) r' = (first, r)
        where
          first : (k : ℕ) → Member k (j ∷ l) → Lex i k
          first k (inl e) = rw e h
          first k (inr m) = lex_trans i j k h (r.0 k m)
      go (inr (inr h)) r' = ((λ k m. low k (member_insert k i l m)), r')
        where
          low : (k : ℕ) → (k ≡ i) ⊎ Member k l → Lex j k
          low k (inl e) = rw e h
          low k (inr m) = r.0 k m

  abbrev pub Distinct : List ℕ → Type 0
  Distinct [] = Unit {0}
  Distinct (i ∷ l) = (Member i l → ⊥) × Distinct l

  pub sort_member : (k : ℕ) (l : List ℕ) → Member k l → Member k (sort l)
  unfolding sort
  sort_member k [] m = elim m [ ]
  sort_member k (i ∷ l) (inl e) = insert_member k i (sort l) (inl e)
  sort_member k (i ∷ l) (inr m) = insert_member k i (sort l) (inr (sort_member k l m))

  pub member_sort : (k : ℕ) (l : List ℕ) → Member k (sort l) → Member k l
  unfolding sort
  member_sort k [] m = m
  member_sort k (i ∷ l) m = go (member_insert k i (sort l) m) (member_sort k l)
    where
      go : (k ≡ i) ⊎ Member k (sort l) → (Member k (sort l) → Member k l) → (k ≡ i) ⊎ Member k l
      go (inl e) r = inl e
      go (inr m) r = inr (r m)

  pub sort_rising : (l : List ℕ) → Distinct l → Rising (sort l)
  unfolding sort
  sort_rising [] a = tt
  sort_rising (i ∷ l) a = rising_insert i (sort l) (sort_rising l a.1) (λ m. a.0 (member_sort i l m))

-- ## members and positions

pub member_contained : (o : List ℕ) (i : ℕ) → Member i o → Contains o i
member_contained [] i m = elim m [ ]
member_contained (j ∷ o) i (inl e) = (0, omega arith, sym e)
member_contained (j ∷ o) i (inr m) = let r = member_contained o i m in (suc r.0, omega (arith, r.1), r.2)

contained_at : (o : List ℕ) (i p : ℕ) → p < length o → slice_index_or o p i ≡ i → Member i o
contained_at [] i p l h = absurd (omega arith)
contained_at (j ∷ o) i zero l h = inl (sym h)
contained_at (j ∷ o) i (suc p) l h = inr (contained_at o i p (omega arith) h)

pub contained_member : (o : List ℕ) (i : ℕ) → Contains o i → Member i o
contained_member o i h = contained_at o i h.0 h.1 h.2

-- a member has a position
pub placed : (o : List ℕ) (i : ℕ) → Member i o → (p : ℕ) × (slice_get o p ≡ Some i)
placed [] i m = elim m [ ]
placed (j ∷ o) i (inl e) = (0, ap Some (sym e))
placed (j ∷ o) i (inr m) = let r = placed o i m in (suc r.0, r.1)

placed_member : (o : List ℕ) (i p : ℕ) → slice_get o p ≡ Some i → Member i o
placed_member [] i p h = let z : ◌≡◌ {A = ℕ} 0 1 = cc in absurd (omega arith)
placed_member (j ∷ o) i zero h = inl (let k : j ≡ i = cc in sym k)
placed_member (j ∷ o) i (suc p) h = inr (placed_member o i p h)

module _ (key : ℕ → ℕ) where
  pub lex_before : (o : List ℕ) → Rising key o → (i j : ℕ) → Member i o → Member j o → Lex key i j → Before o i j
  lex_before [] r i j m m' h = elim m [ ]
  lex_before (k ∷ o) r i j (inl e) (inl d) h = absurd (lex_irrefl key i (let q : j ≡ i = d ∙ sym e in rw q at h))
  lex_before (k ∷ o) r i j (inl e) (inr m) h = let q = placed o j m in (0, suc q.0, ap Some (sym e), q.1, omega arith)
  lex_before (k ∷ o) r i j (inr m) (inl d) h = absurd (lex_irrefl key i (lex_trans key i j i h (rw (← d) at (r.0 i m))))
  lex_before (k ∷ o) r i j (inr m) (inr m') h = let q = lex_before o r.1 i j m m' h in (suc q.0, suc q.1, q.2, q.3, omega (arith, q.4))

  pub before_lex : (o : List ℕ) → Rising key o → (i j p q : ℕ) → slice_get o p ≡ Some i → slice_get o q ≡ Some j → p < q → Lex key i j
  before_lex [] r i j p q a b h = let z : ◌≡◌ {A = ℕ} 0 1 = cc in absurd (omega arith)
  before_lex (k ∷ o) r i j p zero a b h = absurd (omega arith)
  before_lex (k ∷ o) r i j zero (suc q) a b h = let e : k ≡ i = cc in rw e at (r.0 j (placed_member o j q b))
  before_lex (k ∷ o) r i j (suc p) (suc q) a b h = before_lex o r.1 i j p q a b (omega arith)

  pub rising_once : (o : List ℕ) → Rising key o → (p q i : ℕ) → slice_get o p ≡ Some i → slice_get o q ≡ Some i → p ≡ q
  rising_once o r p q i a b = go (cases_order p q)
    where
      go : Compared p q → p ≡ q
      go (inl e) = e
      go (inr (inl h)) = absurd (lex_irrefl key i (before_lex o r i i p q a b h))
      go (inr (inr h)) = absurd (lex_irrefl key i (before_lex o r i i q p b a h))
