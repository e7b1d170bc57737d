-- Lists that grow at their front: their members, what stands behind a member (its length is the member's rank), and their suffixes.
use Rattle.std.proofs.Common.{◌≡◌, ℕ, ◌+◌, ◌<◌, ◌≤◌, Bool, true, false, cond, ◌⊎◌, List, [], ◌∷◌, ◌++◌, length, sym, refl, ap, ◌∙◌, inl, inr, arith}

abbrev pub one_if : Bool → ℕ
one_if true = 1
one_if false = 0

abbrev pub Compared : ℕ → ℕ → Type 0
Compared i j = (i ≡ j) ⊎ ((i < j) ⊎ (j < i))

module _ {A : Type 0} where
  -- b says whether a is kept before l
  pub length_kept : (b : Bool) (a : A) (l : List A) → length (cond b (a ∷ l) l) ≡ length l + one_if b
  length_kept true a l = omega arith
  length_kept false a l = omega arith

  abbrev pub Member : A → List A → Type 0
  Member e [] = ⊥
  Member e (a ∷ l) = (e ≡ a) ⊎ Member e l

  pub member_append : (e : A) (a b : List A) → Member e (a ++ b) → Member e a ⊎ Member e b
  member_append e [] b m = inr m
  member_append e (d ∷ a) b (inl m) = inl (inl m)
  member_append e (d ∷ a) b (inr m) = go (member_append e a b m)
    where
      go : Member e a ⊎ Member e b → Member e (d ∷ a) ⊎ Member e b
      go (inl k) = inl (inr k)
      go (inr k) = inr k

  -- e stands in the list, with r behind it
  abbrev pub Spot : A → List A → List A → Type 0
  Spot e r [] = ⊥
  Spot e r (a ∷ l) = ((e ≡ a) × (r ≡ l)) ⊎ Spot e r l

  pub spot_member : (e : A) (r l : List A) → Spot e r l → Member e l
  spot_member e r [] h = elim h [ ]
  spot_member e r (a ∷ l) (inl h) = inl h.0
  spot_member e r (a ∷ l) (inr h) = inr (spot_member e r l h)

  pub member_spot : (e : A) (l : List A) → Member e l → (r : List A) × Spot e r l
  member_spot e [] h = elim h [ ]
  member_spot e (a ∷ l) (inl h) = (l, inl (h, refl))
  member_spot e (a ∷ l) (inr h) = let q = member_spot e l h in (q.0, inr q.1)

  pub spot_short : (e : A) (r l : List A) → Spot e r l → length r < length l
  spot_short e r [] h = elim h [ ]
  spot_short e r (a ∷ l) (inl h) = rw h.1 (omega arith)
  spot_short e r (a ∷ l) (inr h) = omega (arith, spot_short e r l h)

  -- two spots at the same depth are the same
  pub spot_depth : (e d : A) (r q l : List A) → Spot e r l → Spot d q l → length r ≡ length q → e ≡ d
  spot_depth e d r q [] h k i = elim h [ ]
  spot_depth e d r q (a ∷ l) (inl h) (inl k) i = h.0 ∙ sym k.0
  spot_depth e d r q (a ∷ l) (inl h) (inr k) i = absurd (omega (arith, spot_short d q l k, ap length h.1))
  spot_depth e d r q (a ∷ l) (inr h) (inl k) i = absurd (omega (arith, spot_short e r l h, ap length k.1))
  spot_depth e d r q (a ∷ l) (inr h) (inr k) i = spot_depth e d r q l h k i

  -- of two spots the deeper stands behind the other
  pub spot_deeper : (e d : A) (r q l : List A) → Spot e r l → Spot d q l → length r < length q → Spot e r q
  spot_deeper e d r q [] h k i = elim h [ ]
  spot_deeper e d r q (a ∷ l) (inl h) (inl k) i = absurd (omega (arith, ap length h.1, ap length k.1))
  spot_deeper e d r q (a ∷ l) (inl h) (inr k) i = absurd (omega (arith, spot_short d q l k, ap length h.1))
  spot_deeper e d r q (a ∷ l) (inr h) (inl k) i = rw k.1 h
  spot_deeper e d r q (a ∷ l) (inr h) (inr k) i = spot_deeper e d r q l h k i

  pub spot_behind : (e d : A) (r q l : List A) → Spot e r q → Spot d q l → Spot e r l
  spot_behind e d r q [] h k = elim k [ ]
  spot_behind e d r q (a ∷ l) h (inl k) = inr (rw k.1 at h)
  spot_behind e d r q (a ∷ l) h (inr k) = inr (spot_behind e d r q l h k)

  -- p is the list, or what it was before it grew
  abbrev pub Suffix : List A → List A → Type 0
  Suffix p [] = p ≡ []
  Suffix p (a ∷ l) = (p ≡ a ∷ l) ⊎ Suffix p l

  pub suffix_refl : (l : List A) → Suffix l l
  suffix_refl [] = refl
  suffix_refl (a ∷ l) = inl refl

  pub suffix_short : (p l : List A) → Suffix p l → length p ≤ length l
  suffix_short p [] h = rw h (omega arith)
  suffix_short p (a ∷ l) (inl h) = rw h (omega arith)
  suffix_short p (a ∷ l) (inr h) = omega (arith, suffix_short p l h)

  pub suffix_spot : (e : A) (r p l : List A) → Suffix p l → Spot e r p → Spot e r l
  suffix_spot e r p [] h k = rw h at k
  suffix_spot e r p (a ∷ l) (inl h) k = rw h at k
  suffix_spot e r p (a ∷ l) (inr h) k = inr (suffix_spot e r p l h k)

  pub suffix_deep : (e : A) (r p l : List A) → Suffix p l → Spot e r l → length r < length p → Spot e r p
  suffix_deep e r p [] h k i = elim k [ ]
  suffix_deep e r p (a ∷ l) (inl h) k i = rw h k
  suffix_deep e r p (a ∷ l) (inr h) (inl k) i = absurd (omega (arith, suffix_short p l h, ap length k.1))
  suffix_deep e r p (a ∷ l) (inr h) (inr k) i = suffix_deep e r p l h k i

  -- what a list p, newest first, grows to by q, oldest first
  abbrev pub onto : List A → List A → List A
  onto [] p = p
  onto (e ∷ q) p = onto q (e ∷ p)

  pub onto_append : (a b p : List A) → onto (a ++ b) p ≡ onto b (onto a p)
  onto_append [] b p = refl
  onto_append (e ∷ a) b p = onto_append a b (e ∷ p)

  pub onto_snoc : (q p : List A) (e : A) → onto (q ++ e ∷ []) p ≡ e ∷ onto q p
  onto_snoc [] p e = refl
  onto_snoc (d ∷ q) p e = onto_snoc q (d ∷ p) e

  pub member_onto : (e : A) (q p : List A) → Member e (onto q p) → Member e q ⊎ Member e p
  member_onto e [] p h = inr h
  member_onto e (d ∷ q) p h = go (member_onto e q (d ∷ p) h)
    where
      go : Member e q ⊎ Member e (d ∷ p) → Member e (d ∷ q) ⊎ Member e p
      go (inl m) = inl (inr m)
      go (inr (inl m)) = inl (inl m)
      go (inr (inr m)) = inr m

  pub onto_member : (e : A) (q p : List A) → Member e q ⊎ Member e p → Member e (onto q p)
  onto_member e [] p (inl h) = elim h [ ]
  onto_member e [] p (inr h) = h
  onto_member e (d ∷ q) p (inl (inl h)) = onto_member e q (d ∷ p) (inr (inl h))
  onto_member e (d ∷ q) p (inl (inr h)) = onto_member e q (d ∷ p) (inl h)
  onto_member e (d ∷ q) p (inr h) = onto_member e q (d ∷ p) (inr (inr h))

  pub spot_onto : (e : A) (r q p : List A) → Spot e r p → Spot e r (onto q p)
  spot_onto e r [] p h = h
  spot_onto e r (d ∷ q) p h = spot_onto e r q (d ∷ p) (inr h)

  pub suffix_onto : (q p l : List A) → Suffix l p → Suffix l (onto q p)
  suffix_onto [] p l h = h
  suffix_onto (e ∷ q) p l h = suffix_onto q (e ∷ p) l (inr h)
