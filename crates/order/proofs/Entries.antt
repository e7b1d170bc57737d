-- The calls that shims have sent up: the entries of one shim, and the places of entries.
use Rattle.std.proofs.Common.{◌≡◌, ℕ, suc, ◌<◌, ◌≤◌, Bool, true, false, cond, eqb, List, [], ◌∷◌, ◌++◌, sym, refl, ap, ◌∙◌, inl, inr, arith}
use Rattle.std.proofs.lemmas.Bool.{eq-eqb, eqb-true, ne_eqb}
use Rattle.order.proofs.Machine.{Request, Act, act}
use Rattle.order.proofs.Lists.{Member, Spot, onto}

-- a call that was sent up: its shim, what was sent, and its place in the trace
pub record Entry : Type 0 where
  pub who : ℕ
  pub request : Request
  pub place : ℕ

-- what the entries are to line x
abbrev pub acts : ℕ → List Entry → List Act
acts x [] = []
acts x (e ∷ es) = act x e.request ∷ acts x es

pub acts_snoc : (x : ℕ) (es : List Entry) (e : Entry) → acts x (es ++ e ∷ []) ≡ acts x es ++ act x e.request ∷ []
acts_snoc x [] e = refl
acts_snoc x (d ∷ es) e = ap {B = List Act} (λ r. act x d.request ∷ r) (acts_snoc x es e)

abbrev pub requests : List Entry → List Request
requests [] = []
requests (e ∷ es) = e.request ∷ requests es

pub requests_snoc : (es : List Entry) (e : Entry) → requests (es ++ e ∷ []) ≡ requests es ++ e.request ∷ []
requests_snoc [] e = refl
requests_snoc (d ∷ es) e = ap {B = List Request} (λ r. d.request ∷ r) (requests_snoc es e)

-- the entries of shim s in a list
abbrev pub made_by : ℕ → List Entry → List Entry
made_by s [] = []
made_by s (e ∷ q) = cond (eqb e.who s) (e ∷ made_by s q) (made_by s q)

pub made_by_own : (s : ℕ) (q : List Entry) (e : Entry) → e.who ≡ s → made_by s (q ++ e ∷ []) ≡ made_by s q ++ e ∷ []
made_by_own s [] e i = rw (eq-eqb e.who s i)
made_by_own s (d ∷ q) e i = go (eqb d.who s) (made_by_own s q e i)
  where
    go : (b : Bool) → made_by s (q ++ e ∷ []) ≡ made_by s q ++ e ∷ []
        → cond b (d ∷ made_by s (q ++ e ∷ [])) (made_by s (q ++ e ∷ [])) ≡ cond b (d ∷ made_by s q) (made_by s q) ++ e ∷ []
    go true h = ap {B = List Entry} (λ r. d ∷ r) h
    go false h = h

pub made_by_other : (s : ℕ) (q : List Entry) (e : Entry) → (e.who ≡ s → ⊥) → made_by s (q ++ e ∷ []) ≡ made_by s q
made_by_other s [] e i = rw (ne_eqb e.who s i)
made_by_other s (d ∷ q) e i = go (eqb d.who s) (made_by_other s q e i)
  where
    go : (b : Bool) → made_by s (q ++ e ∷ []) ≡ made_by s q → cond b (d ∷ made_by s (q ++ e ∷ [])) (made_by s (q ++ e ∷ [])) ≡ cond b (d ∷ made_by s q) (made_by s q)
    go true h = ap {B = List Entry} (λ r. d ∷ r) h
    go false h = h

pub made_by_onto : (s : ℕ) (q p : List Entry) → made_by s (onto q p) ≡ onto (made_by s q) (made_by s p)
made_by_onto s [] p = refl
made_by_onto s (e ∷ q) p = made_by_onto s q (e ∷ p) ∙ go (eqb e.who s)
  where
    go : (b : Bool) → onto (made_by s q) (cond b (e ∷ made_by s p) (made_by s p)) ≡ onto (cond b (e ∷ made_by s q) (made_by s q)) (made_by s p)
    go true = refl
    go false = refl

-- an entry of shim s that stands in a list
pub record FoundBy (s : ℕ) (e : Entry) (l : List Entry) : Type 0 where
  pub older : List Entry
  pub spot : Spot e older l
  pub who_is : e.who ≡ s

pub member_made_by : (s : ℕ) (e : Entry) (l : List Entry) → Member e (made_by s l) → FoundBy s e l
member_made_by s e [] h = elim h [ ]
member_made_by s e (d ∷ l) h = go (eqb d.who s) refl h (member_made_by s e l)
  where
    deeper : FoundBy s e l → FoundBy s e (d ∷ l)
    deeper m = record { older = m.older; spot = inr m.spot; who_is = m.who_is }

    go : (b : Bool) → eqb d.who s ≡ b → Member e (cond b (d ∷ made_by s l) (made_by s l)) → (Member e (made_by s l) → FoundBy s e l) → FoundBy s e (d ∷ l)
    go true q (inl h) rec = record { older = l; spot = inl (h, refl); who_is = ap (λ (y : Entry). y.who) h ∙ eqb-true d.who s q }
    go true q (inr h) rec = deeper (rec h)
    go false q h rec = deeper (rec h)

pub spot_made_by : (s : ℕ) (e : Entry) (r l : List Entry) → Spot e r l → e.who ≡ s → Spot e (made_by s r) (made_by s l)
spot_made_by s e r [] h i = elim h [ ]
spot_made_by s e r (d ∷ l) (inl h) i = rw (eq-eqb d.who s (ap (λ (y : Entry). y.who) (sym h.0) ∙ i)) (inl (h.0, ap (made_by s) h.1))
spot_made_by s e r (d ∷ l) (inr h) i = go (eqb d.who s) (spot_made_by s e r l h i)
  where
    go : (b : Bool) → Spot e (made_by s r) (made_by s l) → Spot e (made_by s r) (cond b (d ∷ made_by s l) (made_by s l))
    go true k = inr k
    go false k = k

-- all the entries are of shim s
abbrev pub AllBy : ℕ → List Entry → Type 0
AllBy s [] = Unit {0}
AllBy s (e ∷ es) = (e.who ≡ s) × AllBy s es

pub all_by_snoc : (s : ℕ) (es : List Entry) (e : Entry) → AllBy s es → e.who ≡ s → AllBy s (es ++ e ∷ [])
all_by_snoc s [] e h i = (i, tt)
all_by_snoc s (d ∷ es) e h i = (h.0, all_by_snoc s es e h.1 i)

pub all_by_who : (s : ℕ) (e : Entry) (l : List Entry) → AllBy s l → Member e l → e.who ≡ s
all_by_who s e [] h m = elim m [ ]
all_by_who s e (d ∷ l) h (inl m) = ap (λ (y : Entry). y.who) m ∙ h.0
all_by_who s e (d ∷ l) h (inr m) = all_by_who s e l h.1 m

-- ## places
-- Entries of one shim are in the order in which they were sent: newest first in a log, oldest first on a lane.

-- the places fall from the front of the list on, and are below n
abbrev pub Descending : ℕ → List Entry → Type 0
Descending n [] = Unit {0}
Descending n (e ∷ l) = (e.place < n) × Descending e.place l

pub descending_more : (n m : ℕ) (l : List Entry) → n ≤ m → Descending n l → Descending m l
descending_more n m [] h f = tt
descending_more n m (e ∷ l) h f = (omega (arith, f.0), f.1)

pub descending_low : (n : ℕ) (l : List Entry) → Descending n l → (e : Entry) → Member e l → e.place < n
descending_low n [] f e m = elim m [ ]
descending_low n (d ∷ l) f e (inl m) = rw m f.0
descending_low n (d ∷ l) f e (inr m) = omega (arith, descending_low d.place l f.1 e m, f.0)

pub descending_spot : (n : ℕ) (l : List Entry) (d : Entry) (q : List Entry) → Descending n l → Spot d q l → Descending d.place q
descending_spot n [] d q f h = elim h [ ]
descending_spot n (a ∷ l) d q f (inl h) = rw (h.0, h.1) f.1
descending_spot n (a ∷ l) d q f (inr h) = descending_spot a.place l d q f.1 h

pub descending_onto : (n : ℕ) (q p : List Entry) → Descending n (onto q p) → (m : ℕ) × Descending m p
descending_onto n [] p f = (n, f)
descending_onto n (e ∷ q) p f = let r = descending_onto n q (e ∷ p) f in (e.place, r.1.1)

-- the places rise from the front of the list on, and are n at least
abbrev pub Ascending : ℕ → List Entry → Type 0
Ascending n [] = Unit {0}
Ascending n (e ∷ l) = (n ≤ e.place) × Ascending (suc e.place) l

pub ascending_low : (n : ℕ) (l : List Entry) → Ascending n l → (e : Entry) → Member e l → n ≤ e.place
ascending_low n [] f e m = elim m [ ]
ascending_low n (d ∷ l) f e (inl m) = rw m f.0
ascending_low n (d ∷ l) f e (inr m) = omega (arith, ascending_low (suc d.place) l f.1 e m, f.0)

-- just above the places of a list whose places fall
abbrev pub bound : List Entry → ℕ
bound [] = 0
bound (e ∷ l) = suc e.place

pub bound_low : (n : ℕ) (p : List Entry) → Descending n p → (e : Entry) → Member e p → e.place < bound p
bound_low n [] f e m = elim m [ ]
bound_low n (d ∷ p) f e (inl m) = rw m (omega arith)
bound_low n (d ∷ p) f e (inr m) = omega (arith, descending_low d.place p f.1 e m)

descending_bound : (n : ℕ) (p : List Entry) → Descending n p → bound p ≤ n
descending_bound n [] f = omega arith
descending_bound n (e ∷ p) f = f.0

pub descending_ascending : (n : ℕ) (q p : List Entry) → Descending n (onto q p) → Ascending (bound p) q
descending_ascending n [] p f = tt
descending_ascending n (e ∷ q) p f = let r = descending_onto n q (e ∷ p) f in (descending_bound e.place p r.1.1, descending_ascending n q (e ∷ p) f)
