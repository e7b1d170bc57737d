-- The last write to a line: among a shim's own calls, where its copy is read, and in a log, where the hub's word is read.
use Rattle.std.proofs.Common.{◌≡◌, ℕ, suc, ◌≤◌, Bool, true, false, cond, eqb, ◌⊎◌, List, [], ◌∷◌, length, sym, refl, ap, ◌∙◌, inl, inr, arith}
use mathlib.Core.Option.{some}
use Rattle.std.proofs.lemmas.Bool.{eqb-true, eq-eqb}
use Rattle.order.proofs.Machine.{Request, Write, Read, Sync, Drop, Act, Writes, Reads, Drops, Nothing, act, Line, NotHeld, Unsettled, Settled, copy, line_after}
use Rattle.order.proofs.Lists.{Member, Spot, spot_short}
use Rattle.order.proofs.Entries.{Entry, acts, Ascending, ascending_low}
use Rattle.order.proofs.Replay.{replay, view_of}
use Rattle.order.proofs.View.{hub_word}

-- entry e writes w to line x
abbrev pub EntryWrites : Entry → ℕ → ℕ → Type 0
EntryWrites e x w = (k : Bool) × (act x e.request ≡ Writes k w)

pub write_writes : (e : Entry) (x g w : ℕ) (k : Bool) → e.request ≡ Write x g k w → EntryWrites e x w
write_writes e x g w k h = (k, ap (act x) h ∙ rw (eq-eqb x x refl))

-- only a write request writes
pub writes_write : (x w : ℕ) (k : Bool) (o : Request) → act x o ≡ Writes k w → (g : ℕ) × (o ≡ Write x g k w)
writes_write x w k (Write y g k' v) h = go (eqb x y) refl h
  where
    go : (b : Bool) → eqb x y ≡ b → cond b (Writes k' v) Nothing ≡ Writes k w → (g' : ℕ) × (Write y g k' v ≡ Write x g' k w)
    go true q h =
        let i : x ≡ y = eqb-true x y q in
        let j : k' ≡ k = cc in
        let l : v ≡ w = cc in
        (g, rw (i, j, l))
    go false q h = let z : ◌≡◌ {A = ℕ} 0 1 = cc in absurd (omega arith)
writes_write x w k (Read y g) h = go (eqb x y) h
  where
    go : (b : Bool) → cond b Reads Nothing ≡ Writes k w → (g' : ℕ) × (Read y g ≡ Write x g' k w)
    go true h = let z : ◌≡◌ {A = ℕ} 0 1 = cc in absurd (omega arith)
    go false h = let z : ◌≡◌ {A = ℕ} 0 1 = cc in absurd (omega arith)
writes_write x w k Sync h = let z : ◌≡◌ {A = ℕ} 0 1 = cc in absurd (omega arith)
writes_write x w k (Drop y) h = go (eqb x y) h
  where
    go : (b : Bool) → cond b Drops Nothing ≡ Writes k w → (g' : ℕ) × (Drop y ≡ Write x g' k w)
    go true h = let z : ◌≡◌ {A = ℕ} 0 1 = cc in absurd (omega arith)
    go false h = let z : ◌≡◌ {A = ℕ} 0 1 = cc in absurd (omega arith)

pub read_writes_not : (e : Entry) (x g y w : ℕ) → e.request ≡ Read x g → EntryWrites e y w → ⊥
read_writes_not e x g y w h i =
    let j = writes_write y w i.0 e.request i.1 in
    let k : Read x g ≡ Write y j.0 i.0 w = sym h ∙ j.1 in
    let z : ◌≡◌ {A = ℕ} 0 1 = cc in omega arith

reads_not : (k : Bool) (w : ℕ) (a : Act) → a ≡ Reads → a ≡ Writes k w → ⊥
reads_not k w a h i = let z : ◌≡◌ {A = ℕ} 0 1 = cc in omega arith

nothing_not : (k : Bool) (w : ℕ) (a : Act) → a ≡ Nothing → a ≡ Writes k w → ⊥
nothing_not k w a h i = let z : ◌≡◌ {A = ℕ} 0 1 = cc in omega arith

drops_not : (k : Bool) (w : ℕ) (a : Act) → a ≡ Drops → a ≡ Writes k w → ⊥
drops_not k w a h i = let z : ◌≡◌ {A = ℕ} 0 1 = cc in omega arith

-- ## the copy of a shim

copy_written : (k : Bool) (v w : ℕ) (l : Line) → copy (line_after (Writes k v) l) ≡ some w → v ≡ w
copy_written true v w NotHeld h = cc
copy_written false v w NotHeld h = let z : ◌≡◌ {A = ℕ} 0 1 = cc in absurd (omega arith)
copy_written k v w (Unsettled c t) h = cc
copy_written k v w (Settled c t) h = cc

pub copy_view : (b : Bool) (c t w : ℕ) → copy (view_of b c t) ≡ some w → w ≡ c
copy_view true c t w h = let k : c ≡ w = cc in sym k
copy_view false c t w h = let z : ◌≡◌ {A = ℕ} 0 1 = cc in absurd (omega arith)

pub record LastOwn (x w : ℕ) (es : List Entry) : Type 0 where
  pub entry : Entry
  pub member : Member entry es
  pub writes : EntryWrites entry x w
  pub latest : (d : Entry) (v : ℕ) → Member d es → EntryWrites d x v → d.place ≤ entry.place

abbrev pub NoOwn : ℕ → List Entry → Type 0
NoOwn x es = (d : Entry) (v : ℕ) → Member d es → EntryWrites d x v → ⊥

-- a copy after the calls es has the word of the last write among them, or what it had before them
pub own_last : (x w : ℕ) (es : List Entry) (l : Line) (n : ℕ) → Ascending n es → copy (replay (acts x es) l) ≡ some w
    → LastOwn x w es ⊎ (NoOwn x es × copy l ≡ some w)
own_last x w [] l n f h = inr ((λ d v m i. elim m [ ]), h)
own_last x w (e ∷ es) l n f h = step (own_last x w es (line_after (act x e.request) l) (suc e.place) f.1 h)
  where
    Result : Type 0
    Result = LastOwn x w (e ∷ es) ⊎ (NoOwn x (e ∷ es) × copy l ≡ some w)

    this : EntryWrites e x w → NoOwn x es → LastOwn x w (e ∷ es)
    this i none = record { entry = e; member = inl refl; writes = i; latest = late }
      where
        late : (d : Entry) (v : ℕ) → Member d (e ∷ es) → EntryWrites d x v → d.place ≤ e.place
        late d v (inl m) j = rw m (omega arith)
        late d v (inr m) j = absurd (none d v m j)

    not_this : ((v : ℕ) → EntryWrites e x v → ⊥) → NoOwn x es → NoOwn x (e ∷ es)
    not_this i none d v (inl m) j = i v (rw m at j)
    not_this i none d v (inr m) j = none d v m j

    cases : (a : Act) → act x e.request ≡ a → NoOwn x es → copy (line_after a l) ≡ some w → Result
    cases (Writes k v) i none c = inl (this (k, i ∙ ap (Writes k) (copy_written k v w l c)) none)
    cases Reads i none c = inr (not_this (λ v j. reads_not j.0 v (act x e.request) i j.1) none, c)
    cases Drops i none c = let z : ◌≡◌ {A = ℕ} 0 1 = cc in absurd (omega arith)
    cases Nothing i none c = inr (not_this (λ v j. nothing_not j.0 v (act x e.request) i j.1) none, c)

    step : LastOwn x w es ⊎ (NoOwn x es × copy (line_after (act x e.request) l) ≡ some w) → Result
    step (inl o) = inl record { entry = o.entry; member = inr o.member; writes = o.writes; latest = late }
      where
        late : (d : Entry) (v : ℕ) → Member d (e ∷ es) → EntryWrites d x v → d.place ≤ o.entry.place
        late d v (inl m) j = rw m (omega (arith, ascending_low (suc e.place) es f.1 o.entry o.member))
        late d v (inr m) j = o.latest d v m j
    step (inr o) = cases (act x e.request) refl o.0 o.1

-- ## the hub's word

pub record LastWrite (x : ℕ) (p : List Entry) : Type 0 where
  pub entry : Entry
  pub older : List Entry
  pub spot : Spot entry older p
  pub writes : EntryWrites entry x (hub_word x p)
  pub latest : (d : Entry) (q : List Entry) (v : ℕ) → Spot d q p → EntryWrites d x v → length q ≤ length older

abbrev pub NoWrite : ℕ → List Entry → Type 0
NoWrite x p = (d : Entry) (q : List Entry) (v : ℕ) → Spot d q p → EntryWrites d x v → ⊥

-- the hub's word after the log p is that of the last write in it, or zero
abbrev pub WordFrom : ℕ → List Entry → Type 0
WordFrom x p = LastWrite x p ⊎ (NoWrite x p × (hub_word x p ≡ 0))

skip : (x : ℕ) (e : Entry) (p : List Entry) → hub_word x (e ∷ p) ≡ hub_word x p → ((v : ℕ) → EntryWrites e x v → ⊥) → WordFrom x p → WordFrom x (e ∷ p)
skip x e p i f (inl h) = inl record { entry = h.entry; older = h.older; spot = inr h.spot; writes = rw i h.writes; latest = late }
  where
    late : (d : Entry) (q : List Entry) (v : ℕ) → Spot d q (e ∷ p) → EntryWrites d x v → length q ≤ length h.older
    late d q v (inl m) j = absurd (f v (rw m.0 at j))
    late d q v (inr m) j = h.latest d q v m j
skip x e p i f (inr h) = inr (none, i ∙ h.1)
  where
    none : NoWrite x (e ∷ p)
    none d q v (inl m) j = f v (rw m.0 at j)
    none d q v (inr m) j = h.0 d q v m j

pub last_write : (x : ℕ) (p : List Entry) → WordFrom x p
last_write x [] = inr ((λ d q v m j. elim m [ ]), refl)
last_write x (e ∷ p) = cases (act x e.request) refl (last_write x p)
  where
    cases : (a : Act) → act x e.request ≡ a → WordFrom x p → WordFrom x (e ∷ p)
    cases (Writes k w) i h = inl record { entry = e; older = p; spot = inl (refl, refl); writes = (k, rw i refl); latest = late }
      where
        late : (d : Entry) (r : List Entry) (v : ℕ) → Spot d r (e ∷ p) → EntryWrites d x v → length r ≤ length p
        late d r v (inl m) j = rw m.1 (omega arith)
        late d r v (inr m) j = omega (arith, spot_short d r p m)
    cases Reads i h = skip x e p (rw i) (λ v j. reads_not j.0 v (act x e.request) i j.1) h
    cases Drops i h = skip x e p (rw i) (λ v j. drops_not j.0 v (act x e.request) i j.1) h
    cases Nothing i h = skip x e p (rw i) (λ v j. nothing_not j.0 v (act x e.request) i j.1) h
