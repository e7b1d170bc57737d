-- Whether a written list of places is an order of a written trace is decided by computation.
use Rattle.std.proofs.Common.{◌≡◌, ℕ, zero, suc, ◌<◌, Bool, true, false, ◌&&◌, ◌||◌, ◌⊎◌, eqb, ltb, List, [], ◌∷◌, Some, Ok, Err, sym, ap, ◌∙◌, inl, inr, arith, refl, subst}
use Rattle.std.specs.Prelude.{slice_get, Contains, ⊤, not}
use Rattle.std.proofs.lemmas.Bool.{eqb-true, eq-eqb, ltb-true, lt-ltb, false≢true}
use Rattle.order.specs.Common.{Trace, Call, Outcome, Load, Store, Fence, Evict, Up, Down, Waits, Value, shim_of, sends, performs, count, At, Performs, Performed, HubBefore, Stored, Gave, at_once, later, Before, Sees, LastWord}
use Rattle.order.proofs.Lists.{Member}
use Rattle.order.proofs.Sort.{member_contained, contained_member, placed}
use Rattle.order.proofs.Traces.{at_same}
use Rattle.law_cases.specs.Law.{OrderBy, busy}
use Rattle.law_cases.proofs.Places.{everywhere, somewhere, both, either, or_left, or_right, at_each, at_one, one_at}

-- a test that fails, or else another passes
pub then : (a b : Bool) → not a || b ≡ true → a ≡ true → b ≡ true
then true b h e = h
then false b h e = absurd (false≢true e)

-- ## places in a list

abbrev pub has : List ℕ → ℕ → Bool
has [] i = false
has (k ∷ o) i = eqb i k || has o i

abbrev pub stands_before : List ℕ → ℕ → ℕ → Bool
stands_before [] i j = false
stands_before (k ∷ o) i j = (eqb i k && has o j) || stands_before o i j

and : (a b : Bool) → a ≡ true → b ≡ true → a && b ≡ true
and true b h k = k
and false b h k = absurd (false≢true h)

has_at : (o : List ℕ) (i p : ℕ) → slice_get o p ≡ Some i → has o i ≡ true
has_at [] i p h = let z : ◌≡◌ {A = ℕ} 0 1 = cc in absurd (omega arith)
has_at (k ∷ o) i zero h = let e : i ≡ k = cc in or_left (eqb i k) _ (eq-eqb i k e)
has_at (k ∷ o) i (suc p) h = or_right (eqb i k) _ (has_at o i p h)

at_has : (o : List ℕ) (i : ℕ) → has o i ≡ true → (p : ℕ) × slice_get o p ≡ Some i
at_has [] i h = absurd (false≢true h)
at_has (k ∷ o) i h = either (eqb i k) _ h (λ e. (0, ap Some (sym (eqb-true i k e)))) (λ e. let (p, a) = at_has o i e in (suc p, a))

pub before : (o : List ℕ) (i j : ℕ) → stands_before o i j ≡ true → Before o i j
before [] i j h = absurd (false≢true h)
before (k ∷ o) i j h =
    either (eqb i k && has o j) _ h
    (λ e. let (a, b) = both (eqb i k) _ e in let (q, c) = at_has o j b in (0, suc q, ap Some (sym (eqb-true i k a)), c, omega arith))
    (λ e. let (p, q, a, b, l) = before o i j e in (suc p, suc q, a, b, omega arith))

pub decided : (o : List ℕ) (i j : ℕ) → Before o i j → stands_before o i j ≡ true
decided o i j (p, q, a, b, l) = go o p q a b l
  where
    go : (o : List ℕ) (p q : ℕ) → slice_get o p ≡ Some i → slice_get o q ≡ Some j → p < q → stands_before o i j ≡ true
    go [] p q a b l = let z : ◌≡◌ {A = ℕ} 0 1 = cc in absurd (omega arith)
    go (k ∷ o) p zero a b l = absurd (omega arith)
    go (k ∷ o) zero (suc q) a b l = let e : i ≡ k = cc in or_left (eqb i k && has o j) _ (and (eqb i k) _ (eq-eqb i k e) (has_at o j q b))
    go (k ∷ o) (suc p) (suc q) a b l = or_right (eqb i k && has o j) _ (go o p q a b (omega arith))

member : (o : List ℕ) (i : ℕ) → has o i ≡ true → Member i o
member [] i h = absurd (false≢true h)
member (k ∷ o) i h = either (eqb i k) _ h (λ e. inl (eqb-true i k e)) (λ e. inr (member o i e))

pub contained : (o : List ℕ) (i : ℕ) → has o i ≡ true → Contains o i
contained o i h = member_contained o i (member o i h)

abbrev pub distinct : List ℕ → Bool
distinct [] = true
distinct (k ∷ o) = not (has o k) && distinct o

none : {b : Bool} → not b ≡ true → b ≡ true → ⊥
none h e = false≢true (ap not (sym e) ∙ h)

pub once : (o : List ℕ) → distinct o ≡ true → (p q i : ℕ) → slice_get o p ≡ Some i → slice_get o q ≡ Some i → p ≡ q
once [] h p q i a b = let z : ◌≡◌ {A = ℕ} 0 1 = cc in absurd (omega arith)
once (k ∷ o) h zero zero i a b = refl
once (k ∷ o) h zero (suc q) i a b = absurd (none (both (not (has o k)) _ h).0 (has_at o k q (let e : k ≡ i = cc in rw e b)))
once (k ∷ o) h (suc p) zero i a b = absurd (none (both (not (has o k)) _ h).0 (has_at o k p (let e : k ≡ i = cc in rw e a)))
once (k ∷ o) h (suc p) (suc q) i a b = ap suc (once o (both (not (has o k)) _ h).1 p q i a b)

-- ## the last store to a line

-- a test of an accepted store's shim, line and word; whatever else stands at a place passes, or fails
abbrev pub if_store : (ℕ → ℕ → ℕ → Bool) → Call → Outcome → Bool
if_store test (Store s x g w) (Ok a) = test s x w
if_store test c r = true

abbrev pub is_store : (ℕ → ℕ → ℕ → Bool) → Call → Outcome → Bool
is_store test (Store s x g w) (Ok a) = test s x w
is_store test c r = false

module _ (t : Trace) (o : List ℕ) (counts : ℕ → ℕ → Bool) (x w : ℕ) where
  -- a store that counts is the one at place i or stands before it; it is not there at all; it is the last
  abbrev not_behind : ℕ → ℕ → ℕ → ℕ → ℕ → Bool
  not_behind i k q y v = not (eqb x y && counts k q) || (eqb k i || stands_before o k i)

  abbrev uncounted : ℕ → ℕ → ℕ → ℕ → Bool
  uncounted k q y v = not (eqb x y && counts k q)

  abbrev last_one : ℕ → ℕ → ℕ → ℕ → Bool
  last_one i s y v = eqb x y && (eqb w v && (counts i s && everywhere (λ k. if_store (not_behind i k)) t))

  abbrev pub last_word : Bool
  last_word = somewhere (λ i. is_store (last_one i)) t || (eqb w 0 && everywhere (λ k. if_store (uncounted k)) t)

  module _ (Counts : ℕ → ℕ → Type 0) (to : (i s : ℕ) → Counts i s → counts i s ≡ true) (from : (i s : ℕ) → counts i s ≡ true → Counts i s) where
    others : (i : ℕ) → everywhere (λ k. if_store (not_behind i k)) t ≡ true → (k q v : ℕ) → Stored t k q x v → Counts k q → k ≡ i ⊎ Before o k i
    others i h k q v (g, a, at) n =
        let e = at_each (λ k. if_store (not_behind i k)) t h k (Store q x g v) (Ok a) at in
        either (not (eqb x x && counts k q)) _ e
        (λ f. absurd (none f (and (eqb x x) _ (eq-eqb x x refl) (to k q n))))
        (λ f. either (eqb k i) _ f (λ y. inl (eqb-true k i y)) (λ y. inr (before o k i y)))

    unseen : everywhere (λ k. if_store (uncounted k)) t ≡ true → (k q v : ℕ) → Stored t k q x v → Counts k q → ⊥
    unseen h k q v (g, a, at) n =
        let e = at_each (λ k. if_store (uncounted k)) t h k (Store q x g v) (Ok a) at in
        none e (and (eqb x x) _ (eq-eqb x x refl) (to k q n))

    stored : (i : ℕ) (c : Call) (r : Outcome) → At t i c r → is_store (last_one i) c r ≡ true → LastWord t o Counts x w
    stored i (Store s y g v) (Ok a) at h =
        let (e, h) = both (eqb x y) _ h in
        let (f, h) = both (eqb w v) _ h in
        let (n, h) = both (counts i s) _ h in
        let at' : At t i (Store s x g w) (Ok a) = rw (eqb-true x y e, eqb-true w v f) at in
        inl (i, s, (g, a, at'), from i s n, others i h)
    stored i (Store s y g v) (Err a) at h = absurd (false≢true h)
    stored i (Load s y g) r at h = absurd (false≢true h)
    stored i (Fence s g) r at h = absurd (false≢true h)
    stored i (Evict s y) r at h = absurd (false≢true h)
    stored i (Up s) r at h = absurd (false≢true h)
    stored i (Down s) r at h = absurd (false≢true h)

    pub last_is : last_word ≡ true → LastWord t o Counts x w
    last_is h =
        either (somewhere (λ i. is_store (last_one i)) t) _ h
        (λ e. let (i, c, r, at, k) = at_one (λ i. is_store (last_one i)) t e in stored i c r at k)
        (λ e. let (z, k) = both (eqb w 0) _ e in inr (unseen k, eqb-true w 0 z))

-- ## an order

-- what each place of a list has, has every member
abbrev pub Each : (ℕ → Type 0) → List ℕ → Type 0
Each P [] = ⊤
Each P (k ∷ o) = P k × Each P o

pub each_has : (P : ℕ → Type 0) (o : List ℕ) → Each P o → (i : ℕ) → Contains o i → P i
each_has P o h i m = go o h (contained_member o i m)
  where
    go : (o : List ℕ) → Each P o → Member i o → P i
    go [] h m = elim m [ ]
    go (k ∷ o) h (inl e) = subst P (sym e) h.0
    go (k ∷ o) h (inr m) = go o h.1 m

-- a call that may come to stand
abbrev pub may_stand : Call → Outcome → Bool
may_stand (Store s x g w) (Ok a) = true
may_stand (Load s x g) (Ok a) = true
may_stand (Fence s g) (Ok a) = true
may_stand c r = false

abbrev pub StandsAt : (Call → Outcome → Bool) → Trace → ℕ → ℕ → Type 0
StandsAt stand t i s = (c : Call) × (r : Outcome) × At t i c r × stand c r ≡ true × shim_of c ≡ s

abbrev pub seen_by : List ℕ → ℕ → ℕ → ℕ → ℕ → Bool
seen_by o j s i q = stands_before o i j || (eqb q s && ltb i j)

-- a word that a load gave is the last that it sees; of a load that waits this is asked of every later word that its shim is told
abbrev pub told_good : Trace → List ℕ → ℕ → ℕ → ℕ → ℕ → Call → Outcome → Bool
told_good t o j s x d (Down q) (Ok (Value w)) = not (eqb s q && ltb j d) || last_word t o (seen_by o j s) x w
told_good t o j s x d c r = true

abbrev pub answer_good : Trace → List ℕ → ℕ → Call → Outcome → Bool
answer_good t o j (Load s x g) (Ok (Value w)) = last_word t o (seen_by o j s) x w
answer_good t o j (Load s x g) (Ok Waits) = everywhere (told_good t o j s x) t
answer_good t o j c r = true

abbrev pub performs_at : Trace → ℕ → Call → Outcome → ℕ → Call → Outcome → Bool
performs_at t u c r i d q = performs c r && (sends d q && (eqb (shim_of d) (shim_of c) && eqb (count performs (shim_of c) t u) (count sends (shim_of c) t i)))

abbrev pub performed_at : Trace → ℕ → Call → Outcome → Bool
performed_at t i d q = somewhere (λ u c r. performs_at t u c r i d q) t

module _ (t : Trace) (o : List ℕ) where
  pub sees_to : (j s i q : ℕ) → Sees o j s i q → seen_by o j s i q ≡ true
  sees_to j s i q (inl b) = or_left (stands_before o i j) _ (decided o i j b)
  sees_to j s i q (inr (e, l)) = or_right (stands_before o i j) _ (and (eqb q s) _ (eq-eqb q s e) (lt-ltb i j l))

  pub sees_from : (j s i q : ℕ) → seen_by o j s i q ≡ true → Sees o j s i q
  sees_from j s i q h =
      either (stands_before o i j) _ h (λ e. inl (before o i j e)) (λ e. let (a, b) = both (eqb q s) _ e in inr (eqb-true q s a, ltb-true i j b))

  loads : everywhere (answer_good t o) t ≡ true → (j s x w : ℕ) → Gave t j s x w → LastWord t o (Sees o j s) x w
  loads h j s x w (at_once g at) =
      last_is t o (seen_by o j s) x w (Sees o j s) (sees_to j s) (sees_from j s) (at_each (answer_good t o) t h j (Load s x g) (Ok (Value w)) at)
  loads h j s x w (later g d at l down first) =
      let e = at_each (answer_good t o) t h j (Load s x g) (Ok Waits) at in
      let f = at_each (told_good t o j s x) t e d (Down s) (Ok (Value w)) down in
      either (not (eqb s s && ltb j d)) _ f
      (λ y. absurd (none y (and (eqb s s) _ (eq-eqb s s refl) (lt-ltb j d l))))
      (λ y. last_is t o (seen_by o j s) x w (Sees o j s) (sees_to j s) (sees_from j s) y)

  -- what performs what is decided
  performs_to : (u i : ℕ) → (h : Performs t u i) → performs_at t u (Up h.shim) (Ok h.answer) i h.call h.outcome ≡ true
  performs_to u i h = and (sends h.call h.outcome) _ h.is_sent (and (eqb (shim_of h.call) h.shim) _ (eq-eqb _ _ h.own) (eq-eqb _ _ h.same_rank))

  performs_from : (u i : ℕ) (c : Call) (r : Outcome) (d : Call) (q : Outcome) → At t u c r → At t i d q → performs_at t u c r i d q ≡ true → Performs t u i
  performs_from u i (Up s) (Ok a) d q up at h =
      let (b, h) = both (sends d q) _ h in
      let (e, h) = both (eqb (shim_of d) s) _ h in
      record { shim = s; answer = a; call = d; outcome = q; up_at = up; at = at; is_sent = b; own = eqb-true _ _ e; same_rank = eqb-true _ _ h }
  performs_from u i (Up s) (Err a) d q up at h = absurd (false≢true h)
  performs_from u i (Load s x g) r d q up at h = absurd (false≢true h)
  performs_from u i (Store s x g w) r d q up at h = absurd (false≢true h)
  performs_from u i (Fence s g) r d q up at h = absurd (false≢true h)
  performs_from u i (Evict s x) r d q up at h = absurd (false≢true h)
  performs_from u i (Down s) r d q up at h = absurd (false≢true h)

  performed_from : (i : ℕ) (d : Call) (q : Outcome) → At t i d q → performed_at t i d q ≡ true → Performed t i
  performed_from i d q at h = let (u, c, r, up, k) = at_one (λ u c r. performs_at t u c r i d q) t h in (u, performs_from u i c r d q up at k)

  -- what the up at u and a later one perform stands in the order of these ups, where both stand
  abbrev in_turn : ℕ → ℕ → Call → Outcome → ℕ → Call → Outcome → Bool
  in_turn i v e p j f n = not (performs_at t v e p j f n) || (not (has o i && has o j) || stands_before o i j)

  abbrev then_later : ℕ → ℕ → ℕ → Call → Outcome → Bool
  then_later u i v e p = not (ltb u v) || everywhere (in_turn i v e p) t

  abbrev first_then : ℕ → Call → Outcome → ℕ → Call → Outcome → Bool
  first_then u c r i d q = not (performs_at t u c r i d q) || everywhere (then_later u i) t

  abbrev pub hub_good : Bool
  hub_good = everywhere (λ u c r. everywhere (first_then u c r) t) t

  -- a store was performed, or what was performed stands before it
  abbrev behind : ℕ → ℕ → Call → Outcome → Bool
  behind j i d q = not (performed_at t i d q) || (not (has o i) || stands_before o i j)

  abbrev performed_or_last : ℕ → Call → Outcome → Bool
  performed_or_last j c r = not (is_store (λ s x w. true) c r) || (performed_at t j c r || everywhere (behind j) t)

  abbrev pub unperformed_good : Bool
  unperformed_good = everywhere performed_or_last t

  performed_to : (i : ℕ) (d : Call) (q : Outcome) → At t i d q → Performed t i → performed_at t i d q ≡ true
  performed_to i d q at (u, h) =
      let (e, f) = at_same t i h.at at in
      one_at (λ u c r. performs_at t u c r i d q) t u (Up h.shim) (Ok h.answer) h.up_at
      (subst (λ (y : Call × Outcome). performs_at t u (Up h.shim) (Ok h.answer) i y.0 y.1 ≡ true) (pair e f) (performs_to u i h))
    where
      pair : {c d : Call} {r q : Outcome} → c ≡ d → r ≡ q → ◌≡◌ {A = Call × Outcome} (c, r) (d, q)
      pair e f = cc

  hub_keeps : hub_good ≡ true → (i j : ℕ) → Contains o i → Contains o j → HubBefore t i j → Before o i j
  hub_keeps h i j ci cj (u, v, p, q, l) =
      let a = at_each (λ u c r. everywhere (first_then u c r) t) t h u (Up p.shim) (Ok p.answer) p.up_at in
      let b = at_each (first_then u (Up p.shim) (Ok p.answer)) t a i p.call p.outcome p.at in
      let c = then (performs_at t u (Up p.shim) (Ok p.answer) i p.call p.outcome) _ b (performs_to u i p) in
      let d = at_each (then_later u i) t c v (Up q.shim) (Ok q.answer) q.up_at in
      let f = at_each (in_turn i v (Up q.shim) (Ok q.answer)) t (then (ltb u v) _ d (lt-ltb u v l)) j q.call q.outcome q.at in
      let g = then (performs_at t v (Up q.shim) (Ok q.answer) j q.call q.outcome) _ f (performs_to v j q) in
      before o i j (then (has o i && has o j) _ g (and (has o i) _ (contains_has i ci) (contains_has j cj)))
    where
      contains_has : (i : ℕ) → Contains o i → has o i ≡ true
      contains_has i m = let (p, a) = placed o i (contained_member o i m) in has_at o i p a

  unperformed_last : unperformed_good ≡ true → (i j s x w : ℕ) → Contains o i → Performed t i → Stored t j s x w → ¬ Performed t j → Before o i j
  unperformed_last h i j s x w ci (u, p) (g, a, at) n =
      let b = at_each performed_or_last t h j (Store s x g w) (Ok a) at in
      either (performed_at t j (Store s x g w) (Ok a)) _ b (λ e. absurd (n (performed_from j (Store s x g w) (Ok a) at e)))
      (λ e.
      let f = at_each (behind j) t e i p.call p.outcome p.at in
      let k = then (performed_at t i p.call p.outcome) _ f (performed_to i p.call p.outcome p.at (u, p)) in
      let (y, m) = placed o i (contained_member o i ci) in
      before o i j (then (has o i) _ k (has_at o i y m)))

-- only the up at place n performs the call at place i
module _ (t : Trace) (i n : ℕ) where
  abbrev only_n : ℕ → Call → Outcome → ℕ → Call → Outcome → Bool
  only_n u c r j d q = not (eqb i j && performs_at t u c r j d q) || eqb u n

  pub performer : everywhere (λ u c r. everywhere (only_n u c r) t) t ≡ true → (u : ℕ) → Performs t u i → u ≡ n
  performer h u p =
      let a = at_each (λ u c r. everywhere (only_n u c r) t) t h u (Up p.shim) (Ok p.answer) p.up_at in
      let b = at_each (only_n u (Up p.shim) (Ok p.answer)) t a i p.call p.outcome p.at in
      eqb-true u n (then (eqb i i && performs_at t u (Up p.shim) (Ok p.answer) i p.call p.outcome) _ b (and (eqb i i) _ (eq-eqb i i refl) (performs_to t [] u i p)))

-- which calls may stand, and which a later one may precede, as tests: of the call; of the later call and of the earlier
module _ (t : Trace) (o : List ℕ) (stand : Call → Outcome → Bool) (passes : Call → Call → Outcome → Bool) where
  abbrev keeps : ℕ → Call → Outcome → ℕ → Call → Outcome → Bool
  keeps i c r j d q = not (stand d q && (eqb (shim_of c) (shim_of d) && ltb i j)) || (stands_before o i j || passes d c r)

  abbrev kept : ℕ → Call → Outcome → Bool
  kept i c r = not (stand c r) || everywhere (keeps i c r) t

  abbrev pub chip_good : Bool
  chip_good = everywhere kept t

  abbrev pub order_good : Bool
  order_good = distinct o && (hub_good t o && (unperformed_good t o && (chip_good && everywhere (answer_good t o) t)))

  module _ (MayStand MustStand : Trace → ℕ → ℕ → Type 0) (Passes : Trace → ℕ → ℕ → ℕ → Type 0)
      (may : (i s : ℕ) → MayStand t i s → StandsAt stand t i s)
      (pass : (s j i : ℕ) (d c : Call) (q r : Outcome) → At t j d q → At t i c r → shim_of d ≡ s → shim_of c ≡ s → passes d c r ≡ true → Passes t s j i)
    where
      as_chip : chip_good ≡ true → (i j s : ℕ) → MayStand t i s → MayStand t j s → i < j → ¬ Passes t s j i → Before o i j
      as_chip h i j s mi mj l n = go (may i s mi) (may j s mj)
        where
          go : StandsAt stand t i s → StandsAt stand t j s → Before o i j
          go (c, r, at, e, own) (d, q, at', e', own') =
              let a = at_each kept t h i c r at in
              let b = at_each (keeps i c r) t (then (stand c r) _ a e) j d q at' in
              let f = then (stand d q && (eqb (shim_of c) (shim_of d) && ltb i j)) _ b (and (stand d q) _ e' (and (eqb (shim_of c) (shim_of d)) _ (eq-eqb _ _ (own ∙ sym own')) (lt-ltb i j l))) in
              either (stands_before o i j) _ f (before o i j) (λ y. absurd (n (pass s j i d c q r at' at own' own y)))

      pub order_by : order_good ≡ true → Each (λ i. (s : ℕ) × MayStand t i s) o → ((i s : ℕ) → MustStand t i s → Contains o i)
          → OrderBy (record { MayStand = MayStand; MustStand = MustStand; HubKeeps = HubBefore; Passes = Passes; LooksAt = Sees }) t busy o
      order_by h only all =
          let (a, h) = both (distinct o) _ h in
          let (b, h) = both (hub_good t o) _ h in
          let (c, h) = both (unperformed_good t o) _ h in
          let (d, e) = both chip_good _ h in
          record {
            once = once o a;
            only = each_has (λ i. (s : ℕ) × MayStand t i s) o only;
            all = all;
            as_hub = hub_keeps t o b;
            unperformed_last = unperformed_last t o c;
            as_chip = as_chip d;
            loads = loads t o e;
            words = λ q. absurd q;
            copies = λ q. absurd q;
          }
