-- The key of a call, by which the order is sorted: even for a call by its rank in the log, odd for a load answered at once by how
-- much of the log its shim had heard of, and last for a store that the hub has not performed.
use Rattle.std.proofs.Common.{◌≡◌, ℕ, zero, suc, ◌+◌, ◌<◌, Bool, true, false, cond, eqb, ◌⊎◌, List, [], ◌∷◌, length, Ok, sym, refl, ap, ◌∙◌, inl, inr, arith}
use mathlib.Core.Bool.{false≢true}
use Rattle.std.proofs.lemmas.Bool.{eqb-true, eqb-false, eq-eqb, ne_eqb, cases_eq, cases_order}
use Rattle.order.specs.Common.{Call, Load, Value, Trace, shim_of, sends}
use Rattle.order.proofs.Machine.{Board}
use Rattle.order.proofs.Lists.{Compared, Member, Spot, spot_member, member_spot, spot_short, spot_depth, spot_deeper, spot_behind, member_onto, onto_member, spot_onto}
use Rattle.order.proofs.Entries.{Entry, made_by, member_made_by, spot_made_by, descending_low, descending_spot, descending_onto, ascending_low, bound, bound_low}
use Rattle.order.proofs.Entries.{descending_ascending}
use Rattle.order.proofs.Steps.{calls}
use Rattle.order.proofs.Sort.{Lex, Distinct}
use Rattle.order.proofs.Traces.{at_same, at_moved}
use Rattle.order.proofs.Hits.{Hit}
use Rattle.order.proofs.Invariant.{Invariant}

-- ## look-ups

-- one more than the value of the element at place p; 0 where there is none
module _ {A : Type 0} (place : A → ℕ) (value : A → List A → ℕ) where
  abbrev pub look : ℕ → List A → ℕ
  look p [] = 0
  look p (a ∷ l) = cond (eqb (place a) p) (suc (value a l)) (look p l)

  pub look_spot : (l : List A) → ((d e : A) (q r : List A) → Spot d q l → Spot e r q → place e ≡ place d → ⊥) → (e : A) (r : List A) → Spot e r l
      → look (place e) l ≡ suc (value e r)
  look_spot [] apart e r h = elim h [ ]
  look_spot (a ∷ l) apart e r (inl h) = rw (h.0, h.1, eq-eqb (place a) (place a) refl)
  look_spot (a ∷ l) apart e r (inr h) =
      rw (ne_eqb (place a) (place e) (λ x. apart a e l r (inl (refl, refl)) h (sym x))) (look_spot l (λ d e' q r' x y. apart d e' q r' (inr x) y) e r h)

  pub look_none : (p : ℕ) (l : List A) → ((d : A) → Member d l → place d ≡ p → ⊥) → look p l ≡ 0
  look_none p [] h = refl
  look_none p (a ∷ l) h = rw (ne_eqb (place a) p (h a (inl refl))) (look_none p l (λ d m. h d (inr m)))

-- by the rank of a call in the log, and by how much of the log a load answered at once had heard of
abbrev pub find : ℕ → List Entry → ℕ
find p l = look (λ (e : Entry). e.place) (λ (e : Entry) r. length r) p l

abbrev pub find_hit : ℕ → List Hit → ℕ
find_hit p l = look (λ (h : Hit). h.place) (λ (h : Hit) r. length h.seen) p l

-- an entry of the list, found by its place
pub record Placed (l : List Entry) (p : ℕ) : Type 0 where
  pub entry : Entry
  pub older : List Entry
  pub spot : Spot entry older l
  pub place_is : entry.place ≡ p

-- the key of a call that the hub performed after r others, and of a load answered at once after r had been heard of
abbrev pub call_key : ℕ → ℕ
call_key r = suc r + suc r

abbrev pub hit_key : ℕ → ℕ
hit_key r = suc (r + r)

-- by the length of the log and what find-hit and find give
abbrev pub key_of : ℕ → ℕ → ℕ → ℕ
key_of n (suc k) r = hit_key k
key_of n zero (suc r) = call_key r
key_of n zero zero = call_key n

pub find_some : (p : ℕ) (log : List Entry) → 0 < find p log → Placed log p
find_some p [] h = absurd (omega arith)
find_some p (a ∷ l) h = go (eqb a.place p) refl h (find_some p l)
  where
    go : (b : Bool) → eqb a.place p ≡ b → 0 < cond b (suc (length l)) (find p l) → (0 < find p l → Placed l p) → Placed (a ∷ l) p
    go true q h rec = record { entry = a; older = l; spot = inl (refl, refl); place_is = eqb-true a.place p q }
    go false q h rec = let x = rec h in record { entry = x.entry; older = x.older; spot = inr x.spot; place_is = x.place_is }

pub find_member : (p : ℕ) (log : List Entry) (e : Entry) → Member e log → e.place ≡ p → 0 < find p log
find_member p [] e m h = elim m [ ]
find_member p (a ∷ l) e m h = go (eqb a.place p) refl m (λ k. find_member p l e k h)
  where
    go : (b : Bool) → eqb a.place p ≡ b → Member e (a ∷ l) → (Member e l → 0 < find p l) → 0 < cond b (suc (length l)) (find p l)
    go true q m rec = omega arith
    go false q (inl m) rec = absurd (eqb-false a.place p q (ap (λ (y : Entry). y.place) (sym m) ∙ h))
    go false q (inr m) rec = rec m

-- ## the places below n that pass a test

abbrev pub chosen : (ℕ → Bool) → ℕ → List ℕ
chosen f zero = []
chosen f (suc n) = cond (f n) (n ∷ chosen f n) (chosen f n)

pub chosen_from : (f : ℕ → Bool) (n p : ℕ) → Member p (chosen f n) → (p < n) × (f p ≡ true)
chosen_from f zero p m = elim m [ ]
chosen_from f (suc n) p m = go (f n) refl m (chosen_from f n p)
  where
    up : (p < n) × (f p ≡ true) → (p < suc n) × (f p ≡ true)
    up x = (omega (arith, x.0), x.1)

    go : (b : Bool) → f n ≡ b → Member p (cond b (n ∷ chosen f n) (chosen f n)) → (Member p (chosen f n) → (p < n) × (f p ≡ true)) → (p < suc n) × (f p ≡ true)
    go true q (inl m) rec = (omega (arith, m), ap f m ∙ q)
    go true q (inr m) rec = up (rec m)
    go false q m rec = up (rec m)

pub chosen_into : (f : ℕ → Bool) (n p : ℕ) → p < n → f p ≡ true → Member p (chosen f n)
chosen_into f zero p l h = absurd (omega arith)
chosen_into f (suc n) p l h = go (cases_eq p n) (λ k. chosen_into f n p k h)
  where
    with_call : (b : Bool) → Member p (chosen f n) → Member p (cond b (n ∷ chosen f n) (chosen f n))
    with_call true m = inr m
    with_call false m = m

    go : (p ≡ n) ⊎ (p ≡ n → ⊥) → (p < n → Member p (chosen f n)) → Member p (chosen f (suc n))
    go (inl e) rec = rw (sym (ap f e) ∙ h) (inl e)
    go (inr ne) rec = with_call (f n) (rec (omega arith))

pub chosen_distinct : (f : ℕ → Bool) (n : ℕ) (k : ℕ → ℕ) → Distinct k (chosen f n)
chosen_distinct f zero k = tt
chosen_distinct f (suc n) k = go (f n) (chosen_distinct f n k)
  where
    go : (b : Bool) → Distinct k (chosen f n) → Distinct k (cond b (n ∷ chosen f n) (chosen f n))
    go true h = ((λ m. omega (arith, (chosen_from f n n m).0)), h)
    go false h = h

-- ## keys

module _ {n : ℕ} {t : Trace} {b : Board} (i : Invariant n t b) where
  abbrev pub key : ℕ → ℕ
  key p = key_of (length i.log) (find_hit p i.hits) (find p i.log)

  abbrev pub calls_of : ℕ → List Entry
  calls_of s = calls i.log s (i.view s)

  pub log_call : (s : ℕ) (e : Entry) (r : List Entry) → Spot e r i.log → e.who ≡ s → Spot e (made_by s r) (calls_of s)
  log_call s e r k w = spot_onto e (made_by s r) (i.view s).pending (made_by s i.log) (spot_made_by s e r i.log k w)

  -- a place has one shim
  pub same_who : (e : Entry) (r : List Entry) (s : ℕ) (d : Entry) (q : List Entry) → Spot e r i.log → s < n → Spot d q (calls_of s) → e.place ≡ d.place → e.who ≡ s
  same_who e r s d q k l m x =
      let le = i.global.known_shim e r k in
      let ie = (i.shim e.who le).sent.from e (made_by e.who r) (log_call e.who e r k refl) in
      let id = (i.shim s l).sent.from d q m in
      let c = at_same t d.place (at_moved t x ie.at) id.at in
      sym ie.shim ∙ ap shim_of c.0 ∙ id.shim

  log_apart : (d e : Entry) (q r : List Entry) → Spot d q i.log → Spot e r q → e.place ≡ d.place → ⊥
  log_apart d e q r k m x =
      let ld = i.global.known_shim d q k in
      let w = same_who e r d.who d (made_by d.who q) (spot_behind e d r q i.log m k) ld (log_call d.who d q k refl) x in
      let f = descending_spot (length t) (calls_of d.who) d (made_by d.who q) (i.shim d.who ld).sent.descending (log_call d.who d q k refl) in
      omega (arith, descending_low d.place (made_by d.who q) f e (spot_member e (made_by d.who r) (made_by d.who q) (spot_made_by d.who e r q m w)), x)

  -- a call that was sent up was not answered at once
  sends_word : (c : Call) (w : ℕ) → sends c (Ok (Value w)) ≡ true → (s x g : ℕ) → c ≡ Load s x g → ⊥
  sends_word c w h s x g k = false≢true (let y : sends (Load s x g) (Ok (Value w)) ≡ true = rw k at h in y)

  not_hit : (s : ℕ) (d : Entry) (q : List Entry) → s < n → Spot d q (calls_of s) → (h : Hit) → Member h i.hits → h.place ≡ d.place → ⊥
  not_hit s d q l m h k x =
      let id = (i.shim s l).sent.from d q m in
      let ih = i.global.hit_from h k in
      let c = at_same t d.place id.at (at_moved t x ih.at) in
      sends_word id.call h.word (rw c.1 at id.sends_it) h.who h.line ih.strength c.0

  no_hit : (p : ℕ) → ((h : Hit) → Member h i.hits → h.place ≡ p → ⊥) → find_hit p i.hits ≡ 0
  no_hit p f = look_none (λ (h : Hit). h.place) (λ (h : Hit) r. length h.seen) p i.hits f

  pub key_log : (e : Entry) (r : List Entry) (p : ℕ) → Spot e r i.log → e.place ≡ p → key p ≡ call_key (length r)
  key_log e r p k x =
      let h = not_hit e.who e (made_by e.who r) (i.global.known_shim e r k) (log_call e.who e r k refl) in
      rw (← x) (rw (no_hit e.place h, look_spot (λ (e : Entry). e.place) (λ (e : Entry) r. length r) i.log log_apart e r k))

  pending_high : (s : ℕ) → s < n → (e d : Entry) → Member e (i.view s).pending → Member d (made_by s i.log) → d.place < e.place
  pending_high s l e d m k =
      let f = (i.shim s l).sent.descending in
      let g = descending_onto (length t) (i.view s).pending (made_by s i.log) f in
      let a = descending_ascending (length t) (i.view s).pending (made_by s i.log) f in
      omega (arith, ascending_low (bound (made_by s i.log)) (i.view s).pending a e m, bound_low g.0 (made_by s i.log) g.1 d k)

  pub key_pending : (s : ℕ) → s < n → (e : Entry) (p : ℕ) → Member e (i.view s).pending → e.place ≡ p → key p ≡ call_key (length i.log)
  key_pending s l e p m x =
      let q = member_spot e (calls_of s) (onto_member e (i.view s).pending (made_by s i.log) (inl m)) in
      rw (← x) (rw (no_hit e.place (not_hit s e q.0 l q.1), look_none (λ (e : Entry). e.place) (λ (e : Entry) r. length r) e.place i.log (λ d k y. off d k y q)))
    where
      off : (d : Entry) → Member d i.log → d.place ≡ e.place → (r : List Entry) × Spot e r (calls_of s) → ⊥
      off d k x q =
          let y = member_spot d i.log k in
          let w = same_who d y.0 s e q.0 y.1 l q.1 x in
          omega (arith, pending_high s l e d m (spot_member d (made_by s y.0) (made_by s i.log) (spot_made_by s d y.0 i.log y.1 w)), x)

  pub key_hit : (h : Hit) (p : ℕ) → Member h i.hits → h.place ≡ p → key p ≡ hit_key (length h.seen)
  key_hit h p m x =
      let k = member_spot h i.hits m in
      rw (← x) (rw (look_spot (λ (h : Hit). h.place) (λ (h : Hit) r. length h.seen) i.hits apart h k.0 k.1))
    where
      apart : (d e : Hit) (q r : List Hit) → Spot d q i.hits → Spot e r q → e.place ≡ d.place → ⊥
      apart d e q r y z w = omega (arith, (i.global.hit_rise d e q y (spot_member e r q z)).0)

  -- ## a call that was sent up is in the log or still on its lane

  pub data Status (s : ℕ) (e : Entry) : Type 0 where
    performed : (r : List Entry) → Spot e r i.log → e.who ≡ s → Status s e
    waiting : Member e (i.view s).pending → Status s e

  pub status : (s : ℕ) (e : Entry) → Member e (calls_of s) → Status s e
  status s e m = go (member_onto e (i.view s).pending (made_by s i.log) m)
    where
      go : Member e (i.view s).pending ⊎ Member e (made_by s i.log) → Status s e
      go (inl k) = waiting k
      go (inr k) = let y = member_made_by s e i.log k in performed y.older y.spot y.who_is

  -- the keys of a shim's calls that were sent up rise with their places
  pub own_order : (s : ℕ) → s < n → (e d : Entry) (p q : ℕ) → Member e (calls_of s) → Member d (calls_of s) → e.place ≡ p → d.place ≡ q → p < q → Lex key p q
  own_order s l e d p q me md pe pd h₀ = rw (← pe, ← pd) (go (rw (pe, pd) h₀) (status s e me) (status s d md))
    where
      go : e.place < d.place → Status s e → Status s d → Lex key e.place d.place
      go h (performed r k w) (performed q m u) = cases (cases_order (length r) (length q))
        where
          cases : Compared (length r) (length q) → Lex key e.place d.place
          cases (inl x) = absurd (omega (arith, ap (λ (y : Entry). y.place) (spot_depth e d r q i.log k m x)))
          cases (inr (inl x)) = inl (omega (arith, key_log e r e.place k refl, key_log d q d.place m refl))
          cases (inr (inr x)) =
              let f = descending_spot (length t) (calls_of s) e (made_by s r) (i.shim s l).sent.descending (log_call s e r k w) in
              let y = spot_made_by s d q r (spot_deeper d e q r i.log m k x) u in
              absurd (omega (arith, descending_low e.place (made_by s r) f d (spot_member d (made_by s q) (made_by s r) y)))
      go h (performed r k w) (waiting m) = inl (omega (arith, key_log e r e.place k refl, key_pending s l d d.place m refl, spot_short e r i.log k))
      go h (waiting k) (performed q m u) = absurd (omega (arith, pending_high s l e d k (spot_member d (made_by s q) (made_by s i.log) (spot_made_by s d q i.log m u))))
      go h (waiting k) (waiting m) = inr (key_pending s l e e.place k refl ∙ sym (key_pending s l d d.place m refl), h)
