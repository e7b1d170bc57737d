-- The places that stand in the order, and for each the entry or the hit that its call is.
use Rattle.std.proofs.Common.{◌≡◌, ℕ, ◌<◌, Bool, true, false, ltb, ◌⊎◌, List, length, is_ok, Some, None, Ok, Err, Option, sym, refl, ap, ◌∙◌, subst, inl, inr, arith}
use mathlib.Core.Bool.{false≢true}
use Rattle.std.specs.Prelude.{slice_get}
use Rattle.std.proofs.lemmas.Bool.{cases_order, cases_eq, eq-eqb, lt-ltb, ltb-true}
use Rattle.rules.specs.declared.strength.Strength.TheVariants.{SeqCst}
use Rattle.rules.specs.Strengths.{strength_number}
use Rattle.order.specs.Common.{Call, Load, Store, Fence, Down, Outcome, Waits, Value, Trace, At, shim_of, sends}
use Rattle.order.specs.Common.{Stored, IsWeakStore, Fenced, at_once, later, Stands, a_store, a_load, a_fence}
use Rattle.order.proofs.Machine.{Write, Read, Sync, ForStore, wait_after, Board}
use Rattle.order.proofs.Lists.{onto, Compared, Member, Spot, spot_member, suffix_spot, member_onto}
use Rattle.order.proofs.Entries.{FoundBy, Entry, made_by, member_made_by}
use Rattle.order.proofs.Replay.{is_ready, Awaited}
use Rattle.order.proofs.View.{hub_word}
use Rattle.order.proofs.Steps.{unheard_calls, heard_suffix, calls_is}
use Rattle.order.proofs.Sort.{sort, Rising, sort_member, member_sort, sort_rising}
use Rattle.order.proofs.Traces.{at_lt, at_same, at_moved}
use Rattle.order.proofs.Sent.{request_of, IsSent}
use Rattle.order.proofs.Answered.{NextWord, SomeEnd}
use Rattle.order.proofs.Writes.{EntryWrites, write_writes, writes_write}
use Rattle.order.proofs.Invariant.{Invariant, WasHit}
use Rattle.order.proofs.Keys.{find, Placed, find_some, find_member, chosen, chosen_from, chosen_into, chosen_distinct, key, calls_of, log_call}

-- ## which calls stand in the order (last: whether the shim has heard of the call)

abbrev pub stands : Call → Outcome → Bool → Bool
stands (Load s x g) (Ok Waits) h = h
stands (Load s x g) (Ok (Value w)) h = true
stands (Store s x g w) (Ok a) h = true
stands (Fence s g) (Ok Waits) h = h
stands c r h = false

-- only a store sends a write
request_store : (c : Call) (k : Bool) (x g : ℕ) (k' : Bool) (w : ℕ) → request_of c k ≡ Write x g k' w → c ≡ Store (shim_of c) x g w
request_store (Store s y h v) k x g k' w e = let p : y ≡ x = cc in let q : h ≡ g = cc in let r : v ≡ w = cc in rw (p, q, r)
request_store c k x g k' w e = let z : ◌≡◌ {A = ℕ} 0 1 = cc in absurd (omega arith)

module _ {n : ℕ} {t : Trace} {b : Board} (i : Invariant n t b) where
  -- whether shim s has heard of its call at place p
  abbrev pub heard_of : ℕ → ℕ → Bool
  heard_of s p = ltb 0 (find p (i.view s).heard)

  abbrev pub call_stands : Option (Call × Outcome) → ℕ → Bool
  call_stands None p = false
  call_stands (Some e) p = stands e.0 e.1 (heard_of (shim_of e.0) p)

  abbrev pub place_stands : ℕ → Bool
  place_stands p = call_stands (slice_get t p) p

  pub the_order : List ℕ
  the_order = sort (key i) (chosen place_stands (length t))

  pub order_rising : Rising (key i) the_order
  unfolding the_order
  order_rising = sort_rising (key i) (chosen place_stands (length t)) (chosen_distinct place_stands (length t) (key i))

  pub in_order : (p : ℕ) (c : Call) (a : Outcome) → At t p c a → stands c a (heard_of (shim_of c) p) ≡ true → Member p the_order
  unfolding the_order
  in_order p c a h q = sort_member (key i) p (chosen place_stands (length t)) (chosen_into place_stands (length t) p (at_lt t p h) (rw h q))

  -- ## a store

  pub record StoreAt (p s x : ℕ) : Type 0 where
    pub low : s < n
    pub entry : Entry
    pub member : Member entry (calls_of i s)
    pub place_is : entry.place ≡ p
    pub word : ℕ
    pub writes : EntryWrites entry x word
    pub strength : Awaited entry.request ⊎ IsWeakStore t p s
    pub member_order : Member p the_order

  pub store_at : (p s x w : ℕ) → Stored t p s x w → StoreAt p s x
  store_at p s x w (g, a, h) =
      let l = i.global.known p (Store s x g w) (Ok a) h refl in
      let q = (i.shim s l).sent.into p (Store s x g w) (Ok a) h refl refl in
      record {
        low = l;
        entry = q.entry;
        member = spot_member q.entry q.older (calls_of i s) q.spot;
        place_is = q.place_is;
        word = w;
        writes = write_writes q.entry x g w q.synchronise q.request_is;
        strength = weak_or_not q.entry q.synchronise q.request_is (cases_eq g (strength_number SeqCst));
        member_order = in_order p (Store s x g w) (Ok a) h refl;
      }
    where
      weak_or_not : (e : Entry) (k : Bool) → e.request ≡ Write x g k w → (g ≡ strength_number SeqCst) ⊎ (g ≡ strength_number SeqCst → ⊥)
          → Awaited e.request ⊎ IsWeakStore t p s
      weak_or_not e k q (inl z) = inl (λ y. false≢true (ap is_ready (sym (ap wait_after q ∙ sc k z) ∙ y)))
        where
          sc : (k : Bool) → g ≡ strength_number SeqCst → wait_after (Write x g k w) ≡ ForStore x
          sc k z = rw (eq-eqb g (strength_number SeqCst) z)
      weak_or_not e k q (inr z) = inr (x, g, w, a, h, z)

  -- an entry that writes is a store in the trace
  pub record EntryStores (s x w : ℕ) (e : Entry) : Type 0 where
    pub stored : Stored t e.place s x w
    pub member_order : Member e.place the_order

  pub call_stores : (s : ℕ) → s < n → (e : Entry) (q : List Entry) (x w : ℕ) → Spot e q (calls_of i s) → EntryWrites e x w → EntryStores s x w e
  call_stores s l e q x w k wr =
      let h = (i.shim s l).sent.from e q k in
      let y = writes_write x w wr.0 e.request wr.1 in
      let c : h.call ≡ Store (shim_of h.call) x y.0 w = request_store h.call h.synchronise x y.0 wr.0 w (sym h.request_is ∙ y.1) in
      let c' : h.call ≡ Store s x y.0 w = c ∙ ap (λ (u : ℕ). Store u x y.0 w) h.shim in
      finish y.0 h.outcome (subst (λ (u : Call). At t e.place u h.outcome) c' h.at) (subst (λ (u : Call). sends u h.outcome ≡ true) c' h.sends_it)
    where
      finish : (g : ℕ) (r : Outcome) → At t e.place (Store s x g w) r → sends (Store s x g w) r ≡ true → EntryStores s x w e
      finish g (Ok a) h k = record { stored = (g, a, h); member_order = in_order e.place (Store s x g w) (Ok a) h refl }
      finish g (Err r) h k = absurd (false≢true k)

  pub log_stores : (e : Entry) (q : List Entry) (x w : ℕ) → Spot e q i.log → EntryWrites e x w → EntryStores e.who x w e
  log_stores e q x w k wr = call_stores e.who (i.global.known_shim e q k) e (made_by e.who q) x w (log_call i e.who e q k refl) wr

  -- a store that the hub performed is an entry of the log that writes
  pub stores_writes : (p s x w : ℕ) → Stored t p s x w → (d : Entry) (q : List Entry) → Spot d q i.log → d.place ≡ p → (v : ℕ) × EntryWrites d x v
  stores_writes p s x w (g, a, h) d q k e =
      let l = i.global.known_shim d q k in
      let f = (i.shim d.who l).sent.from d (made_by d.who q) (log_call i d.who d q k refl) in
      let c = at_same t p (at_moved t e f.at) h in
      (w, write_writes d x g w f.synchronise (f.request_is ∙ ap (λ (y : Call). request_of y f.synchronise) c.0))

  -- ## a load answered by a down

  pub record ReadAt (p s x w : ℕ) : Type 0 where
    pub low : s < n
    pub entry : Entry
    pub older : List Entry
    pub spot : Spot entry older i.log
    pub member : Member entry (calls_of i s)
    pub place_is : entry.place ≡ p
    pub strength : ℕ
    pub request_is : entry.request ≡ Read x strength
    pub word_is : w ≡ hub_word x older
    pub member_order : Member p the_order

  -- a call of a shim is among those that it has not heard of, or in the part of the log that it has heard of
  heard_entry : (s : ℕ) → s < n → (e : Entry) → Member e (calls_of i s) → (Member e (unheard_calls s (i.view s)) → ⊥) → FoundBy s e (i.view s).heard
  heard_entry s l e m not_unheard =
      let m' : Member e (onto (unheard_calls s (i.view s)) (made_by s (i.view s).heard)) = rw (calls_is i.log s (i.view s) (i.shim s l).follows.log_is) at m in
      go (member_onto e (unheard_calls s (i.view s)) (made_by s (i.view s).heard) m')
    where
      go : Member e (unheard_calls s (i.view s)) ⊎ Member e (made_by s (i.view s).heard) → FoundBy s e (i.view s).heard
      go (inl k) = absurd (not_unheard k)
      go (inr k) = member_made_by s e (i.view s).heard k

  -- the down that answered a load of which the shim has heard
  next_word : (s : ℕ) → s < n → (e : Entry) (r : List Entry) (x g p : ℕ) → Spot e r (i.view s).heard → e.who ≡ s → e.request ≡ Read x g → e.place ≡ p
      → NextWord t p s (hub_word x r)
  next_word s l e r x g p k w q z = subst (λ (y : ℕ). NextWord t y s (hub_word x r)) z ((i.shim s l).answered.loads e r x g k w q)

  found_heard : (s p : ℕ) (e : Entry) → FoundBy s e (i.view s).heard → e.place ≡ p → heard_of s p ≡ true
  found_heard s p e y q = lt-ltb 0 (find p (i.view s).heard) (find_member p (i.view s).heard e (spot_member e y.older (i.view s).heard y.spot) q)

  -- the next down of the shim that answers a word is one
  same_word : (p s w u d : ℕ) → p < d → At t d (Down s) (Ok (Value w)) → ((k v : ℕ) → p < k → k < d → At t k (Down s) (Ok (Value v)) → ⊥) → NextWord t p s u → w ≡ u
  same_word p s w u d l h f k = go (cases_order d k.down)
    where
      go : Compared d k.down → w ≡ u
      go (inl e) = let c = (at_same t d h (at_moved t (sym e) k.at)).1 in let z : Ok (Value w) ≡ Ok (Value u) = c in cc
      go (inr (inl e)) = absurd (k.first d w l e h)
      go (inr (inr e)) = absurd (f k.down u k.later e k.at)

  pub read_at : (p s x w g d : ℕ) → At t p (Load s x g) (Ok Waits) → p < d → At t d (Down s) (Ok (Value w))
      → ((k v : ℕ) → p < k → k < d → At t k (Down s) (Ok (Value v)) → ⊥) → ReadAt p s x w
  read_at p s x w g d h l hd f =
      let lo = i.global.known p (Load s x g) (Ok Waits) h refl in
      let q = (i.shim s lo).sent.into p (Load s x g) (Ok Waits) h refl refl in
      let m = spot_member q.entry q.older (calls_of i s) q.spot in
      let y = heard_entry s lo q.entry m (λ k. (i.shim s lo).answered.no_word q.entry x g k q.request_is d w (rw q.place_is l) hd) in
      record {
        low = lo;
        entry = q.entry;
        older = y.older;
        spot = suffix_spot q.entry y.older (i.view s).heard i.log (heard_suffix i.log (i.view s) (i.shim s lo).follows.log_is) y.spot;
        member = m;
        place_is = q.place_is;
        strength = g;
        request_is = q.request_is;
        word_is = same_word p s w (hub_word x y.older) d l hd f (next_word s lo q.entry y.older x g p y.spot y.who_is q.request_is q.place_is);
        member_order = in_order p (Load s x g) (Ok Waits) h (found_heard s p q.entry y q.place_is);
      }

  -- ## a fence

  pub record FenceAt (p s : ℕ) : Type 0 where
    pub low : s < n
    pub entry : Entry
    pub member : Member entry (calls_of i s)
    pub place_is : entry.place ≡ p
    pub request_is : entry.request ≡ Sync
    pub member_order : Member p the_order

  pub fence_at : (p s : ℕ) → Fenced t p s → FenceAt p s
  fence_at p s (g, d, h, l, hd) =
      let lo = i.global.known p (Fence s g) (Ok Waits) h refl in
      let q = (i.shim s lo).sent.into p (Fence s g) (Ok Waits) h refl refl in
      let m = spot_member q.entry q.older (calls_of i s) q.spot in
      let y = heard_entry s lo q.entry m (λ k. (i.shim s lo).answered.no_end q.entry k q.request_is d (rw q.place_is l) hd) in
      record {
        low = lo;
        entry = q.entry;
        member = m;
        place_is = q.place_is;
        request_is = q.request_is;
        member_order = in_order p (Fence s g) (Ok Waits) h (found_heard s p q.entry y q.place_is);
      }

  -- ## a load answered at once

  pub record HitAt (p s x w : ℕ) : Type 0 where
    pub low : s < n
    pub was : WasHit p s x w i.hits
    pub member_order : Member p the_order

  pub hit_at : (p s x w g : ℕ) → At t p (Load s x g) (Ok (Value w)) → HitAt p s x w
  hit_at p s x w g h =
      record { low = i.global.known p (Load s x g) (Ok (Value w)) h refl; was = i.global.hit_into p s x g w h; member_order = in_order p (Load s x g) (Ok (Value w)) h refl }

  -- ## only these stand in the order

  -- an entry that shim s has heard of, at a place where s made the call c
  pub record HeardAt (p : ℕ) (c : Call) : Type 0 where
    pub low : shim_of c < n
    pub entry : Entry
    pub older : List Entry
    pub spot : Spot entry older (i.view (shim_of c)).heard
    pub who_is : entry.who ≡ shim_of c
    pub place_is : entry.place ≡ p
    pub synchronise : Bool
    pub request_is : entry.request ≡ request_of c synchronise

  heard_at : (p : ℕ) (c : Call) (a : Outcome) → At t p c a → is_ok a ≡ true → heard_of (shim_of c) p ≡ true → HeardAt p c
  heard_at p c a h ok q =
      let lo = i.global.known p c a h ok in
      let y = find_some p (i.view (shim_of c)).heard (ltb-true 0 (find p (i.view (shim_of c)).heard) q) in
      let v = i.view (shim_of c) in
      let k = suffix_spot y.entry y.older v.heard i.log (heard_suffix i.log v (i.shim (shim_of c) lo).follows.log_is) y.spot in
      let s = y.entry.who in
      finish lo y ((i.shim s (i.global.known_shim y.entry y.older k)).sent.from y.entry (made_by s y.older) (log_call i s y.entry y.older k refl))
    where
      finish : shim_of c < n → (y : Placed (i.view (shim_of c)).heard p) → IsSent t y.entry.who y.entry (made_by y.entry.who y.older) → HeardAt p c
      finish lo y u =
          let e : u.call ≡ c = (at_same t p (at_moved t y.place_is u.at) h).0 in
          record {
            low = lo;
            entry = y.entry;
            older = y.older;
            spot = y.spot;
            who_is = sym u.shim ∙ ap shim_of e;
            place_is = y.place_is;
            synchronise = u.synchronise;
            request_is = u.request_is ∙ ap (λ (r : Call). request_of r u.synchronise) e;
          }

  stands_is : (p : ℕ) (c : Call) (a : Outcome) → At t p c a → stands c a (heard_of (shim_of c) p) ≡ true → (s : ℕ) × Stands t p s
  stands_is p (Load s x g) (Ok Waits) h q =
      let y = heard_at p (Load s x g) (Ok Waits) h refl q in
      let w = next_word s y.low y.entry y.older x g p y.spot y.who_is y.request_is y.place_is in
      (s, a_load x (hub_word x y.older) (later g w.down h w.later w.at w.first))
  stands_is p (Load s x g) (Ok (Value w)) h q = (s, a_load x w (at_once g h))
  stands_is p (Store s x g w) (Ok a) h q = (s, a_store x w (g, a, h))
  stands_is p (Fence s g) (Ok Waits) h q =
      let y = heard_at p (Fence s g) (Ok Waits) h refl q in
      let w = subst (λ (r : ℕ). SomeEnd t r s) y.place_is ((i.shim s y.low).answered.fences y.entry y.older y.spot y.who_is y.request_is) in
      (s, a_fence (g, w.down, h, w.later, w.at))
  stands_is p c a h q = absurd (false≢true q)

  pub order_only : (p : ℕ) → Member p the_order → (s : ℕ) × Stands t p s
  unfolding the_order
  order_only p m = go (slice_get t p) refl (chosen_from place_stands (length t) p (member_sort (key i) p (chosen place_stands (length t)) m)).1
    where
      go : (e : Option (Call × Outcome)) → slice_get t p ≡ e → call_stands e p ≡ true → (s : ℕ) × Stands t p s
      go None h k = absurd (false≢true k)
      go (Some e) h k = stands_is p e.0 e.1 h k

  pub order_all : (p s : ℕ) → Stands t p s → Member p the_order
  order_all p s (a_store x g h) = (store_at p s x g h).member_order
  order_all p s (a_load x w (at_once g h)) = (hit_at p s x w g h).member_order
  order_all p s (a_load x w (later g d h l k f)) = (read_at p s x w g d h l k f).member_order
  order_all p s (a_fence h) = (fence_at p s h).member_order
