-- Every run has a common order: the places that stand in it, sorted by their keys.
use Rattle.std.proofs.Common.{◌≡◌, ℕ, ◌<◌, ◌≤◌, ◌⊎◌, List, [], ◌∷◌, length, Ok, sym, refl, ap, ◌∙◌, subst, inl, inr, arith}
use mathlib.Core.Bool.{false≢true}
use mathlib.Core.Option.{some}
use Rattle.std.proofs.lemmas.Bool.{cases_eq, cases_order}
use Rattle.std.specs.Prelude.{Contains, ⊤}
use Rattle.order.specs.Common.{Load, Up, Value, Trace, At, shim_of, sends, performs, count, Performs, Performed, HubBefore, Stored, Gave, at_once, later, Stands, a_store, a_load, a_fence}
use Rattle.order.specs.Common.{Before, LastWord, EveryStore, Sees, IsWeakStore, MayPrecede, CommonOrder}
use Rattle.order.proofs.Machine.{Read, Board, wait_after, copy, end_of, OrderStands}
use Rattle.order.proofs.Lists.{Compared, Member, Spot, spot_member, member_spot, spot_short, spot_depth, spot_deeper, spot_behind, Suffix, suffix_short, suffix_spot, suffix_deep}
use Rattle.order.proofs.Lists.{onto}
use Rattle.order.proofs.Entries.{Entry, acts, requests, made_by}
use Rattle.order.proofs.Replay.{replay, is_ready, Awaited}
use Rattle.order.proofs.View.{hub_word, hub_stamp, hub_shares, hub_view, all_silent}
use Rattle.order.proofs.Sort.{Lex, lex_before, before_lex, rising_once, member_contained, contained_member}
use Rattle.order.proofs.Traces.{at_moved, tally, of_shim, tally_less}
use Rattle.order.proofs.Writes.{EntryWrites, read_writes_not, copy_view, WordFrom, last_write}
use Rattle.order.proofs.Hits.{Hit, OwnStore, HubStore, HitOk}
use Rattle.order.proofs.Invariant.{Invariant, invariant}
use Rattle.order.proofs.Keys.{Placed, call_key, hit_key, key, calls_of, log_call, key_log, key_pending, key_hit, Status, performed, waiting, status, own_order}
use Rattle.order.proofs.Members.{the_order, order_rising, StoreAt, store_at, EntryStores, call_stores, log_stores, stores_writes, ReadAt, read_at, fence_at, hit_at}
use Rattle.order.proofs.Members.{order_only, order_all}

module _ {n : ℕ} {t : Trace} {b : Board} (i : Invariant n t b) where
  abbrev o : List ℕ
  o = the_order i

  by_keys : (p q : ℕ) → Member p o → Member q o → Lex (key i) p q → Before o p q
  by_keys p q mp mq h = lex_before (key i) o (order_rising i) p q mp mq h

  keys_of : (p q : ℕ) → Before o p q → Lex (key i) p q
  keys_of p q h = before_lex (key i) o (order_rising i) p q h.0 h.1 h.2 h.3 h.4

  -- ## the hub's order

  pub record PerformedAt (u p : ℕ) : Type 0 where
    pub entry : Entry
    pub older : List Entry
    pub spot : Spot entry older i.log
    pub place_is : entry.place ≡ p
    pub rank : tally performs t u ≡ length older

  -- the call that an up performs, by the counts of the trace, is the one that the log has for it: both are at the same rank among their shim's calls
  performed_at : (u p : ℕ) → Performs t u p → PerformedAt u p
  performed_at u p h =
      let w = i.global.matches.into u h.shim h.answer h.up_at in
      finish w.entry w.older w.spot (w.who_is ∙ sym h.own) (rw h.own w.own_rank) w.rank
    where
      finish : (e : Entry) (r : List Entry) → Spot e r i.log → e.who ≡ shim_of h.call → tally (of_shim performs (shim_of h.call)) t u ≡ length (made_by (shim_of h.call) r)
          → tally performs t u ≡ length r → PerformedAt u p
      finish e r k w own_rank rank =
          let s = shim_of h.call in
          let l : shim_of h.call < n = rw w at (i.global.known_shim e r k) in
          let q = (i.shim s l).sent.into p h.call h.outcome h.at h.is_sent refl in
          let f = (i.shim s l).sent.from q.entry q.older q.spot in
          let c : tally (of_shim sends s) t p ≡ length q.older = subst (λ (y : ℕ). tally (of_shim sends s) t y ≡ length q.older) q.place_is f.own_rank in
          let ranks : count performs s t u ≡ count sends s t p = rw h.own h.same_rank in
          let x : length (made_by s r) ≡ length q.older = sym own_rank ∙ ranks ∙ c in
          let same : e ≡ q.entry = spot_depth e q.entry (made_by s r) q.older (calls_of i s) (log_call i s e r k w) q.spot x in
          record { entry = e; older = r; spot = k; place_is = ap (λ (y : Entry). y.place) same ∙ q.place_is; rank = rank }

  log_performed : (e : Entry) (r : List Entry) → Spot e r i.log → Performed t e.place
  log_performed e r k =
      let l = i.global.known_shim e r k in
      let u = i.global.matches.from e r k in
      let f = (i.shim e.who l).sent.from e (made_by e.who r) (log_call i e.who e r k refl) in (
        u.up,
        record {
          shim = e.who;
          answer = u.answer;
          call = f.call;
          outcome = f.outcome;
          up_at = u.at;
          at = f.at;
          is_sent = f.sends_it;
          own = f.shim;
          same_rank = u.own_rank ∙ sym f.own_rank;
        },
      )

  as_hub : (p q : ℕ) → Contains o p → Contains o q → HubBefore t p q → Before o p q
  as_hub p q ip iq (u, w, hp, hq, l) =
      let a = performed_at u p hp in
      let c = performed_at w q hq in
      let m = tally_less performs t u w (Up hp.shim) (Ok hp.answer) hp.up_at refl l in
      let ka = key_log i a.entry a.older p a.spot a.place_is in
      let kc = key_log i c.entry c.older q c.spot c.place_is in
      by_keys p q (contained_member o p ip) (contained_member o q iq) (inl (omega (arith, ka, kc, a.rank, c.rank, m)))

  unperformed_last : (p q s x w : ℕ) → Contains o p → Performed t p → Stored t q s x w → ¬ Performed t q → Before o p q
  unperformed_last p q s x w ip (u, hp) h not_performed =
      let a = performed_at u p hp in
      let c = store_at i q s x w h in
      go c (key_log i a.entry a.older p a.spot a.place_is) (spot_short a.entry a.older i.log a.spot) (status i s c.entry c.member)
    where
      go : (c : StoreAt i q s x) {r : ℕ} → key i p ≡ call_key r → r < length i.log → Status i s c.entry → Before o p q
      go c k l (performed r m w) = absurd (not_performed (subst (Performed t) c.place_is (log_performed c.entry r m)))
      go c k l (waiting m) =
          by_keys p q (contained_member o p ip) c.member_order (inl (omega (arith, k, key_pending i s c.low c.entry q m c.place_is)))

  -- ## a chip's order

  pub data Standing (p s : ℕ) : Type 0 where
    by_hit : (h : Hit) → Member h i.hits → h.place ≡ p → h.who ≡ s → Standing p s
    by_call : (e : Entry) → Member e (calls_of i s) → e.place ≡ p → Awaited e.request ⊎ IsWeakStore t p s → Standing p s

  standing : (p s : ℕ) → Stands t p s → Standing p s × (s < n)
  standing p s (a_store x w h) = let c = store_at i p s x w h in (by_call c.entry c.member c.place_is c.strength, c.low)
  standing p s (a_load x w (at_once g h)) = let c = hit_at i p s x w g h in (by_hit c.was.hit c.was.member c.was.place_is c.was.who_is, c.low)
  standing p s (a_load x w (later g d h l k f)) =
      let c = read_at i p s x w g d h l k f in
      (by_call c.entry c.member c.place_is (inl (λ y. false≢true (ap is_ready (sym (ap wait_after c.request_is) ∙ y)))), c.low)
  standing p s (a_fence h) =
      let c = fence_at i p s h in
      (by_call c.entry c.member c.place_is (inl (λ y. false≢true (ap is_ready (sym (ap wait_after c.request_is) ∙ y)))), c.low)

  hits_order : (h h' : Hit) → Member h i.hits → Member h' i.hits → h.place < h'.place → h.who ≡ h'.who → length h.seen ≤ length h'.seen
  hits_order h h' m m' l w = go (member_spot h i.hits m) (member_spot h' i.hits m')
    where
      go : (r : List Hit) × Spot h r i.hits → (r : List Hit) × Spot h' r i.hits → length h.seen ≤ length h'.seen
      go (r, k) (q, k') = cases (cases_order (length r) (length q))
        where
          cases : Compared (length r) (length q) → length h.seen ≤ length h'.seen
          cases (inl e) = absurd (omega (arith, ap (λ (y : Hit). y.place) (spot_depth h h' r q i.hits k k' e)))
          cases (inr (inl e)) = (i.global.hit_rise h' h q k' (spot_member h r q (spot_deeper h h' r q i.hits k k' e))).1 w
          cases (inr (inr e)) = absurd (omega (arith, (i.global.hit_rise h h' r k (spot_member h' q r (spot_deeper h' h q r i.hits k' k e))).0))

  hit_ok : (h : Hit) (s : ℕ) → Member h i.hits → h.who ≡ s → (l : s < n) → HitOk i.log (calls_of i s) (length (i.view s).heard) h
  hit_ok h s m w l = (i.shim s l).hits_ok h m w

  -- keys rise along a chip's calls, but for a load answered at once after a store that is not SC
  chip_keys : (p q s : ℕ) → s < n → p < q → Standing p s → Standing q s → ¬ MayPrecede t s q p → Lex (key i) p q
  chip_keys p q s l h (by_call e me pe ke) (by_call d md pd kd) np = own_order i s l e d p q me md pe pd h
  chip_keys p q s l h (by_call e me pe (inl ke)) (by_hit d md pd wd) np =
      let ok = hit_ok d s md wd l in
      let y = ok.waited e me (rw (pe, pd) h) ke in
      let k = key_log i e y.0 p (suffix_spot e y.0 d.seen i.log ok.seen_is y.1) pe in
      inl (omega (arith, k, key_hit i d q md pd, spot_short e y.0 d.seen y.1))
  chip_keys p q s l h (by_call e me pe (inr ke)) (by_hit d md pd wd) np =
      let f = i.global.hit_from d md in
      let at : At t q (Load s d.line f.strength) (Ok (Value d.word)) =
      subst (λ (y : ℕ). At t q (Load y d.line f.strength) (Ok (Value d.word))) wd (at_moved t pd f.at) in
      absurd (np ((d.line, f.strength, Ok (Value d.word), at), ke))
  chip_keys p q s l h (by_hit d md pd wd) (by_call e me pe ke) np = go (status i s e me)
    where
      go : Status i s e → Lex (key i) p q
      go (performed r k w) = inl (omega (arith, key_hit i d p md pd, key_log i e r q k pe, (hit_ok d s md wd l).later e r k (rw (pe, pd) h)))
      go (waiting m) = inl (omega (arith, key_hit i d p md pd, key_pending i s l e q m pe, suffix_short d.seen i.log (hit_ok d s md wd l).seen_is))
  chip_keys p q s l h (by_hit d md pd wd) (by_hit e me pe we) np =
      go (key_hit i d p md pd) (key_hit i e q me pe) (hits_order d e md me (rw (pe, pd) h) (wd ∙ sym we)) (cases_order (length d.seen) (length e.seen))
    where
      go : {x z : ℕ} → key i p ≡ hit_key x → key i q ≡ hit_key z → x ≤ z → Compared x z → Lex (key i) p q
      go a c y (inl k) = inr (omega arith, h)
      go a c y (inr (inl k)) = inl (omega arith)
      go a c y (inr (inr k)) = absurd (omega arith)

  as_chip : (p q s : ℕ) → Stands t p s → Stands t q s → p < q → ¬ MayPrecede t s q p → Before o p q
  as_chip p q s cp cq h np =
      let a = standing p s cp in
      by_keys p q (order_all i p s cp) (order_all i q s cq) (chip_keys p q s a.1 h a.0 (standing q s cq).0 np)

  -- ## values

  -- where the stores to line x in P are those of a part p of the log, the last of them wrote the hub's word after p
  last_in : (P : ℕ → ℕ → Type 0) (x w : ℕ) (p : List Entry) → ((e : Entry) (r : List Entry) → Spot e r p → Spot e r i.log) → w ≡ hub_word x p
      → ((e : Entry) (r : List Entry) (v : ℕ) → Spot e r p → EntryWrites e x v → P e.place e.who)
      → ((k s v : ℕ) → Stored t k s x v → P k s → Placed p k)
      → LastWord t o P x w
  last_in P x w p sub e visible covered = go (last_write x p)
    where
      go : WordFrom x p → LastWord t o P x w
      go (inr h) = inr (none, e ∙ h.1)
        where
          none : (k s v : ℕ) → Stored t k s x v → P k s → ⊥
          none k s u y pk =
              let d = covered k s u y pk in
              let v = stores_writes i k s x u y d.entry d.older (sub d.entry d.older d.spot) d.place_is in
              h.0 d.entry d.older v.0 d.spot v.1
      go (inl h) = inl (h.entry.place, h.entry.who, rw e st.stored, visible h.entry h.older (hub_word x p) h.spot h.writes, others)
        where
          spot : Spot h.entry h.older i.log
          spot = sub h.entry h.older h.spot

          st : EntryStores i h.entry.who x (hub_word x p) h.entry
          st = log_stores i h.entry h.older x (hub_word x p) spot h.writes

          others : (k s v : ℕ) → Stored t k s x v → P k s → k ≡ h.entry.place ⊎ Before o k h.entry.place
          others k s u y pk = compare (covered k s u y pk)
            where
              compare : Placed p k → k ≡ h.entry.place ⊎ Before o k h.entry.place
              compare d = cases (cases_order (length d.older) (length h.older))
                where
                  dl : Spot d.entry d.older i.log
                  dl = sub d.entry d.older d.spot

                  cases : Compared (length d.older) (length h.older) → k ≡ h.entry.place ⊎ Before o k h.entry.place
                  cases (inl c) = inl (sym d.place_is ∙ ap (λ (u : Entry). u.place) (spot_depth d.entry h.entry d.older h.older i.log dl spot c))
                  cases (inr (inl c)) =
                      let kd = key_log i d.entry d.older k dl d.place_is in
                      let kh = key_log i h.entry h.older h.entry.place spot refl in
                      inr (by_keys k h.entry.place (store_at i k s x u y).member_order st.member_order (inl (omega (arith, kd, kh))))
                  cases (inr (inr c)) =
                      let v = stores_writes i k s x u y d.entry d.older dl d.place_is in
                      absurd (omega (arith, h.latest d.entry d.older v.0 d.spot v.1))

  -- ### no message waits

  quiet_pending : (end_of n b).Quiet → (s : ℕ) → s < n → (i.view s).pending ≡ []
  quiet_pending quiet s l = go (i.view s).pending (sym (i.shim s l).follows.up_is ∙ (quiet s l).0)
    where
      go : (p : List Entry) → requests p ≡ [] → p ≡ []
      go [] h = refl
      go (e ∷ p) h = let z : ◌≡◌ {A = ℕ} 0 1 = cc in absurd (omega arith)

  quiet_last : (end_of n b).Quiet → (x w : ℕ) → w ≡ hub_word x i.log → LastWord t o EveryStore x w
  quiet_last quiet x w e = last_in EveryStore x w i.log (λ d r k. k) e (λ d r v k h. tt) covered
    where
      covered : (k s v : ℕ) → Stored t k s x v → ⊤ → Placed i.log k
      covered k s u h y = let c = store_at i k s x u h in go c (status i s c.entry c.member)
        where
          go : (c : StoreAt i k s x) → Status i s c.entry → Placed i.log k
          go c (performed r m w) = record { entry = c.entry; older = r; spot = m; place_is = c.place_is }
          go c (waiting m) = absurd (let y : Member c.entry [] = rw (quiet_pending quiet s c.low) at m in y)

  words : (end_of n b).Quiet → (x w : ℕ) → b.word x ≡ w → LastWord t o EveryStore x w
  words quiet x w h = quiet_last quiet x w (sym h ∙ i.hub.word x)

  copies : (end_of n b).Quiet → (s x w : ℕ) → (s < n) × copy (b.line s x) ≡ some w → LastWord t o EveryStore x w
  copies quiet s x w (l, c) =
      let f = (i.shim s l).follows in
      let v = i.view s in
      let h = all_silent s v.unheard v.heard v.pending (b.wait s) (b.line s) f.holds (sym f.down_is ∙ (quiet s l).1) in
      quiet_last quiet x w (done (onto v.unheard v.heard) v.pending (quiet_pending quiet s l) f.log_is (h.line x))
    where
      done : (p q : List Entry) → q ≡ [] → p ≡ i.log → b.line s x ≡ replay (acts x q) (hub_view s x p) → w ≡ hub_word x i.log
      done p q a e k =
          let k' : b.line s x ≡ hub_view s x i.log = rw (a, e) at k in
          copy_view (hub_shares s i.log x) (hub_word x i.log) (hub_stamp x i.log) w (sym (ap copy k') ∙ c)

  -- ### loads

  -- an entry of a part p of the log stands before a load with a key above those of p
  visible_in : (j s x : ℕ) (p : List Entry) → Member j o → ((e : Entry) (r : List Entry) → Spot e r p → Spot e r i.log) → ((r : ℕ) → r < length p → call_key r < key i j)
      → (e : Entry) (r : List Entry) (v : ℕ) → Spot e r p → EntryWrites e x v → Sees o j s e.place e.who
  visible_in j s x p mj sub above e r v k wr =
      let m = sub e r k in
      inl (by_keys e.place j (log_stores i e r x v m wr).member_order mj (inl (omega (arith, key_log i e r e.place m refl, above (length r) (spot_short e r p k)))))

  -- a store with a key below that of a load performed after r is in r
  covered_by_read : (k s x j : ℕ) (e : Entry) (r : List Entry) (y z : ℕ) → Spot e r i.log → e.request ≡ Read y z → key i j ≡ call_key (length r)
      → StoreAt i k s x → Lex (key i) k j → Placed r k
  covered_by_read k s x j e r y z m read kj c lex = go (status i s c.entry c.member) lex
    where
      kc : (q : List Entry) → Spot c.entry q i.log → key i k ≡ call_key (length q)
      kc q h = key_log i c.entry q k h c.place_is

      kp : Member c.entry (i.view s).pending → key i k ≡ call_key (length i.log)
      kp h = key_pending i s c.low c.entry k h c.place_is

      go : Status i s c.entry → Lex (key i) k j → Placed r k
      go (performed q h u) (inl a) = record { entry = c.entry; older = q; spot = spot_deeper c.entry e q r i.log h m (omega (arith, kc q h, kj)); place_is = c.place_is }
      go (performed q h u) (inr a) =
          let w = spot_depth c.entry e q r i.log h m (omega (arith, kc q h, kj, a.0)) in
          absurd (read_writes_not c.entry y z x c.word (ap (λ (u : Entry). u.request) w ∙ read) c.writes)
      go (waiting h) (inl a) = absurd (omega (arith, kp h, kj, spot_short e r i.log m))
      go (waiting h) (inr a) = absurd (omega (arith, kp h, kj, spot_short e r i.log m, a.0))

  late_load : (j s x w : ℕ) → ReadAt i j s x w → LastWord t o (Sees o j s) x w
  late_load j s x w c = last_in (Sees o j s) x w c.older sub c.word_is (visible_in j s x c.older c.member_order sub (λ r l. omega (arith, kj))) covered
    where
      kj : key i j ≡ call_key (length c.older)
      kj = key_log i c.entry c.older j c.spot c.place_is

      sub : (d : Entry) (q : List Entry) → Spot d q c.older → Spot d q i.log
      sub d q k = spot_behind d c.entry q c.older i.log k c.spot

      reads : (k s' : ℕ) → StoreAt i k s' x → Lex (key i) k j → Placed c.older k
      reads k s' a lex = covered_by_read k s' x j c.entry c.older x c.strength c.spot c.request_is kj a lex

      covered : (k s' v : ℕ) → Stored t k s' x v → Sees o j s k s' → Placed c.older k
      covered k s' u h (inl y) = reads k s' (store_at i k s' x u h) (keys_of k j y)
      covered k s' u h (inr (own, l)) =
          let a = store_at i k s x u (rw own at h) in
          reads k s a (own_order i s c.low a.entry c.entry k j a.member c.member a.place_is c.place_is l)

  -- a store that stands before a hit is in what the hit has seen
  covered_by_hit : (k s x : ℕ) (h : Hit) → Member h i.hits → Suffix h.seen i.log → (c : StoreAt i k s x) → Lex (key i) k h.place
      → (q : List Entry) × (Spot c.entry q i.log × (length q < length h.seen))
  covered_by_hit k s x h m tl c lex = go (status i s c.entry c.member) lex
    where
      kj : key i h.place ≡ hit_key (length h.seen)
      kj = key_hit i h h.place m refl

      go : Status i s c.entry → Lex (key i) k h.place → (q : List Entry) × (Spot c.entry q i.log × (length q < length h.seen))
      go (performed q y u) (inl a) = (q, (y, omega (arith, key_log i c.entry q k y c.place_is, kj)))
      go (performed q y u) (inr a) = absurd (omega (arith, key_log i c.entry q k y c.place_is, kj, a.0))
      go (waiting y) (inl a) = absurd (omega (arith, key_pending i s c.low c.entry k y c.place_is, kj, suffix_short h.seen i.log tl))
      go (waiting y) (inr a) = absurd (omega (arith, key_pending i s c.low c.entry k y c.place_is, kj, suffix_short h.seen i.log tl, a.0))

  -- a load answered at once reads its chip's own last store, where the chip has not heard of it yet, or else the last store that it has heard of
  hit_load : (h : Hit) (s : ℕ) → s < n → Member h i.hits → h.who ≡ s → Member h.place o → LastWord t o (Sees o h.place s) h.line h.word
  hit_load h s l m w mo = go (hit_ok h s m w l).value
    where
      tl : Suffix h.seen i.log
      tl = (hit_ok h s m w l).seen_is

      kj : key i h.place ≡ hit_key (length h.seen)
      kj = key_hit i h h.place m refl

      hub : HubStore (calls_of i s) h → LastWord t o (Sees o h.place s) h.line h.word
      hub y =
          let visible = visible_in h.place s h.line h.seen mo sub (λ r l. omega (arith, kj)) in
          last_in (Sees o h.place s) h.line h.word h.seen sub y.word_is visible covered
        where
          sub : (d : Entry) (q : List Entry) → Spot d q h.seen → Spot d q i.log
          sub d q k = suffix_spot d q h.seen i.log tl k

          covered : (k s' v : ℕ) → Stored t k s' h.line v → Sees o h.place s k s' → Placed h.seen k
          covered k s' u a (inl z) =
              let c = store_at i k s' h.line u a in
              let f = covered_by_hit k s' h.line h m tl c (keys_of k h.place z) in
              record { entry = c.entry; older = f.0; spot = suffix_deep c.entry f.0 h.seen i.log tl f.1.0 f.1.1; place_is = c.place_is }
          covered k s' u a (inr (own, z)) =
              let c = store_at i k s h.line u (rw own at a) in
              let f = y.heard c.entry c.word c.member (rw c.place_is z) c.writes in
              record { entry = c.entry; older = f.0; spot = f.1; place_is = c.place_is }

      own_store : OwnStore i.log (calls_of i s) h → LastWord t o (Sees o h.place s) h.line h.word
      own_store y = inl (y.entry.place, s, st.stored, inr (refl, y.earlier), others)
        where
          st : EntryStores i s h.line h.word y.entry
          st = let q = member_spot y.entry (calls_of i s) y.member in call_stores i s l y.entry q.0 h.line h.word q.1 y.writes

          far : {p r : ℕ} → key i p ≡ call_key r → r < length h.seen → Status i s y.entry → Lex (key i) p y.entry.place
          far kp lt (performed q k u) = inl (omega (arith, kp, key_log i y.entry q y.entry.place k refl, y.unheard q k))
          far kp lt (waiting k) = inl (omega (arith, kp, key_pending i s l y.entry y.entry.place k refl, suffix_short h.seen i.log tl))

          others : (k s' v : ℕ) → Stored t k s' h.line v → Sees o h.place s k s' → k ≡ y.entry.place ⊎ Before o k y.entry.place
          others k s' u a (inl z) =
              let c = store_at i k s' h.line u a in
              let f = covered_by_hit k s' h.line h m tl c (keys_of k h.place z) in
              let lex = far (key_log i c.entry f.0 k f.1.0 c.place_is) f.1.1 (status i s y.entry y.member) in
              inr (by_keys k y.entry.place c.member_order st.member_order lex)
          others k s' u a (inr (own, z)) =
              let c = store_at i k s h.line u (rw own at a) in
              compare c (y.latest c.entry c.word c.member (rw c.place_is z) c.writes) (cases_eq k y.entry.place)
            where
              compare : (c : StoreAt i k s h.line) → c.entry.place ≤ y.entry.place → (k ≡ y.entry.place) ⊎ (k ≡ y.entry.place → ⊥)
                  → k ≡ y.entry.place ⊎ Before o k y.entry.place
              compare c le (inl e) = inl e
              compare c le (inr ne) =
                  let lt : k < y.entry.place = omega (arith, c.place_is) in
                  let lex = own_order i s l c.entry y.entry k y.entry.place c.member y.member c.place_is refl lt in
                  inr (by_keys k y.entry.place c.member_order st.member_order lex)

      go : OwnStore i.log (calls_of i s) h ⊎ HubStore (calls_of i s) h → LastWord t o (Sees o h.place s) h.line h.word
      go (inl y) = own_store y
      go (inr y) = hub y

  loads : (j s x w : ℕ) → Gave t j s x w → LastWord t o (Sees o j s) x w
  loads j s x w (at_once g h) =
      let c = hit_at i j s x w g h in
      let y = c.was in
      moved y.hit y.place_is y.line_is y.word_is (λ mo. hit_load y.hit s c.low y.member y.who_is mo) c.member_order
    where
      moved : (d : Hit) → d.place ≡ j → d.line ≡ x → d.word ≡ w → (Member d.place o → LastWord t o (Sees o d.place s) d.line d.word) → Member j o
          → LastWord t o (Sees o j s) x w
      moved d p q r f mo = rw (← p, ← q, ← r) (f (rw p mo))
  loads j s x w (later g d h l k f) = late_load j s x w (read_at i j s x w g d h l k f)

  pub common : CommonOrder t (end_of n b) o
  common =
      record {
        once = rising_once (key i) o (order_rising i);
        only = λ p m. order_only i p (contained_member o p m);
        all = λ p s c. member_contained o p (order_all i p s c);
        as_hub = as_hub;
        unperformed_last = unperformed_last;
        as_chip = as_chip;
        loads = loads;
        words = words;
        copies = copies;
      }

pub order_stands : OrderStands
order_stands n t b r = (the_order (invariant n r), common (invariant n r))
