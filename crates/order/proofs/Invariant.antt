-- Every run has a history: a log of the calls that the hub performed, how far each shim has heard of it, and the loads answered at once.
use Rattle.std.proofs.Common.{◌≡◌, ℕ, ◌<◌, ◌≤◌, Bool, true, false, cond, eqb, ◌≢◌, ◌⊎◌, List, [], ◌∷◌, ◌++◌, length, is_ok, Ok, Err, sym, refl, ap, ◌∙◌, subst, inl, inr, append_assoc, arith}
use mathlib.Core.Bool.{false≢true}
use mathlib.Core.Option.{some}
use Rattle.std.proofs.lemmas.Bool.{and_right, eqb-true, eqb-false, eq-eqb, ne_eqb, and_left}
use Rattle.rules.specs.declared.refusal.Refusal.{Refusal}
use Rattle.rules.specs.declared.kind.Kind.{Kind}
use Rattle.order.specs.Common.{Call, Load, Store, Fence, Evict, Up, Down, Outcome, Done, Waits, Value, Ended, Handled, Trace, At, shim_of, sends, performs}
use Rattle.order.proofs.Machine.{Request, Write, Read, Sync, Drop, act, Notice, NotHeld, Settled, Ready, sc, copy, unheld, wait_after, says, request_kind, Board}
use Rattle.order.proofs.Machine.{SameShim, Same, Sends, HubPerforms, Hears, Step, refused, hit, miss, stores, fences, evicts, ups, downs, Fresh, Runs, none_yet, one_more, alike}
use Rattle.order.proofs.Lists.{Member, member_append, Spot, spot_member, onto, onto_snoc, onto_member}
use Rattle.order.proofs.Entries.{Entry, requests, made_by, made_by_other, spot_made_by, AllBy, descending_low}
use Rattle.order.proofs.Replay.{settled, allowed, is_ready}
use Rattle.order.proofs.View.{ready_each, word_makes_ready, end_makes_ready}
use Rattle.order.proofs.Steps.{unheard_own, Position, unheard_calls, calls, calls_is, Follows, HubIs, follows_same, hub_same, with_call, follows_sends, with_event, hub_performs}
use Rattle.order.proofs.Steps.{follows_other, follows_own, Moved, follows_hears}
use Rattle.order.proofs.Traces.{then, at_old, at_new, at_lt, OldOrLast, at_snoc, of_shim}
use Rattle.order.proofs.Sent.{request_of, Sent, sent_still, sent_more, LogMatches, log_still, log_more}
use Rattle.order.proofs.Answered.{NotAnswer, Answered, answered_still, answered_down}
use Rattle.order.proofs.Hits.{Hit, HitOk, hit_sent, hit_performed, hit_new}

-- what holds of one shim
pub record ShimInvariant (t : Trace) (b : Board) (log : List Entry) (hits : List Hit) (s : ℕ) (v : Position) : Type 0 where
  pub follows : Follows b log s v
  pub sent : Sent t s (calls log s v)
  pub answered : Answered t s v.heard (unheard_calls s v)
  pub hits_ok : (h : Hit) → Member h hits → h.who ≡ s → HitOk log (calls log s v) (length v.heard) h

-- the load of line x that shim s made at place i was answered at once with w
pub record WasHit (i s x w : ℕ) (hits : List Hit) : Type 0 where
  pub hit : Hit
  pub member : Member hit hits
  pub place_is : hit.place ≡ i
  pub who_is : hit.who ≡ s
  pub line_is : hit.line ≡ x
  pub word_is : hit.word ≡ w

-- it is in the trace
pub record IsHit (t : Trace) (h : Hit) : Type 0 where
  pub strength : ℕ
  pub at : At t h.place (Load h.who h.line strength) (Ok (Value h.word))

-- what holds of the log and the loads answered at once (newest first)
pub record GlobalInvariant (n : ℕ) (t : Trace) (log : List Entry) (hits : List Hit) : Type 0 where
  pub known_shim : (e : Entry) (r : List Entry) → Spot e r log → e.who < n
  pub matches : LogMatches t log
  -- the hits are the loads answered at once; a shim's later hit has seen no less of the log
  pub hit_from : (h : Hit) → Member h hits → IsHit t h
  pub hit_into : (i s x g w : ℕ) → At t i (Load s x g) (Ok (Value w)) → WasHit i s x w hits
  pub hit_rise : (h h' : Hit) (r : List Hit) → Spot h r hits → Member h' r → (h'.place < h.place) × (h'.who ≡ h.who → length h'.seen ≤ length h.seen)
  -- accepted calls are of shims of the board
  pub known : (i : ℕ) (c : Call) (a : Outcome) → At t i c a → is_ok a ≡ true → shim_of c < n

pub record Invariant (n : ℕ) (t : Trace) (b : Board) : Type 0 where
  pub log : List Entry
  pub view : ℕ → Position
  pub hits : List Hit
  pub hub : HubIs b log
  pub global : GlobalInvariant n t log hits
  pub shim : (s : ℕ) → s < n → ShimInvariant t b log hits s (view s)

-- a table with one value changed, and what holds of all its values
module _ {A : Type 0} where
  abbrev pub put : (ℕ → A) → ℕ → A → ℕ → A
  put f s a j = cond (eqb j s) a (f j)

  pub put_all : (P : ℕ → A → Type 0) (f : ℕ → A) (s : ℕ) (a : A) → P s a → ((j : ℕ) → j ≢ s → P j (f j)) → (j : ℕ) → P j (put f s a j)
  put_all P f s a h k j = go (eqb j s) refl
    where
      go : (b : Bool) → eqb j s ≡ b → P j (cond b a (f j))
      go true q = subst (λ (i : ℕ). P i a) (sym (eqb-true j s q)) h
      go false q = k j (eqb-false j s q)

-- a call that is no load answered at once
abbrev pub NotHit : Call → Outcome → Type 0
NotHit c a = (s x g w : ℕ) → Load s x g ≡ c → Ok (Value w) ≡ a → ⊥

-- ## a board that is the same to the machine

shim_alike : {t : Trace} {b b' : Board} {log : List Entry} {hits : List Hit} {s : ℕ} {v : Position} → SameShim b b' s → b'.up s ≡ b.up s → b'.down s ≡ b.down s
    → ShimInvariant t b log hits s v → ShimInvariant t b' log hits s v
shim_alike same u d i = record { follows = follows_same same u d i.follows; sent = i.sent; answered = i.answered; hits_ok = i.hits_ok }

board_alike : {n : ℕ} {t : Trace} {b b' : Board} → Same b b' → Invariant n t b → Invariant n t b'
board_alike same i =
    record {
      log = i.log;
      view = i.view;
      hits = i.hits;
      hub = hub_same same.hub i.hub;
      global = i.global;
      shim = λ s l. shim_alike (same.shim s) (same.up s) (same.down s) (i.shim s l);
    }

-- ## a call that changes nothing of a shim, or nothing of the hub

shim_still : {t : Trace} (c : Call) (a : Outcome) {b : Board} {log : List Entry} {hits : List Hit} {s : ℕ} {v : Position}
    → of_shim sends s c a ≡ false → NotAnswer s c a → ShimInvariant t b log hits s v → ShimInvariant (then t c a) b log hits s v
shim_still c a q na i =
    record {
      follows = i.follows;
      sent = sent_still c a q i.sent;
      answered = answered_still c a na (λ e m. inl m) i.answered;
      hits_ok = i.hits_ok;
    }

from_old : {t : Trace} (c : Call) (a : Outcome) {h : Hit} → IsHit t h → IsHit (then t c a) h
from_old {t = t} c a {h = h} k = record { strength = k.strength; at = at_old t ((c, a) ∷ []) h.place k.at }

into_old : (t : Trace) (c : Call) (a : Outcome) (hits : List Hit) → NotHit c a → ((i s x g w : ℕ) → At t i (Load s x g) (Ok (Value w)) → WasHit i s x w hits)
    → (i s x g w : ℕ) → At (then t c a) i (Load s x g) (Ok (Value w)) → WasHit i s x w hits
into_old t c a hits nh h i s x g u k = go (at_snoc t c a k)
  where
    go : OldOrLast t c a i (Load s x g) (Ok (Value u)) → WasHit i s x u hits
    go (inl k) = h i s x g u k
    go (inr k) = absurd (nh s x g u k.1 k.2)

known_old : (n : ℕ) (t : Trace) (c : Call) (a : Outcome) → (is_ok a ≡ true → shim_of c < n) → ((i : ℕ) (c' : Call) (a' : Outcome) → At t i c' a' → is_ok a' ≡ true → shim_of c' < n)
    → (i : ℕ) (c' : Call) (a' : Outcome) → At (then t c a) i c' a' → is_ok a' ≡ true → shim_of c' < n
known_old n t c a kn h i c' a' k p = go (at_snoc t c a k)
  where
    go : OldOrLast t c a i c' a' → shim_of c' < n
    go (inl k) = h i c' a' k p
    go (inr k) = rw k.1 (kn (rw k.2 at p))

global_still : {n : ℕ} {t : Trace} (c : Call) (a : Outcome) {log : List Entry} {hits : List Hit} → performs c a ≡ false → NotHit c a
    → (is_ok a ≡ true → shim_of c < n) → GlobalInvariant n t log hits → GlobalInvariant n (then t c a) log hits
global_still {n = n} {t = t} c a {hits = hits} q nh kn w =
    record {
      known_shim = w.known_shim;
      matches = log_still c a q w.matches;
      hit_from = λ h m. from_old c a (w.hit_from h m);
      hit_into = into_old t c a hits nh w.hit_into;
      hit_rise = w.hit_rise;
      known = known_old n t c a kn w.known;
    }

-- ## a refused call

sends_refused : (c : Call) (r : Refusal) → sends c (Err r) ≡ false
sends_refused (Load s x g) r = refl
sends_refused c r = refl

performs_refused : (c : Call) (r : Refusal) → performs c (Err r) ≡ false
performs_refused (Up s) r = refl
performs_refused c r = refl

word_refused : (w : ℕ) (r : Refusal) → Ok (Value w) ≡ Err r → ⊥
word_refused w r h = let z : ◌≡◌ {A = ℕ} 0 1 = cc in omega arith

end_refused : (r : Refusal) → Ok Ended ≡ Err r → ⊥
end_refused r h = let z : ◌≡◌ {A = ℕ} 0 1 = cc in omega arith

step_refused : {n : ℕ} {t : Trace} {b : Board} (c : Call) (r : Refusal) → Invariant n t b → Invariant n (then t c (Err r)) b
step_refused c r i =
    record {
      log = i.log;
      view = i.view;
      hits = i.hits;
      hub = i.hub;
      global = global_still c (Err r) (performs_refused c r) (λ s x g w e k. word_refused w r k) (λ k. absurd (false≢true k)) i.global;
      shim = λ s l. shim_still c (Err r) (and_right (eqb (shim_of c) s) (sends c (Err r)) (sends_refused c r))
          ((λ w e k. word_refused w r k), (λ e k. end_refused r k)) (i.shim s l);
    }

-- ## a call that is sent up

sent_not_up : (c : Call) (a : Outcome) → sends c a ≡ true → performs c a ≡ false
sent_not_up (Up s) a h = absurd (false≢true h)
sent_not_up c a h = refl

sent_not_hit : (c : Call) (a : Outcome) → sends c a ≡ true → NotHit c a
sent_not_hit c a h s x g w p q = false≢true (rw (← p, ← q) at h)

sent_not_answer : (c : Call) (a : Outcome) → sends c a ≡ true → (s : ℕ) → NotAnswer s c a
sent_not_answer c a h s = ((λ w p q. false≢true (rw (← p) at h)), (λ p q. false≢true (rw (← p) at h)))

step_sends : {n : ℕ} {t : Trace} {b b' : Board} (c : Call) (a : Outcome) {s : ℕ} (o : Request) (k : Bool) → s < n → Sends s o b b'
    → ((x : ℕ) → allowed (act x o) (b.line s x)) → sends c a ≡ true → shim_of c ≡ s → o ≡ request_of c k → Invariant n t b → Invariant n (then t c a) b'
step_sends {n = n} {t = t} {b = b} {b' = b'} c a {s = s} o k low makes fits sends_it of_s request_is i =
    record {
      log = i.log;
      view = put i.view s (with_call (i.view s) e);
      hits = i.hits;
      hub = hub_same makes.hub i.hub;
      global = global_still c a (sent_not_up c a sends_it) (sent_not_hit c a sends_it) (λ p. rw of_s low) i.global;
      shim = put_all (λ j v. j < n → ShimInvariant (then t c a) b' i.log i.hits j v) i.view s (with_call (i.view s) e) own_shim other;
    }
  where
    e : Entry
    e = record { who = s; request = o; place = length t }

    v : Position
    v = i.view s

    grown : calls i.log s (with_call v e) ≡ e ∷ calls i.log s v
    grown = onto_snoc v.pending (made_by s i.log) e

    old : s < n → ShimInvariant t b i.log i.hits s v
    old l = i.shim s l

    sub : (d : Entry) → Member d (unheard_calls s (with_call v e)) → Member d (unheard_calls s v) ⊎ (d.place ≡ length t)
    sub d m = go (member_append d (unheard_calls s v) (e ∷ []) (rw (← append_assoc (made_by s v.unheard) v.pending (e ∷ [])) at m))
      where
        go : Member d (unheard_calls s v) ⊎ Member d (e ∷ []) → Member d (unheard_calls s v) ⊎ (d.place ≡ length t)
        go (inl x) = inl x
        go (inr (inl x)) = inr (ap (λ (y : Entry). y.place) x)
        go (inr (inr x)) = elim x [ ]

    hit_more : (h : Hit) → Member h i.hits → (d : Entry) → Member d (e ∷ calls i.log s v) → Member d (calls i.log s v) ⊎ (h.place < d.place)
    hit_more h m d (inl x) = let q = i.global.hit_from h m in inr (rw x (at_lt t h.place q.at))
    hit_more h m d (inr x) = inl x

    own_shim : s < n → ShimInvariant (then t c a) b' i.log i.hits s (with_call v e)
    own_shim l =
        record {
          follows = follows_sends e refl makes fits (old l).follows;
          sent = rw grown (sent_more c a e k sends_it of_s refl request_is (old l).sent);
          answered = answered_still c a (sent_not_answer c a sends_it s) sub (old l).answered;
          hits_ok = λ h m p. rw grown (hit_sent (omega arith) (λ d x. inr x) (hit_more h m) ((old l).hits_ok h m p));
        }

    other : (j : ℕ) → j ≢ s → j < n → ShimInvariant (then t c a) b' i.log i.hits j (i.view j)
    other j ne l =
        let elsewhere = and_left (eqb (shim_of c) j) (sends c a) (ne_eqb (shim_of c) j (λ x. ne (sym x ∙ of_s))) in
        shim_alike (makes.other j ne) (makes.other_up j ne) (makes.down j) (shim_still c a elsewhere (sent_not_answer c a sends_it j) (i.shim j l))

-- ## a load answered at once

log_low : {n : ℕ} {t : Trace} {b : Board} (i : Invariant n t b) (e : Entry) (r : List Entry) → Spot e r i.log → e.place < length t
log_low {n = n} {t = t} i e r k =
    let l : e.who < n = i.global.known_shim e r k in
    let m = spot_member e (made_by e.who r) (made_by e.who i.log) (spot_made_by e.who e r i.log k refl) in
    let k' = onto_member e (i.view e.who).pending (made_by e.who i.log) (inr m) in
    descending_low (length t) (calls i.log e.who (i.view e.who)) (i.shim e.who l).sent.descending e k'

step_hit : {n : ℕ} {t : Trace} {b : Board} (s x g w : ℕ) → s < n → b.wait s ≡ Ready → copy (b.line s x) ≡ some w → Invariant n t b
    → Invariant n (then t (Load s x g) (Ok (Value w))) b
step_hit {n = n} {t = t} {b = b} s x g w l rd c i =
    record {
      log = i.log;
      view = i.view;
      hits = h ∷ i.hits;
      hub = i.hub;
      global =
          record {
            known_shim = i.global.known_shim;
            matches = log_still (Load s x g) (Ok (Value w)) refl i.global.matches;
            hit_from = from;
            hit_into = λ j s' x' g' w' k. into j s' x' g' w' (at_snoc t (Load s x g) (Ok (Value w)) k);
            hit_rise = rise;
            known = known_old n t (Load s x g) (Ok (Value w)) (λ p. l) i.global.known;
          };
      shim = shims;
    }
  where
    h : Hit
    h = record { place = length t; who = s; line = x; word = w; seen = (i.view s).heard }

    from : (d : Hit) → Member d (h ∷ i.hits) → IsHit (then t (Load s x g) (Ok (Value w))) d
    from d (inl m) = rw m record { strength = g; at = at_new t (Load s x g) (Ok (Value w)) }
    from d (inr m) = from_old (Load s x g) (Ok (Value w)) (i.global.hit_from d m)

    into : (j s' x' g' w' : ℕ) → OldOrLast t (Load s x g) (Ok (Value w)) j (Load s' x' g') (Ok (Value w')) → WasHit j s' x' w' (h ∷ i.hits)
    into j s' x' g' w' (inl k) =
        let q = i.global.hit_into j s' x' g' w' k in
        record { hit = q.hit; member = inr q.member; place_is = q.place_is; who_is = q.who_is; line_is = q.line_is; word_is = q.word_is }
    into j s' x' g' w' (inr k) =
        let p : Load s' x' g' ≡ Load s x g = k.1 in
        let q : ◌≡◌ {A = Outcome} (Ok (Value w')) (Ok (Value w)) = k.2 in
        record { hit = h; member = inl refl; place_is = sym k.0; who_is = cc; line_is = cc; word_is = cc }

    rise : (d d' : Hit) (r : List Hit) → Spot d r (h ∷ i.hits) → Member d' r → (d'.place < d.place) × (d'.who ≡ d.who → length d'.seen ≤ length d.seen)
    rise d d' r (inr m) k = i.global.hit_rise d d' r m k
    rise d d' r (inl m) k =
        let k' : Member d' i.hits = rw m.1 at k in
        let q = i.global.hit_from d' k' in
        rw m.0 (at_lt t d'.place q.at, (λ e. ((i.shim s l).hits_ok d' k' e).low))

    new : HitOk i.log (calls i.log s (i.view s)) (length (i.view s).heard) h
    new =
        let f = (i.shim s l).follows in
        hit_new i.log s x w (length t) (i.view s) (b.wait s) (b.line s) f.log_is f.all_by f.holds rd c (i.shim s l).sent.descending (log_low i)

    shims : (j : ℕ) → j < n → ShimInvariant (then t (Load s x g) (Ok (Value w))) b i.log (h ∷ i.hits) j (i.view j)
    shims j lj = record { follows = old.follows; sent = old.sent; answered = old.answered; hits_ok = ok }
      where
        old : ShimInvariant (then t (Load s x g) (Ok (Value w))) b i.log i.hits j (i.view j)
        old =
            shim_still (Load s x g) (Ok (Value w)) (and_right (eqb s j) false refl)
            ((λ u e k. let z : ◌≡◌ {A = ℕ} 0 1 = cc in omega arith), (λ e k. let z : ◌≡◌ {A = ℕ} 0 1 = cc in omega arith)) (i.shim j lj)

        ok : (d : Hit) → Member d (h ∷ i.hits) → d.who ≡ j → HitOk i.log (calls i.log j (i.view j)) (length (i.view j).heard) d
        ok d (inl m) p =
            let e : s ≡ j = ap (λ (y : Hit). y.who) (sym m) ∙ p in
            rw m (subst (λ (r : ℕ). HitOk i.log (calls i.log r (i.view r)) (length (i.view r).heard) h) e new)
        ok d (inr m) p = old.hits_ok d m p

-- ## the hub performs a call

pub record FirstPending (s : ℕ) (o : Request) (pending : List Entry) : Type 0 where
  pub entry : Entry
  pub later : List Entry
  pub pending_is : pending ≡ entry ∷ later
  pub who_is : entry.who ≡ s
  pub request_is : entry.request ≡ o

first_pending : (s : ℕ) (o : Request) (r : List Request) (pending : List Entry) → AllBy s pending → requests pending ≡ o ∷ r → FirstPending s o pending
first_pending s o r [] h q = let z : ◌≡◌ {A = ℕ} 0 1 = cc in absurd (omega arith)
first_pending s o r (e ∷ es) h q = record { entry = e; later = es; pending_is = refl; who_is = h.0; request_is = cc }

-- e is the first of the calls of s that are still to be performed, and q the others
up_by : {n : ℕ} {t : Trace} {b b' : Board} (s : ℕ) (k : Kind) (e : Entry) (q : List Entry) (i : Invariant n t b) → s < n → e.who ≡ s → (i.view s).pending ≡ e ∷ q
    → HubPerforms n s e.request b b' → Invariant n (then t (Up s) (Ok (Handled k))) b'
up_by {n = n} {t = t} {b = b} {b' = b'} s k e q i l wh pi ds =
    record {
      log = e ∷ i.log;
      view = put others s (with_event v e q);
      hits = i.hits;
      hub = hub_performs e de i.hub;
      global =
          record {
            known_shim = known_shim;
            matches = rw (← wh) (log_more (Handled k) e i.global.matches);
            hit_from = λ h m. from_old (Up s) (Ok (Handled k)) (i.global.hit_from h m);
            hit_into = into_old t (Up s) (Ok (Handled k)) i.hits (λ j x g w x₁ x₂. let z : ◌≡◌ {A = ℕ} 0 1 = cc in omega arith) i.global.hit_into;
            hit_rise = i.global.hit_rise;
            known = known_old n t (Up s) (Ok (Handled k)) (λ p. l) i.global.known;
          };
      shim = put_all (λ j v'. j < n → ShimInvariant (then t (Up s) (Ok (Handled k))) b' (e ∷ i.log) i.hits j v') others s (with_event v e q) own_shim other;
    }
  where
    v : Position
    v = i.view s

    si : ShimInvariant t b i.log i.hits s v
    si = i.shim s l

    de : HubPerforms n e.who e.request b b'
    de = subst (λ (r : ℕ). HubPerforms n r e.request b b') (sym wh) ds

    others : ℕ → Position
    others j = with_event (i.view j) e (i.view j).pending

    known_shim : (d : Entry) (r : List Entry) → Spot d r (e ∷ i.log) → d.who < n
    known_shim d r (inl m) = rw (m.0, wh) l
    known_shim d r (inr m) = i.global.known_shim d r m

    none_answer : (j : ℕ) → NotAnswer j (Up s) (Ok (Handled k))
    none_answer j = ((λ w x y. let z : ◌≡◌ {A = ℕ} 0 1 = cc in omega arith), (λ x y. let z : ◌≡◌ {A = ℕ} 0 1 = cc in omega arith))

    calls_own : calls (e ∷ i.log) s (with_event v e q) ≡ calls i.log s v
    calls_own = rw (eq-eqb e.who s wh) (ap (λ (r : List Entry). onto r (made_by s i.log)) (sym pi))

    own_shim : s < n → ShimInvariant (then t (Up s) (Ok (Handled k))) b' (e ∷ i.log) i.hits s (with_event v e q)
    own_shim l' =
        record {
          follows = follows_own e q l wh pi ds i.hub si.follows;
          sent = rw calls_own (sent_still (Up s) (Ok (Handled k)) (and_right (eqb s s) false refl) si.sent);
          answered = answered_still (Up s) (Ok (Handled k)) (none_answer s) (λ d m. inl (rw (unheard_own s v e q wh pi) at m)) si.answered;
          hits_ok = λ h m p. rw calls_own (hit_performed e (si.hits_ok h m p));
        }

    other : (j : ℕ) → j ≢ s → j < n → ShimInvariant (then t (Up s) (Ok (Handled k))) b' (e ∷ i.log) i.hits j (others j)
    other j ne lj =
        record {
          follows = follows_other e lj (λ x. ne (x ∙ wh)) de i.hub sj.follows;
          sent = rw calls_same (sent_still (Up s) (Ok (Handled k)) (and_right (eqb s j) false refl) sj.sent);
          answered = answered_still (Up s) (Ok (Handled k)) (none_answer j) (λ d m. inl (rw unheard_same at m)) sj.answered;
          hits_ok = λ h m p. rw calls_same (hit_performed e (sj.hits_ok h m p));
        }
      where
        sj : ShimInvariant t b i.log i.hits j (i.view j)
        sj = i.shim j lj

        calls_same : calls (e ∷ i.log) j (others j) ≡ calls i.log j (i.view j)
        calls_same = rw (ne_eqb e.who j (λ x. ne (sym x ∙ wh)))

        unheard_same : unheard_calls j (others j) ≡ unheard_calls j (i.view j)
        unheard_same = ap (λ (r : List Entry). r ++ (i.view j).pending) (made_by_other j (i.view j).unheard e (λ x. ne (sym x ∙ wh)))

step_up : {n : ℕ} {t : Trace} {b b' : Board} (s : ℕ) (o : Request) (k : Kind) → s < n → HubPerforms n s o b b' → Invariant n t b
    → Invariant n (then t (Up s) (Ok (Handled k))) b'
step_up {n = n} {b = b} {b' = b'} s o k l d i =
    let f = (i.shim s l).follows in
    let tk = first_pending s o (b'.up s) (i.view s).pending f.all_by (sym f.up_is ∙ d.first) in
    up_by s k tk.entry tk.later i l tk.who_is tk.pending_is (subst (λ (p : Request). HubPerforms n s p b b') (sym tk.request_is) d)

-- ## a shim is handed a message

down_by : {n : ℕ} {t : Trace} {b b' : Board} {s : ℕ} (m : Notice) (i : Invariant n t b) → s < n → Hears s m b b' → Moved b' i.log s (i.view s) m
    → Invariant n (then t (Down s) (Ok (says m))) b'
down_by {n = n} {t = t} {b = b} {b' = b'} {s = s} m i l hs mv =
    record {
      log = i.log;
      view = put i.view s v';
      hits = i.hits;
      hub = hub_same hs.hub i.hub;
      global = global_still (Down s) (Ok (says m)) refl (λ j x g w x₁ x₂. let z : ◌≡◌ {A = ℕ} 0 1 = cc in omega arith) (λ p. l) i.global;
      shim = put_all (λ j u. j < n → ShimInvariant (then t (Down s) (Ok (says m))) b' i.log i.hits j u) i.view s v' own_shim other;
    }
  where
    v : Position
    v = i.view s

    v' : Position
    v' = mv.place

    si : ShimInvariant t b i.log i.hits s v
    si = i.shim s l

    calls_same : calls i.log s v' ≡ calls i.log s v
    calls_same = ap (λ (r : List Entry). onto r (made_by s i.log)) mv.pending_is

    low : (e : Entry) → Member e (unheard_calls s v) → e.place < length t
    low e k =
        let m = onto_member e (unheard_calls s v) (made_by s v.heard) (inl k) in
        descending_low (length t) (calls i.log s v) si.sent.descending e (rw (calls_is i.log s v si.follows.log_is) m)

    ready : b'.wait s ≡ Ready → (e : Entry) → Member e (unheard_calls s v') → wait_after e.request ≡ Ready
    ready r e k = let h = mv.follows.holds in ready_each (unheard_calls s v') Ready h.made_ready (sym h.wait ∙ r) e k

    own_shim : s < n → ShimInvariant (then t (Down s) (Ok (says m))) b' i.log i.hits s v'
    own_shim l' =
        record {
          follows = mv.follows;
          sent = rw calls_same (sent_still (Down s) (Ok (says m)) (and_right (eqb s s) false refl) si.sent);
          answered = answered_down m low mv.fewer mv.news
              (λ e x g w q k o. false≢true (ap is_ready (sym (ap wait_after o) ∙ ready (hs.wait ∙ word_makes_ready m (b.wait s) w q) e k)))
              (λ e q k o. false≢true (ap is_ready (sym (ap wait_after o) ∙ ready (hs.wait ∙ end_makes_ready m (b.wait s) q) e k))) si.answered;
          hits_ok = λ h k p. rw calls_same (hit_sent mv.grew (λ e x. x) (λ e x. inl x) (si.hits_ok h k p));
        }

    other : (j : ℕ) → j ≢ s → j < n → ShimInvariant (then t (Down s) (Ok (says m))) b' i.log i.hits j (i.view j)
    other j ne lj =
        shim_alike (hs.other j ne) (hs.up j) (hs.other_down j ne)
        (shim_still (Down s) (Ok (says m)) (and_right (eqb s j) false refl)
        ((λ w x y. ne (let z : Down j ≡ Down s = x in cc)), (λ x y. ne (let z : Down j ≡ Down s = x in cc))) (i.shim j lj))

step_down : {n : ℕ} {t : Trace} {b b' : Board} {s : ℕ} (m : Notice) → s < n → Hears s m b b' → Invariant n t b → Invariant n (then t (Down s) (Ok (says m))) b'
step_down {s = s} m l hs i = down_by m i l hs (follows_hears hs (i.shim s l).follows)

-- ## every step

accepts_store : (b : Bool) → is_ok {E = Refusal} (Ok (cond b Waits Done)) ≡ true
accepts_store true = refl
accepts_store false = refl

fits_write : (b : Board) (s x g w : ℕ) (y : ℕ) → allowed (act y (Write x g (unheld (b.line s x)) w)) (b.line s y)
fits_write b s x g w y = go (eqb y x) refl
  where
    go : (c : Bool) → eqb y x ≡ c → allowed (act y (Write x g (unheld (b.line s x)) w)) (b.line s y)
    go true q = rw q (ap (λ (r : ℕ). unheld (b.line s r)) (eqb-true y x q))
    go false q = rw q tt

fits_read : (b : Board) (s x g : ℕ) → b.line s x ≡ NotHeld → (y : ℕ) → allowed (act y (Read x g)) (b.line s y)
fits_read b s x g h y = go (eqb y x) refl
  where
    go : (c : Bool) → eqb y x ≡ c → allowed (act y (Read x g)) (b.line s y)
    go true q = rw q (ap (λ (r : ℕ). unheld (b.line s r)) (eqb-true y x q) ∙ ap unheld h)
    go false q = rw q tt

fits_drop : (b : Board) (s x c t : ℕ) → b.line s x ≡ Settled c t → (y : ℕ) → allowed (act y (Drop x)) (b.line s y)
fits_drop b s x c t h y = go (eqb y x) refl
  where
    go : (e : Bool) → eqb y x ≡ e → allowed (act y (Drop x)) (b.line s y)
    go true q = rw q (ap (λ (r : ℕ). settled (b.line s r)) (eqb-true y x q) ∙ ap settled h)
    go false q = rw q tt

pub step_any : {n : ℕ} {t : Trace} {b b' : Board} {c : Call} {a : Outcome} → Step n b b' c a → Invariant n t b → Invariant n (then t c a) b'
step_any (refused c r same) i = board_alike same (step_refused c r i)
step_any (hit s x g w l rd c same) i = board_alike same (step_hit s x g w l rd c i)
step_any {b = b} (miss s x g l h k) i = step_sends (Load s x g) (Ok Waits) (Read x g) false l k (fits_read b s x g h) refl refl refl i
step_any {b = b} (stores s x g w l k) i =
    let y = unheld (b.line s x) in
    step_sends (Store s x g w) (Ok (cond (sc g) Waits Done)) (Write x g y w) y l k (fits_write b s x g w) (accepts_store (sc g)) refl refl i
step_any (fences s g l k) i = step_sends (Fence s g) (Ok Waits) Sync false l k (λ y. tt) refl refl refl i
step_any {b = b} (evicts s x c u l h k) i = step_sends (Evict s x) (Ok Done) (Drop x) false l k (fits_drop b s x c u h) refl refl refl i
step_any (ups s o l d) i = step_up s o (request_kind o) l d i
step_any (downs s m l h) i = step_down m l h i

nothing_at : (i : ℕ) (c : Call) (a : Outcome) → At [] i c a → ⊥
nothing_at i c a h = let z : ◌≡◌ {A = ℕ} 0 1 = cc in omega arith

pub fresh_invariant : (n : ℕ) (b : Board) → Fresh b → Invariant n [] b
fresh_invariant n b f =
    record {
      log = [];
      view = λ s. record { heard = []; unheard = []; pending = [] };
      hits = [];
      hub = record { word = f.word; stamp = f.stamp; shares = λ x s. f.shares x s };
      global =
          record {
            known_shim = λ e r k. elim k [ ];
            matches = record { from = λ e r k. elim k [ ]; into = λ u s a k. absurd (nothing_at u (Up s) (Ok a) k); total = λ s. refl; all = refl };
            hit_from = λ h k. elim k [ ];
            hit_into = λ i s x g w k. absurd (nothing_at i (Load s x g) (Ok (Value w)) k);
            hit_rise = λ h h' r k. elim k [ ];
            known = λ i c a k p. absurd (nothing_at i c a k);
          };
      shim = λ s l.
          record {
            follows =
                record {
                  log_is = refl;
                  down_is = f.down s;
                  up_is = f.up s;
                  all_by = tt;
                  holds = record { line = λ x. f.line s x; allowed = λ x. tt; wait = f.wait s; made_ready = tt };
                };
            sent = record { descending = tt; from = λ e r k. elim k [ ]; into = λ i c a k p j. absurd (nothing_at i c a k); total = refl };
            answered = record { loads = λ e r x g k. elim k [ ]; fences = λ e r k. elim k [ ]; no_word = λ e x g k. elim k [ ]; no_end = λ e k. elim k [ ] };
            hits_ok = λ h k. elim k [ ];
          };
    }

pub invariant : (n : ℕ) {t : Trace} {b : Board} → Runs n t b → Invariant n t b
invariant n (none_yet {b = b} f) = fresh_invariant n b f
invariant n (one_more r k) = step_any k (invariant n r)
invariant n (alike r same) = board_alike same (invariant n r)
