-- The entries of a shim are the calls that the trace shows as sent up, and the log is what the trace shows as performed, rank by rank.
use Rattle.std.proofs.Common.{◌≡◌, ℕ, ◌≤◌, Bool, true, false, ◌&&◌, eqb, List, [], ◌∷◌, length, Ok, sym, refl, ap, ◌∙◌, inl, inr, true≢false, arith}
use Rattle.std.proofs.lemmas.Bool.{and_right, eq-eqb, and_from}
use Rattle.order.specs.Common.{Call, Load, Store, Fence, Evict, Up, Down, Answer, Outcome, Trace, At, shim_of, sends, performs}
use Rattle.order.proofs.Machine.{Request, Write, Read, Sync, Drop}
use Rattle.order.proofs.Lists.{length_kept, Spot}
use Rattle.order.proofs.Entries.{Entry, made_by, Descending, descending_more}
use Rattle.order.proofs.Traces.{then, at_old, at_new, at_lt, OldOrLast, at_snoc, length_then, tally, of_shim, tally_old, tally_new}

-- what a call sends up (last: whether it asks to be synchronised); ups and downs send nothing
abbrev pub request_of : Call → Bool → Request
request_of (Load s x g) k = Read x g
request_of (Store s x g w) k = Write x g k w
request_of (Fence s g) k = Sync
request_of (Evict s x) k = Drop x
request_of (Up s) k = Sync
request_of (Down s) k = Sync

-- entry e, with r the older entries of shim s, is a call of the trace, of the same rank among the calls that s sent up
pub record IsSent (t : Trace) (s : ℕ) (e : Entry) (r : List Entry) : Type 0 where
  pub call : Call
  pub outcome : Outcome
  pub synchronise : Bool
  pub at : At t e.place call outcome
  pub sends_it : sends call outcome ≡ true
  pub shim : shim_of call ≡ s
  pub request_is : e.request ≡ request_of call synchronise
  pub own_rank : tally (of_shim sends s) t e.place ≡ length r

-- the call c at place i has an entry in l
pub record WasSent (i : ℕ) (c : Call) (l : List Entry) : Type 0 where
  pub entry : Entry
  pub older : List Entry
  pub synchronise : Bool
  pub spot : Spot entry older l
  pub place_is : entry.place ≡ i
  pub request_is : entry.request ≡ request_of c synchronise

-- l is what shim s has sent up, newest first
pub record Sent (t : Trace) (s : ℕ) (l : List Entry) : Type 0 where
  pub descending : Descending (length t) l
  pub from : (e : Entry) (r : List Entry) → Spot e r l → IsSent t s e r
  pub into : (i : ℕ) (c : Call) (a : Outcome) → At t i c a → sends c a ≡ true → shim_of c ≡ s → WasSent i c l
  pub total : tally (of_shim sends s) t (length t) ≡ length l

is_sent_old : {t : Trace} (c : Call) (a : Outcome) {s : ℕ} {e : Entry} {r : List Entry} → IsSent t s e r → IsSent (then t c a) s e r
is_sent_old {t = t} c a {s = s} {e = e} h =
    record {
      call = h.call;
      outcome = h.outcome;
      synchronise = h.synchronise;
      at = at_old t ((c, a) ∷ []) e.place h.at;
      sends_it = h.sends_it;
      shim = h.shim;
      request_is = h.request_is;
      own_rank = tally_old (of_shim sends s) t ((c, a) ∷ []) e.place (omega (arith, at_lt t e.place h.at)) ∙ h.own_rank;
    }

-- a call that s does not send up
pub sent_still : {t : Trace} (c : Call) (a : Outcome) {s : ℕ} {l : List Entry} → of_shim sends s c a ≡ false → Sent t s l → Sent (then t c a) s l
sent_still {t = t} c a {s = s} {l = l} q h =
    record {
      descending = descending_more (length t) (length (then t c a)) l (omega (arith, length_then t c a)) h.descending;
      from = λ e r k. is_sent_old c a (h.from e r k);
      into = λ i c' a' k p j. go i c' a' p j (at_snoc t c a k);
      total = rw length_then (tally_new (of_shim sends s) t c a ∙ rw q (omega (arith, h.total)));
    }
  where
    go : (i : ℕ) (c' : Call) (a' : Outcome) → sends c' a' ≡ true → shim_of c' ≡ s → OldOrLast t c a i c' a' → WasSent i c' l
    go i c' a' p j (inl k) = h.into i c' a' k p j
    go i c' a' p j (inr k) =
        let y : of_shim sends s c' a' ≡ true = and_from (eqb (shim_of c') s) (sends c' a') (eq-eqb (shim_of c') s j) p in
        absurd (true≢false (sym y ∙ rw (k.1, k.2) q))

-- a call sent up by s
pub sent_more : {t : Trace} (c : Call) (a : Outcome) {s : ℕ} {l : List Entry} (e : Entry) (k : Bool) → sends c a ≡ true → shim_of c ≡ s → e.place ≡ length t
    → e.request ≡ request_of c k → Sent t s l → Sent (then t c a) s (e ∷ l)
sent_more {t = t} c a {s = s} {l = l} e k p j i o h =
    record {
      descending = (omega (arith, length_then t c a), rw i h.descending);
      from = λ d r m. back d r m;
      into = λ n c' a' m p' j'. go n c' a' m p' j' (at_snoc t c a m);
      total = rw length_then (tally_new (of_shim sends s) t c a ∙ rw (and_from (eqb (shim_of c) s) (sends c a) (eq-eqb (shim_of c) s j) p) (omega (arith, h.total)));
    }
  where
    new : IsSent (then t c a) s e l
    new =
        record {
          call = c;
          outcome = a;
          synchronise = k;
          at = rw i (at_new t c a);
          sends_it = p;
          shim = j;
          request_is = o;
          own_rank = rw i (tally_old (of_shim sends s) t ((c, a) ∷ []) (length t) (omega arith) ∙ h.total);
        }

    back : (d : Entry) (r : List Entry) → Spot d r (e ∷ l) → IsSent (then t c a) s d r
    back d r (inl m) = rw (m.0, m.1) new
    back d r (inr m) = is_sent_old c a (h.from d r m)

    deeper : (n : ℕ) (c' : Call) → WasSent n c' l → WasSent n c' (e ∷ l)
    deeper n c' w = record { entry = w.entry; older = w.older; synchronise = w.synchronise; spot = inr w.spot; place_is = w.place_is; request_is = w.request_is }

    go : (n : ℕ) (c' : Call) (a' : Outcome) → At (then t c a) n c' a' → sends c' a' ≡ true → shim_of c' ≡ s → OldOrLast t c a n c' a' → WasSent n c' (e ∷ l)
    go n c' a' m p' j' (inl x) = deeper n c' (h.into n c' a' x p' j')
    go n c' a' m p' j' (inr x) =
        record { entry = e; older = l; synchronise = k; spot = inl (refl, refl); place_is = i ∙ sym x.0; request_is = o ∙ ap (λ (y : Call). request_of y k) (sym x.1) }

-- ## what the hub performed

-- entry e, performed after r, has an accepted up in the trace, of the same rank among the ups of its shim and among all ups
pub record IsLogged (t : Trace) (e : Entry) (r : List Entry) : Type 0 where
  pub up : ℕ
  pub answer : Answer
  pub at : At t up (Up e.who) (Ok answer)
  pub own_rank : tally (of_shim performs e.who) t up ≡ length (made_by e.who r)
  pub rank : tally performs t up ≡ length r

-- the up of shim s at place u has an entry in the log
pub record WasLogged (t : Trace) (u s : ℕ) (log : List Entry) : Type 0 where
  pub entry : Entry
  pub older : List Entry
  pub spot : Spot entry older log
  pub who_is : entry.who ≡ s
  pub own_rank : tally (of_shim performs s) t u ≡ length (made_by s older)
  pub rank : tally performs t u ≡ length older

-- the log, newest first, is what the accepted ups of the trace performed
pub record LogMatches (t : Trace) (log : List Entry) : Type 0 where
  pub from : (e : Entry) (r : List Entry) → Spot e r log → IsLogged t e r
  pub into : (u s : ℕ) (a : Answer) → At t u (Up s) (Ok a) → WasLogged t u s log
  pub total : (s : ℕ) → tally (of_shim performs s) t (length t) ≡ length (made_by s log)
  pub all : tally performs t (length t) ≡ length log

is_logged_old : {t : Trace} (c : Call) (a : Outcome) {e : Entry} {r : List Entry} → IsLogged t e r → IsLogged (then t c a) e r
is_logged_old {t = t} c a {e = e} h =
    let l : h.up ≤ length t = omega (arith, at_lt t h.up h.at) in
    record {
      up = h.up;
      answer = h.answer;
      at = at_old t ((c, a) ∷ []) h.up h.at;
      own_rank = tally_old (of_shim performs e.who) t ((c, a) ∷ []) h.up l ∙ h.own_rank;
      rank = tally_old performs t ((c, a) ∷ []) h.up l ∙ h.rank;
    }

was_logged_old : {t : Trace} (c : Call) (a : Outcome) {u s : ℕ} {a' : Answer} {log : List Entry} → At t u (Up s) (Ok a') → WasLogged t u s log → WasLogged (then t c a) u s log
was_logged_old {t = t} c a {u = u} {s = s} k h =
    let l : u ≤ length t = omega (arith, at_lt t u k) in
    record {
      entry = h.entry;
      older = h.older;
      spot = h.spot;
      who_is = h.who_is;
      own_rank = tally_old (of_shim performs s) t ((c, a) ∷ []) u l ∙ h.own_rank;
      rank = tally_old performs t ((c, a) ∷ []) u l ∙ h.rank;
    }

pub log_still : {t : Trace} (c : Call) (a : Outcome) {log : List Entry} → performs c a ≡ false → LogMatches t log → LogMatches (then t c a) log
log_still {t = t} c a {log = log} q h =
    record {
      from = λ e r k. is_logged_old c a (h.from e r k);
      into = λ u s a' k. go u s a' (at_snoc t c a k);
      total = λ s. rw length_then (tally_new (of_shim performs s) t c a ∙ rw (and_right (eqb (shim_of c) s) (performs c a) q) (omega (arith, h.total s)));
      all = rw length_then (tally_new performs t c a ∙ rw q (omega (arith, h.all)));
    }
  where
    go : (u s : ℕ) (a' : Answer) → OldOrLast t c a u (Up s) (Ok a') → WasLogged (then t c a) u s log
    go u s a' (inl k) = was_logged_old c a k (h.into u s a' k)
    go u s a' (inr k) = absurd (true≢false (rw (← k.1, ← k.2) at q))

and_true : (b : Bool) → (b && true) ≡ b
and_true true = refl
and_true false = refl

up_same : {s s' : ℕ} → Up s ≡ Up s' → s ≡ s'
up_same h = cc

pub log_more : {t : Trace} (a : Answer) {log : List Entry} (e : Entry) → LogMatches t log → LogMatches (then t (Up e.who) (Ok a)) (e ∷ log)
log_more {t = t} a {log = log} e h =
    record {
      from = back;
      into = λ u s a' k. go u s a' (at_snoc t (Up e.who) (Ok a) k);
      total = λ s. rw length_then (tally_new (of_shim performs s) t (Up e.who) (Ok a)
          ∙ rw (and_true (eqb e.who s)) (omega (arith, h.total s, length_kept (eqb e.who s) e (made_by s log))));
      all = rw length_then (tally_new performs t (Up e.who) (Ok a) ∙ omega (arith, h.all));
    }
  where
    later : Trace
    later = then t (Up e.who) (Ok a)

    own_ranked : tally (of_shim performs e.who) later (length t) ≡ length (made_by e.who log)
    own_ranked = tally_old (of_shim performs e.who) t ((Up e.who, Ok a) ∷ []) (length t) (omega arith) ∙ h.total e.who

    ranked : tally performs later (length t) ≡ length log
    ranked = tally_old performs t ((Up e.who, Ok a) ∷ []) (length t) (omega arith) ∙ h.all

    back : (d : Entry) (r : List Entry) → Spot d r (e ∷ log) → IsLogged later d r
    back d r (inl m) = rw (m.0, m.1) record { up = length t; answer = a; at = at_new t (Up e.who) (Ok a); own_rank = own_ranked; rank = ranked }
    back d r (inr m) = is_logged_old (Up e.who) (Ok a) (h.from d r m)

    deeper : (u s : ℕ) → WasLogged later u s log → WasLogged later u s (e ∷ log)
    deeper u s w = record { entry = w.entry; older = w.older; spot = inr w.spot; who_is = w.who_is; own_rank = w.own_rank; rank = w.rank }

    go : (u s : ℕ) (a' : Answer) → OldOrLast t (Up e.who) (Ok a) u (Up s) (Ok a') → WasLogged later u s (e ∷ log)
    go u s a' (inl k) = deeper u s (was_logged_old (Up e.who) (Ok a) k (h.into u s a' k))
    go u s a' (inr k) =
        let w : s ≡ e.who = up_same k.1 in
        record { entry = e; older = log; spot = inl (refl, refl); who_is = sym w; own_rank = rw (w, k.0) own_ranked; rank = rw k.0 ranked }
