-- A load or a fence that waited is answered by a down of the trace once its shim has heard of it, and not before.
use Rattle.std.proofs.Common.{◌≡◌, ℕ, ◌<◌, ◌⊎◌, List, [], ◌∷◌, length, Ok, sym, subst, inl, inr, arith}
use Rattle.std.proofs.lemmas.Bool.{eq-eqb}
use Rattle.order.specs.Common.{Call, Down, Answer, Outcome, Value, Ended, Trace, At}
use Rattle.order.proofs.Machine.{Request, Read, Sync, Notice, says}
use Rattle.order.proofs.Lists.{Member, Spot}
use Rattle.order.proofs.Entries.{Entry}
use Rattle.order.proofs.View.{hub_word, tells, News}
use Rattle.order.proofs.Traces.{then, at_old, at_new, at_lt, OldOrLast, at_snoc}

ok_same : {a b : Answer} → ◌≡◌ {A = Outcome} (Ok a) (Ok b) → a ≡ b
ok_same h = cc

-- the first down of shim s after place i that answered a word answered w
pub record NextWord (t : Trace) (i s w : ℕ) : Type 0 where
  pub down : ℕ
  pub later : i < down
  pub at : At t down (Down s) (Ok (Value w))
  pub first : (k v : ℕ) → i < k → k < down → At t k (Down s) (Ok (Value v)) → ⊥

-- a down of shim s after place i answered that something has ended
pub record SomeEnd (t : Trace) (i s : ℕ) : Type 0 where
  pub down : ℕ
  pub later : i < down
  pub at : At t down (Down s) (Ok Ended)

-- for shim s: the calls that it has heard of are in the prefix of the log, and es are its own calls that it has not heard of
pub record Answered (t : Trace) (s : ℕ) (prefix es : List Entry) : Type 0 where
  pub loads : (e : Entry) (r : List Entry) (x g : ℕ) → Spot e r prefix → e.who ≡ s → e.request ≡ Read x g → NextWord t e.place s (hub_word x r)
  pub fences : (e : Entry) (r : List Entry) → Spot e r prefix → e.who ≡ s → e.request ≡ Sync → SomeEnd t e.place s
  pub no_word : (e : Entry) (x g : ℕ) → Member e es → e.request ≡ Read x g → (d w : ℕ) → e.place < d → At t d (Down s) (Ok (Value w)) → ⊥
  pub no_end : (e : Entry) → Member e es → e.request ≡ Sync → (d : ℕ) → e.place < d → At t d (Down s) (Ok Ended) → ⊥

next_word_old : {t : Trace} (c : Call) (a : Outcome) {i s w : ℕ} → NextWord t i s w → NextWord (then t c a) i s w
next_word_old {t = t} c a {i = i} {s = s} h =
    record {
      down = h.down;
      later = h.later;
      at = at_old t ((c, a) ∷ []) h.down h.at;
      first = λ k v l m q. go k v l m (at_snoc t c a q);
    }
  where
    go : (k v : ℕ) → i < k → k < h.down → OldOrLast t c a k (Down s) (Ok (Value v)) → ⊥
    go k v l m (inl q) = h.first k v l m q
    go k v l m (inr q) = omega (arith, at_lt t h.down h.at, q.0)

some_end_old : {t : Trace} (c : Call) (a : Outcome) {i s : ℕ} → SomeEnd t i s → SomeEnd (then t c a) i s
some_end_old {t = t} c a h = record { down = h.down; later = h.later; at = at_old t ((c, a) ∷ []) h.down h.at }

-- a call that is no down of s that answers a word or an end
abbrev pub NotAnswer : ℕ → Call → Outcome → Type 0
NotAnswer s c a = ((w : ℕ) → Down s ≡ c → Ok (Value w) ≡ a → ⊥) × (Down s ≡ c → Ok Ended ≡ a → ⊥)

pub answered_still : {t : Trace} (c : Call) (a : Outcome) {s : ℕ} {prefix es es' : List Entry} → NotAnswer s c a
    → ((e : Entry) → Member e es' → Member e es ⊎ (e.place ≡ length t)) → Answered t s prefix es → Answered (then t c a) s prefix es'
answered_still {t = t} c a {s = s} {es = es} na sub h =
    record {
      loads = λ e r x g k i j. next_word_old c a (h.loads e r x g k i j);
      fences = λ e r k i j. some_end_old c a (h.fences e r k i j);
      no_word = λ e x g m j d w l q. word e x g j d w l (sub e m) (at_snoc t c a q);
      no_end = λ e m j d l q. end e j d l (sub e m) (at_snoc t c a q);
    }
  where
    word : (e : Entry) (x g : ℕ) → e.request ≡ Read x g → (d w : ℕ) → e.place < d → Member e es ⊎ (e.place ≡ length t) → OldOrLast t c a d (Down s) (Ok (Value w)) → ⊥
    word e x g j d w l m (inr q) = na.0 w q.1 q.2
    word e x g j d w l (inl m) (inl q) = h.no_word e x g m j d w l q
    word e x g j d w l (inr m) (inl q) = omega (arith, at_lt t d q)

    end : (e : Entry) → e.request ≡ Sync → (d : ℕ) → e.place < d → Member e es ⊎ (e.place ≡ length t) → OldOrLast t c a d (Down s) (Ok Ended) → ⊥
    end e j d l m (inr q) = na.1 q.1 q.2
    end e j d l (inl m) (inl q) = h.no_end e m j d l q
    end e j d l (inr m) (inl q) = omega (arith, at_lt t d q)

-- a down of s
pub answered_down : {t : Trace} {s : ℕ} (m : Notice) {prefix prefix' es es' : List Entry}
    → ((e : Entry) → Member e es → e.place < length t)
    → ((e : Entry) → Member e es' → Member e es)
    → ((e : Entry) (r : List Entry) → Spot e r prefix' → Spot e r prefix ⊎ News s e r es m)
    → ((e : Entry) (x g w : ℕ) → says m ≡ Value w → Member e es' → e.request ≡ Read x g → ⊥)
    → ((e : Entry) → says m ≡ Ended → Member e es' → e.request ≡ Sync → ⊥)
    → Answered t s prefix es → Answered (then t (Down s) (Ok (says m))) s prefix' es'
answered_down {t = t} {s = s} m {prefix = prefix} {es = es} {es' = es'} low sub news nw ne h =
    record {
      loads = λ e r x g k i j. load e r x g i j (news e r k);
      fences = λ e r k i j. fence e r i j (news e r k);
      no_word = λ e x g k j d w l q. word e x g k j d w l (at_snoc t (Down s) (Ok (says m)) q);
      no_end = λ e k j d l q. end e k j d l (at_snoc t (Down s) (Ok (says m)) q);
    }
  where
    answer : {y : Answer} → says m ≡ y → At (then t (Down s) (Ok (says m))) (length t) (Down s) (Ok y)
    answer q = subst (λ (y : Answer). At (then t (Down s) (Ok (says m))) (length t) (Down s) (Ok y)) q (at_new t (Down s) (Ok (says m)))

    load : (e : Entry) (r : List Entry) (x g : ℕ) → e.who ≡ s → e.request ≡ Read x g → Spot e r prefix ⊎ News s e r es m
        → NextWord (then t (Down s) (Ok (says m))) e.place s (hub_word x r)
    load e r x g i j (inl k) = next_word_old (Down s) (Ok (says m)) (h.loads e r x g k i j)
    load e r x g i j (inr k) =
        let n = k (eq-eqb e.who s i) in
        record {
          down = length t;
          later = low e n.0;
          at = answer (subst (λ (o : Request). tells o r m) j n.1);
          first = λ d v l l' q. go d v l l' n.0 (at_snoc t (Down s) (Ok (says m)) q);
        }
      where
        go : (d v : ℕ) → e.place < d → d < length t → Member e es → OldOrLast t (Down s) (Ok (says m)) d (Down s) (Ok (Value v)) → ⊥
        go d v l l' y (inl q) = h.no_word e x g y j d v l q
        go d v l l' y (inr q) = omega (arith, q.0)

    fence : (e : Entry) (r : List Entry) → e.who ≡ s → e.request ≡ Sync → Spot e r prefix ⊎ News s e r es m → SomeEnd (then t (Down s) (Ok (says m))) e.place s
    fence e r i j (inl k) = some_end_old (Down s) (Ok (says m)) (h.fences e r k i j)
    fence e r i j (inr k) =
        let n = k (eq-eqb e.who s i) in
        record {
          down = length t;
          later = low e n.0;
          at = answer (subst (λ (o : Request). tells o r m) j n.1);
        }

    word : (e : Entry) (x g : ℕ) → Member e es' → e.request ≡ Read x g → (d w : ℕ) → e.place < d → OldOrLast t (Down s) (Ok (says m)) d (Down s) (Ok (Value w)) → ⊥
    word e x g k j d w l (inl q) = h.no_word e x g (sub e k) j d w l q
    word e x g k j d w l (inr q) = nw e x g w (ok_same (sym q.2)) k j

    end : (e : Entry) → Member e es' → e.request ≡ Sync → (d : ℕ) → e.place < d → OldOrLast t (Down s) (Ok (says m)) d (Down s) (Ok Ended) → ⊥
    end e k j d l (inl q) = h.no_end e (sub e k) j d l q
    end e k j d l (inr q) = ne e (ok_same (sym q.2)) k j
