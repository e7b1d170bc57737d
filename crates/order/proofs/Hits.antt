-- Loads answered at once (hits): which store they read, in terms that stay true while the log and the calls sent grow.
use Rattle.std.proofs.Common.{◌≡◌, ℕ, ◌<◌, ◌≤◌, ◌⊎◌, List, ◌∷◌, length, sym, ap, ◌∙◌, inl, inr, arith}
use mathlib.Core.Option.{some}
use Rattle.std.proofs.lemmas.Bool.{cases_lt}
use Rattle.order.proofs.Machine.{Line, Wait, Ready, copy}
use Rattle.order.proofs.Lists.{Member, Spot, spot_member, Suffix, suffix_short, suffix_deep, onto, member_onto, onto_member}
use Rattle.order.proofs.Entries.{Entry, made_by, member_made_by, spot_made_by, AllBy, Descending, descending_low, descending_onto, Ascending, ascending_low, bound, bound_low}
use Rattle.order.proofs.Entries.{descending_ascending}
use Rattle.order.proofs.Replay.{Awaited}
use Rattle.order.proofs.View.{hub_word, hub_stamp, hub_shares, hub_view, Holds, ready_each}
use Rattle.order.proofs.Steps.{Position, unheard_calls, calls, calls_is, unheard_calls_who, heard_suffix}
use Rattle.order.proofs.Writes.{EntryWrites, LastOwn, NoOwn, own_last, copy_view}

-- a load answered at once: its place, shim and line, the word that it gave, and the part of the log that its shim had heard of
pub record Hit : Type 0 where
  pub place : ℕ
  pub who : ℕ
  pub line : ℕ
  pub word : ℕ
  pub seen : List Entry

-- it read the last earlier store of its own shim to the line, which the shim had not heard of
pub record OwnStore (log calls : List Entry) (h : Hit) : Type 0 where
  pub entry : Entry
  pub member : Member entry calls
  pub earlier : entry.place < h.place
  pub writes : EntryWrites entry h.line h.word
  pub unheard : (r : List Entry) → Spot entry r log → length h.seen ≤ length r
  pub latest : (d : Entry) (v : ℕ) → Member d calls → d.place < h.place → EntryWrites d h.line v → d.place ≤ entry.place

-- it read the hub's word: its shim had heard of all its own earlier stores to the line
pub record HubStore (calls : List Entry) (h : Hit) : Type 0 where
  pub heard : (d : Entry) (v : ℕ) → Member d calls → d.place < h.place → EntryWrites d h.line v → (r : List Entry) × Spot d r h.seen
  pub word_is : h.word ≡ hub_word h.line h.seen

-- log: the calls performed; calls: those that its shim has sent up; limit: how many calls of the log its shim has heard of by now
pub record HitOk (log calls : List Entry) (limit : ℕ) (h : Hit) : Type 0 where
  pub seen_is : Suffix h.seen log
  pub low : length h.seen ≤ limit
  pub waited : (e : Entry) → Member e calls → e.place < h.place → Awaited e.request → (r : List Entry) × Spot e r h.seen
  pub later : (e : Entry) (r : List Entry) → Spot e r log → h.place < e.place → length h.seen ≤ length r
  pub value : OwnStore log calls h ⊎ HubStore calls h

-- ## this stays true

pub hit_sent : {log calls calls' : List Entry} {k k' : ℕ} {h : Hit} → k ≤ k' → ((e : Entry) → Member e calls → Member e calls')
    → ((e : Entry) → Member e calls' → Member e calls ⊎ (h.place < e.place)) → HitOk log calls k h → HitOk log calls' k' h
hit_sent {log = log} {calls = calls} {calls' = calls'} {h = h} l sup sub o =
    record {
      seen_is = o.seen_is;
      low = omega (arith, o.low);
      waited = λ e m i j. wait e i j (sub e m);
      later = o.later;
      value = val o.value;
    }
  where
    wait : (e : Entry) → e.place < h.place → Awaited e.request → Member e calls ⊎ (h.place < e.place) → (r : List Entry) × Spot e r h.seen
    wait e i j (inl m) = o.waited e m i j
    wait e i j (inr m) = absurd (omega arith)

    val : OwnStore log calls h ⊎ HubStore calls h → OwnStore log calls' h ⊎ HubStore calls' h
    val (inl s) =
        inl record {
          entry = s.entry;
          member = sup s.entry s.member;
          earlier = s.earlier;
          writes = s.writes;
          unheard = s.unheard;
          latest = λ d v m i w. late d v i w (sub d m);
        }
      where
        late : (d : Entry) (v : ℕ) → d.place < h.place → EntryWrites d h.line v → Member d calls ⊎ (h.place < d.place) → d.place ≤ s.entry.place
        late d v i w (inl m) = s.latest d v m i w
        late d v i w (inr m) = absurd (omega arith)
    val (inr s) = inr record { heard = λ d v m i w. from_hub d v i w (sub d m); word_is = s.word_is }
      where
        from_hub : (d : Entry) (v : ℕ) → d.place < h.place → EntryWrites d h.line v → Member d calls ⊎ (h.place < d.place) → (r : List Entry) × Spot d r h.seen
        from_hub d v i w (inl m) = s.heard d v m i w
        from_hub d v i w (inr m) = absurd (omega arith)

pub hit_performed : {log calls : List Entry} (e : Entry) {k : ℕ} {h : Hit} → HitOk log calls k h → HitOk (e ∷ log) calls k h
hit_performed {log = log} {calls = calls} e {h = h} o =
    record {
      seen_is = inr o.seen_is;
      low = o.low;
      waited = o.waited;
      later = later;
      value = val o.value;
    }
  where
    later : (d : Entry) (r : List Entry) → Spot d r (e ∷ log) → h.place < d.place → length h.seen ≤ length r
    later d r (inl s) i = rw s.1 (suffix_short h.seen log o.seen_is)
    later d r (inr s) i = o.later d r s i

    val : OwnStore log calls h ⊎ HubStore calls h → OwnStore (e ∷ log) calls h ⊎ HubStore calls h
    val (inl s) = inl record { entry = s.entry; member = s.member; earlier = s.earlier; writes = s.writes; unheard = far; latest = s.latest }
      where
        far : (r : List Entry) → Spot s.entry r (e ∷ log) → length h.seen ≤ length r
        far r (inl i) = rw i.1 (suffix_short h.seen log o.seen_is)
        far r (inr i) = s.unheard r i
    val (inr s) = inr s

-- ## a new hit

pub hit_new : (log : List Entry) (s x w n : ℕ) (v : Position) (wt : Wait) (ln : ℕ → Line) → onto v.unheard v.heard ≡ log
    → AllBy s v.pending → Holds s v.heard (unheard_calls s v) wt ln → wt ≡ Ready → copy (ln x) ≡ some w
    → Descending n (calls log s v) → ((e : Entry) (r : List Entry) → Spot e r log → e.place < n)
    → HitOk log (calls log s v) (length v.heard) (record { place = n; who = s; line = x; word = w; seen = v.heard })
hit_new log s x w n v wt ln i wh h rd c f low =
    record {
      seen_is = heard_suffix log v i;
      low = omega arith;
      waited = λ e m l j. wait e j (apart e m);
      later = λ e r k l. absurd (omega (arith, low e r k));
      value = val (own_last x w es (hub_view s x v.heard) (bound own_old) ascending (sym (ap copy (h.line x)) ∙ c));
    }
  where
    new : Hit
    new = record { place = n; who = s; line = x; word = w; seen = v.heard }

    es : List Entry
    es = unheard_calls s v

    own_old : List Entry
    own_old = made_by s v.heard

    eq : calls log s v ≡ onto es own_old
    eq = calls_is log s v i

    apart : (e : Entry) → Member e (calls log s v) → Member e es ⊎ Member e own_old
    apart e m = member_onto e es own_old (rw eq at m)

    f' : Descending n (onto es own_old)
    f' = rw eq at f

    ascending : Ascending (bound own_old) es
    ascending = descending_ascending n es own_old f'

    old_low : (e : Entry) → Member e own_old → e.place < bound own_old
    old_low e m = let r = descending_onto n es own_old f' in bound_low r.0 own_old r.1 e m

    spotted : (e : Entry) → Member e own_old → (r : List Entry) × Spot e r v.heard
    spotted e m = let k = member_made_by s e v.heard m in (k.older, k.spot)

    wait : (e : Entry) → Awaited e.request → Member e es ⊎ Member e own_old → (r : List Entry) × Spot e r v.heard
    wait e j (inl m) = absurd (j (ready_each es Ready h.made_ready (sym h.wait ∙ rd) e m))
    wait e j (inr m) = spotted e m

    far : (e : Entry) → Member e es → (r : List Entry) → Spot e r log → length v.heard ≤ length r
    far e m r k = go (cases_lt (length r) (length v.heard))
      where
        go : (length r < length v.heard) ⊎ (length v.heard ≤ length r) → length v.heard ≤ length r
        go (inr l) = l
        go (inl l) =
            let d = suffix_deep e r v.heard log (heard_suffix log v i) k l in
            let o = spot_member e (made_by s r) own_old (spot_made_by s e r v.heard d (unheard_calls_who s e v wh m)) in
            absurd (omega (arith, old_low e o, ascending_low (bound own_old) es ascending e m))

    val : LastOwn x w es ⊎ (NoOwn x es × copy (hub_view s x v.heard) ≡ some w)
        → OwnStore log (calls log s v) new ⊎ HubStore (calls log s v) new
    val (inl o) =
        inl record {
          entry = o.entry;
          member = rw eq (onto_member o.entry es own_old (inl o.member));
          earlier = descending_low n (onto es own_old) f' o.entry (onto_member o.entry es own_old (inl o.member));
          writes = o.writes;
          unheard = far o.entry o.member;
          latest = λ d u m l j. late d u j (apart d m);
        }
      where
        late : (d : Entry) (u : ℕ) → EntryWrites d x u → Member d es ⊎ Member d own_old → d.place ≤ o.entry.place
        late d u j (inl m) = o.latest d u m j
        late d u j (inr m) = omega (arith, old_low d m, ascending_low (bound own_old) es ascending o.entry o.member)
    val (inr o) =
        inr record {
          heard = λ d u m l j. from_hub d u j (apart d m);
          word_is = copy_view (hub_shares s v.heard x) (hub_word x v.heard) (hub_stamp x v.heard) w o.1;
        }
      where
        from_hub : (d : Entry) (u : ℕ) → EntryWrites d x u → Member d es ⊎ Member d own_old → (r : List Entry) × Spot d r v.heard
        from_hub d u j (inl m) = absurd (o.0 d u m j)
        from_hub d u j (inr m) = spotted d m
