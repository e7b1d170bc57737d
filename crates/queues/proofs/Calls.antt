-- What calls on lanes in a row of slots answer, and make of the lanes.
use Rattle.std.proofs.Common.{◌≡◌, ℕ, ◌+◌, ◌*◌, ◌%◌, ◌<◌, ◌≤◌, ◌≢◌, ◌⊎◌, List, [], ◌∷◌, ◌++◌, length, get_or, set, replicate, Ok, Err, sym, refl, ap, ◌∙◌, inl, inr, ⊎_elim, mod-lt, mul_comm, arith, get_or-set_other, get_or-set_same}
use Rattle.std.proofs.Math.ListN.{get_or-map}
use Rattle.std.proofs.Math.Seq.{map-set_same}
use Rattle.std.proofs.lemmas.Nat.{mul-add-lt}
use Rattle.std.proofs.lemmas.List.{get_or-replicate, get_or_past, map-set}
use lib.ListN.{length-replicate}
use Rattle.std.proofs.lemmas.Bool.{cases_lt, cases_order}
use Rattle.fabric.specs.declared.message.Message.{Message}
use Rattle.fabric.specs.declared.fault.FabricFault.TheVariants.{NoLane, Full, Empty}
use Rattle.fabric.specs.Lanes.{lane_limit, messages_of, capacity_of, put_answer, put_lanes, take_answer, take_lanes, rest_of, empty_lanes}
use Rattle.fabric.specs.Backing.{Backing, put_on, take_on}
use Rattle.fabric.specs.Queue.{queue}
use Rattle.fabric.proofs.Queue.{queue_length, queue_put, queue_same, queue_take, queue_none, lanes_empty}
use Rattle.fabric.proofs.Tables as tables
use Rattle.queues.specs.declared.rows.Span.{Span}
use Rattle.queues.specs.declared.rows.Rows.{Rows}
use Rattle.queues.specs.Slots.{Puts, Takes, put_slot, take_first}
use Rattle.queues.specs.Rows.{no_span, span_of, with_span, put_span, take_span, new_rows, place, firsts, row_lane, row_lanes, rows_model, Fit, RowsLawful}

-- a slot of an earlier lane lies before
lower : (c k j k' j' : ℕ) → k < k' → j < c → c * k + j < c * k' + j'
lower c k j k' j' h l = omega (arith, mul-add-lt k c j k' h l, mul_comm c k)

-- slots of two lanes, or two slots of one, are not the same
apart : (c k j k' j' : ℕ) → j < c → j' < c → (k' ≢ k) ⊎ (j' ≢ j) → c * k' + j' ≢ c * k + j
apart c k j k' j' l l' differ e =
    ⊎_elim
    (λ same. ⊎_elim (λ ne. ne same) (λ ne. ne (omega (arith, ap (λ m. c * m) same))) differ)
    (⊎_elim (λ h. absurd (omega (arith, lower c k' j' k j h l'))) (λ h. absurd (omega (arith, lower c k j k' j' h l))))
    (cases_order k' k)

-- a list of one thing holds it at each place
same_all : (n k : ℕ) (s : Span) → get_or (replicate n s) k s ≡ s
same_all n k s = ⊎_elim (λ h. get_or-replicate n k s s h) (λ h. get_or_past (replicate n s) k s (omega (arith, length-replicate n s))) (cases_lt k n)

pub new_lawful : (n c room : ℕ) → Fit n c room → RowsLawful (new_rows n c) room
new_lawful n c room fit =
    record {
      fit = fit;
      spans_length = refl;
      first_most = λ k. omega (arith, ap (λ (s : Span). s.first) (same_all lane_limit k no_span));
      waiting_most = λ k. omega (arith, ap (λ (s : Span). s.waiting) (same_all lane_limit k no_span));
    }

-- lanes just made: nothing waits
pub new_lanes : (n c : ℕ) (held : ℕ → Message) → row_lanes (new_rows n c) held ≡ empty_lanes n c
new_lanes n c held =
    lanes_empty n c (row_lane (new_rows n c) held)
    (λ k _. ap (λ l. record { capacity = c; messages = l })
    (ap (λ (s : Span). queue (λ j. held (c * k + j)) c s.first s.waiting) (same_all lane_limit k no_span)
    ∙ queue_none (λ j. held (c * k + j)) c 0))

-- a lane that does not exist
module _ (r : Rows) (held : ℕ → Message) (k : ℕ) (out : r.lanes ≤ k) where
  pub no_put : Err (NoLane k) ≡ put_answer (row_lanes r held) k
  no_put = tables.no_put r.lanes (row_lane r held) k out

  pub no_take : Err (NoLane k) ≡ take_answer (row_lanes r held) k
  no_take = tables.no_take r.lanes (row_lane r held) k out

  pub capacity_none : 0 ≡ capacity_of (row_lanes r held) k
  capacity_none = tables.capacity_out r.lanes (row_lane r held) k out

  pub waiting_none : 0 ≡ length (messages_of (row_lanes r held) k)
  waiting_none = tables.wait_out r.lanes (row_lane r held) k out

-- a lane that exists
module _ (r : Rows) (room : ℕ) (held : ℕ → Message) (ok : RowsLawful r room) (k : ℕ) (in_range : k < r.lanes) where
  abbrev c : ℕ
  c = r.capacity

  abbrev s : Span
  s = span_of r k

  abbrev at : ℕ → ℕ → Message
  at j i = held (r.capacity * j + i)

  in_spans : k < length r.spans
  in_spans = omega (arith, ok.spans_length, ok.fit.lane_bound)

  pub within : (m : ℕ) → m % r.capacity < r.capacity
  within m = mod-lt m (ok.fit.capacity_least (omega arith))

  waits : length (row_lane r held k).messages ≡ s.waiting
  waits = queue_length (at k) c s.first s.waiting

  pub waiting_is : (span_of r k).waiting ≡ length (messages_of (row_lanes r held) k)
  waiting_is = sym waits ∙ tables.wait_in r.lanes (row_lane r held) k in_range

  pub capacity_is : r.capacity ≡ capacity_of (row_lanes r held) k
  capacity_is = tables.capacity_in r.lanes (row_lane r held) k in_range

  first_is : get_or (firsts r) k 0 ≡ s.first
  first_is = get_or-map (λ (x : Span). x.first) r.spans k no_span

  pub full_put : r.capacity ≤ (span_of r k).waiting → Err (Full k) ≡ put_answer (row_lanes r held) k
  full_put h = tables.full_put r.lanes (row_lane r held) k in_range (omega (arith, waits))

  pub ok_put : (span_of r k).waiting < r.capacity → Ok tt ≡ put_answer (row_lanes r held) k
  ok_put h = tables.ok_put r.lanes (row_lane r held) k in_range (omega (arith, waits))

  pub empty_take : (span_of r k).waiting ≡ 0 → Err (Empty k) ≡ take_answer (row_lanes r held) k
  empty_take e = tables.empty_take r.lanes (row_lane r held) k in_range (ap (λ m. queue (at k) c s.first m) e ∙ queue_none (at k) c s.first)

  -- the next slot comes to hold x, and no other of the lanes' slots changes
  module _ (space : (span_of r k).waiting < r.capacity) (x : Message) (held' : ℕ → Message) (slot : ℕ) (next : slot ≡ place r k ((span_of r k).first + (span_of r k).waiting))
      (here : held' slot ≡ x) (there : (i : ℕ) → i < room → i ≢ slot → held' i ≡ held i) where
    abbrev more : Rows
    more = with_span r k (put_span r k)

    abbrev at' : ℕ → ℕ → Message
    at' j i = held' (r.capacity * j + i)

    there_in : (j i : ℕ) → j < r.lanes → i < c → (j ≢ k) ⊎ (i ≢ (s.first + s.waiting) % c) → at' j i ≡ at j i
    there_in j i h l differ =
        there (c * j + i) (omega (arith, lower c j i r.lanes 0 h l, ok.fit.all_in)) (λ e. apart c k ((s.first + s.waiting) % c) j i (within _) l differ (e ∙ next))

    put_here : (row_lane more held' k).messages ≡ (row_lane r held k).messages ++ x ∷ []
    put_here =
        ap (λ (y : Span). queue (at' k) c y.first y.waiting) (get_or-set_same r.spans k _ no_span in_spans)
        ∙ queue_put (at k) (at' k) c s.first s.waiting x space (ap held' (sym next) ∙ here) (λ i l ne. there_in k i in_range l (inr ne))

    put_there : (j : ℕ) → j < r.lanes → j ≢ k → (row_lane more held' j).messages ≡ (row_lane r held j).messages
    put_there j h ne =
        ap (λ (y : Span). queue (at' j) c y.first y.waiting) (get_or-set_other r.spans k j _ no_span ne)
        ∙ queue_same (at j) (at' j) c (span_of r j).first (span_of r j).waiting (λ i _. there_in j _ h (within _) (inl ne))

    put_makes : row_lanes more held' ≡ put_lanes (row_lanes r held) k x
    put_makes =
        tables.put_made r.lanes (row_lane r held) (row_lane more held') k x in_range
        (ap (λ l. record { capacity = c; messages = l }) put_here) (λ j h ne. ap (λ l. record { capacity = c; messages = l }) (put_there j h ne))

    pub put_model : (b : Backing) (state state' : List ℕ → b.State) → Puts b state state' slot x → rows_model b (with_span r k (put_span r k)) held' state' ≡ put_on b (rows_model b r held state) k x
    put_model b state state' puts =
        let same : firsts more ≡ firsts r = map-set_same (λ (y : Span). y.first) r.spans k _ no_span refl in
        let after : slot ≡ put_slot (row_lanes r held) (firsts r) k =
        next ∙ λ i. capacity_is i * k + (sym first_is i + waiting_is i) % capacity_is i in
        λ i. record { lanes = put_makes i; state = (ap state' same ∙ puts (firsts r) (row_lanes r held) k after) i }

  -- the first slot in use moves on
  module _ (some : 0 < (span_of r k).waiting) where
    abbrev less : Rows
    less = with_span r k (take_span r k)

    take_here : (row_lane r held k).messages ≡ at k (s.first % c) ∷ (row_lane less held k).messages
    take_here =
        queue_take (at k) c s.first s.waiting some
        ∙ ap (λ l. at k (s.first % c) ∷ l) (sym (ap (λ (y : Span). queue (at k) c y.first y.waiting) (get_or-set_same r.spans k _ no_span in_spans)))

    take_there : (j : ℕ) → j ≢ k → (row_lane less held j).messages ≡ (row_lane r held j).messages
    take_there j ne = ap (λ (y : Span). queue (at j) c y.first y.waiting) (get_or-set_other r.spans k j _ no_span ne)

    pub ok_take : Ok (held (place r k (span_of r k).first)) ≡ take_answer (row_lanes r held) k
    ok_take = tables.ok_take r.lanes (row_lane r held) k _ _ in_range take_here

    take_makes : row_lanes less held ≡ take_lanes (row_lanes r held) k
    take_makes =
        tables.take_made r.lanes (row_lane r held) (row_lane less held) k in_range
        (ap (λ l. record { capacity = c; messages = l }) (sym (ap rest_of take_here))) (λ j _ ne. ap (λ l. record { capacity = c; messages = l }) (take_there j ne))

    pub take_model : (b : Backing) (state : List ℕ → b.State) → Takes b state → rows_model b (with_span r k (take_span r k)) held state ≡ take_on b (rows_model b r held state) k
    take_model b state takes =
        let moved : firsts less ≡ take_first (row_lanes r held) (firsts r) k =
        map-set (λ (y : Span). y.first) r.spans k _ ∙ (λ i. set (firsts r) k ((sym first_is i + 1) % capacity_is i)) in
        λ i. record { lanes = take_makes i; state = (ap state moved ∙ takes (firsts r) (row_lanes r held) k) i }
