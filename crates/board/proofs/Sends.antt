-- Messages to several shims, one after the other.
use Rattle.std.proofs.Common.{◌≡◌, ℕ, zero, suc, ◌+◌, ◌*◌, ◌<◌, ◌≤◌, leb, ◌≢◌, List, ◌++◌, length, is_some, Some, None, Ok, Option, Result, sym, refl, ap, ◌∙◌, ⊎_elim, append-nil, add-one, arith, get_or-set_other}
use Rattle.std.specs.Option.{option_to_list}
use Rattle.std.proofs.lemmas.Bool.{leb-false, cases_eq}
use Rattle.fabric.proofs.Changes.{Changed, changed}
use Rattle.fabric.specs.Backing.{Backing, Model, put_on, after_put}
use Rattle.fabric.specs.Lanes.{Lane, lane_of, messages_of, capacity_of, put_answer, take_lanes}
use Rattle.fabric.specs.declared.fault.FabricFault.{FabricFault}
use Rattle.fabric.specs.declared.message.Message.{Message}
use Rattle.fabric.proofs.Answered.{put_ok}
use Rattle.rules.specs.State.{down_lane, up_lane}
use Rattle.rules.specs.Up.{send_one, send_all}
use Rattle.board.specs.Room.{HasRoom}

-- after the first n shims were sent their messages
pub record Sent {ω : Backing} (sent : ℕ → Option Message) (φ φ' : Model ω) (n : ℕ) : Type 0 where
  pub count : length φ'.lanes ≡ length φ.lanes
  pub capacities : (k : ℕ) → capacity_of φ'.lanes k ≡ capacity_of φ.lanes k
  pub here : (j : ℕ) → j < n → messages_of φ'.lanes (down_lane j) ≡ messages_of φ.lanes (down_lane j) ++ option_to_list (sent j)
  pub there : (k : ℕ) → ((j : ℕ) → j < n → k ≢ down_lane j) → messages_of φ'.lanes k ≡ messages_of φ.lanes k

sent_one : (ω : Backing) (φ : Model ω) (j : ℕ) (o : Option Message) → down_lane j < length φ.lanes
    → Changed φ.lanes (send_one ω φ j o).lanes (down_lane j) (messages_of φ.lanes (down_lane j) ++ option_to_list o)
sent_one ω φ j None low = record { count = refl; capacities = λ k. refl; here = sym (append-nil (messages_of φ.lanes (down_lane j))); there = λ k ne. refl }
sent_one ω φ j (Some m) low = changed φ.lanes (send_one ω φ j (Some m)).lanes (down_lane j) _ low refl

pub sent_all : (ω : Backing) (sent : ℕ → Option Message) (φ : Model ω) (n : ℕ) → 2 * n ≤ length φ.lanes → Sent sent φ (send_all ω sent φ n) n
sent_all ω sent φ zero low = record { count = refl; capacities = λ k. refl; here = λ j lt. absurd (omega arith); there = λ k no. refl }
sent_all ω sent φ (suc n) low =
    let before = sent_all ω sent φ n (omega arith) in
    let one = sent_one ω (send_all ω sent φ n) n (sent n) (omega arith) in
    record {
      count = one.count ∙ before.count;
      capacities = λ k. one.capacities k ∙ before.capacities k;
      here =
          λ j lt. ⊎_elim (λ (e : j ≡ n). rw e (one.here ∙ ap (λ (ms : List Message). ms ++ option_to_list (sent n)) (before.there (down_lane n) (λ i li. omega arith))))
          (λ (ne : j ≢ n). one.there (down_lane j) (omega arith) ∙ before.here j (omega arith)) (cases_eq j n);
      there = λ k elsewhere. one.there k (elsewhere n (omega arith)) ∙ before.there k (λ j lt. elsewhere j (omega arith));
    }

module _ (ω : Backing) (sent : ℕ → Option Message) (φ : Model ω) where
  -- one more shim, which is sent nothing
  pub send_none : (k : ℕ) (now : Model ω) → now ≡ send_all ω sent φ k → None ≡ sent k → now ≡ send_all ω sent φ (k + 1)
  send_none k now h e = rw (add-one k, ← e) h

  -- one more shim, which is sent m: the put is accepted
  pub send_more : (n k : ℕ) (m : Message) → k < n → length φ.lanes ≡ 2 * n → HasRoom sent φ.lanes n → Some m ≡ sent k
      → (now next : Model ω) (r : Result Unit FabricFault) → now ≡ send_all ω sent φ k → r ≡ put_answer now.lanes (down_lane k) → next ≡ after_put ω r now (down_lane k) m
      → next ≡ send_all ω sent φ (k + 1)
  send_more n k m lt len room e now next r h q p =
      let low : 2 * k ≤ length φ.lanes = omega arith in
      let before = sent_all ω sent φ k low in
      let kept = before.count in
      let room_there = before.capacities (down_lane k) in
      let same = before.there (down_lane k) (λ j l. omega arith) in
      let space = leb-false (capacity_of φ.lanes (down_lane k)) (length (messages_of φ.lanes (down_lane k))) (room k lt (ap is_some (sym e))) in
      let ok : put_answer (send_all ω sent φ k).lanes (down_lane k) ≡ Ok tt =
      put_ok (send_all ω sent φ k).lanes (down_lane k) (omega arith) (omega (arith, room_there, ap length same, space)) in
      let accepted : r ≡ Ok tt = q ∙ ap (λ (x : Model ω). put_answer x.lanes (down_lane k)) h ∙ ok in
      p ∙ ap (λ x. after_put ω x now (down_lane k) m) accepted ∙ ap (λ x. put_on ω x (down_lane k) m) h
      ∙ sym (ap (λ j. send_all ω sent φ j) (add-one k) ∙ ap (λ o. send_one ω (send_all ω sent φ k) k o) (sym e))

-- a message taken off an up lane leaves the room on the down lanes
pub room_after_take : (sent : ℕ → Option Message) (lanes : List Lane) (s n : ℕ) → HasRoom sent lanes n → HasRoom sent (take_lanes lanes (up_lane s)) n
room_after_take sent lanes s n room j lt some =
    let ne : down_lane j ≢ up_lane s = omega arith in
    let same : lane_of (take_lanes lanes (up_lane s)) (down_lane j) ≡ lane_of lanes (down_lane j) = rw get_or-set_other in
    ap (λ (l : Lane). leb l.capacity (length l.messages)) same ∙ room j lt some
