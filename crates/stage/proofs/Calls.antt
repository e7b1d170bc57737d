-- What a put and a take make of a stage.
use Rattle.std.proofs.Common.{◌≡◌, ℕ, ◌+◌, ◌<◌, ◌≤◌, ◌≢◌, true, false, List, [], ◌∷◌, ◌++◌, length, set, Some, None, Ok, Err, Option, Result, sym, refl, ap, ◌∙◌, subst, ⊎_elim, arith, length-append, get_or-set_other, get_or-set_same}
use mathlib.Core.Bool.{false≢true}
use Rattle.std.proofs.lemmas.Bool.{cases_lt}
use Rattle.std.proofs.lemmas.List.{get_or_past}
use Rattle.std.specs.Option.{is_some, ok_or, option_to_list}
use Rattle.std.specs.Result.{result_ok}
use Rattle.fabric.specs.declared.message.Message.{Message}
use Rattle.fabric.specs.declared.fault.FabricFault.{FabricFault}
use Rattle.fabric.specs.Lanes.{Lane, Sound, no_lane, set_messages, put_answer, put_lanes, lanes_after_put, take_answer, take_lanes, lanes_after_take, rest_of, messages_of, capacity_of}
use Rattle.fabric.specs.Queue.{lanes_by}
use Rattle.fabric.proofs.Answered as answered
use Rattle.fabric.proofs.Changes.{Changed, changed}
use Rattle.fabric.proofs.Queue.{lanes_length, lanes_with}
use Rattle.fabric.proofs.Tables as tables
use Rattle.stage.proofs.Fetches.{Next, fetched}
use Rattle.stage.specs.Stage.{register, stage_lane, stage_lanes, StageLawful}

abbrev Rs : Type 0
Rs = List (Option Message)

-- lane k of the stage comes to hold xs, and all else stays
module _ (rs rs' : Rs) (m m' : List Lane) (k : ℕ) (xs : List Message) (in_range : k < length m) (count : length m' ≡ length m) (capacities : (j : ℕ) → capacity_of m' j ≡ capacity_of m j)
    (here : (stage_lane rs' m' k).messages ≡ xs) (regs : (j : ℕ) → j ≢ k → register rs' j ≡ register rs j) (lists : (j : ℕ) → j ≢ k → messages_of m' j ≡ messages_of m j) where
  there : (j : ℕ) → j ≢ k → (stage_lane rs' m' j).messages ≡ (stage_lane rs m j).messages
  there j ne = λ i. option_to_list (regs j ne i) ++ lists j ne i

  moved : stage_lanes rs' m' ≡ set_messages (stage_lanes rs m) k xs
  moved =
      ap (λ n. lanes_by n (stage_lane rs' m')) count
      ∙ lanes_with (length m) (stage_lane rs m) (stage_lane rs' m') k xs in_range (λ i. record { capacity = capacities k i; messages = here i }) (λ j _ ne. λ i. record { capacity = capacities j i; messages = there j ne i })

module _ (rs : Rs) (m : List Lane) (k : ℕ) (in_range : k < length m) (ok : StageLawful rs m) (sound : Sound m) where
  abbrev n : ℕ
  n = length m

  pub holds : messages_of (stage_lanes rs m) k ≡ (stage_lane rs m k).messages
  holds = tables.messages_at n (stage_lane rs m) k in_range

  reg_in : k < length rs
  reg_in = omega (arith, ok.registers_length, sound.lane_bound)

  pub empty : register rs k ≡ None → (stage_lane rs m k).messages ≡ []
  empty none = λ i. option_to_list (none i) ++ ok.register_first k in_range none i

  -- the empty register takes the message
  module _ (x : Message) (none : register rs k ≡ None) where
    abbrev rs₁ : Rs
    rs₁ = set rs k (Some x)

    here₁ : (stage_lane rs₁ m k).messages ≡ (stage_lane rs m k).messages ++ x ∷ []
    here₁ = ap (λ o. option_to_list o ++ messages_of m k) (get_or-set_same rs k (Some x) None reg_in) ∙ ap (λ l. x ∷ l) (ok.register_first k in_range none) ∙ sym (ap (λ l. l ++ x ∷ []) (empty none))

    others : (j : ℕ) → j ≢ k → register rs₁ j ≡ register rs j
    others j ne = get_or-set_other rs k j (Some x) None ne

    pub put_none_lanes : stage_lanes rs₁ m ≡ put_lanes (stage_lanes rs m) k x
    put_none_lanes =
        moved rs rs₁ m m k _ in_range refl (λ _. refl) here₁ others (λ _ _. refl)
        ∙ ap (λ l. set_messages (stage_lanes rs m) k (l ++ x ∷ [])) (sym holds)

  pub put_none_answer : register rs k ≡ None → Ok tt ≡ put_answer (stage_lanes rs m) k
  put_none_answer none = tables.ok_put n (stage_lane rs m) k in_range (omega (arith, ap length (empty none), sound.capacity_least k in_range))

  pub empty_answer : register rs k ≡ None → Err (FabricFault.Empty k) ≡ take_answer (stage_lanes rs m) k
  empty_answer none = tables.empty_take n (stage_lane rs m) k in_range (empty none)

  module _ (y : Message) (some : register rs k ≡ Some y) where
    pub full : (stage_lane rs m k).messages ≡ y ∷ messages_of m k
    full = ap (λ o. option_to_list o ++ messages_of m k) some

    pub full_answer : capacity_of m k ≤ length (messages_of m k) + 1 → Err (FabricFault.Full k) ≡ put_answer (stage_lanes rs m) k
    full_answer f = tables.full_put n (stage_lane rs m) k in_range (omega (arith, ap length full))

    pub put_some_answer : length (messages_of m k) + 1 < capacity_of m k → put_answer m k ≡ put_answer (stage_lanes rs m) k
    put_some_answer f = answered.put_ok m k in_range (omega arith) ∙ tables.ok_put n (stage_lane rs m) k in_range (omega (arith, ap length full))

    pub first_answer : Ok y ≡ take_answer (stage_lanes rs m) k
    first_answer = tables.ok_take n (stage_lane rs m) k y (messages_of m k) in_range full

    -- the register is full, and the message goes below
    module _ (x : Message) (m' : List Lane) (r : Result Unit FabricFault) (space : length (messages_of m k) + 1 < capacity_of m k)
        (answer : r ≡ put_answer m k) (after : m' ≡ lanes_after_put r m k x) where
      put_some_went : r ≡ Ok tt
      put_some_went = answer ∙ answered.put_ok m k in_range (omega arith)

      diff : Changed m m' k (messages_of m k ++ x ∷ [])
      diff = changed m m' k _ in_range (subst (λ q. m' ≡ lanes_after_put q m k x) put_some_went after)

      here₂ : (stage_lane rs m' k).messages ≡ (stage_lane rs m k).messages ++ x ∷ []
      here₂ = ap (λ l. option_to_list (register rs k) ++ l) diff.here ∙ ap (λ o. option_to_list o ++ (messages_of m k ++ x ∷ [])) some ∙ sym (ap (λ l. l ++ x ∷ []) full)

      pub put_some_lanes : stage_lanes rs m' ≡ lanes_after_put r (stage_lanes rs m) k x
      put_some_lanes =
          moved rs rs m m' k _ in_range diff.count diff.capacities here₂ (λ _ _. refl) diff.there
          ∙ ap (λ l. set_messages (stage_lanes rs m) k (l ++ x ∷ [])) (sym holds)
          ∙ ap (λ q. lanes_after_put q (stage_lanes rs m) k x) (sym put_some_went)

    -- the register goes, and the next message below comes up
    module _ (m' : List Lane) (r : Result Message FabricFault) (o : Option Message) (answer : r ≡ take_answer m k) (after : m' ≡ lanes_after_take r m k) (next : o ≡ result_ok r) where
      abbrev rs₂ : Rs
      rs₂ = set rs k o

      reg₂ : register rs₂ k ≡ o
      reg₂ = get_or-set_same rs k o None reg_in

      got : Next m m' k o
      got = fetched m m' k r o answer after next

      here₃ : (stage_lane rs₂ m' k).messages ≡ messages_of m k
      here₃ = ap (λ p. option_to_list p ++ messages_of m' k) reg₂ ∙ got.here

      pub take_some_lanes : stage_lanes rs₂ m' ≡ take_lanes (stage_lanes rs m) k
      take_some_lanes =
          moved rs rs₂ m m' k _ in_range got.count got.capacities here₃ (λ j ne. get_or-set_other rs k j o None ne) got.there
          ∙ ap (λ l. set_messages (stage_lanes rs m) k (rest_of l)) (sym (holds ∙ full))

  look_by : (o : Option Message) → register rs k ≡ o → ok_or o (FabricFault.Empty k) ≡ take_answer (stage_lanes rs m) k
  look_by None none = empty_answer none
  look_by (Some y) some = first_answer y some

  -- what the register says
  pub look_answer : ok_or (register rs k) (FabricFault.Empty k) ≡ take_answer (stage_lanes rs m) k
  look_answer = look_by (register rs k) refl

-- how many messages a register holds
length_none : (o : Option Message) → is_some o ≡ false → length (option_to_list o) ≡ 0
length_none None e = refl
length_none (Some y) e = absurd (false≢true (sym e))

length_some : (o : Option Message) → is_some o ≡ true → length (option_to_list o) ≡ 1
length_some None e = absurd (false≢true e)
length_some (Some y) e = refl

module _ (rs : Rs) (m : List Lane) (k : ℕ) where
  pub same_capacity : capacity_of m k ≡ capacity_of (stage_lanes rs m) k
  same_capacity =
      ⊎_elim (λ h. tables.capacity_in (length m) (stage_lane rs m) k h)
      (λ h. ap (λ l. l.capacity) (get_or_past m k no_lane h) ∙ tables.capacity_out (length m) (stage_lane rs m) k h)
      (cases_lt k (length m))

  pub waits_past : length m ≤ k → length (messages_of m k) ≡ length (messages_of (stage_lanes rs m) k)
  waits_past h = ap (λ l. length l.messages) (get_or_past m k no_lane h) ∙ tables.wait_out (length m) (stage_lane rs m) k h

  waits : k < length m → length (option_to_list (register rs k)) + length (messages_of m k) ≡ length (messages_of (stage_lanes rs m) k)
  waits h = sym (length-append (option_to_list (register rs k)) (messages_of m k)) ∙ tables.wait_in (length m) (stage_lane rs m) k h

  pub waits_none : k < length m → is_some (register rs k) ≡ false → length (messages_of m k) ≡ length (messages_of (stage_lanes rs m) k)
  waits_none h e = omega (arith, waits h, length_none (register rs k) e)

  pub waits_some : k < length m → is_some (register rs k) ≡ true → length (messages_of m k) + 1 ≡ length (messages_of (stage_lanes rs m) k)
  waits_some h e = omega (arith, waits h, length_some (register rs k) e)

  pub count_same : length m ≡ length (stage_lanes rs m)
  count_same = sym (lanes_length (length m) (stage_lane rs m))

  pub no_lane_put : length m ≤ k → Err (FabricFault.NoLane k) ≡ put_answer (stage_lanes rs m) k
  no_lane_put h = tables.no_put (length m) (stage_lane rs m) k h

  pub no_lane_take : length m ≤ k → Err (FabricFault.NoLane k) ≡ take_answer (stage_lanes rs m) k
  no_lane_take h = tables.no_take (length m) (stage_lane rs m) k h

-- what a stage's calls answer
pub ruleset stage_answers = (count_same, same_capacity, waits_past, waits_none, waits_some, no_lane_put, put_none_answer, full_answer, put_some_answer, no_lane_take, look_answer)
