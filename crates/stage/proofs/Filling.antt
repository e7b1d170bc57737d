-- Making a stage: the registers are filled lane by lane.
use Rattle.std.proofs.Common.{◌≡◌, ℕ, ◌+◌, ◌<◌, ◌≤◌, ◌≢◌, List, [], ◌++◌, length, set, None, Option, Result, sym, ap, ◌∙◌, subst, ⊎_elim, add-one, arith, length-set, get_or-set_other, get_or-set_same}
use Rattle.std.proofs.lemmas.Bool.{cases_eq}
use Rattle.std.specs.Option.{option_to_list}
use Rattle.std.specs.Result.{result_ok}
use Rattle.fabric.specs.declared.message.Message.{Message}
use Rattle.fabric.specs.declared.fault.FabricFault.{FabricFault}
use Rattle.fabric.specs.Lanes.{Lane, Sound, lane_limit, lane_of, take_answer, lanes_after_take, messages_of}
use Rattle.fabric.specs.Backing.{Backing, Model, after_take}
use Rattle.fabric.proofs.Queue.{lanes_are}
use Rattle.stage.proofs.Fetches.{Next, fetched}
use Rattle.stage.specs.Stage.{register, stage_lane, stage_lanes, firsts_taken, StageLawful}

-- from m₀, the lanes below i have their first message in the register
pub record Filled (rs : List (Option Message)) (m₀ m : List Lane) (i : ℕ) : Type 0 where
  pub registers_length : length rs ≡ lane_limit
  pub count : length m ≡ length m₀
  pub done : (k : ℕ) → k < i → stage_lane rs m k ≡ lane_of m₀ k
  pub register_first : (k : ℕ) → k < i → register rs k ≡ None → messages_of m k ≡ []
  pub left : (k : ℕ) → i ≤ k → lane_of m k ≡ lane_of m₀ k

-- one more lane is drawn
pub one_filled : (rs : List (Option Message)) (m₀ m m' : List Lane) (i : ℕ) (r : Result Message FabricFault) (o : Option Message) → Filled rs m₀ m i → i < lane_limit
    → r ≡ take_answer m i → m' ≡ lanes_after_take r m i → o ≡ result_ok r → Filled (set rs i o) m₀ m' (i + 1)
one_filled rs m₀ m m' i r o f b answer after next =
    let n : Next m m' i o = fetched m m' i r o answer after next in
    let reg : register (set rs i o) i ≡ o = get_or-set_same rs i o None (omega (arith, f.registers_length)) in
    let off : (k : ℕ) → k ≢ i → register (set rs i o) k ≡ register rs k = λ k ne. get_or-set_other rs i k o None ne in
    let here : stage_lane (set rs i o) m' i ≡ lane_of m₀ i =
    (λ j. record { capacity = n.capacities i j; messages = (ap (λ p. option_to_list p ++ messages_of m' i) reg ∙ n.here) j }) ∙ f.left i (omega arith) in
    let there : (k : ℕ) → k ≢ i → stage_lane (set rs i o) m' k ≡ stage_lane rs m k =
    λ k ne. λ j. record { capacity = n.capacities k j; messages = option_to_list (off k ne j) ++ n.there k ne j } in
    record {
      registers_length = length-set rs i o ∙ f.registers_length;
      count = n.count ∙ f.count;
      done = λ k l. ⊎_elim (λ q. subst (λ j. stage_lane (set rs i o) m' j ≡ lane_of m₀ j) (sym q) here) (λ ne. there k ne ∙ f.done k (omega arith)) (cases_eq k i);
      register_first = λ k l. ⊎_elim (λ q. subst (λ j. register (set rs i o) j ≡ None → messages_of m' j ≡ []) (sym q) (λ e. n.register_first (sym reg ∙ e))) (λ ne e. n.there k ne ∙ f.register_first k (omega arith) (sym (off k ne) ∙ e)) (cases_eq k i);
      left = λ k l. let ne : k ≢ i = omega arith in (λ j. record { capacity = n.capacities k j; messages = n.there k ne j }) ∙ f.left k (omega arith);
    }

module _ (rs : List (Option Message)) (m₀ m : List Lane) (i : ℕ) (f : Filled rs m₀ m i) (e : length m₀ ≤ i) where
  pub filled_same : stage_lanes rs m ≡ m₀
  filled_same = sym (lanes_are (length m) (stage_lane rs m) m₀ (sym f.count) (λ k h. sym (f.done k (omega (arith, f.count)))))

  pub filled_lawful : Sound m₀ → StageLawful rs m
  filled_lawful s =
      record {
        registers_length = f.registers_length;
        register_first = λ k h. f.register_first k (omega (arith, f.count));
        fits = λ k h. let q = f.done k (omega (arith, f.count)) in omega (arith, ap (λ l. length l.messages) q, ap (λ l. l.capacity) q, s.fits k);
      }

-- one more of the first messages is taken
pub firsts_more : (b : Backing) (m₀ m m' : Model b) (k : ℕ) (r : Result Message FabricFault) → m ≡ firsts_taken b m₀ k → r ≡ take_answer m.lanes k → m' ≡ after_take b r m k → m' ≡ firsts_taken b m₀ (k + 1)
unfolding firsts_taken
firsts_more b m₀ m m' k r before answer after =
    after ∙ ap (λ q. after_take b q m k) answer ∙ ap (λ (q : Model b). after_take b (take_answer q.lanes k) q k) before ∙ ap (firsts_taken b m₀) (sym (add-one k))
