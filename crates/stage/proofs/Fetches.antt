-- The next message of a lane below comes up into the lane's register.
use Rattle.std.proofs.Common.{◌≡◌, ℕ, ◌<◌, ◌≢◌, List, [], ◌∷◌, ◌++◌, length, get_or, Some, None, Ok, Err, Option, Result, sym, refl, ap, ◌∙◌, ⊎_elim, arith}
use Rattle.std.proofs.lemmas.Bool.{cases_lt}
use Rattle.std.proofs.lemmas.List.{get_or_past}
use Rattle.std.specs.Option.{option_to_list}
use Rattle.std.specs.Result.{result_ok}
use Rattle.fabric.specs.declared.message.Message.{Message}
use Rattle.fabric.specs.declared.fault.FabricFault.{FabricFault}
use Rattle.fabric.specs.Lanes.{Lane, no_lane, take_answer, lanes_after_take, rest_of, messages_of, capacity_of}
use Rattle.fabric.proofs.Answered as answered
use Rattle.fabric.proofs.Changes.{Changed, changed}

-- whether there was one or not, the new register and the lane below make up the old lane below
pub record Next (m m' : List Lane) (k : ℕ) (o : Option Message) : Type 0 where
  pub count : length m' ≡ length m
  pub capacities : (j : ℕ) → capacity_of m' j ≡ capacity_of m j
  pub here : option_to_list o ++ messages_of m' k ≡ messages_of m k
  pub there : (j : ℕ) → j ≢ k → messages_of m' j ≡ messages_of m j
  pub register_first : o ≡ None → messages_of m' k ≡ []

module _ (m m' : List Lane) (k : ℕ) (r : Result Message FabricFault) (o : Option Message) (answer : r ≡ take_answer m k) (after : m' ≡ lanes_after_take r m k) (next : o ≡ result_ok r) where
  none : (f : FabricFault) → r ≡ Err f → messages_of m k ≡ [] → Next m m' k o
  none f q e =
      let s : m' ≡ m = after ∙ ap (λ a. lanes_after_take a m k) q in
      let z : o ≡ None = next ∙ ap result_ok q in
      let hs : (j : ℕ) → messages_of m' j ≡ messages_of m j = λ j. ap (λ (ls : List Lane). (get_or ls j no_lane).messages) s in
      record {
        count = ap length s;
        capacities = λ j. ap (λ (ls : List Lane). (get_or ls j no_lane).capacity) s;
        here = (λ i. option_to_list (z i) ++ hs k i);
        there = λ j _. hs j;
        register_first = λ _. hs k ∙ e;
      }

  by_list : k < length m → (l : List Message) → messages_of m k ≡ l → Next m m' k o
  by_list h [] e = none (FabricFault.Empty k) (answer ∙ answered.take_empty m k h e) e
  by_list h (z ∷ zs) e =
      let q : r ≡ Ok z = answer ∙ answered.take_ok m k z zs h e in
      let d : Changed m m' k (rest_of (messages_of m k)) = changed m m' k _ h (after ∙ ap (λ a. lanes_after_take a m k) q) in
      let t : messages_of m' k ≡ zs = d.here ∙ ap rest_of e in
      let u : o ≡ Some z = next ∙ ap result_ok q in
      record {
        count = d.count;
        capacities = d.capacities;
        here = (λ i. option_to_list (u i) ++ t i) ∙ sym e;
        there = d.there;
        register_first = λ v. absurd (omega (arith, ap (λ p. length (option_to_list p)) (sym u ∙ v)));
      }

  pub fetched : Next m m' k o
  fetched =
      ⊎_elim (λ h. by_list h (messages_of m k) refl)
      (λ h. none (FabricFault.NoLane k) (answer ∙ answered.take_no_lane m k h) (ap (λ l. l.messages) (get_or_past m k no_lane h)))
      (cases_lt k (length m))
