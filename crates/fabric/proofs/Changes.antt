-- What is left as it was where one lane of a fabric holds other messages.
use Rattle.std.proofs.Common.{◌≡◌, ℕ, ◌<◌, ◌≢◌, List, length, get_or, sym, ap, ◌∙◌, subst, ⊎_elim, length-set, get_or-set_other, get_or-set_same}
use Rattle.std.proofs.lemmas.Bool.{cases_eq}
use Rattle.fabric.specs.declared.message.Message.{Message}
use Rattle.fabric.specs.Lanes.{Lane, with_messages, set_messages, messages_of, capacity_of, lane_of, no_lane}

-- from m to m' lane k comes to hold xs, and all else stays
pub record Changed (m m' : List Lane) (k : ℕ) (xs : List Message) : Type 0 where
  pub count : length m' ≡ length m
  pub capacities : (j : ℕ) → capacity_of m' j ≡ capacity_of m j
  pub here : messages_of m' k ≡ xs
  pub there : (j : ℕ) → j ≢ k → messages_of m' j ≡ messages_of m j

pub changed : (m m' : List Lane) (k : ℕ) (xs : List Message) → k < length m → m' ≡ set_messages m k xs → Changed m m' k xs
changed m m' k xs h e =
    let one : Lane = with_messages (lane_of m k) xs in
    let at : lane_of m' k ≡ with_messages (lane_of m k) xs = ap (λ ls. get_or ls k no_lane) e ∙ get_or-set_same m k one no_lane h in
    let off : (j : ℕ) → j ≢ k → lane_of m' j ≡ lane_of m j = λ j ne. ap (λ ls. get_or ls j no_lane) e ∙ get_or-set_other m k j one no_lane ne in
    record {
      count = ap length e ∙ length-set m k one;
      capacities = λ j. ⊎_elim (λ q. subst (λ i. capacity_of m' i ≡ capacity_of m i) (sym q) (ap (λ l. l.capacity) at)) (λ ne. ap (λ l. l.capacity) (off j ne)) (cases_eq j k);
      here = ap (λ l. l.messages) at;
      there = λ j ne. ap (λ l. l.messages) (off j ne);
    }
