-- Each example.
use Rattle.std.proofs.Common.{◌≡◌, ℕ, ◌⊎◌, Bool, true, List, Ok, refl, inl, inr, arith, subst}
use Rattle.std.specs.Prelude.{not, ◌==◌}
use Rattle.std.proofs.lemmas.Bool.{false≢true}
use Rattle.rules.specs.declared.kind.Kind.TheVariants.{Write, ReadRequest, Drop}
use Rattle.order.specs.Common.{Trace, Call, Outcome, Load, Store, Evict, Down, Done, Waits, Value, Handled, Performs, Gave, at_once, later, a_store, a_load, a_fence, Before, Sees, LastWord, EveryStore}
use Rattle.order.proofs.Traces.{at_same}
use Rattle.law_cases.specs.Examples.{own_order, crossed_order, Examples}
use Rattle.law_cases.specs.Sheets.{own, crossed, both_sc, both_fenced}
use Rattle.law_cases.proofs.Computed.{plain_told, own_told, crossed_told, crossed_quiet, crossed_word, crossed_copy}
use Rattle.law_cases.proofs.Decided.{decided, last_is, last_word, seen_by, sees_to, sees_from, performer}
use Rattle.law_cases.proofs.None.{second_first}
use Rattle.law_cases.proofs.Orders.{plain_ordered, own_ordered, crossed_ordered, stands_not}
use Rattle.law_cases.proofs.Places.{must_follow, no_earlier, only_store, at_each}

last_seen : (t : Trace) (o : List ℕ) (j s x w : ℕ) → last_word t o (seen_by o j s) x w ≡ true → LastWord t o (Sees o j s) x w
last_seen t o j s x w h = last_is t o (seen_by o j s) x w (Sees o j s) (sees_to t o j s) (sees_from t o j s) h

-- no down tells a word 1
not_one : Call → Outcome → Bool
not_one (Down s) (Ok (Value w)) = not (w == 1)
not_one c r = true

gave_nothing_else : Gave crossed 9 1 1 1 → ⊥
unfolding not_one
gave_nothing_else (at_once g h) = let e : ◌≡◌ {A = Outcome} (Ok (Value 1)) (Ok Waits) = (at_same crossed 9 {a' = Ok Waits} h refl).1 in let z : ◌≡◌ {A = ℕ} 0 1 = cc in omega arith
gave_nothing_else (later g d h l down first) = false≢true (at_each (λ k. not_one) crossed refl d (Down 1) (Ok (Value 1)) down)

last_not_the_other : LastWord crossed crossed_order EveryStore 0 2 → ⊥
last_not_the_other (inl (i, s, stored, counts, others)) =
    go (only_store crossed 0 2 1 refl i s stored) (others 0 0 1 (0, Done, refl) tt)
  where
    go : i ≡ 1 → (0 ≡ i) ⊎ Before crossed_order 0 i → ⊥
    go e (inl f) = omega arith
    go e (inr b) = false≢true (decided crossed_order 0 1 (subst (λ (n : ℕ). Before crossed_order 0 n) e b))
last_not_the_other (inr (unseen, e)) = omega arith

store_one_performed : Performs crossed 3 1
store_one_performed = record { shim = 1; answer = Handled Write; call = Store 1 0 0 2; outcome = Ok Done; up_at = refl; at = refl; is_sent = refl; own = refl; same_rank = refl }

pub examples : Examples
examples =
    record {
      plain_said = plain_told;
      own_said = own_told;
      crossed_said = crossed_told;
      a_place = refl;
      waiting_load_sent = refl;
      answered_load_not_sent = refl;
      refused_not_sent = refl;
      eviction_sent = refl;
      up_performs = refl;
      refused_up_performs_not = refl;
      of_shim = refl;
      three_sent = refl;
      store_performed = store_one_performed;
      load_performed = record { shim = 1; answer = Handled ReadRequest; call = Load 1 1 0; outcome = Ok Waits; up_at = refl; at = refl; is_sent = refl; own = refl; same_rank = refl };
      eviction_performed = record { shim = 1; answer = Handled Drop; call = Evict 1 1; outcome = Ok Done; up_at = refl; at = refl; is_sent = refl; own = refl; same_rank = refl };
      performed = (3, store_one_performed);
      other_shim_not_performed = λ h. let e = performer crossed 0 4 refl 3 h in omega arith;
      later_not_performed = λ h. let e = performer crossed 9 10 refl 3 h in omega arith;
      hub_before = second_first;
      hub_not_before = λ (u, v, p, q, l). let e = performer crossed 0 4 refl u p in let f = performer crossed 1 3 refl v q in omega arith;
      stored = (0, Done, refl);
      refused_not_stored = λ h. stands_not crossed 2 0 refl (a_store 7 3 h);
      gave_at_once = at_once 0 refl;
      gave_later = later 0 11 refl (omega arith) refl (no_earlier crossed 9 11 1 refl);
      gave_nothing_else = gave_nothing_else;
      fenced = (3, 16, refl, omega arith, refl);
      store_stands = a_store 0 1 (0, Done, refl);
      load_stands = a_load 1 0 (later 0 11 refl (omega arith) refl (no_earlier crossed 9 11 1 refl));
      fence_stands = a_fence (3, 16, refl, omega arith, refl);
      eviction_stands_not = stands_not crossed 12 1 refl;
      up_stands_not = stands_not crossed 3 1 refl;
      refused_stands_not = stands_not crossed 2 0 refl;
      before = (0, 1, refl, refl, omega arith);
      not_before = λ h. false≢true (decided crossed_order 0 1 h);
      a_load = (1, 0, Ok (Value 0), refl);
      weak_store = (0, 0, 1, Done, refl, λ e. omega arith);
      may_precede = ((1, 0, Ok (Value 0), refl), (0, 0, 1, Done, refl, λ e. omega arith));
      not_sc = must_follow both_sc 0 2 0 refl;
      not_a_load = must_follow own 8 9 0 refl;
      not_a_fence = must_follow both_fenced 0 1 0 refl;
      sees_own = (inr (refl, omega arith), λ h. false≢true (decided own_order 6 8 h));
      sees_other = inl (1, 2, refl, refl, omega arith);
      sees_not = λ h. false≢true (sees_to own own_order 9 0 7 1 h);
      last_own = last_seen own own_order 8 0 0 1 refl;
      last_none = last_seen own own_order 9 0 1 0 refl;
      last_of_all = last_is crossed crossed_order (λ i s. true) 0 1 EveryStore (λ i s h. refl) (λ i s h. tt) refl;
      last_not_the_other = last_not_the_other;
      quiet = crossed_quiet;
      hub_word = crossed_word;
      held_copy = crossed_copy;
      plain_ordered = plain_ordered;
      own_ordered = own_ordered;
      crossed_ordered = crossed_ordered;
    }
