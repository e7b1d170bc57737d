-- Traces for which there is no order: what would have to stand before what goes round in a circle.
use Rattle.std.proofs.Common.{◌≡◌, ℕ, ◌<◌, List, refl, inl, inr, arith, Ok, subst, ◌⊎◌}
use Rattle.order.specs.Common.{Load, Store, Up, Down, Done, Waits, Value, Handled, At, HubBefore, Stored, Gave, at_once, later, Stands, a_store, a_load, a_fence, Before, LastWord, EveryStore, HasCommonOrder}
use Rattle.rules.specs.declared.kind.Kind.TheVariants.{Write, ReadRequest}
use Rattle.law_cases.specs.Law.{Words, OrderBy, HasOrder, busy}
use Rattle.law_cases.specs.Neighbours.{never_passes, own_unseen, hub_backwards, hub_as_called}
use Rattle.law_cases.specs.Sheets.{plain, own, crossed, crossed_end, both_sc, both_fenced, lost}
use Rattle.order.proofs.Traces.{at_same}
use Rattle.law_cases.proofs.AsStated.{from_law}
use Rattle.law_cases.proofs.Computed.{crossed_quiet, crossed_word}
use Rattle.law_cases.proofs.Places.{only_store, must_follow, not_both, through, old_first, new_behind}

pub never_passes_plain : HasOrder never_passes plain busy → ⊥
never_passes_plain (o, h) =
    let store0 : Stored plain 6 0 0 1 = (0, Done, refl) in
    let store1 : Stored plain 7 1 1 1 = (0, Done, refl) in
    let load0 : Gave plain 8 0 1 0 = at_once 0 refl in
    let load1 : Gave plain 9 1 0 0 = at_once 0 refl in
    let a : Before o 6 8 = h.as_chip 6 8 0 (a_store 0 1 store0) (a_load 1 0 load0) (omega arith) (λ n. n) in
    let b : Before o 8 7 = old_first h 8 7 0 1 1 1 (λ y. inl y) load0 refl store1 (λ e. omega arith) (h.all 8 0 (a_load 1 0 load0)) (h.all 7 1 (a_store 1 1 store1)) in
    let c : Before o 7 9 = h.as_chip 7 9 1 (a_store 1 1 store1) (a_load 0 0 load1) (omega arith) (λ n. n) in
    let d : Before o 9 6 = old_first h 9 6 1 0 0 1 (λ y. inl y) load1 refl store0 (λ e. omega arith) (h.all 9 1 (a_load 0 0 load1)) (h.all 6 0 (a_store 0 1 store0)) in
    not_both o h.once 6 7 (through o h.once 6 8 7 a b) (through o h.once 7 9 6 c d)

pub own_unseen_own : HasOrder own_unseen own busy → ⊥
own_unseen_own (o, h) =
    let store0 : Stored own 6 0 0 1 = (0, Done, refl) in
    let store1 : Stored own 7 1 1 1 = (0, Done, refl) in
    let mine0 : Gave own 8 0 0 1 = at_once 0 refl in
    let load0 : Gave own 9 0 1 0 = at_once 0 refl in
    let mine1 : Gave own 10 1 1 1 = at_once 0 refl in
    let load1 : Gave own 11 1 0 0 = at_once 0 refl in
    let a : Before o 6 8 = new_behind h 8 6 0 0 1 (λ q y. y) mine0 (λ e. omega arith) refl in
    let b : Before o 8 9 = h.as_chip 8 9 0 (a_load 0 1 mine0) (a_load 1 0 load0) (omega arith) (must_follow own 8 9 0 refl) in
    let c : Before o 9 7 = old_first h 9 7 0 1 1 1 (λ y. y) load0 refl store1 (λ e. omega arith) (h.all 9 0 (a_load 1 0 load0)) (h.all 7 1 (a_store 1 1 store1)) in
    let d : Before o 7 10 = new_behind h 10 7 1 1 1 (λ q y. y) mine1 (λ e. omega arith) refl in
    let e : Before o 10 11 = h.as_chip 10 11 1 (a_load 1 1 mine1) (a_load 0 0 load1) (omega arith) (must_follow own 10 11 1 refl) in
    let f : Before o 11 6 = old_first h 11 6 1 0 0 1 (λ y. y) load1 refl store0 (λ e. omega arith) (h.all 11 1 (a_load 0 0 load1)) (h.all 6 0 (a_store 0 1 store0)) in
    let g : Before o 6 7 = through o h.once 6 8 7 a (through o h.once 8 9 7 b c) in
    not_both o h.once 6 7 g (through o h.once 7 10 6 d (through o h.once 10 11 6 e f))

-- the hub performed the second of two stores first, so the first was the last in the end
pub crossed_last : {v : Words} {o : List ℕ} → OrderBy v crossed crossed_end o → Before o 1 0
crossed_last {v} {o} h = go (h.words crossed_quiet 0 1 crossed_word)
  where
    go : LastWord crossed o EveryStore 0 1 → Before o 1 0
    go (inl (i, s, stored, counts, others)) = first (only_store crossed 0 1 0 refl i s stored) (others 1 1 2 (0, Done, refl) tt)
      where
        first : i ≡ 0 → (1 ≡ i) ⊎ Before o 1 i → Before o 1 0
        first e (inl f) = absurd (omega arith)
        first e (inr b) = subst (λ (n : ℕ). Before o 1 n) e b
    go (inr (unseen, e)) = absurd (omega arith)

pub second_first : HubBefore crossed 1 0
second_first = (
  3,
  4,
  record { shim = 1; answer = Handled Write; call = Store 1 0 0 2; outcome = Ok Done; up_at = refl; at = refl; is_sent = refl; own = refl; same_rank = refl },
  record { shim = 0; answer = Handled Write; call = Store 0 0 0 1; outcome = Ok Done; up_at = refl; at = refl; is_sent = refl; own = refl; same_rank = refl },
  omega arith,
)

crossed_store0 : Stands crossed 0 0
crossed_store0 = a_store 0 1 (0, Done, refl)

crossed_store1 : Stands crossed 1 1
crossed_store1 = a_store 0 2 (0, Done, refl)

pub hub_backwards_crossed : HasOrder hub_backwards crossed crossed_end → ⊥
hub_backwards_crossed (o, h) = not_both o h.once 0 1 (h.as_hub 0 1 (h.all 0 0 crossed_store0) (h.all 1 1 crossed_store1) second_first) (crossed_last h)

pub hub_as_called_crossed : HasOrder hub_as_called crossed crossed_end → ⊥
hub_as_called_crossed (o, h) = not_both o h.once 0 1 (h.as_hub 0 1 (h.all 0 0 crossed_store0) (h.all 1 1 crossed_store1) (omega arith)) (crossed_last h)

pub sc_none : HasCommonOrder both_sc busy → ⊥
sc_none (o, law) =
    let h = from_law law in
    let store0 : Stored both_sc 0 0 0 1 = (3, Waits, refl) in
    let store1 : Stored both_sc 1 1 1 1 = (3, Waits, refl) in
    let load0 : Gave both_sc 2 0 1 0 = at_once 0 refl in
    let load1 : Gave both_sc 3 1 0 0 = at_once 0 refl in
    let a : Before o 0 2 = h.as_chip 0 2 0 (a_store 0 1 store0) (a_load 1 0 load0) (omega arith) (must_follow both_sc 0 2 0 refl) in
    let b : Before o 2 1 = old_first h 2 1 0 1 1 1 (λ y. inl y) load0 refl store1 (λ e. omega arith) (h.all 2 0 (a_load 1 0 load0)) (h.all 1 1 (a_store 1 1 store1)) in
    let c : Before o 1 3 = h.as_chip 1 3 1 (a_store 1 1 store1) (a_load 0 0 load1) (omega arith) (must_follow both_sc 1 3 1 refl) in
    let d : Before o 3 0 = old_first h 3 0 1 0 0 1 (λ y. inl y) load1 refl store0 (λ e. omega arith) (h.all 3 1 (a_load 0 0 load1)) (h.all 0 0 (a_store 0 1 store0)) in
    not_both o h.once 0 1 (through o h.once 0 2 1 a b) (through o h.once 1 3 0 c d)

pub fenced_none : HasCommonOrder both_fenced busy → ⊥
fenced_none (o, law) =
    let h = from_law law in
    let store0 : Stored both_fenced 0 0 0 1 = (0, Done, refl) in
    let store1 : Stored both_fenced 4 1 1 1 = (0, Done, refl) in
    let fence0 : Stands both_fenced 1 0 = a_fence (3, 2, refl, omega arith, refl) in
    let fence1 : Stands both_fenced 5 1 = a_fence (3, 6, refl, omega arith, refl) in
    let load0 : Gave both_fenced 3 0 1 0 = at_once 0 refl in
    let load1 : Gave both_fenced 7 1 0 0 = at_once 0 refl in
    let a : Before o 0 1 = h.as_chip 0 1 0 (a_store 0 1 store0) fence0 (omega arith) (must_follow both_fenced 0 1 0 refl) in
    let b : Before o 1 3 = h.as_chip 1 3 0 fence0 (a_load 1 0 load0) (omega arith) (must_follow both_fenced 1 3 0 refl) in
    let c : Before o 3 4 = old_first h 3 4 0 1 1 1 (λ y. inl y) load0 refl store1 (λ e. omega arith) (h.all 3 0 (a_load 1 0 load0)) (h.all 4 1 (a_store 1 1 store1)) in
    let d : Before o 4 5 = h.as_chip 4 5 1 (a_store 1 1 store1) fence1 (omega arith) (must_follow both_fenced 4 5 1 refl) in
    let e : Before o 5 7 = h.as_chip 5 7 1 fence1 (a_load 0 0 load1) (omega arith) (must_follow both_fenced 5 7 1 refl) in
    let f : Before o 7 0 = old_first h 7 0 1 0 0 1 (λ y. inl y) load1 refl store0 (λ e. omega arith) (h.all 7 1 (a_load 0 0 load1)) (h.all 0 0 (a_store 0 1 store0)) in
    not_both o h.once 0 4 (through o h.once 0 1 4 a (through o h.once 1 3 4 b c)) (through o h.once 4 5 0 d (through o h.once 5 7 0 e f))

pub lost_none : HasCommonOrder lost busy → ⊥
lost_none (o, law) =
    let h = from_law law in
    let store : Stored lost 0 0 0 1 = (0, Done, refl) in
    let load : Gave lost 2 1 0 0 = later 0 4 refl (omega arith) refl first in
    let c0 = h.all 0 0 (a_store 0 1 store) in
    let c2 = h.all 2 1 (a_load 0 0 load) in
    let a : Before o 2 0 = old_first h 2 0 1 0 0 1 (λ y. inl y) load refl store (λ e. omega arith) c2 c0 in
    not_both o h.once 0 2 (h.as_hub 0 2 c0 c2 store_first) a
  where
    first : (k v : ℕ) → 2 < k → k < 4 → At lost k (Down 1) (Ok (Value v)) → ⊥
    first k v a b h =
        let e : k ≡ 3 = omega arith in
        let f : Up 1 ≡ Down 1 = (at_same lost 3 {c = Up 1} {a = Ok (Handled ReadRequest)} refl (subst (λ (n : ℕ). At lost n (Down 1) (Ok (Value v))) e h)).0 in
        let z : ◌≡◌ {A = ℕ} 0 1 = cc in omega arith

    store_first : HubBefore lost 0 2
    store_first = (
      1,
      3,
      record { shim = 0; answer = Handled Write; call = Store 0 0 0 1; outcome = Ok Done; up_at = refl; at = refl; is_sent = refl; own = refl; same_rank = refl },
      record { shim = 1; answer = Handled ReadRequest; call = Load 1 0 0; outcome = Ok Waits; up_at = refl; at = refl; is_sent = refl; own = refl; same_rank = refl },
      omega arith,
    )
