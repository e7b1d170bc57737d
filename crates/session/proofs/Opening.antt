-- A board over lanes just made: nothing waits, so that its making is not refused.
use Rattle.std.proofs.Common.{◌≡◌, ℕ, zero, suc, ◌*◌, ◌≤◌, true, false, ◌&&◌, ◌||◌, ltb, leb, [], length, get_or, Ok, Err, refl, ap, ◌∙◌, arith}
use lib.ListN.{length-replicate, get_or-replicate}
use Rattle.std.proofs.lemmas.Bool.{eq-eqb, leb-true, and_parts}
use Rattle.fabric.specs.Lanes.{Lane, shim_limit, no_lane, empty_lanes}
use Rattle.rules.specs.Make.{any_waits, make_rule}
use Rattle.rules.specs.Sizes.{is_size, line_limit}
use Rattle.rules.specs.State.{fresh_state}
use Rattle.rules.specs.declared.refusal.Refusal.{Refusal}

pub shims_in_range : (n m : ℕ) → is_size n m ≡ true → (1 ≤ n) × (n ≤ shim_limit)
shims_in_range n m h =
    let shims = and_parts (leb 1 n) (leb n shim_limit) (and_parts (leb 1 n && leb n shim_limit) (leb 1 m && leb m line_limit) h).0 in
    (leb-true 1 n shims.0, leb-true n shim_limit shims.1)

-- on empty lanes no message waits
none_waits : (n capacity k : ℕ) → k ≤ n → any_waits (empty_lanes n capacity) k ≡ false
none_waits n capacity zero h = refl
none_waits n capacity (suc k) h =
    let e : get_or (empty_lanes n capacity) k no_lane ≡ record { capacity = capacity; messages = [] } = get_or-replicate n k (record { capacity = capacity; messages = [] }) no_lane h in
    ap (λ (l : Lane). ltb 0 (length l.messages) || any_waits (empty_lanes n capacity) k) e ∙ none_waits n capacity k (omega arith)

pub made_over_empty : (n m capacity : ℕ) (e : Refusal) → is_size n m ≡ true → Err e ≡ make_rule (empty_lanes (2 * n) capacity) n m → ⊥
made_over_empty n m capacity e h q =
    let lanes = eq-eqb (length (empty_lanes (2 * n) capacity)) (2 * n) (length-replicate (2 * n) (record { capacity = capacity; messages = [] })) in
    let quiet = none_waits (2 * n) capacity (2 * n) (omega arith) in
    let made : make_rule (empty_lanes (2 * n) capacity) n m ≡ Ok (record { shims = n; lines = m }, fresh_state) = rw (h, lanes, quiet) in
    let both = q ∙ made in
    cc
