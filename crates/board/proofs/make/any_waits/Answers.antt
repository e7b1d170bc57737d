use Rattle.std.proofs.Common.{◌≡◌, ℕ, ◌<◌, Bool, true, false, ltb, length, get_or, sym, ◌∙◌, refl, arith, rules, tests}
use mathlib.Core.Bool.{false≢true}
use Rattle.std.proofs.lemmas.Bool.Decides.{same_from_decides, Decides-below_or}
use Rattle.std.proofs.lemmas.Iterator.{YieldsList-from_range, cases_from_any}
use Rattle.std.proofs.lemmas.List.FromFn.{length-range_with_len, get_or-range_with_len}
use Rattle.std.specs.Bool.{Decides, MatchBool}
use Rattle.std.specs.List.{range_with_len, AllWithin, HoldsAt}
use Rattle.fabric.specs.Lanes.{messages_of}
use Rattle.rules.specs.Make.{any_waits}
use Rattle.board.proofs.make.any_waits.Goals as goal

-- what `any` says of the numbers below n, and not of a list of them
any_below : (p : ℕ → Bool) (n : ℕ) (r : Bool)
    → MatchBool r ((k : ℕ) × (k < length (range_with_len 0 n)) × HoldsAt (λ k. p k ≡ true) (range_with_len 0 n) k) (AllWithin (λ k. p k ≡ false) (range_with_len 0 n) 0 (length (range_with_len 0 n)))
    → Decides r ((k : ℕ) × (k < n) × (p k ≡ true))
any_below p n true h =
    let low : h.0 < n = omega (arith, length-range_with_len 0 n, h.1) in
    let at : get_or (range_with_len 0 n) h.0 0 ≡ h.0 = omega (arith, get_or-range_with_len 0 n h.0 0 low) in
    (λ e. (h.0, low, rw at at (h.2 0)), λ e. refl)
any_below p n false h = (
  λ e. absurd (false≢true e),
  λ e.
      let at : get_or (range_with_len 0 n) e.0 0 ≡ e.0 = omega (arith, get_or-range_with_len 0 n e.0 0 e.1) in
      let none = rw at at (h e.0 0 (omega arith) (omega (arith, length-range_with_len 0 n, e.1))) in
      sym none ∙ e.2,
)

pub returns : goal.returns
returns g c =
    let lanes = (g.F.Fabric.model c.args.fabric.now).lanes in
    let p : ℕ → Bool = λ k. ltb 0 (length (messages_of lanes k)) in
    same_from_decides c.any.result (any_waits lanes c.args.lanes)
    (any_below p c.args.lanes c.any.result
    (cases_from_any _ _ _ (λ k. p k ≡ true) (λ k. p k ≡ false) c.any.ensures.ran (YieldsList-from_range 0 c.args.lanes c.args.lanes refl (omega arith)) (λ x q k. search (rules, tests)) (λ x q k. search (rules, tests))))
    (Decides-below_or p (λ k. p k ≡ true) (any_waits lanes) (λ k. (λ e. e, λ e. e)) refl (λ _. refl) c.args.lanes)
