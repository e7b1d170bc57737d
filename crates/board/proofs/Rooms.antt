-- Room on the lanes that are sent on, shim by shim.
use Rattle.std.proofs.Common.{◌≡◌, ℕ, zero, suc, ◌<◌, ◌≤◌, Bool, true, false, cond, ◌&&◌, List, is_some, Ok, Err, Option, refl, ◌∙◌, ⊎_elim, arith}
use Rattle.std.proofs.lemmas.Bool.{cases_lt}
use Rattle.fabric.specs.Lanes.{Lane, is_full}
use Rattle.fabric.specs.declared.fault.FabricFault.TheVariants.{Full}
use Rattle.fabric.specs.declared.message.Message.{Message}
use Rattle.rules.proofs.Tested.{unless_err, tested_then}
use Rattle.rules.specs.Refusals.{passing}
use Rattle.rules.specs.State.{down_lane}
use Rattle.rules.specs.Up.{full_lanes}
use Rattle.rules.specs.declared.refusal.Refusal.TheVariants.{Fabric}
use Rattle.board.specs.Room.{HasRoom}

module _ (sent : ℕ → Option Message) (lanes : List Lane) where
  abbrev pub blocked : ℕ → Bool
  blocked j = is_some (sent j) && is_full lanes (down_lane j)

  -- one more shim
  next : (n : ℕ) → passing (full_lanes sent lanes (suc n)) (tt {0}) ≡ unless_err Err (passing (full_lanes sent lanes n) (tt {0})) (cond (blocked n) (Err (Fabric (Full (down_lane n)))) (Ok tt))
  next n = tested_then Err (tt {0}) (full_lanes sent lanes n) _ (Ok (tt {0}))

  -- where none of the first n shims is blocked, no lane is told
  pub none_full : (n : ℕ) → ((j : ℕ) → j < n → blocked j ≡ false) → passing (full_lanes sent lanes n) (tt {0}) ≡ Ok (tt {0})
  none_full zero clear = refl
  none_full (suc n) clear =
      let before = none_full n (λ j lt. clear j (omega arith)) in
      let here = clear n (omega arith) in
      next n ∙ rw (before, here)

  -- the first full lane is the one that is told
  pub first_full : (n k : ℕ) → k < n → ((j : ℕ) → j < k → blocked j ≡ false) → blocked k ≡ true → passing (full_lanes sent lanes n) (tt {0}) ≡ Err (Fabric (Full (down_lane k)))
  first_full zero k lt clear here = absurd (omega arith)
  first_full (suc n) k lt clear here =
      ⊎_elim (λ (l : k < n). let before = first_full n k l clear here in next n ∙ rw before)
      (λ (l : n ≤ k). let q : n ≡ k = omega arith in let before = none_full k clear in rw q (next k ∙ rw (before, here))) (cases_lt k n)

  -- a shim that is not blocked and is sent something has room
  pub room_for : (n : ℕ) → ((j : ℕ) → j < n → blocked j ≡ false) → HasRoom sent lanes n
  room_for n clear j lt some = rw some at (clear j lt)
