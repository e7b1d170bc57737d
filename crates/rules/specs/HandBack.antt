-- The rule of handing back: the claim of the shim ends. It is never refused, and no fabric has a part in it.
use Rattle.std.specs.Prelude.{ℕ, false, cond, nat_lt}
use Rattle.rules.specs.declared.state.Size.{Size}
use Rattle.rules.specs.declared.state.State.{State}
use Rattle.rules.specs.State.{with_claim}

-- the state once shim s is handed back; a board without that shim stays as it was, and so does one without that claim, which is written what it had
abbrev pub after_hand_back : Size → State → ℕ → State
after_hand_back z b s = cond (nat_lt s z.shims) (with_claim b s false) b
