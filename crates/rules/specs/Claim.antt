-- The rule of a claim: the shim is marked as claimed. No fabric has a part in it.
use Rattle.std.specs.Prelude.{ℕ, true, cond, List, [], ◌∷◌, is_ok, Result}
use Rattle.rules.specs.declared.answer.Answer.{Answer}
use Rattle.rules.specs.declared.answer.Answer.TheVariants.{Done}
use Rattle.rules.specs.declared.refusal.Refusal.{Refusal}
use Rattle.rules.specs.declared.state.Size.{Size}
use Rattle.rules.specs.declared.state.State.{State}
use Rattle.rules.specs.Checks.{no_shim, shim_claimed}
use Rattle.rules.specs.Refusals.{Check, passing}
use Rattle.rules.specs.State.{with_claim}

abbrev pub claim_checks : Size → State → ℕ → List Check
claim_checks z b s = no_shim z s ∷ shim_claimed b s ∷ []

-- what the board says to a claim of shim s, and its state then
abbrev pub claim_answer : Size → State → ℕ → Result Answer Refusal
claim_answer z b s = passing (claim_checks z b s) Done

abbrev pub after_claim : Size → State → ℕ → State
after_claim z b s = cond (is_ok (claim_answer z b s)) (with_claim b s true) b
