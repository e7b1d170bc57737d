-- A claim and a handing back are nothing to the machine: of the state only the mark of a shim changes, which the machine does not have.
use Rattle.std.proofs.Common.{◌≡◌, ℕ, ◌<◌, Bool, true, false, cond, ltb, List, length, is_ok, get_or, None, refl, arith}
use Rattle.std.proofs.lemmas.Bool.{ltb-true}
use Rattle.std.proofs.lemmas.Bool.Decides.{nat_tests}
use Rattle.fabric.specs.Lanes.{Lane}
use Rattle.rules.specs.Claim.{claim_answer, after_claim}
use Rattle.rules.specs.HandBack.{after_hand_back}
use Rattle.rules.specs.State.{shim_at, wait_at, line_at, with_claim}
use Rattle.rules.specs.declared.state.Shim.{Shim}
use Rattle.rules.specs.declared.state.Size.{Size}
use Rattle.rules.specs.declared.state.State.{State}
use Rattle.order.proofs.Machine.{Same}
use Rattle.run.proofs.Meaning.{wait_of, line_of, meaning}
use Rattle.run.proofs.Tables.{Fits, set_each, fits_shim}
use Rattle.run.proofs.Steps.{same}

module _ (z : Size) (b : State) (lanes : List Lane) (s : ℕ) (fits : Fits z b) where
  -- the state c fits as b does, and is the same to the machine
  abbrev pub Alike : State → Type 0
  Alike c = Fits z c × Same (meaning b lanes) (meaning c lanes)

  -- shim s is marked where the test t says so, which it does only of a shim of the board
  marked : (mark t : Bool) → (t ≡ true → s < z.shims) → Alike (cond t (with_claim b s mark) b)
  marked mark false low = (fits, same (meaning b lanes))
  marked mark true low =
      let new : Shim = record (shim_at b s) { claimed = mark } in
      let here = low refl in
      let long = fits.shims in
      let there : s < length b.shims = omega arith in (
        fits_shim z b fits s here new refl,
        record {
          hub = record { word = λ x. refl; stamp = λ x. refl; shares = λ x j. refl };
          shim =
              λ j. record {
                wait = set_each (λ j (y : Shim). wait_of y.wait ≡ wait_of (wait_at b j)) b.shims s new _ there refl (λ j ne. refl) j;
                line = λ x. set_each (λ j (y : Shim). line_of (get_or y.lines x None) ≡ line_of (line_at b j x)) b.shims s new _ there refl (λ j ne. refl) j;
              };
          up = λ j. refl;
          down = λ j. refl;
        },
      )

  pub claim_alike : Alike (after_claim z b s)
  claim_alike = marked true (is_ok (claim_answer z b s)) (λ h. grind (arith, nat_tests))

  pub hand_back_alike : Alike (after_hand_back z b s)
  hand_back_alike = marked false (ltb s z.shims) (ltb-true s z.shims)
