-- Tests in a row: what is left is told by whether the first of them are passed.
use Rattle.std.proofs.Common.{◌≡◌, Bool, true, false, cond, List, [], ◌∷◌, ◌++◌, Ok, Err, Result, refl, ap, ◌∙◌}
use Rattle.rules.specs.Refusals.{Check, tested, passing}
use Rattle.rules.specs.declared.refusal.Refusal.{Refusal}

-- what is accepted; after a refusal, what is made of it
abbrev pub unless_err : {A B : Type 0} → (Refusal → B) → Result A Refusal → B → B
unless_err refuse (Ok a) accepted = accepted
unless_err refuse (Err e) accepted = refuse e

module _ {A B : Type 0} (refuse : Refusal → B) (a : A) where
  pub tested_by : (cs : List Check) (accepted : B) → tested refuse cs accepted ≡ unless_err refuse (passing cs a) accepted
  tested_by [] accepted = refl
  tested_by (c ∷ cs) accepted = go c.fails (tested_by cs accepted)
    where
      go : (t : Bool) → tested refuse cs accepted ≡ unless_err refuse (passing cs a) accepted
          → cond t (refuse c.refusal) (tested refuse cs accepted) ≡ unless_err refuse (cond t (Err c.refusal) (passing cs a)) accepted
      go true later = refl
      go false later = later

  tested_more : (cs ds : List Check) (accepted : B) → tested refuse (cs ++ ds) accepted ≡ tested refuse cs (tested refuse ds accepted)
  tested_more [] ds accepted = refl
  tested_more (c ∷ cs) ds accepted = ap (λ later. cond c.fails (refuse c.refusal) later) (tested_more cs ds accepted)

  -- more tests after them
  pub tested_then : (cs ds : List Check) (accepted : B) → tested refuse (cs ++ ds) accepted ≡ unless_err refuse (passing cs a) (tested refuse ds accepted)
  tested_then cs ds accepted = tested_more cs ds accepted ∙ tested_by cs (tested refuse ds accepted)
