-- What a call leaves is left by a refusal, or where every test is passed.
use Rattle.std.proofs.Common.{◌≡◌, Bool, true, false, cond, List, [], ◌∷◌, Err, refl}
use Rattle.fabric.specs.Backing.{Backing, Model}
use Rattle.rules.specs.Checks.{After, after, unless_refused}
use Rattle.rules.specs.Refusals.{Check}
use Rattle.rules.specs.declared.refusal.Refusal.{Refusal}
use Rattle.rules.specs.declared.state.State.{State}

-- every test is passed
abbrev pub Passed : List Check → Type 0
Passed [] = Unit {0}
Passed (c ∷ cs) = (c.fails ≡ false) × Passed cs

module _ {ω : Backing} (b : State) (φ : Model ω) (P : After ω → Type 0) where
  -- P holds of what each test leaves that is failed
  abbrev pub Refused : List Check → Type 0
  Refused [] = Unit {0}
  Refused (c ∷ cs) = (c.fails ≡ true → P (after (Err c.refusal) b φ)) × Refused cs

  -- a law of every refusal is one of these
  pub any_refused : ((e : Refusal) → P (after (Err e) b φ)) → (cs : List Check) → Refused cs
  any_refused h [] = tt
  any_refused h (c ∷ cs) = ((λ q. h c.refusal), any_refused h cs)

  pub unless : (cs : List Check) (accepted : After ω) → Refused cs → (Passed cs → P accepted) → P (unless_refused b φ cs accepted)
  unless [] accepted r h = h tt
  unless (c ∷ cs) accepted r h = go c.fails refl (unless cs accepted r.1)
    where
      go : (t : Bool) → c.fails ≡ t → ((Passed cs → P accepted) → P (unless_refused b φ cs accepted)) → P (cond t (after (Err c.refusal) b φ) (unless_refused b φ cs accepted))
      go true q rest = r.0 q
      go false q rest = rest (λ k. h (q, k))
