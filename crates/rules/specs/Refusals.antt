-- Refusals: the number of each and what it carries, and how a call is refused by the first test that it fails.
use Rattle.std.specs.Prelude.{ℕ, Bool, cond, List, [], ◌∷◌, Ok, Err, Result, slice_index}
use Rattle.fabric.specs.declared.fault.FabricFault.TheVariants.{NoLane, Full, Empty}
use Rattle.fabric.specs.Fault.{fault_number}
use Rattle.rules.specs.declared.refusal.Refusal.{Refusal}
use Rattle.rules.specs.declared.refusal.Refusal.TheVariants.{WrongSize, MessageWaits, NoShim, NoLine, WrongStrength, ShimWaits, NotHeld, Unsettled, AtLimit, Fabric, Foreign, Claimed, NotWaiting}

-- what is told of each refusal: its number, and then what it carries, the fabric's own number and the lane, or the lane. A fabric's 21
-- would be a wrong lane count, and no call comes so far
abbrev pub refusal_told : Refusal → List ℕ
refusal_told WrongSize = 1 ∷ []
refusal_told MessageWaits = 2 ∷ []
refusal_told NoShim = 3 ∷ []
refusal_told NoLine = 4 ∷ []
refusal_told WrongStrength = 5 ∷ []
refusal_told ShimWaits = 6 ∷ []
refusal_told NotHeld = 7 ∷ []
refusal_told Unsettled = 8 ∷ []
refusal_told AtLimit = 9 ∷ []
refusal_told (Fabric (NoLane lane)) = 1 ∷ []
refusal_told (Fabric (Full lane)) = 10 ∷ fault_number (Full lane) ∷ lane ∷ []
refusal_told (Fabric (Empty lane)) = 11 ∷ fault_number (Empty lane) ∷ lane ∷ []
refusal_told (Foreign lane) = 12 ∷ lane ∷ []
refusal_told Claimed = 13 ∷ []
refusal_told NotWaiting = 14 ∷ []

abbrev pub refusal_number : Refusal → ℕ
refusal_number e = slice_index (refusal_told e) 0

-- a test of a call, and the refusal where the call fails it
pub record Check : Type 0 where
  pub fails : Bool
  pub refusal : Refusal

abbrev pub refuse_if : Bool → Refusal → Check
refuse_if fails refusal = record { fails = fails; refusal = refusal }

-- what is accepted, unless a test is failed: then what is made of the refusal of the first such test
abbrev pub tested : {A : Type 0} → (Refusal → A) → List Check → A → A
tested refuse [] accepted = accepted
tested refuse (c ∷ cs) accepted = cond c.fails (refuse c.refusal) (tested refuse cs accepted)

-- a value, or that refusal
abbrev pub passing : {A : Type 0} → List Check → A → Result A Refusal
passing cs a = tested Err cs (Ok a)
