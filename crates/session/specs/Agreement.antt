-- The checker and a run agree on what is wrong with a sheet.
use Rattle.std.specs.Prelude.{◌≡◌, ℕ, ◌+◌, List, [], ◌∷◌, length, Some, None, Ok, Err, Option, Result}
use Rattle.verdict.specs.Verdicts.{verdict_of}
use Rattle.verdict.specs.declared.verdict.Flaw.{Flaw}
use Rattle.session.specs.Items.{Item, a_flaw}
use Rattle.session.specs.Playing.{started, items_from}

-- the first item that says what is wrong with a sheet
abbrev pub complaint_in : List Item → Option Item
complaint_in [] = None
complaint_in (a_flaw f ∷ is) = Some (a_flaw f)
complaint_in (i ∷ is) = complaint_in is

-- what a verdict says is wrong
abbrev pub complaint_of : Result ℕ Flaw → Option Item
complaint_of (Ok calls) = None
complaint_of (Err f) = Some (a_flaw f)

abbrev pub Agrees : List ℕ → Type 0
Agrees s = complaint_in (items_from (length s + 1) s (started s)) ≡ complaint_of (verdict_of s)
