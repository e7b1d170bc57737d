-- What a token is taken for where a name or a number is wanted.
use Rattle.std.specs.Prelude.{◌≡◌, ℕ, List, Ok, Err, Option, Result}
use Rattle.std.specs.Borrow.{Bor}
use Rattle.std.specs.Option.{ok_or}
use Rattle.words.specs.declared.fault.Fault.{Fault}
use Rattle.words.specs.declared.fault.FaultKind.TheVariants.{UnknownWord, NotANumber}
use Rattle.sheet.specs.declared.token.TokenKind.{TokenKind}
use Rattle.sheet.specs.declared.token.TokenKind.TheVariants.{Keyword, Number}
use Rattle.words.specs.Faults.{fault}

-- r is what is found by a keyword; no other token names anything
abbrev pub IsNamed : {T : Type 0} → (Bor (List ℕ) → Option T → Type 0) → ℕ → TokenKind → Result T Fault → Type 0
IsNamed {T} Finds place (Keyword word) r = (found : Option T) × Finds word found × (r ≡ ok_or found (fault UnknownWord place))
IsNamed Finds place kind r = r ≡ Err (fault UnknownWord place)

-- the number that a token is
abbrev pub number_in : ℕ → TokenKind → Result ℕ Fault
number_in place (Number value) = Ok value
number_in place kind = Err (fault NotANumber place)
