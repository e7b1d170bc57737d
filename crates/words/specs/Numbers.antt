-- The numbers that words write.
use Rattle.std.specs.Prelude.{ℕ, ◌+◌, ◌-◌, ◌*◌, Bool, true, false, not, cond, ◌&&◌, ◌==◌, List, [], ◌∷◌, Some, None, Option, nat_le, nat_lt}
use Rattle.std.specs.Char.{is_ascii_digit}
use Rattle.std.specs.Str.{all_ascii_digits}

-- the largest number of a sheet
abbrev pub largest : ℕ
largest = 4294967295

-- one digit, or several with no zero in front
abbrev pub plain : List ℕ → Bool
plain [] = false
plain (c ∷ []) = is_ascii_digit c
plain (c ∷ d ∷ ds) = nat_lt 48 c && all_ascii_digits (c ∷ d ∷ ds)

-- the value of decimal digits that follow those of value n
abbrev pub value_after : ℕ → List ℕ → ℕ
value_after n [] = n
value_after n (c ∷ cs) = value_after (n * 10 + (c - 48)) cs

-- the number that a word writes, where it writes one
abbrev pub number_of : List ℕ → Option ℕ
number_of w = cond (plain w && nat_le (value_after 0 w) largest) (Some (value_after 0 w)) None

-- a byte is there, and no zero that others follow
abbrev pub has_plain_front : List ℕ → Bool
has_plain_front [] = false
has_plain_front (c ∷ []) = true
has_plain_front (c ∷ d ∷ ds) = not (c == 48)

-- the number that has one digit more, where it is one
abbrev pub with_digit : ℕ → ℕ → Option ℕ
with_digit n c = cond (is_ascii_digit c && nat_le (n * 10 + (c - 48)) largest) (Some (n * 10 + (c - 48))) None
