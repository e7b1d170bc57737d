-- What the library's lemmas on numerals need of plain words.
use Rattle.std.proofs.Common.{◌≡◌, ℕ, ◌<◌, true, List, [], ◌∷◌, length, get_or, rules}
use Rattle.std.specs.Str.{all_ascii_digits}
use Rattle.std.proofs.lemmas.Str.Parse.{IsNumeralModel, numerals_by_fold, tells_all_ascii_digits}
use Rattle.words.specs.Numbers.{plain, value_after}

pub own : IsNumeralModel (λ ds. all_ascii_digits ds ≡ true) (value_after 0)
own = numerals_by_fold _ tells_all_ascii_digits value_after (search rules)

pub plain_digits : (w : List ℕ) → plain w ≡ true → (all_ascii_digits w ≡ true) × (0 < length w) × (get_or w 0 0 ≡ 48 → length w ≡ 1)
plain_digits (c ∷ []) e = search rules
plain_digits w e = search rules
