-- Bytes as they are printed.
use Rattle.std.specs.Prelude.{ℕ, ◌/◌, ◌%◌, false, List, [], ◌∷◌}
use Rattle.std.specs.List.{flat_map}
use Rattle.std.specs.Fmt.{digit_glyph}

-- a space, and the two digits of a byte in base 16
abbrev pub byte_text : ℕ → List ℕ
byte_text b = 32 ∷ digit_glyph false (b / 16) ∷ digit_glyph false (b % 16) ∷ []

abbrev pub bytes_text : List ℕ → List ℕ
bytes_text bs = flat_map byte_text bs
