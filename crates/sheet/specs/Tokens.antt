-- What stands at a place of a sheet.
use Rattle.std.specs.Prelude.{◌≡◌, ℕ, ◌+◌, cond, List, drop, Some, None, Ok, Err, Result, ◌==◌, ◌≢◌, slice_index}
use Rattle.std.specs.Borrow.{Bor}
use Rattle.words.specs.declared.fault.Fault.{Fault}
use Rattle.sheet.specs.declared.token.Token.{Token}
use Rattle.sheet.specs.declared.token.TokenKind.{TokenKind}
use Rattle.sheet.specs.declared.token.TokenKind.TheVariants.{Keyword, Number, Note}
use Rattle.sheet.specs.Format.{hash}
use Rattle.sheet.specs.Places.{Part}
use Rattle.sheet.specs.Reading.{followed_by, wanted, word_at, word_end, line_end}
use Rattle.words.specs.Lengths.{word_length, line_length}
use Rattle.words.specs.Numbers.{number_of}

-- a token of this kind at place a of the sheet s
abbrev pub KindAt : Bor (List ℕ) → ℕ → TokenKind → Type 0
KindAt s a (Keyword word) = (slice_index s.now a ≢ hash) × Part s word a (word_length (drop a s.now)) × (number_of (word_at s.now a) ≡ None)
KindAt s a (Number value) = (slice_index s.now a ≢ hash) × (number_of (word_at s.now a) ≡ Some value)
KindAt s a (Note text) = (slice_index s.now a ≡ hash) × Part s text a (line_length (drop a s.now))

-- r is the token at place a of the sheet s
abbrev pub TokenAt : Bor (List ℕ) → ℕ → Result Token Fault → Type 0
TokenAt s a (Ok token) = (wanted s.now a ≡ Ok tt) × (token.place ≡ a) × KindAt s a token.kind
TokenAt s a (Err f) = wanted s.now a ≡ Err f

-- where the token at place a ends
abbrev pub token_end : List ℕ → ℕ → ℕ
token_end s a = cond (slice_index s a == hash) (line_end s a) (word_end s a)

-- r is the token after the word that ends at place a: one space parts the two
abbrev pub NextToken : Bor (List ℕ) → ℕ → Result Token Fault → Type 0
NextToken s a (Ok token) = (wanted s.now a ≡ Ok tt) × TokenAt s (a + 1) (Ok token)
NextToken s a (Err f) = followed_by (wanted s.now a) (λ _. wanted s.now (a + 1)) ≡ Err f
