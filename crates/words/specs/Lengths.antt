-- Where words and lines end.
use Rattle.std.specs.Prelude.{ℕ, Bool, ◌||◌, List, ◌==◌}
use Rattle.std.specs.List.{position_or_len}

abbrev pub space : ℕ
space = 32

abbrev pub line_feed : ℕ
line_feed = 10

-- a word ends before a space or a line feed, a line before a line feed
abbrev pub ends_word : ℕ → Bool
ends_word b = b == space || b == line_feed

abbrev pub ends_line : ℕ → Bool
ends_line b = b == line_feed

-- how many bytes stand before the end of the word, or of the line, that begins here: all, where nothing ends it
abbrev pub word_length : List ℕ → ℕ
word_length bs = position_or_len ends_word bs

abbrev pub line_length : List ℕ → ℕ
line_length bs = position_or_len ends_line bs
