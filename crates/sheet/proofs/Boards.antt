-- The operands of the board line, one after the other.
use Rattle.std.proofs.Common.{◌≡◌, ℕ, ◌+◌, Bool, true, false, cond, leb, nat_eq, List, length, take, Ok, Err, sym, ap, ◌∙◌}
use Rattle.std.specs.List.{starts_with}
use Rattle.std.specs.Str.{bytes_eq}
use Rattle.std.proofs.lemmas.Bool.Decides.{same_from_decides}
use Rattle.std.proofs.lemmas.Slice.Eq.{bytes_eq-Decides}
use Rattle.words.specs.declared.fault.FaultKind.TheVariants.{WordCount}
use Rattle.sheet.specs.declared.line.Board.{Board}
use Rattle.words.specs.Faults.{fault}
use Rattle.sheet.specs.Format.{board_word}
use Rattle.sheet.specs.Reading.{keyword_at, line_end, word_end, operands_at, operands_end, board_operands, board_line_at, board_at}
use Rattle.sheet.proofs.Ends.{followed_by_ok, operands_line, line_end_of_word}

-- a board line that was read ends at its line feed
by_length : (s : List ℕ) (a : ℕ) (b : Board) (t : Bool) → cond t (Err (fault WordCount (length s))) (board_line_at s a) ≡ Ok b → operands_end board_operands s (word_end s a) ≡ line_end s a + 1
by_length s a b true e = absurd cc
by_length s a b false e =
    let one = followed_by_ok (keyword_at board_word s a) _ b e in
    let two = followed_by_ok (operands_at board_operands s (word_end s a)) _ b one.2 in
    operands_line board_operands s (word_end s a) two.0 two.1 ∙ ap (λ n. n + 1) (line_end_of_word s a)

-- a sheet begins with h where its first bytes are those of h
pub begins : (s h : List ℕ) → starts_with nat_eq s h ≡ bytes_eq (take (length h) s) h
begins s h =
    let first = bytes_eq-Decides (take (length h) s) h in
    same_from_decides (starts_with nat_eq s h) (bytes_eq (take (length h) s) h) (bytes_eq-Decides h (take (length h) s)) (λ e. sym (first.0 e), λ e. first.1 (sym e))

pub board_after : (s : List ℕ) (a : ℕ) (b : Board) → board_at s a ≡ Ok b → operands_end board_operands s (word_end s a) ≡ line_end s a + 1
board_after s a b e = by_length s a b (leb (length s) a) e
