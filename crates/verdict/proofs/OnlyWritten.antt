-- What is read as a board and its entries was written from them.
use Rattle.std.proofs.Common.{◌≡◌, ℕ, suc, ◌<◌, Bool, true, false, cond, ltb, leb, List, [], ◌∷◌, ◌++◌, length, take, decimal, Ok, Err, Result, refl, ap, ◌∙◌, arith}
use Rattle.std.proofs.lemmas.Slice.Eq.{bytes_eq-Decides}
use Rattle.std.specs.Str.{bytes_eq}
use Rattle.words.specs.declared.fault.Fault.{Fault}
use Rattle.sheet.specs.declared.line.Board.{Board}
use Rattle.sheet.specs.Format.{Entry, header, size_limit, board_word, board_words, words_line, word_of, fabric_word, BoardFits}
use Rattle.sheet.specs.Reading.{wanted, keyword_at, word_at, fabric_words, fabric_named, board_operands, board_of, board_line_at, opened, board_end, entries_from, reading, holds}
use Rattle.rules.specs.Sizes.{is_size}
use Rattle.sheet.proofs.Ends.{followed_by_ok}
use Rattle.verdict.specs.Laws.{OnlyWritten}
use Rattle.verdict.proofs.ReadLines.{Throughout, LineRead, Makes, line_read, entries_read}
use Rattle.verdict.proofs.ReadWords.{Stands, stands_as, taken_stands}

-- a test with a fault on one side was passed on the other
passed : {Y : Type 0} (t : Bool) (r : Result Y Fault) (f : Fault) (y : Y) → cond t r (Err f) ≡ Ok y → (t ≡ true) × (r ≡ Ok y)
passed true r f y e = (refl, e)
passed false r f y e = absurd cc

avoided : {Y : Type 0} (t : Bool) (r : Result Y Fault) (f : Fault) (y : Y) → cond t (Err f) r ≡ Ok y → r ≡ Ok y
avoided true r f y e = absurd cc
avoided false r f y e = e

fabric_spelled : (k : ℕ) → k < length fabric_words → word_of fabric_words k ≡ fabric_word (fabric_named k)
fabric_spelled (suc (suc (suc k))) h = absurd (omega arith)
fabric_spelled k h = refl

abbrev board_line : Board → List ℕ
board_line b = words_line (board_words b)

board_written : Throughout board_operands (Makes board_line BoardFits board_word board_operands board_of)
board_written x x_Fits y y_fits k k_fits = (ap (λ w. words_line (board_word ∷ decimal x ∷ decimal y ∷ w ∷ [])) (fabric_spelled k k_fits), (x_Fits, y_fits))

board_read : (s : List ℕ) (a : ℕ) (b : Board) → board_line_at s a ≡ Ok b → LineRead board_line BoardFits s a b
board_read s a b read =
    let one = followed_by_ok (keyword_at board_word s a) _ b read in
    let two = followed_by_ok (wanted s a) _ one.0 one.1 in
    let name = (passed (bytes_eq (word_at s a) board_word) _ _ one.0 two.2).0 in
    line_read board_line BoardFits board_word board_operands board_of board_written s a b ((bytes_eq-Decides (word_at s a) board_word).0 name) one.2

-- the header and the board that were read at the start
opened_read : (s : List ℕ) (b : Board) → opened s ≡ Ok b → Stands s 0 header (length header) × LineRead board_line BoardFits s (length header) b
opened_read s b read =
    let one = avoided (ltb size_limit (length s)) _ _ b read in
    let two = passed (bytes_eq (take (length header) s) header) _ _ b one in
    let three = avoided (leb (length s) (length header)) (board_line_at s (length header)) _ b two.1 in
    (stands_as ((bytes_eq-Decides (take (length header) s) header).0 two.0) refl (taken_stands (length header) s 0), board_read s (length header) b three)

-- a sheet that holds a board and entries was read without a fault at each step
module _ (s : List ℕ) (b : Board) (es : List Entry) (read : reading s ≡ holds b es) where
  abbrev rest : Result (List Entry) Fault
  rest = entries_from (length s) s (board_end s)

  by_entries : (c : Board) (r : Result (List Entry) Fault) → opened s ≡ Ok c → is_size c.shims c.lines ≡ true → rest ≡ r → (opened s ≡ Ok b) × (rest ≡ Ok es)
  by_entries c (Ok ds) board size entries = let h : holds c ds ≡ holds b es = simp (board, size, entries) at read in (cc, cc)
  by_entries c (Err f) board size entries = absurd (cc (simp (board, size, entries) at read))

  by_size : (c : Board) (t : Bool) → opened s ≡ Ok c → is_size c.shims c.lines ≡ t → (opened s ≡ Ok b) × (rest ≡ Ok es)
  by_size c true board size = by_entries c rest board size refl
  by_size c false board size = absurd (cc (simp (board, size) at read))

  by_board : (r : Result Board Fault) → opened s ≡ r → (opened s ≡ Ok b) × (rest ≡ Ok es)
  by_board (Ok c) board = by_size c (is_size c.shims c.lines) board refl
  by_board (Err f) board = absurd (cc (simp board at read))

pub only_written : (s : List ℕ) → OnlyWritten s
only_written s b es read =
    let steps = by_board s b es read (opened s) refl in
    let start = opened_read s b steps.0 in
    let entries = entries_read (length s) s (board_end s) es (omega arith) steps.1 in
    record {
      board = start.1.1;
      entries = entries.1;
      bytes = start.0.bytes ∙ ap (λ r. header ++ r) (start.1.0.bytes ∙ ap (λ r. board_line b ++ r) entries.0);
    }
