-- Reading is the inverse of writing.
use Rattle.std.specs.Prelude.{◌≡◌, ℕ, ◌≤◌, cond, List, length}
use Rattle.std.specs.List.{AllByRecursion}
use Rattle.sheet.specs.declared.line.Board.{Board}
use Rattle.sheet.specs.Format.{Entry, WellFormed, BoardFits, size_limit, sheet_of}
use Rattle.sheet.specs.Reading.{reading, holds, wrong_board}
use Rattle.rules.specs.Sizes.{is_size}

-- s is the sheet of this board and these entries, all well formed
pub record Writes (s : List ℕ) (b : Board) (es : List Entry) : Type 0 where
  pub board : BoardFits b
  pub entries : AllByRecursion WellFormed es
  pub bytes : s ≡ sheet_of b es

-- a well-formed sheet that is not too long is read as what it was written from
abbrev pub ReadsBack : List ℕ → Type 0
ReadsBack s = (b : Board) (es : List Entry) → Writes s b es → length s ≤ size_limit → reading s ≡ cond (is_size b.shims b.lines) (holds b es) wrong_board

-- what is read as a board and its entries was written from them
abbrev pub OnlyWritten : List ℕ → Type 0
OnlyWritten s = (b : Board) (es : List Entry) → reading s ≡ holds b es → Writes s b es
