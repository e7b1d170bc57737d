-- What a check tells of a sheet, and how it is printed.
use Rattle.std.specs.Prelude.{ℕ, suc, ◌+◌, List, [], ◌∷◌, ◌++◌, take, count_by, Ok, Err, codes, decimal, Result}
use Rattle.words.specs.declared.fault.Fault.{Fault}
use Rattle.words.specs.Faults.{fault_number}
use Rattle.sheet.specs.Format.{Entry, a_call, a_note}
use Rattle.sheet.specs.Reading.{Reading, faulty, wrong_board, holds, reading}
use Rattle.verdict.specs.declared.verdict.Flaw.{Flaw}
use Rattle.verdict.specs.declared.verdict.Flaw.TheVariants as flaw
use Rattle.words.specs.Lengths.{line_feed, ends_line}

-- the number of calls among entries
abbrev pub calls_in : List Entry → ℕ
calls_in [] = 0
calls_in (a_call c ∷ es) = suc (calls_in es)
calls_in (a_note text ∷ es) = calls_in es

-- the number of line feeds among bytes
abbrev pub feeds : List ℕ → ℕ
feeds bs = count_by ends_line bs

abbrev pub line_number_at : List ℕ → ℕ → ℕ
line_number_at s place = 1 + feeds (take place s)

-- a fault of the sheet s, with the line that it is on
abbrev pub flaw_of : List ℕ → Fault → Flaw
flaw_of s f = flaw.Fault f (line_number_at s f.place)

-- the verdict on a sheet: the number of its calls where it is good, and none where the board has a wrong size
abbrev pub told : List ℕ → Reading → Result ℕ Flaw
told s (faulty f) = Err (flaw_of s f)
told s wrong_board = Err flaw.WrongBoard
told s (holds b es) = Ok (calls_in es)

abbrev pub verdict_of : List ℕ → Result ℕ Flaw
verdict_of s = told s (reading s)

-- the text of a flaw
abbrev pub flaw_bytes : Flaw → List ℕ
flaw_bytes flaw.WrongBoard = codes "no 1"
flaw_bytes (flaw.Fault f line) =
    codes "fault " ++ (decimal (fault_number f.kind) ++ (codes " at " ++ (decimal f.place ++ (codes " line " ++ decimal line))))

-- the line that a verdict is printed as
abbrev pub verdict_bytes : Result ℕ Flaw → List ℕ
verdict_bytes (Ok calls) = codes "ok " ++ (decimal calls ++ (line_feed ∷ []))
verdict_bytes (Err why) = flaw_bytes why ++ (line_feed ∷ [])
