-- What a line of the code's says.
use Rattle.std.specs.Prelude.{◌≡◌, ℕ, ◌+◌, List, drop, IfOk, IfSome, Some, Ok, Option, Result}
use Rattle.std.specs.Borrow.{Bor}
use Rattle.std.specs.Option.{option_map}
use Rattle.words.specs.declared.fault.Fault.{Fault}
use Rattle.sheet.specs.declared.line.Line.{Line}
use Rattle.sheet.specs.declared.line.Line.TheVariants.{Call, Note}
use Rattle.sheet.specs.declared.op.Op.{Op}
use Rattle.sheet.specs.Format.{Entry, a_call, a_note, op_word}
use Rattle.sheet.specs.Places.{Part}
use Rattle.sheet.specs.Reading.{followed_by, keyword_at, word_end, operands_at, op_operands, call_of, entry_at, next_at, line_end}
use Rattle.words.specs.Lengths.{line_length}

-- the entry that a line is
abbrev pub entry_of : Line → Entry
entry_of (Call c) = a_call c
entry_of (Note text) = a_note text.now

abbrev pub told : Result Line Fault → Result Entry Fault
told r = followed_by r (λ l. Ok (entry_of l))

-- a note is the caller's own part of the sheet s, from place a on
abbrev pub InPlace : Bor (List ℕ) → ℕ → Line → Type 0
InPlace s a (Note text) = Part s text a (line_length (drop a s.now))
InPlace s a (Call c) = Unit {0}

-- r is the line of the sheet s that begins at place a; where there is one, the next begins at place next
pub record LineAt (s : Bor (List ℕ)) (a : ℕ) (r : Result Line Fault) (next : ℕ) : Type 0 where
  pub value : told r ≡ entry_at s.now a
  pub place : IfOk r (InPlace s a)
  pub after : IfOk r (λ _. next ≡ line_end s.now a + 1)

-- the line of this call, which begins at place a
abbrev pub call_line_at : Op → List ℕ → ℕ → Result Line Fault
call_line_at op s a = followed_by (keyword_at (op_word op) s a) (λ _. followed_by (operands_at (op_operands op) s (word_end s a)) (λ vs. Ok (Call (call_of op vs))))

-- r is the next line of the sheet s from place a on, where there is one, and the reading goes on at place next:
-- after a fault, and at the end of the sheet, where it was
abbrev pub next_told : Result (Option Line) Fault → Result (Option Entry) Fault
next_told r = followed_by r (λ l. Ok (option_map entry_of l))

abbrev pub next_place : List ℕ → ℕ → Result (Option Line) Fault → ℕ
next_place s a (Ok (Some l)) = line_end s a + 1
next_place s a r = a

pub record NextLine (s : Bor (List ℕ)) (a : ℕ) (r : Result (Option Line) Fault) (next : ℕ) : Type 0 where
  pub value : next_told r ≡ next_at s.now a
  pub place : IfOk r (λ l. IfSome l (InPlace s a))
  pub after : next ≡ next_place s.now a r
