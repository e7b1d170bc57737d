-- Sheets: words and numbers, verdicts, and what a run prints.
use Rattle.std.specs.Prelude.{◌≡◌, ℕ, List, [], ◌∷◌, ◌++◌, Some, None, codes, map, replicate}
use Rattle.std.specs.List.{flat_map}
use Rattle.session.specs.Playing.{printed_by}
use Rattle.sheet.specs.Format.{sheet_of, a_call, a_note}
use Rattle.sheet.specs.declared.line.FabricName.TheVariants.{Ring}
use Rattle.rules.specs.declared.call.Call.TheVariants.{Load, Store}
use Rattle.verdict.specs.Verdicts.{verdict_bytes, verdict_of}
use Rattle.words.specs.Lengths.{word_length, line_length}
use Rattle.words.specs.Numbers.{number_of}

-- lines, each with its line feed
abbrev pub lines : List (List ℕ) → List ℕ
lines ls = flat_map (λ l. l ++ 10 ∷ []) ls

abbrev pub verdict : List ℕ → List ℕ
verdict s = verdict_bytes (verdict_of s)

-- a load that misses, its answer, a note, a refusal
abbrev pub short_sheet : List ℕ
short_sheet = lines (codes "MGL 1" ∷ codes "board 1 2 ring" ∷ codes "load 0 1 ACQ" ∷ codes "# a note" ∷ codes "up 0" ∷ codes "down 0" ∷ codes "evict 0 0" ∷ [])

pub record SheetCases : Type 0 where
  -- words and lines end before a space or a line feed; numbers have no zero in front and go up to 4,294,967,295
  pub word : word_length (codes "load 0 1") ≡ 4
  pub line : line_length (lines (codes "up 0" ∷ codes "up 1" ∷ [])) ≡ 4
  pub numbers : map number_of (codes "0" ∷ codes "42" ∷ codes "4294967295" ∷ []) ≡ Some 0 ∷ Some 42 ∷ Some 4294967295 ∷ []
  pub no_numbers : map number_of ([] ∷ codes "042" ∷ codes "4294967296" ∷ codes "-1" ∷ codes "4x" ∷ []) ≡ None ∷ None ∷ None ∷ None ∷ None ∷ []
  -- a sheet by its board and its lines
  pub written : sheet_of (record { shims = 1; lines = 2; fabric = Ring }) (a_call (Load 0 1 1) ∷ a_note (codes "# n") ∷ a_call (Store 0 1 3 7) ∷ [])
      ≡ lines (codes "MGL 1" ∷ codes "board 1 2 ring" ∷ codes "load 0 1 ACQ" ∷ codes "# n" ∷ codes "store 0 1 SC 7" ∷ [])
  -- verdicts: the number of calls; no board; a fault with its byte and line
  pub good : verdict short_sheet ≡ lines (codes "ok 4" ∷ [])
  pub no_board : verdict (lines (codes "MGL 1" ∷ codes "board 9 3 ring" ∷ [])) ≡ lines (codes "no 1" ∷ [])
  pub unknown_word : verdict (lines (codes "MGL 1" ∷ codes "board 2 3 ring" ∷ codes "store 0 0 RELEASE 7" ∷ [])) ≡ lines (codes "fault 32 at 31 line 3" ∷ [])
  pub no_header : verdict [] ≡ lines (codes "fault 31 at 0 line 1" ∷ [])
  pub no_line_feed : verdict (codes "MGL 1" ++ 10 ∷ codes "board 2 3 ring") ≡ lines (codes "fault 35 at 20 line 2" ∷ [])
  pub too_long : verdict (replicate 65537 10) ≡ lines (codes "fault 36 at 65536 line 65537" ∷ [])
  -- what a run prints
  pub printed : printed_by short_sheet ≡ lines (codes "1 waits" ∷ codes "# a note" ∷ codes "2 RREQ" ∷ codes "3 value 0" ∷ codes "4 no 7" ∷ [])
  pub printed_no_board : printed_by (lines (codes "MGL 1" ∷ codes "board 9 3 ring" ∷ [])) ≡ lines (codes "no 1" ∷ [])
