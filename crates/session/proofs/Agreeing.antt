-- A run of a sheet complains of what its reading has for a fault.
use Rattle.std.proofs.Common.{◌≡◌, ℕ, zero, suc, ◌+◌, ◌≤◌, Bool, true, false, cond, List, [], ◌∷◌, ◌++◌, length, Some, None, Ok, Err, Option, Result, refl, ap, ◌∙◌, add-one, arith}
use Rattle.std.specs.Option.{option_to_list}
use Rattle.words.specs.declared.fault.Fault.{Fault}
use Rattle.rules.specs.Sizes.{is_size}
use Rattle.sheet.specs.Format.{Entry, a_call}
use Rattle.sheet.specs.Format as format
use Rattle.sheet.specs.Reading.{followed_by, and_then, opened, with_board, entries_of, board_end, next_at, entry_at, entries_from, line_end}
use Rattle.sheet.specs.declared.line.Board.{Board}
use Rattle.sheet.specs.Reading as reading
use Rattle.verdict.specs.Verdicts.{flaw_of, told}
use Rattle.session.specs.Agreement.{complaint_in, complaint_of, Agrees}
use Rattle.session.specs.Items.{Item, a_flaw}
use Rattle.session.specs.Playing.{Running, running, flawed, begun, begun_by, past_line, call_made, line_told, items_from}
use Rattle.verdict.specs.declared.verdict.Flaw.TheVariants.{WrongBoard}
use Rattle.verdict.proofs.Counts.{at_end}
use Rattle.session.proofs.Reports.{over_quiet}

-- what the reading of lines has for a fault
abbrev lines_complain : List ℕ → Result (List Entry) Fault → Option Item
lines_complain s (Ok es) = None
lines_complain s (Err f) = Some (a_flaw (flaw_of s f))

after_entry : (s : List ℕ) (e : Entry) (r : Result (List Entry) Fault) → lines_complain s r ≡ lines_complain s (followed_by r (λ es. Ok (e ∷ es)))
after_entry s e (Ok es) = refl
after_entry s e (Err f) = refl

-- line by line; there are no more lines than bytes left
lines_agree : (s : List ℕ) (k : ℕ) (p : Running) → length s ≤ k + p.place → complaint_in (items_from (suc k) s (running p)) ≡ lines_complain s (entries_from k s p.place)
lines_agree s zero p h = ap (λ r. complaint_in (option_to_list (line_told s p r).0 ++ [])) (at_end s p.place (omega arith))
lines_agree s (suc k) p h = go (next_at s p.place) (lines_agree s k)
  where
    go : (r : Result (Option Entry) Fault)
        → ((q : Running) → length s ≤ k + q.place → complaint_in (items_from (suc k) s (running q)) ≡ lines_complain s (entries_from k s q.place))
        → complaint_in (option_to_list (line_told s p r).0 ++ items_from (suc k) s (line_told s p r).1) ≡ lines_complain s (followed_by r (λ next. and_then next (entries_from k s (line_end s p.place + 1))))
    go (Ok (Some (a_call c))) later = later (call_made s p c) (omega arith) ∙ after_entry s (a_call c) (entries_from k s (line_end s p.place + 1))
    go (Ok (Some (format.a_note text))) later = later (past_line s p) (omega arith) ∙ after_entry s (format.a_note text) (entries_from k s (line_end s p.place + 1))
    go (Ok None) later = ap complaint_in (over_quiet s (suc k))
    go (Err f) later = refl

-- the whole sheet, by its board line
sheet_agrees : (s : List ℕ) (r : Result Board Fault) → complaint_in (items_from (suc (length s)) s (begun_by s (board_end s) r)) ≡ complaint_of (told s (with_board s r))
sheet_agrees s (Err f) = refl
sheet_agrees s (Ok b) = go (is_size b.shims b.lines)
  where
    by_lines : (r : Result (List Entry) Fault) → lines_complain s r ≡ complaint_of (told s (entries_of b r))
    by_lines (Ok es) = refl
    by_lines (Err f) = refl

    go : (t : Bool) → complaint_in (items_from (suc (length s)) s (cond t (running (begun (board_end s) b)) (flawed WrongBoard)))
        ≡ complaint_of (told s (cond t (entries_of b (entries_from (length s) s (board_end s))) reading.wrong_board))
    go true = lines_agree s (length s) (begun (board_end s) b) (omega arith) ∙ by_lines (entries_from (length s) s (board_end s))
    go false = refl

pub agrees : (s : List ℕ) → Agrees s
agrees s = ap (λ k. complaint_in (items_from k s (begun_by s (board_end s) (opened s)))) (add-one (length s)) ∙ sheet_agrees s (opened s)
