use Rattle.std.proofs.Common.{◌≡◌, ◌-◌, ◌≤◌, length, Ok}
use Rattle.sheet.specs.Reading.{followed_by, entries_from}
use Rattle.verdict.specs.Verdicts.{calls_in}
use Rattle.verdict.proofs.Counts.{counted_from}
use Rattle.verdict.proofs.checker.count_calls.Given as goal

abbrev pub invariant-loop-line : goal.invariant-loop-line
invariant-loop-line l =
    (l.reader.sheet ≡ l.initial.reader.sheet) × (l.calls ≤ l.reader.at)
    × (followed_by (entries_from (length l.initial.reader.sheet.now) l.initial.reader.sheet.now l.initial.reader.at) (λ es. Ok (calls_in es)) ≡ counted_from l.reader.sheet.now l.reader.at l.calls)

abbrev pub decreases-loop-line : goal.decreases-loop-line
decreases-loop-line l = length l.reader.sheet.now - l.reader.at
