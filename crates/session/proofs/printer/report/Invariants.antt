use Rattle.std.proofs.Common.{◌≡◌, ℕ, vec_items}
use Rattle.session.specs.Meaning.{play_of}
use Rattle.session.specs.Playing.{printed_by}
use Rattle.session.proofs.Reports.{ToCome, left_of}
use Rattle.session.proofs.printer.report.Given as goal

abbrev pub invariant-loop-printed : goal.invariant-loop-printed
invariant-loop-printed l =
    (l.session.reader.sheet.now ≡ l.sheet) × ((n : ℕ) × ToCome n l.sheet (play_of l.session) (vec_items l.out) (printed_by l.sheet))

abbrev pub decreases-loop-printed : goal.decreases-loop-printed
decreases-loop-printed l = left_of l.sheet (play_of l.session)
