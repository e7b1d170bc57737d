use Rattle.std.proofs.Common.{◌≡◌, ℕ, cond, List, is_ok, Ok, Err, Result, refl, ap, ◌∙◌}
use Rattle.words.specs.declared.fault.Fault.{Fault}
use Rattle.sheet.specs.Reading.{board_end, opened}
use Rattle.sheet.specs.declared.line.Board.{Board}
use Rattle.session.specs.Playing.{begun_by}
use Rattle.session.proofs.Agreeing.{agrees}
use Rattle.session.proofs.session.Session.new.Goals as goal

-- a reader that has read the board line is at the line after it
read_on : (s : List ℕ) (r : Result Board Fault) (a at : ℕ) → at ≡ cond (is_ok r) (board_end s) a → begun_by s at r ≡ begun_by s (board_end s) r
read_on s (Ok b) a at e = ap (λ place. begun_by s place (Ok b)) e
read_on s (Err f) a at e = refl

pub returns-clause-play : goal.returns-clause-play
returns-clause-play c =
    let s = c.args.sheet.now in
    let r = c.board.result in
    let a = c.new-reader.result.at in
    let at = c.board.new.self.at in
    let same = ap (λ x. x.now) c.new-reader.ensures.sheet in
    c.first-phase.ensures at
    ∙ read_on s r a at (c.board.ensures.after ∙ ap (λ (t : List ℕ). cond (is_ok r) (board_end t) a) same)
    ∙ ap (begun_by s (board_end s)) (c.board.ensures.value ∙ ap opened same)

pub returns-clause-agrees : goal.returns-clause-agrees
returns-clause-agrees c = agrees c.args.sheet.now
