use Rattle.std.proofs.Common.{length, sym, ◌∙◌, rules}
use Rattle.sheet.specs.Format.{header}
use Rattle.sheet.proofs.Boards.{board_after, begins}
use Rattle.sheet.proofs.reader.Reader.board.Goals as goal

pub returns-in_err-board-clause-value : goal.returns-in_err-board-clause-value
returns-in_err-board-clause-value c =
    let b = sym (begins c.args.self.now.sheet.now header) ∙ sym c.starts_with.ensures.value in
    search rules

pub returns : goal.returns
returns c =
    let k = c.in_ok-board.ensures in
    let b = sym (begins c.args.self.now.sheet.now header) ∙ sym c.starts_with.ensures.value in
    let e = board_after c.args.self.now.sheet.now (length header) c.in_ok-board.board (sym k.value) in
    search rules
