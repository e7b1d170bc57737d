use Rattle.std.proofs.Common.{rules}
use Rattle.sheet.proofs.reader.Reader.operands.Goals as goal
use Rattle.sheet.proofs.reader.Reader.operands.Goals.{in-Load+in_ok-number-in-Load+in_ok-number-in-Load-2+in_ok-strength-in-Load, in-Store+in_ok-number-in-Store+in_ok-number-in-Store-2+in_ok-strength-in-Store+in_ok-number-in-Store-3, in-Fence+in_ok-number-in-Fence+in_ok-strength-in-Fence, in-Evict+in_ok-number-in-Evict+in_ok-number-in-Evict-2, in-Up+in_ok-number-in-Up, in-Down+in_ok-number-in-Down}

pub returns-in_err-end_line-clause-value : goal.returns-in_err-end_line-clause-value
returns-in_err-end_line-clause-value c =
    elim c.match-op.branch [
      | in-Load+in_ok-number-in-Load+in_ok-number-in-Load-2+in_ok-strength-in-Load w ↦ search rules
      | in-Store+in_ok-number-in-Store+in_ok-number-in-Store-2+in_ok-strength-in-Store+in_ok-number-in-Store-3 w ↦ search rules
      | in-Fence+in_ok-number-in-Fence+in_ok-strength-in-Fence w ↦ search rules
      | in-Evict+in_ok-number-in-Evict+in_ok-number-in-Evict-2 w ↦ search rules
      | in-Up+in_ok-number-in-Up w ↦ search rules
      | in-Down+in_ok-number-in-Down w ↦ search rules
    ]
