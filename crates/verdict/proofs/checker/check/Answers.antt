use Rattle.verdict.proofs.OnlyWritten.{only_written}
use Rattle.verdict.proofs.ReadsBack.{reads_back}
use Rattle.verdict.proofs.checker.check.Goals as goal

pub returns : goal.returns
returns c =
    let s = c.args.sheet.now in
    record { verdict = c.judged.ensures; reads_back = reads_back s; only_written = only_written s }
