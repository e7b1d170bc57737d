-- Each case is computed from the rules.
use Rattle.std.proofs.Common.{rules}
use Rattle.std.specs.Fmt.{digits}
use Rattle.fabric.specs.Queue.{queue}
use Rattle.rules.specs.Strengths.{fitting}
use Rattle.stage.specs.Stage.{firsts_taken}
use Rattle.cases.specs.Cases.{Cases}

pub cases : Cases
unfolding fitting digits queue firsts_taken
cases = search rules
