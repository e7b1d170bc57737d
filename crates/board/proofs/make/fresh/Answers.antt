use Rattle.board.proofs.Defaults.{state_default}
use Rattle.board.proofs.make.fresh.Goals as goal

pub returns : goal.returns
returns c = state_default c.default.result c.default.ensures
