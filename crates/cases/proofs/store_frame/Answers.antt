use Rattle.cases.proofs.Computed.{cases}
use Rattle.cases.proofs.store_frame.Goals as goal

pub returns-clause-cases : goal.returns-clause-cases
returns-clause-cases c = cases
