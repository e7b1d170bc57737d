use Rattle.law_cases.proofs.Examples.{examples}
use Rattle.law_cases.proofs.Neighbours.{neighbours}
use Rattle.law_cases.proofs.law.Goals as goal

pub returns-clause-examples : goal.returns-clause-examples
returns-clause-examples c = examples

pub returns-clause-neighbours : goal.returns-clause-neighbours
returns-clause-neighbours c = neighbours
