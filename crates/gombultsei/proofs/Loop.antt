-- A loop that does the calls of a list: at each turn, those that were done with those to come are the whole.
use Rattle.std.proofs.Common.{List, ◌++◌}
use Rattle.fabric.specs.Backing.{Model}
use Rattle.ring.specs.Ring.{no_backing}
use Rattle.rules.specs.declared.state.Size.{Size}
use Rattle.rules.specs.declared.state.State.{State}
use Rattle.gombultsei.specs.declared.exchange.Exchange.{Exchange}
use Rattle.gombultsei.specs.Run.{answered}

abbrev pub with_rest : Size → List Exchange → State → Model no_backing → List Exchange → List Exchange
with_rest z made b φ rest = made ++ answered no_backing z b φ rest
