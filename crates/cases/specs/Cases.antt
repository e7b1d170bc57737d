-- Cases that follow from the rules, by subject.
use Rattle.cases.specs.BoardCases.{MadeCases, ClaimCases, RunCases}
use Rattle.cases.specs.ChipCases.{LoadCases, StoreCases, FenceCases, EvictCases}
use Rattle.cases.specs.FabricCases.{LaneCases, FabricCases, LawfulCases}
use Rattle.cases.specs.HandleCases.{HandleCases}
use Rattle.cases.specs.HubCases.{PerformedCases, UpRefusedCases}
use Rattle.cases.specs.SheetCases.{SheetCases}
use Rattle.cases.specs.ShimCases.{HandedCases, DownRefusedCases, TurnCases}
use Rattle.cases.specs.TableCases.{TableCases}

pub record Cases : Type 0 where
  pub table : TableCases
  pub lane : LaneCases
  pub fabric : FabricCases
  pub lawful : LawfulCases
  pub made : MadeCases
  pub load : LoadCases
  pub store : StoreCases
  pub fence : FenceCases
  pub evict : EvictCases
  pub performed : PerformedCases
  pub up_refused : UpRefusedCases
  pub handed : HandedCases
  pub down_refused : DownRefusedCases
  pub turn : TurnCases
  pub claim : ClaimCases
  pub run : RunCases
  pub handle : HandleCases
  pub sheet : SheetCases
