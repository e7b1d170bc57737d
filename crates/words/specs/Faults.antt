-- The number of each fault.
use Rattle.std.specs.Prelude.{ℕ}
use Rattle.words.specs.declared.fault.FaultKind.{FaultKind}
use Rattle.words.specs.declared.fault.FaultKind.TheVariants.{Header, UnknownWord, NotANumber, WordCount, NoLineFeed, TooLong}
use Rattle.words.specs.declared.fault.Fault.{Fault}

abbrev pub fault_number : FaultKind → ℕ
fault_number Header = 31
fault_number UnknownWord = 32
fault_number NotANumber = 33
fault_number WordCount = 34
fault_number NoLineFeed = 35
fault_number TooLong = 36

abbrev pub fault : FaultKind → ℕ → Fault
fault kind place = record { kind = kind; place = place }
