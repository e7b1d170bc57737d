-- A run over a fabric in the caller's bytes.
use Rattle.std.specs.Prelude.{ℕ, List}
use Rattle.frames.specs.Frames.{buffer_backing, made_over}
use Rattle.rules.specs.declared.event.Event.{Event}
use Rattle.run.specs.Whole.{Left, whole_rule}

abbrev pub run_in : List ℕ → ℕ → ℕ → List Event → Left buffer_backing
run_in bytes n m es = whole_rule buffer_backing (made_over bytes n) n m es
