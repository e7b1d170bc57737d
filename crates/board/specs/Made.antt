-- A board by its size and state, and one that is made.
use Rattle.std.specs.Prelude.{Ok, Err, Result}
use Rattle.rules.specs.declared.refusal.Refusal.{Refusal}
use Rattle.rules.specs.declared.state.Size.{Size}
use Rattle.rules.specs.declared.state.State.{State}
use Rattle.board.specs.declared.board.Board.{Board}

abbrev pub whole : Board → Size × State
whole b = (b.size, b.state)

abbrev pub made_of : Result Board Refusal → Result (Size × State) Refusal
made_of (Ok b) = Ok (whole b)
made_of (Err e) = Err e
