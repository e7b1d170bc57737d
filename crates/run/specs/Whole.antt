-- What the making of a board and a list of actions on it leave.
use Rattle.std.specs.Prelude.{ℕ, List, Ok, Err, Result}
use Rattle.fabric.specs.Backing.{Backing, Model}
use Rattle.fabric.specs.Lanes.{Lane}
use Rattle.rules.specs.declared.event.Event.{Event}
use Rattle.rules.specs.declared.refusal.Refusal.{Refusal}
use Rattle.rules.specs.declared.state.Size.{Size}
use Rattle.rules.specs.declared.state.State.{State}
use Rattle.rules.specs.Calls.{run_rule}
use Rattle.rules.specs.Make.{make_rule}
use Rattle.board.specs.declared.board.Board.{Board}
use Rattle.board.specs.Made.{made_of}
use Rattle.order.specs.Common.{HasCommonOrder}
use Rattle.run.specs.Told.{calls_of, end_of}

-- the board, by its size and state, or why there is none; the events; the fabric
pub record Left (ω : Backing) : Type 0 where
  pub made : Result (Size × State) Refusal
  pub events : List Event
  pub fabric : Model ω

abbrev pub left : {ω : Backing} → Result (Size × State) Refusal → List Event → Model ω → Left ω
left r es φ = record { made = r; events = es; fabric = φ }

abbrev pub left_by : {ω : Backing} → Result Board Refusal → List Event → Model ω → Left ω
left_by r es φ = left (made_of r) es φ

-- the actions on the board that was made; where none was made, nothing changes
abbrev pub run_on : (ω : Backing) → Model ω → List Event → Result (Size × State) Refusal → Left ω
run_on ω φ es (Ok (z, b)) = let r = run_rule ω z b φ es in left (Ok (z, r.state)) r.events r.fabric
run_on ω φ es (Err e) = left (Err e) es φ

-- a board of n shims and m lines is made over the fabric, and the actions are done on it
abbrev pub whole_rule : (ω : Backing) → Model ω → ℕ → ℕ → List Event → Left ω
whole_rule ω φ n m es = run_on ω φ es (make_rule φ.lanes n m)

-- where a board was made, the calls of the run have a common order: claims and handings back stand between them
abbrev pub Ordered : Result Board Refusal → List Event → List Lane → Type 0
Ordered (Ok b) es lanes = HasCommonOrder (calls_of es) (end_of b.size b.state lanes)
Ordered (Err e) es lanes = Unit {0}
