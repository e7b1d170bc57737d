-- What a list of calls by numbers leaves.
use Rattle.std.specs.Prelude.{ℕ, List, [], ◌∷◌, Some, None, Ok, Err, Option, Result}
use Rattle.fabric.specs.Backing.{Backing, Model}
use Rattle.ring.specs.Ring.{no_backing, made_ring}
use Rattle.rules.specs.declared.call.Call.{Call}
use Rattle.rules.specs.declared.refusal.Refusal.{Refusal}
use Rattle.rules.specs.declared.state.Size.{Size}
use Rattle.rules.specs.declared.state.State.{State}
use Rattle.rules.specs.Calls.{call_rule}
use Rattle.rules.specs.Make.{make_rule}
use Rattle.rules.specs.Refusals.{refusal_number}
use Rattle.board.specs.declared.board.Board.{Board}
use Rattle.gombultsei.specs.declared.exchange.AnswerNumbers.{AnswerNumbers}
use Rattle.gombultsei.specs.declared.exchange.Exchange.{Exchange}
use Rattle.gombultsei.specs.Numbers.{call_of, numbers_of}

-- what is answered, and the board's size and state and the fabric afterwards
pub record Left (ω : Backing) : Type 0 where
  pub answer : AnswerNumbers
  pub size : Size
  pub state : State
  pub fabric : Model ω

abbrev pub left : {ω : Backing} → AnswerNumbers → Size → State → Model ω → Left ω
left a z b φ = record { answer = a; size = z; state = b; fabric = φ }

abbrev pub left_by : {ω : Backing} → AnswerNumbers → Board → Model ω → Left ω
left_by a b φ = left a b.size b.state φ

-- a call, by its rule; where there is none, nothing changes
abbrev pub call_left : (ω : Backing) → Size → State → Model ω → Option Call → Left ω
call_left ω z b φ None = left (numbers_of None) z b φ
call_left ω z b φ (Some c) = let a = call_rule ω z b φ c in left (numbers_of (Some a.outcome)) z a.state a.fabric

abbrev pub one_call : {ω : Backing} → Board → Model ω → Option Call → Left ω
one_call {ω} b φ c = call_left ω b.size b.state φ c

-- one call after the other, each on what the one before it left; beside each, what is answered
abbrev pub answered : (ω : Backing) → Size → State → Model ω → List Exchange → List Exchange
answered ω z b φ [] = []
answered ω z b φ (e ∷ es) = let a = call_left ω z b φ (call_of e.call) in record { call = e.call; answer = a.answer } ∷ answered ω z a.state a.fabric es

-- 0 and the answers, where a board is made; its refusal otherwise, and nothing is answered
abbrev pub run_on : Result (Size × State) Refusal → Model no_backing → List Exchange → ℕ × List Exchange
run_on (Ok (z, b)) φ es = (0, answered no_backing z b φ es)
run_on (Err e) φ es = (refusal_number e, es)

-- a board of n shims and m lines over a new ring
abbrev pub linked_run : ℕ → ℕ → List Exchange → ℕ × List Exchange
linked_run n m es = let φ = made_ring n in run_on (make_rule φ.lanes n m) φ es
