-- What a call on a board, an action of a list, a turn, a claim and a handing back leave.
use Rattle.std.specs.Prelude.{ℕ, Result}
use Rattle.fabric.specs.Backing.{Backing, Model}
use Rattle.rules.specs.declared.action.Action.{Action}
use Rattle.rules.specs.declared.answer.Answer.{Answer}
use Rattle.rules.specs.declared.call.Call.{Call}
use Rattle.rules.specs.declared.refusal.Refusal.{Refusal}
use Rattle.rules.specs.declared.state.Size.{Size}
use Rattle.rules.specs.declared.state.State.{State}
use Rattle.rules.specs.Calls.{call_rule, action_rule}
use Rattle.rules.specs.Checks.{After, after}
use Rattle.rules.specs.Claim.{after_claim}
use Rattle.rules.specs.HandBack.{after_hand_back}
use Rattle.rules.specs.Turn.{turn_rule}
use Rattle.board.specs.declared.board.Board.{Board}

-- what is left: the board's size, and what the board says, its state and the fabric
abbrev pub left : {ω : Backing} → Result Answer Refusal → Board → Model ω → Size × After ω
left r b φ = (b.size, after r b.state φ)

-- a call on a board over a fabric: the size stays, and all else is by the call's rule
abbrev pub called : {ω : Backing} → Board → Model ω → Call → Size × After ω
called {ω} b φ c = (b.size, call_rule ω b.size b.state φ c)

-- the same of an action, and of a turn
abbrev pub acted : {ω : Backing} → Board → Model ω → Action → Size × After ω
acted {ω} b φ a = (b.size, action_rule ω b.size b.state φ a)

abbrev pub turned : {ω : Backing} → Board → Model ω → ℕ → Size × After ω
turned {ω} b φ s = (b.size, turn_rule ω b.size b.state φ s)

-- a board once shim s is claimed, and once it is handed back
abbrev pub once_claimed : Board → ℕ → Size × State
once_claimed b s = (b.size, after_claim b.size b.state s)

abbrev pub once_handed_back : Board → ℕ → Size × State
once_handed_back b s = (b.size, after_hand_back b.size b.state s)
