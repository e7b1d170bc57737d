-- The rule of each call, of each action, and of a list of actions.
use Rattle.std.specs.Prelude.{List, [], ◌∷◌, Some, Ok}
use Rattle.fabric.specs.Backing.{Backing, Model}
use Rattle.rules.specs.declared.action.Action.{Action}
use Rattle.rules.specs.declared.action.Action.TheVariants as action
use Rattle.rules.specs.declared.answer.Answer.TheVariants.{Done}
use Rattle.rules.specs.declared.call.Call.{Call}
use Rattle.rules.specs.declared.call.Call.TheVariants.{Load, Store, Fence, Evict, Up, Down}
use Rattle.rules.specs.declared.event.Event.{Event}
use Rattle.rules.specs.declared.state.Size.{Size}
use Rattle.rules.specs.declared.state.State.{State}
use Rattle.rules.specs.Checks.{After, after}
use Rattle.rules.specs.Claim.{claim_answer, after_claim}
use Rattle.rules.specs.Down.{down_rule}
use Rattle.rules.specs.Evict.{evict_rule}
use Rattle.rules.specs.Fence.{fence_rule}
use Rattle.rules.specs.HandBack.{after_hand_back}
use Rattle.rules.specs.Load.{load_rule}
use Rattle.rules.specs.Store.{store_rule}
use Rattle.rules.specs.Up.{up_rule}

abbrev pub call_rule : (ω : Backing) → Size → State → Model ω → Call → After ω
call_rule ω z b φ (Load s x g) = load_rule ω z b φ s x g
call_rule ω z b φ (Store s x g v) = store_rule ω z b φ s x g v
call_rule ω z b φ (Fence s g) = fence_rule ω z b φ s g
call_rule ω z b φ (Evict s x) = evict_rule ω z b φ s x
call_rule ω z b φ (Up s) = up_rule ω z b φ s
call_rule ω z b φ (Down s) = down_rule ω z b φ s

-- a call; or a claim or a handing back, which do not touch the fabric
abbrev pub action_rule : (ω : Backing) → Size → State → Model ω → Action → After ω
action_rule ω z b φ (action.Call c) = call_rule ω z b φ c
action_rule ω z b φ (action.Claim s) = after (claim_answer z b s) (after_claim z b s) φ
action_rule ω z b φ (action.HandBack s) = after (Ok Done) (after_hand_back z b s) φ

-- what a list of actions leaves: each with what the board said to it, the board's state, the fabric
pub record Run (ω : Backing) : Type 0 where
  pub events : List Event
  pub state : State
  pub fabric : Model ω

abbrev pub ran : {ω : Backing} → List Event → State → Model ω → Run ω
ran es b φ = record { events = es; state = b; fabric = φ }

-- one action after the other, each on what the one before it left
abbrev pub run_rule : (ω : Backing) → Size → State → Model ω → List Event → Run ω
run_rule ω z b φ [] = ran [] b φ
run_rule ω z b φ (e ∷ es) =
    let a = action_rule ω z b φ e.action in
    let rest = run_rule ω z a.state a.fabric es in
    ran (record { action = e.action; outcome = Some a.outcome } ∷ rest.events) rest.state rest.fabric
