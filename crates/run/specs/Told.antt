-- What the common order is told of a run: its calls, and its end.
use Rattle.std.specs.Prelude.{◌≡◌, ℕ, ◌<◌, true, List, [], ◌∷◌, Some, Option}
use Rattle.std.specs.List.{flat_map}
use Rattle.fabric.specs.Lanes.{Lane, messages_of}
use Rattle.rules.specs.declared.action.Action.{Action}
use Rattle.rules.specs.declared.action.Action.TheVariants.{Call}
use Rattle.rules.specs.declared.event.Event.{Event}
use Rattle.rules.specs.declared.state.Size.{Size}
use Rattle.rules.specs.declared.state.State.{State}
use Rattle.rules.specs.State.{hub_at, line_at, is_held, copy_of}
use Rattle.order.specs.Common.{Outcome, Trace, End}

-- an action, as the law is told of it: a call, with what the board said to it; a claim or a handing back is none
abbrev pub call_told : Action → Option Outcome → Trace
call_told (Call c) (Some r) = (c, r) ∷ []
call_told a o = []

-- the calls of a list
abbrev pub calls_of : List Event → Trace
calls_of es = flat_map (λ (e : Event). call_told e.action e.outcome) es

-- whether no message waits, the hub's words, and the copies that shims hold
abbrev pub end_of : Size → State → List Lane → End
end_of z b lanes =
    record {
      Quiet = (k : ℕ) → messages_of lanes k ≡ [];
      HubWord = λ x w. (hub_at b x).word ≡ w;
      HeldCopy = λ s x w. (s < z.shims) × is_held (line_at b s x) ≡ true × copy_of (line_at b s x) ≡ w;
    }
