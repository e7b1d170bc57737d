-- Three sheets of calls, with what the board says to each: traces on which the law is tried. A comment has the place of the call behind it.
use Rattle.std.specs.Prelude.{List, [], ◌∷◌, map, Ok, Err, None}
use Rattle.ring.specs.Ring.{no_backing, made_ring}
use Rattle.rules.specs.Calls.{run_rule}
use Rattle.rules.specs.State.{fresh_state}
use Rattle.rules.specs.declared.action.Action.TheVariants as action
use Rattle.rules.specs.declared.event.Event.{Event}
use Rattle.rules.specs.declared.kind.Kind.TheVariants.{Write, WriteAck, ReadRequest, FenceRequest, Drop}
use Rattle.rules.specs.declared.refusal.Refusal.TheVariants.{NoLine}
use Rattle.rules.specs.declared.state.Size.{Size}
use Rattle.order.specs.Common.{Trace, Outcome, End, Call, Load, Store, Fence, Evict, Up, Down, Done, Waits, Value, Ended, Handled}
use Rattle.run.specs.Told.{calls_of, end_of}
use Rattle.run.specs.Whole.{whole_rule}

-- a call that a list asks for
abbrev pub asked : Call → Event
asked c = record { action = action.Call c; outcome = None }

-- the calls of a trace, asked for anew
abbrev pub asked_of : Trace → List Event
asked_of t = map (λ (e : Call × Outcome). asked e.0) t

-- what a board of two shims and two lines over a ring says to the calls of a list
unfoldable pub told : List Event → Trace
told es = calls_of (whole_rule no_backing (made_ring 2) 2 2 es).events

-- each shim holds the line that the other will store to
abbrev pub warm : Trace → Trace
warm t =
    (Load 0 1 0, Ok Waits) ∷  -- 0
    (Up 0, Ok (Handled ReadRequest)) ∷
    (Down 0, Ok (Value 0)) ∷
    (Load 1 0 0, Ok Waits) ∷  -- 3
    (Up 1, Ok (Handled ReadRequest)) ∷
    (Down 1, Ok (Value 0)) ∷ t

-- both stores wait in their up lanes, and both loads still give the old word
abbrev pub plain : Trace
plain =
    warm (
    (Store 0 0 0 1, Ok Done) ∷  -- 6
    (Store 1 1 0 1, Ok Done) ∷  -- 7
    (Load 0 1 0, Ok (Value 0)) ∷  -- 8
    (Load 1 0 0, Ok (Value 0)) ∷  -- 9
    (Up 0, Ok (Handled Write)) ∷
    (Up 1, Ok (Handled Write)) ∷ [])

-- the same, where each chip first loads what it stored
abbrev pub own : Trace
own =
    warm (
    (Store 0 0 0 1, Ok Done) ∷  -- 6
    (Store 1 1 0 1, Ok Done) ∷  -- 7
    (Load 0 0 0, Ok (Value 1)) ∷  -- 8
    (Load 0 1 0, Ok (Value 0)) ∷  -- 9
    (Load 1 1 0, Ok (Value 1)) ∷  -- 10
    (Load 1 0 0, Ok (Value 0)) ∷  -- 11
    (Up 1, Ok (Handled Write)) ∷
    (Up 0, Ok (Handled Write)) ∷ [])

-- a call of each kind. The hub performs the second store first; at the end no message waits
abbrev pub crossed : Trace
crossed =
    (Store 0 0 0 1, Ok Done) ∷  -- 0
    (Store 1 0 0 2, Ok Done) ∷  -- 1
    (Store 0 7 0 3, Err NoLine) ∷  -- 2
    (Up 1, Ok (Handled Write)) ∷  -- 3
    (Up 0, Ok (Handled Write)) ∷  -- 4
    (Down 0, Ok (Handled WriteAck)) ∷  -- 5
    (Down 1, Ok (Handled WriteAck)) ∷  -- 6
    (Down 1, Ok (Handled Write)) ∷  -- 7
    (Load 1 0 0, Ok (Value 1)) ∷  -- 8
    (Load 1 1 0, Ok Waits) ∷  -- 9
    (Up 1, Ok (Handled ReadRequest)) ∷  -- 10
    (Down 1, Ok (Value 0)) ∷  -- 11
    (Evict 1 1, Ok Done) ∷  -- 12
    (Up 1, Ok (Handled Drop)) ∷  -- 13
    (Fence 0 3, Ok Waits) ∷  -- 14
    (Up 0, Ok (Handled FenceRequest)) ∷  -- 15
    (Down 0, Ok Ended) ∷  -- 16
    (Down 1, Ok (Handled FenceRequest)) ∷  -- 17
    []

-- the end of that run
abbrev pub crossed_end : End
crossed_end =
    let size : Size = record { shims = 2; lines = 2 } in
    let r = run_rule no_backing size fresh_state (made_ring 2) (asked_of crossed) in
    end_of size r.state r.fabric.lanes

-- No board says what the next three traces say: the law has no order for them.

-- two chips store and wait, and both load the old word before their stores have ended
abbrev pub both_sc : Trace
both_sc =
    (Store 0 0 3 1, Ok Waits) ∷  -- 0
    (Store 1 1 3 1, Ok Waits) ∷  -- 1
    (Load 0 1 0, Ok (Value 0)) ∷  -- 2
    (Load 1 0 0, Ok (Value 0)) ∷ []  -- 3

-- two chips store, fence, and load the old word
abbrev pub both_fenced : Trace
both_fenced =
    (Store 0 0 0 1, Ok Done) ∷  -- 0
    (Fence 0 3, Ok Waits) ∷  -- 1
    (Down 0, Ok Ended) ∷  -- 2
    (Load 0 1 0, Ok (Value 0)) ∷  -- 3
    (Store 1 1 0 1, Ok Done) ∷  -- 4
    (Fence 1 3, Ok Waits) ∷  -- 5
    (Down 1, Ok Ended) ∷  -- 6
    (Load 1 0 0, Ok (Value 0)) ∷ []  -- 7

-- the hub performs a store and then a load, which gives the old word
abbrev pub lost : Trace
lost =
    (Store 0 0 0 1, Ok Done) ∷  -- 0
    (Up 0, Ok (Handled Write)) ∷
    (Load 1 0 0, Ok Waits) ∷  -- 2
    (Up 1, Ok (Handled ReadRequest)) ∷
    (Down 1, Ok (Value 0)) ∷ []
