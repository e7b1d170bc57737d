-- What a shim makes of a message: down and turn. A board of two shims and two lines; the message comes down to shim 0 and names line 0, if nothing else is said.
use Rattle.std.specs.Prelude.{◌≡◌, ℕ, [], ◌∷◌, Some, None, Ok, Err, Option}
use Rattle.effects.specs.Delivery.{delivery, delivered}
use Rattle.fabric.specs.Backing.{Model, no_backing}
use Rattle.fabric.specs.Lanes.{messages_of}
use Rattle.fabric.specs.declared.fault.FabricFault.TheVariants.{Empty}
use Rattle.fabric.specs.declared.message.Message.{Message}
use Rattle.rules.specs.Checks.{After, after}
use Rattle.rules.specs.Down.{down_rule}
use Rattle.rules.specs.State.{settled_at, unsettled_at, line_at, wait_at, fresh_state}
use Rattle.rules.specs.Store.{store_rule}
use Rattle.rules.specs.Turn.{turn_rule}
use Rattle.rules.specs.declared.answer.Answer.TheVariants.{Value, Ended, Handled}
use Rattle.rules.specs.declared.kind.Kind.TheVariants.{Write, FenceRequest, WriteAck}
use Rattle.rules.specs.declared.refusal.Refusal.TheVariants.{WrongSize, NoShim, Foreign, NotWaiting, Fabric}
use Rattle.rules.specs.declared.state.Held.{Held}
use Rattle.rules.specs.declared.state.State.{State}
use Rattle.rules.specs.declared.state.Wait.{Wait}
use Rattle.rules.specs.declared.state.Wait.TheVariants as wait
use Rattle.cases.specs.Scenes.{sized, message, rlx, quiet, waiting, awaiting}

abbrev pub down : State → Model no_backing → ℕ → After no_backing
down = down_rule no_backing (sized 2 2)

-- a down of shim 0, which waits for w and has l at line 0
abbrev pub handed : Option Wait → Option Held → Message → After no_backing
handed w l m = down (awaiting w l) (waiting (quiet 2) 1 (m ∷ [])) 0

-- its line 0 then, and what it waits for
abbrev pub line_after : Option Wait → Option Held → Message → Option Held
line_after w l m = line_at (handed w l m).state 0 0

abbrev pub wait_after : Option Wait → Option Held → Message → Option Wait
wait_after w l m = wait_at (handed w l m).state 0

-- an update to 20 by shim 1, with this stamp
abbrev pub update : ℕ → Message
update t = message 1 0 0 1 20 t

-- line 0 of shim 0, which did not hold it, after two stores, of 1 and of 2
abbrev pub stored_twice : Option Held
stored_twice =
    let first = store_rule no_backing (sized 2 2) fresh_state (quiet 2) 0 0 rlx 1 in
    line_at (store_rule no_backing (sized 2 2) first.state first.fabric 0 0 rlx 2).state 0 0

pub record HandedCases : Type 0 where
  -- WRITE: a greater stamp is written; an equal or smaller one is kept, and the line's stamp rises; on any other line nothing happens; nothing ends
  pub written : line_after None (settled_at 10 5) (update 6) ≡ settled_at 20 6
  pub kept : line_after None (settled_at 10 6) (update 6) ≡ settled_at 10 7
  pub kept_smaller : line_after None (settled_at 10 6) (update 2) ≡ settled_at 10 7
  pub ignored : line_after None (unsettled_at 10 1) (update 6) ≡ unsettled_at 10 1
  pub not_held : line_after None None (update 6) ≡ None
  pub update_told : (handed None (settled_at 10 5) (update 6)).outcome ≡ Ok (Handled Write)
  pub update_ends_nothing : wait_after (Some (wait.Load 0)) (settled_at 10 5) (update 6) ≡ Some (wait.Load 0)
  pub own_update : line_after None (settled_at 10 5) (message 1 0 0 0 20 6) ≡ settled_at 20 6
  pub taken : messages_of (handed None (settled_at 10 5) (update 6)).fabric.lanes 1 ≡ []
  -- RRESP: the line is settled, with the message's value and stamp, and the load has ended
  pub load_told : (handed (Some (wait.Load 0)) None (message 3 0 1 0 9 4)).outcome ≡ Ok (Value 9)
  pub load_line : line_after (Some (wait.Load 0)) None (message 3 0 1 0 9 4) ≡ settled_at 9 4
  pub load_line_unsettled : line_after (Some (wait.Load 0)) (unsettled_at 10 1) (message 3 0 1 0 9 4) ≡ settled_at 9 4
  pub load_ends : wait_after (Some (wait.Load 0)) None (message 3 0 1 0 9 4) ≡ None
  -- WRITE_ACK with 16: the stamps are added, and the line is settled; it ends nothing where it is not SC
  pub acknowledged : line_after None stored_twice (message 6 0 16 0 0 5) ≡ settled_at 2 7
  pub ack_told : (handed None stored_twice (message 6 0 16 0 0 5)).outcome ≡ Ok (Handled WriteAck)
  pub ack_ends_nothing : wait_after (Some (wait.Store 0)) (unsettled_at 2 2) (message 6 0 16 0 0 5) ≡ Some (wait.Store 0)
  -- with 16 and SC it ends the store too; with SC alone it leaves the line
  pub sc_ack_told : (handed (Some (wait.Store 0)) (unsettled_at 2 2) (message 6 0 19 0 0 5)).outcome ≡ Ok Ended
  pub sc_ack_line : line_after (Some (wait.Store 0)) (unsettled_at 2 2) (message 6 0 19 0 0 5) ≡ settled_at 2 7
  pub sc_ack_ends : wait_after (Some (wait.Store 0)) (unsettled_at 2 2) (message 6 0 19 0 0 5) ≡ None
  pub sc_held_ack_told : (handed (Some (wait.Store 0)) (settled_at 2 7) (message 6 0 3 0 0 5)).outcome ≡ Ok Ended
  pub sc_held_ack_line : line_after (Some (wait.Store 0)) (settled_at 2 7) (message 6 0 3 0 0 5) ≡ settled_at 2 7
  -- FREQ changes nothing; FRESP ends the fence, and leaves the line
  pub request_told : (handed (Some wait.Fence) (settled_at 10 5) (message 4 0 3 1 0 0)).outcome ≡ Ok (Handled FenceRequest)
  pub request_state : (handed (Some wait.Fence) (settled_at 10 5) (message 4 0 3 1 0 0)).state ≡ awaiting (Some wait.Fence) (settled_at 10 5)
  pub fence_told : (handed (Some wait.Fence) (settled_at 10 5) (message 5 0 3 0 0 0)).outcome ≡ Ok Ended
  pub fence_state : (handed (Some wait.Fence) (settled_at 10 5) (message 5 0 3 0 0 0)).state ≡ awaiting None (settled_at 10 5)
  -- the same as `deliver` says it: the wait, the line and the answer, or none
  pub as_delivered : delivered (Some (wait.Store 0)) (unsettled_at 2 2) (message 6 0 19 0 0 5) ≡ delivery (Some Ended) None (settled_at 2 7)
  pub not_delivered : delivered None (settled_at 2 7) (message 6 0 19 0 0 5) ≡ delivery None None (settled_at 2 7)

pub record DownRefusedCases : Type 0 where
  -- 1, 3, 11
  pub lanes : (down fresh_state (quiet 3) 2).outcome ≡ Err WrongSize
  pub shim : (down fresh_state (quiet 2) 2).outcome ≡ Err NoShim
  pub empty : (down fresh_state (quiet 2) 1).outcome ≡ Err (Fabric (Empty 3))
  -- 12: a kind that does not come down, or none; a line or a sender not on the board; a stamp above the limit
  pub kind_2 : (handed None None (message 2 0 0 0 0 0)).outcome ≡ Err (Foreign 1)
  pub kind_7 : (handed None None (message 7 0 0 0 0 0)).outcome ≡ Err (Foreign 1)
  pub kind_0 : (handed None None (message 0 0 0 0 0 0)).outcome ≡ Err (Foreign 1)
  pub line : (handed None None (message 1 2 0 1 20 6)).outcome ≡ Err (Foreign 1)
  pub sender : (handed None None (message 1 0 0 2 20 6)).outcome ≡ Err (Foreign 1)
  pub stamp : (handed None None (message 4 0 3 1 0 1000001)).outcome ≡ Err (Foreign 1)
  pub stamp_at_limit : (handed None None (message 4 0 3 1 0 1000000)).outcome ≡ Ok (Handled FenceRequest)
  -- WRITE with stamp 0, or that would leave a settled line with a stamp above the limit
  pub update_0 : (handed None (settled_at 10 5) (update 0)).outcome ≡ Err (Foreign 1)
  pub update_at_limit : (handed None (settled_at 10 1000000) (update 6)).outcome ≡ Err (Foreign 1)
  -- RRESP and FRESP that are not waited for
  pub load_not_awaited : (handed None None (message 3 0 1 0 9 4)).outcome ≡ Err (Foreign 1)
  pub load_of_other_line : (handed (Some (wait.Load 1)) None (message 3 0 1 0 9 4)).outcome ≡ Err (Foreign 1)
  pub fence_not_awaited : (handed (Some (wait.Load 0)) None (message 5 0 3 0 0 0)).outcome ≡ Err (Foreign 1)
  pub fence_of_other_line : (handed (Some wait.Fence) None (message 5 1 3 0 0 0)).outcome ≡ Err (Foreign 1)
  -- WRITE_ACK with neither 16 nor SC; with 16 on a line that is not unsettled, or with stamps above the limit; with SC and not waited for
  pub ack_of_nothing : (handed (Some (wait.Store 0)) (unsettled_at 2 2) (message 6 0 2 0 0 5)).outcome ≡ Err (Foreign 1)
  pub ack_settled : (handed None (settled_at 2 7) (message 6 0 16 0 0 5)).outcome ≡ Err (Foreign 1)
  pub ack_not_held : (handed None None (message 6 0 16 0 0 5)).outcome ≡ Err (Foreign 1)
  pub ack_at_limit : (handed None (unsettled_at 2 2) (message 6 0 16 0 0 999999)).outcome ≡ Err (Foreign 1)
  pub sc_ack_not_awaited : (handed None (settled_at 2 7) (message 6 0 3 0 0 5)).outcome ≡ Err (Foreign 1)
  pub sc_ack_of_other_line : (handed (Some (wait.Store 1)) (settled_at 2 7) (message 6 0 3 0 0 5)).outcome ≡ Err (Foreign 1)
  -- a foreign message stays where it is
  pub changes_nothing : handed None (settled_at 10 5) (update 0) ≡ after (Err (Foreign 1)) (awaiting None (settled_at 10 5)) (waiting (quiet 2) 1 (update 0 ∷ []))

abbrev pub turn : State → Model no_backing → ℕ → After no_backing
turn = turn_rule no_backing (sized 2 2)

pub record TurnCases : Type 0 where
  -- at a shim that waits it is a down
  pub ended : (turn (awaiting (Some wait.Fence) None) (waiting (quiet 2) 1 (message 5 0 3 0 0 0 ∷ [])) 0).outcome ≡ Ok Ended
  pub ready : wait_at (turn (awaiting (Some wait.Fence) None) (waiting (quiet 2) 1 (message 5 0 3 0 0 0 ∷ [])) 0).state 0 ≡ None
  pub not_ended : (turn (awaiting (Some wait.Fence) None) (waiting (quiet 2) 1 (update 6 ∷ [])) 0).outcome ≡ Ok (Handled Write)
  -- 3; 14, before 1; and then as a down is: 1, 11, 12
  pub shim : (turn fresh_state (quiet 3) 2).outcome ≡ Err NoShim
  pub waits_for_nothing : (turn fresh_state (quiet 3) 0).outcome ≡ Err NotWaiting
  pub lanes : (turn (awaiting (Some wait.Fence) None) (quiet 3) 0).outcome ≡ Err WrongSize
  pub empty : (turn (awaiting (Some wait.Fence) None) (quiet 2) 0).outcome ≡ Err (Fabric (Empty 1))
  pub foreign : (turn (awaiting (Some wait.Fence) None) (waiting (quiet 2) 1 (update 0 ∷ [])) 0).outcome ≡ Err (Foreign 1)
