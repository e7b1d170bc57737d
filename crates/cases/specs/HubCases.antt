-- What the hub makes of a message: up. A board of three shims and one line; the hub's word is 5 and its stamp 3, and shim 1 shares it.
use Rattle.std.specs.Prelude.{◌≡◌, ℕ, true, false, List, [], ◌∷◌, Some, Ok, Err}
use Rattle.fabric.specs.Backing.{Model, no_backing}
use Rattle.fabric.specs.Lanes.{messages_of}
use Rattle.fabric.specs.declared.fault.FabricFault.TheVariants.{Full, Empty}
use Rattle.fabric.specs.declared.message.Message.{Message}
use Rattle.rules.specs.Checks.{After, after}
use Rattle.rules.specs.State.{hub_at}
use Rattle.rules.specs.Up.{up_rule}
use Rattle.rules.specs.declared.answer.Answer.TheVariants.{Handled}
use Rattle.rules.specs.declared.kind.Kind.TheVariants.{Write, ReadRequest, FenceRequest, Drop}
use Rattle.rules.specs.declared.refusal.Refusal.TheVariants.{WrongSize, NoShim, Foreign, Fabric}
use Rattle.rules.specs.declared.state.HubLine.{HubLine}
use Rattle.rules.specs.declared.state.State.{State}
use Rattle.rules.specs.declared.state.Wait.TheVariants as wait
use Rattle.rules.specs.State.{with_wait}
use Rattle.cases.specs.Scenes.{small, message, quiet, waiting, filled, at_hub, hub_line}

abbrev pub up : State → Model no_backing → ℕ → After no_backing
up = up_rule no_backing (small 3)

abbrev pub shared : HubLine
shared = hub_line 5 3 false true false

-- an up of shim s, on whose up lane k, of empty lanes, the message waits
abbrev pub performed : ℕ → ℕ → Message → After no_backing
performed s k m = up (at_hub shared) (waiting (quiet 3) k (m ∷ [])) s

-- the hub's line after an up of shim 0, and what then waits on lane k
abbrev pub hub_after : Message → HubLine
hub_after m = hub_at (performed 0 0 m).state 0

abbrev pub sent : Message → ℕ → List Message
sent m k = messages_of (performed 0 0 m).fabric.lanes k

pub record PerformedCases : Type 0 where
  -- WRITE of 7 with REL and the 16: the word is written, the stamp rises, the sender joins; it is told the stamp before, the sharer the new one
  pub store : (performed 0 0 (message 1 0 18 0 7 0)).outcome ≡ Ok (Handled Write)
  pub store_hub : hub_after (message 1 0 18 0 7 0) ≡ hub_line 7 4 true true false
  pub store_taken : sent (message 1 0 18 0 7 0) 0 ≡ []
  pub store_ack : sent (message 1 0 18 0 7 0) 1 ≡ message 6 0 18 0 0 3 ∷ []
  pub store_update : sent (message 1 0 18 0 7 0) 3 ≡ message 1 0 2 0 7 4 ∷ []
  pub store_no_sharer : sent (message 1 0 18 0 7 0) 5 ≡ []
  -- on a held line, not SC: nobody joins, no acknowledgement; SC: an acknowledgement
  pub held_store_hub : hub_after (message 1 0 2 0 7 0) ≡ hub_line 7 4 false true false
  pub held_store_no_ack : sent (message 1 0 2 0 7 0) 1 ≡ []
  pub held_store_update : sent (message 1 0 2 0 7 0) 3 ≡ message 1 0 2 0 7 4 ∷ []
  pub sc_store_ack : sent (message 1 0 3 0 7 0) 1 ≡ message 6 0 3 0 0 3 ∷ []
  -- the sender of a store is sent no update, though it shares the line
  pub sharer_store : messages_of (performed 1 2 (message 1 0 2 1 7 0)).fabric.lanes 3 ≡ []
  -- a mark with the three highest bits: the acknowledgement carries it whole, the update its four lowest bits
  pub marked_ack : sent (message 1 0 242 0 7 0) 1 ≡ message 6 0 242 0 0 3 ∷ []
  pub marked_update : sent (message 1 0 242 0 7 0) 3 ≡ message 1 0 2 0 7 4 ∷ []
  -- RREQ: the sender joins, and is sent the word and the stamp; nobody else is sent anything
  pub load : (performed 0 0 (message 2 0 1 0 0 0)).outcome ≡ Ok (Handled ReadRequest)
  pub load_hub : hub_after (message 2 0 1 0 0 0) ≡ hub_line 5 3 true true false
  pub load_answer : sent (message 2 0 1 0 0 0) 1 ≡ message 3 0 1 0 5 3 ∷ []
  pub load_others : sent (message 2 0 1 0 0 0) 3 ≡ []
  -- FREQ: the sender is answered, and each other shim is sent it, sharer or not
  pub fence : (performed 0 0 (message 4 0 3 0 0 0)).outcome ≡ Ok (Handled FenceRequest)
  pub fence_hub : hub_after (message 4 0 3 0 0 0) ≡ shared
  pub fence_answer : sent (message 4 0 3 0 0 0) 1 ≡ message 5 0 3 0 0 0 ∷ []
  pub fence_sharer : sent (message 4 0 3 0 0 0) 3 ≡ message 4 0 3 0 0 0 ∷ []
  pub fence_other : sent (message 4 0 3 0 0 0) 5 ≡ message 4 0 3 0 0 0 ∷ []
  -- .. on a board of one shim it is answered, and no other lane is there
  pub one_fence : (up_rule no_backing (small 1) (at_hub shared) (waiting (quiet 1) 0 (message 4 0 3 0 0 0 ∷ [])) 0).fabric ≡ waiting (quiet 1) 1 (message 5 0 3 0 0 0 ∷ [])
  -- DROP of shim 1: it leaves the sharers, and nobody is sent anything
  pub drop : (performed 1 2 (message 7 0 0 1 0 0)).outcome ≡ Ok (Handled Drop)
  pub drop_hub : hub_at (performed 1 2 (message 7 0 0 1 0 0)).state 0 ≡ hub_line 5 3 false false false
  pub drop_sends_nothing : (performed 1 2 (message 7 0 0 1 0 0)).fabric ≡ quiet 3
  -- only the first message is taken
  pub one_taken : messages_of (up (at_hub shared) (waiting (quiet 3) 0 (message 2 0 1 0 0 0 ∷ message 4 0 3 0 0 0 ∷ [])) 0).fabric.lanes 0 ≡ message 4 0 3 0 0 0 ∷ []
  -- a shim that waits is no hindrance
  pub waits : (up (with_wait (at_hub shared) 0 (Some (wait.Load 0))) (waiting (quiet 3) 0 (message 2 0 1 0 0 0 ∷ [])) 0).outcome ≡ Ok (Handled ReadRequest)

pub record UpRefusedCases : Type 0 where
  -- 1, 3, 11
  pub lanes : (up (at_hub shared) (quiet 2) 3).outcome ≡ Err WrongSize
  pub shim : (up (at_hub shared) (quiet 3) 3).outcome ≡ Err NoShim
  pub empty : (up (at_hub shared) (quiet 3) 2).outcome ≡ Err (Fabric (Empty 4))
  -- 12: a kind that does not go up, or none; a line not on the board; another sender; a store once the hub's stamp is at the limit
  pub kind_none : (performed 0 0 (message 0 0 0 0 0 0)).outcome ≡ Err (Foreign 0)
  pub kind_3 : (performed 0 0 (message 3 0 0 0 0 0)).outcome ≡ Err (Foreign 0)
  pub kind_5 : (performed 0 0 (message 5 0 3 0 0 0)).outcome ≡ Err (Foreign 0)
  pub kind_6 : (performed 0 0 (message 6 0 16 0 0 0)).outcome ≡ Err (Foreign 0)
  pub kind_8 : (performed 0 0 (message 8 0 0 0 0 0)).outcome ≡ Err (Foreign 0)
  pub line : (performed 0 0 (message 2 1 0 0 0 0)).outcome ≡ Err (Foreign 0)
  pub sender : (performed 1 2 (message 2 0 0 0 0 0)).outcome ≡ Err (Foreign 2)
  pub stamp_at_limit : (up (at_hub (hub_line 5 1000000 false true false)) (waiting (quiet 3) 0 (message 1 0 0 0 7 0 ∷ [])) 0).outcome ≡ Err (Foreign 0)
  pub stamp_before_limit : (up (at_hub (hub_line 5 999999 false true false)) (waiting (quiet 3) 0 (message 1 0 0 0 7 0 ∷ [])) 0).outcome ≡ Ok (Handled Write)
  -- 10: the lowest full lane of those to be sent on
  pub full : (up (at_hub shared) (waiting (filled (quiet 3) 3) 0 (message 1 0 18 0 7 0 ∷ [])) 0).outcome ≡ Err (Fabric (Full 3))
  pub full_lowest : (up (at_hub shared) (waiting (filled (filled (quiet 3) 5) 3) 0 (message 4 0 3 0 0 0 ∷ [])) 0).outcome ≡ Err (Fabric (Full 3))
  -- .. of two sharers that the store is to be sent to, the second alone has a full lane
  pub one_full :
      (up (at_hub (hub_line 5 3 false true true)) (waiting (filled (quiet 3) 5) 0 (message 1 0 16 0 7 0 ∷ [])) 0).outcome
      ≡ Err (Fabric (Full 5))
  pub full_own : (up (at_hub shared) (waiting (filled (filled (quiet 3) 1) 3) 0 (message 1 0 18 0 7 0 ∷ [])) 0).outcome ≡ Err (Fabric (Full 1))
  pub full_changes_nothing :
      up (at_hub shared) (waiting (filled (quiet 3) 3) 0 (message 1 0 18 0 7 0 ∷ [])) 0
      ≡ after (Err (Fabric (Full 3))) (at_hub shared) (waiting (filled (quiet 3) 3) 0 (message 1 0 18 0 7 0 ∷ []))
  -- .. a lane that is sent nothing may be full: the sender's of a store that is not acknowledged, that of a shim that is no sharer, all at a drop
  pub full_elsewhere : (up (at_hub shared) (waiting (filled (filled (quiet 3) 1) 5) 0 (message 1 0 2 0 7 0 ∷ [])) 0).outcome ≡ Ok (Handled Write)
  pub full_at_drop : (up (at_hub shared) (waiting (filled (filled (filled (quiet 3) 1) 3) 5) 2 (message 7 0 0 1 0 0 ∷ [])) 1).outcome ≡ Ok (Handled Drop)
  -- 12 comes before 10
  pub foreign_first : (up (at_hub shared) (waiting (filled (quiet 3) 1) 0 (message 2 1 0 0 0 0 ∷ [])) 0).outcome ≡ Err (Foreign 0)
