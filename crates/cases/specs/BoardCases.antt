-- The board as a whole: at first, made, claimed, and a list of actions on it.
use Rattle.std.specs.Prelude.{◌≡◌, true, false, List, [], ◌∷◌, Some, None, Ok, Err, Result, replicate}
use Rattle.fabric.specs.Backing.{no_backing}
use Rattle.fabric.specs.declared.fault.FabricFault.TheVariants.{Empty}
use Rattle.rules.specs.Calls.{Run, run_rule}
use Rattle.rules.specs.Claim.{claim_answer, after_claim}
use Rattle.rules.specs.HandBack.{after_hand_back}
use Rattle.rules.specs.Make.{make_rule}
use Rattle.rules.specs.State.{settled_at, line_at, wait_at, hub_at, is_claimed, with_claim, fresh_state}
use Rattle.rules.specs.declared.action.Action.{Action}
use Rattle.rules.specs.declared.action.Action.TheVariants.{Call, Claim, HandBack}
use Rattle.rules.specs.declared.answer.Answer.{Answer}
use Rattle.rules.specs.declared.answer.Answer.TheVariants.{Done, Value, Handled}
use Rattle.rules.specs.declared.call.Call.TheVariants.{Load, Store, Up, Down}
use Rattle.rules.specs.declared.event.Event.{Event}
use Rattle.rules.specs.declared.kind.Kind.TheVariants.{Write, WriteAck}
use Rattle.rules.specs.declared.refusal.Refusal.{Refusal}
use Rattle.rules.specs.declared.refusal.Refusal.TheVariants.{WrongSize, MessageWaits, NoShim, Claimed, Fabric}
use Rattle.rules.specs.declared.state.Wait.TheVariants as wait
use Rattle.run.specs.Bytes.{run_in}
use Rattle.cases.specs.Scenes.{sized, small, message, acq, rel, quiet, waiting, awaiting, hub_line}

pub record MadeCases : Type 0 where
  -- at first: words, stamps and the number of stores 0, nothing shared, held or claimed, every shim ready
  pub hub : hub_at fresh_state 63 ≡ hub_line 0 0 false false false
  pub held : line_at fresh_state 7 63 ≡ None
  pub ready : wait_at fresh_state 7 ≡ None
  pub unclaimed : is_claimed fresh_state 7 ≡ false
  pub stores : fresh_state.stores ≡ 0
  -- made over the lanes of as many shims, the smallest and the largest too
  pub made : make_rule (quiet 2).lanes 2 3 ≡ Ok (sized 2 3, fresh_state)
  pub smallest : make_rule (quiet 1).lanes 1 1 ≡ Ok (sized 1 1, fresh_state)
  pub largest : make_rule (quiet 8).lanes 8 64 ≡ Ok (sized 8 64, fresh_state)
  -- refused: 1, also where a message waits; 2
  pub no_shims : make_rule (quiet 0).lanes 0 1 ≡ Err WrongSize
  pub nine_shims : make_rule (quiet 9).lanes 9 1 ≡ Err WrongSize
  pub no_lines : make_rule (quiet 2).lanes 2 0 ≡ Err WrongSize
  pub lines_65 : make_rule (quiet 2).lanes 2 65 ≡ Err WrongSize
  pub other_lanes : make_rule (waiting (quiet 3) 5 (message 1 0 0 0 7 0 ∷ [])).lanes 2 1 ≡ Err WrongSize
  pub a_message_waits : make_rule (waiting (quiet 2) 3 (message 1 0 0 0 7 0 ∷ [])).lanes 2 1 ≡ Err MessageWaits

pub record ClaimCases : Type 0 where
  -- a claim marks its shim and no other, and a shim that waits goes on waiting
  pub claim : claim_answer (small 2) fresh_state 1 ≡ Ok Done
  pub marked : is_claimed (after_claim (small 2) fresh_state 1) 1 ≡ true
  pub other : is_claimed (after_claim (small 2) fresh_state 1) 0 ≡ false
  pub waits_on : wait_at (after_claim (small 2) (awaiting (Some wait.Fence) None) 0) 0 ≡ Some wait.Fence
  -- refused: 3, 13, and then nothing changes
  pub shim : claim_answer (small 2) fresh_state 2 ≡ Err NoShim
  pub twice : claim_answer (small 2) (with_claim fresh_state 1 true) 1 ≡ Err Claimed
  pub twice_state : after_claim (small 2) (with_claim fresh_state 1 true) 1 ≡ with_claim fresh_state 1 true
  -- handing back takes the mark off; without that shim or that mark nothing changes
  pub handed_back : after_hand_back (small 2) (with_claim fresh_state 1 true) 1 ≡ fresh_state
  pub no_mark : after_hand_back (small 2) fresh_state 1 ≡ fresh_state
  pub no_such_shim : after_hand_back (small 2) (with_claim fresh_state 1 true) 2 ≡ with_claim fresh_state 1 true

-- an action that is asked, and one with what the board said to it
abbrev pub asked : Action → Event
asked a = record { action = a; outcome = None }

abbrev pub told : Action → Result Answer Refusal → Event
told a r = record { action = a; outcome = Some r }

-- on a board of one shim and one line: a claim, a store of 7 that is performed and acknowledged, a load, an up with nothing to perform, a handing back
abbrev pub story : List Event
story =
    asked (Claim 0) ∷ asked (Call (Store 0 0 rel 7)) ∷ asked (Call (Up 0)) ∷ asked (Call (Down 0))
    ∷ asked (Call (Load 0 0 acq)) ∷ asked (Call (Up 0)) ∷ asked (Claim 0) ∷ asked (HandBack 0) ∷ []

abbrev pub story_told : List Event
story_told =
    told (Claim 0) (Ok Done) ∷ told (Call (Store 0 0 rel 7)) (Ok Done) ∷ told (Call (Up 0)) (Ok (Handled Write)) ∷ told (Call (Down 0)) (Ok (Handled WriteAck))
    ∷ told (Call (Load 0 0 acq)) (Ok (Value 7)) ∷ told (Call (Up 0)) (Err (Fabric (Empty 0))) ∷ told (Claim 0) (Err Claimed) ∷ told (HandBack 0) (Ok Done) ∷ []

abbrev pub run : Run no_backing
run = run_rule no_backing (small 1) fresh_state (quiet 1) story

pub record RunCases : Type 0 where
  -- each action on what the one before it left
  pub events : run.events ≡ story_told
  pub line : line_at run.state 0 0 ≡ settled_at 7 1
  pub hub : hub_at run.state 0 ≡ hub_line 7 1 true false false
  pub claimed : is_claimed run.state 0 ≡ false
  pub lanes : run.fabric ≡ quiet 1
  -- the same over frames in 24 bytes, which are two slots: those of the store and of its acknowledgement
  pub in_bytes : (run_in (replicate 24 0xFF) 1 1 story).events ≡ story_told
  pub bytes : (run_in (replicate 24 0xFF) 1 1 story).fabric.state.bytes
      ≡ 0x01 ∷ 0x00 ∷ 0x12 ∷ 0x00 ∷ 0x00 ∷ 0x00 ∷ 0x00 ∷ 0x07 ∷ 0x00 ∷ 0x00 ∷ 0x00 ∷ 0x00
      ∷ 0x06 ∷ 0x00 ∷ 0x12 ∷ 0x00 ∷ 0x00 ∷ 0x00 ∷ 0x00 ∷ 0x00 ∷ 0x00 ∷ 0x00 ∷ 0x00 ∷ 0x00 ∷ []
  -- one byte less has no lanes: no board is made, and nothing is done
  pub too_few : (run_in (replicate 23 0xFF) 1 1 story).made ≡ Err WrongSize
  pub too_few_told : (run_in (replicate 23 0xFF) 1 1 story).events ≡ story
  pub too_few_bytes : (run_in (replicate 23 0xFF) 1 1 story).fabric.state.bytes ≡ replicate 23 0xFF
