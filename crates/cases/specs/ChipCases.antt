-- A chip's calls: load, store, fence, evict. A board of two shims and one line; the calls are shim 0's.
use Rattle.std.specs.Prelude.{◌≡◌, ℕ, [], ◌∷◌, Some, None, Ok, Err}
use Rattle.fabric.specs.Backing.{Model, no_backing}
use Rattle.fabric.specs.Frame.{frame_of}
use Rattle.fabric.specs.Lanes.{messages_of}
use Rattle.fabric.specs.declared.fault.FabricFault.TheVariants.{Full}
use Rattle.rules.specs.Checks.{After, after, first_on}
use Rattle.rules.specs.Evict.{evict_rule}
use Rattle.rules.specs.Fence.{fence_rule}
use Rattle.rules.specs.Load.{load_rule}
use Rattle.rules.specs.State.{settled_at, unsettled_at, line_at, wait_at, fresh_state}
use Rattle.rules.specs.Store.{store_rule}
use Rattle.rules.specs.declared.answer.Answer.TheVariants.{Done, Waits, Value}
use Rattle.rules.specs.declared.refusal.Refusal.TheVariants.{WrongSize, NoShim, NoLine, WrongStrength, ShimWaits, NotHeld, Unsettled, AtLimit, Fabric}
use Rattle.rules.specs.declared.state.State.{State}
use Rattle.rules.specs.declared.state.Wait.TheVariants as wait
use Rattle.cases.specs.Scenes.{small, message, rlx, acq, rel, sc, quiet, filled, holding, awaiting}

abbrev pub load : State → Model no_backing → ℕ → ℕ → ℕ → After no_backing
load = load_rule no_backing (small 2)

pub record LoadCases : Type 0 where
  -- a held line, settled or not, answers its copy, also where the up lane is full, and nothing changes
  pub settled : (load (holding (settled_at 42 5)) (quiet 2) 0 0 acq).outcome ≡ Ok (Value 42)
  pub unsettled : (load (holding (unsettled_at 42 1)) (quiet 2) 0 0 sc).outcome ≡ Ok (Value 42)
  pub no_room_needed : (load (holding (settled_at 42 5)) (filled (quiet 2) 0) 0 0 rlx).outcome ≡ Ok (Value 42)
  pub changes_nothing : load (holding (settled_at 42 5)) (quiet 2) 0 0 rlx ≡ after (Ok (Value 42)) (holding (settled_at 42 5)) (quiet 2)
  -- a line that is not held: RREQ goes up with the strength as its mark, and the shim waits
  pub waits : (load fresh_state (quiet 2) 0 0 acq).outcome ≡ Ok Waits
  pub waits_for : wait_at (load fresh_state (quiet 2) 0 0 acq).state 0 ≡ Some (wait.Load 0)
  pub sends : messages_of (load fresh_state (quiet 2) 0 0 acq).fabric.lanes 0 ≡ message 2 0 1 0 0 0 ∷ []
  pub sends_by_shim_1 : messages_of (load fresh_state (quiet 2) 1 0 rlx).fabric.lanes 2 ≡ message 2 0 0 1 0 0 ∷ []
  -- refused, each with the tests behind it failed too: 1, 3, 4, 5, 6, 10
  pub lanes : (load (awaiting (Some wait.Fence) None) (quiet 3) 2 1 rel).outcome ≡ Err WrongSize
  pub shim : (load (awaiting (Some wait.Fence) None) (filled (quiet 2) 0) 2 1 rel).outcome ≡ Err NoShim
  pub line : (load (awaiting (Some wait.Fence) None) (filled (quiet 2) 0) 0 1 rel).outcome ≡ Err NoLine
  pub release : (load (awaiting (Some wait.Fence) None) (filled (quiet 2) 0) 0 0 rel).outcome ≡ Err WrongStrength
  pub no_strength : (load fresh_state (quiet 2) 0 0 4).outcome ≡ Err WrongStrength
  pub busy : (load (awaiting (Some wait.Fence) (settled_at 42 5)) (filled (quiet 2) 0) 0 0 rlx).outcome ≡ Err ShimWaits
  pub full : (load fresh_state (filled (quiet 2) 0) 0 0 rlx).outcome ≡ Err (Fabric (Full 0))
  pub refused_changes_nothing : load fresh_state (filled (quiet 2) 0) 0 0 rlx ≡ after (Err (Fabric (Full 0))) fresh_state (filled (quiet 2) 0)

abbrev pub store : State → Model no_backing → ℕ → ℕ → ℕ → ℕ → After no_backing
store = store_rule no_backing (small 2)

-- so many stores were accepted
abbrev pub after_stores : ℕ → State
after_stores n = record fresh_state { stores = n }

pub record StoreCases : Type 0 where
  -- not held: unsettled, stamp 1; WRITE asks to be synchronised, by the 16 in its mark
  pub done : (store fresh_state (quiet 2) 0 0 rel 7).outcome ≡ Ok Done
  pub not_held : line_at (store fresh_state (quiet 2) 0 0 rel 7).state 0 0 ≡ unsettled_at 7 1
  pub sends : messages_of (store fresh_state (quiet 2) 0 0 rel 7).fabric.lanes 0 ≡ message 1 0 18 0 7 0 ∷ []
  pub frame : frame_of (first_on (store fresh_state (quiet 2) 0 0 rel 7).fabric.lanes 0)
      ≡ 0x01 ∷ 0x00 ∷ 0x12 ∷ 0x00 ∷ 0x00 ∷ 0x00 ∷ 0x00 ∷ 0x07 ∷ 0x00 ∷ 0x00 ∷ 0x00 ∷ 0x00 ∷ []
  pub counted : (store fresh_state (quiet 2) 0 0 rel 7).state.stores ≡ 1
  pub stays_ready : wait_at (store fresh_state (quiet 2) 0 0 rel 7).state 0 ≡ None
  -- held: the stamp rises by one, settled or not; the mark is the strength
  pub settled : line_at (store (holding (settled_at 42 5)) (quiet 2) 0 0 rlx 7).state 0 0 ≡ settled_at 7 6
  pub unsettled : line_at (store (holding (unsettled_at 42 1)) (quiet 2) 0 0 rlx 7).state 0 0 ≡ unsettled_at 7 2
  pub sends_held : messages_of (store (holding (settled_at 42 5)) (quiet 2) 0 0 rel 7).fabric.lanes 0 ≡ message 1 0 2 0 7 0 ∷ []
  -- an SC store waits
  pub sc_waits : (store fresh_state (quiet 2) 0 0 sc 7).outcome ≡ Ok Waits
  pub sc_waits_for : wait_at (store fresh_state (quiet 2) 0 0 sc 7).state 0 ≡ Some (wait.Store 0)
  pub sc_sends : messages_of (store fresh_state (quiet 2) 0 0 sc 7).fabric.lanes 0 ≡ message 1 0 19 0 7 0 ∷ []
  pub sc_line : line_at (store fresh_state (quiet 2) 0 0 sc 7).state 0 0 ≡ unsettled_at 7 1
  -- the 1,000,000th store is accepted
  pub last : (store (after_stores 999999) (quiet 2) 0 0 rlx 7).outcome ≡ Ok Done
  -- refused: 1, 3, 4, 5, 6, 9, 10, each with tests behind it failed too
  pub lanes : (store (awaiting (Some wait.Fence) None) (quiet 1) 2 1 acq 7).outcome ≡ Err WrongSize
  pub shim : (store (awaiting (Some wait.Fence) None) (filled (quiet 2) 0) 2 1 acq 7).outcome ≡ Err NoShim
  pub line : (store (awaiting (Some wait.Fence) None) (filled (quiet 2) 0) 0 1 acq 7).outcome ≡ Err NoLine
  pub acquire : (store (awaiting (Some wait.Fence) None) (filled (quiet 2) 0) 0 0 acq 7).outcome ≡ Err WrongStrength
  pub busy : (store (awaiting (Some wait.Fence) (settled_at 1 1000000)) (filled (quiet 2) 0) 0 0 rlx 7).outcome ≡ Err ShimWaits
  pub at_limit : (store (after_stores 1000000) (filled (quiet 2) 0) 0 0 rlx 7).outcome ≡ Err AtLimit
  pub stamp_at_limit : (store (holding (settled_at 1 1000000)) (quiet 2) 0 0 rlx 7).outcome ≡ Err AtLimit
  pub full : (store fresh_state (filled (quiet 2) 0) 0 0 rlx 7).outcome ≡ Err (Fabric (Full 0))
  pub refused_changes_nothing : store fresh_state (filled (quiet 2) 0) 0 0 rlx 7 ≡ after (Err (Fabric (Full 0))) fresh_state (filled (quiet 2) 0)

abbrev pub fence : State → Model no_backing → ℕ → ℕ → After no_backing
fence = fence_rule no_backing (small 2)

pub record FenceCases : Type 0 where
  -- FREQ goes up, and the shim waits for a fence
  pub waits : (fence fresh_state (quiet 2) 0 sc).outcome ≡ Ok Waits
  pub waits_for : wait_at (fence fresh_state (quiet 2) 0 sc).state 0 ≡ Some wait.Fence
  pub sends : messages_of (fence fresh_state (quiet 2) 0 sc).fabric.lanes 0 ≡ message 4 0 3 0 0 0 ∷ []
  pub leaves_line : line_at (fence (holding (settled_at 42 5)) (quiet 2) 0 sc).state 0 0 ≡ settled_at 42 5
  -- refused: 1, 3, 5, 6, 10, each with tests behind it failed too
  pub lanes : (fence (awaiting (Some wait.Fence) None) (quiet 3) 2 rlx).outcome ≡ Err WrongSize
  pub shim : (fence (awaiting (Some wait.Fence) None) (filled (quiet 2) 0) 2 rlx).outcome ≡ Err NoShim
  pub not_sc : (fence (awaiting (Some wait.Fence) None) (filled (quiet 2) 0) 0 rel).outcome ≡ Err WrongStrength
  pub busy : (fence (awaiting (Some (wait.Load 0)) None) (filled (quiet 2) 0) 0 sc).outcome ≡ Err ShimWaits
  pub full : (fence fresh_state (filled (quiet 2) 0) 0 sc).outcome ≡ Err (Fabric (Full 0))

abbrev pub evict : State → Model no_backing → ℕ → ℕ → After no_backing
evict = evict_rule no_backing (small 2)

pub record EvictCases : Type 0 where
  -- the line is not held any more, and DROP goes up
  pub done : (evict (holding (settled_at 42 5)) (quiet 2) 0 0).outcome ≡ Ok Done
  pub gone : line_at (evict (holding (settled_at 42 5)) (quiet 2) 0 0).state 0 0 ≡ None
  pub sends : messages_of (evict (holding (settled_at 42 5)) (quiet 2) 0 0).fabric.lanes 0 ≡ message 7 0 0 0 0 0 ∷ []
  pub stays_ready : wait_at (evict (holding (settled_at 42 5)) (quiet 2) 0 0).state 0 ≡ None
  -- refused: 1, 3, 4, 6, 7, 8, 10, each with tests behind it failed too
  pub lanes : (evict (awaiting (Some wait.Fence) None) (quiet 3) 2 1).outcome ≡ Err WrongSize
  pub shim : (evict (awaiting (Some wait.Fence) None) (filled (quiet 2) 0) 2 1).outcome ≡ Err NoShim
  pub line : (evict (awaiting (Some wait.Fence) None) (filled (quiet 2) 0) 0 1).outcome ≡ Err NoLine
  pub busy : (evict (awaiting (Some wait.Fence) None) (filled (quiet 2) 0) 0 0).outcome ≡ Err ShimWaits
  pub not_held : (evict fresh_state (filled (quiet 2) 0) 0 0).outcome ≡ Err NotHeld
  pub unsettled : (evict (holding (unsettled_at 10 1)) (filled (quiet 2) 0) 0 0).outcome ≡ Err Unsettled
  pub not_evicted : (evict (holding (unsettled_at 10 1)) (quiet 2) 0 0).outcome ≡ Err Unsettled
  pub full : (evict (holding (settled_at 42 5)) (filled (quiet 2) 0) 0 0).outcome ≡ Err (Fabric (Full 0))
