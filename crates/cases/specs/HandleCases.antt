-- Handles: what a claim gives, and what becomes of a handle by what the board says.
use Rattle.std.specs.Prelude.{◌≡◌, true, false, Ok, Err}
use Rattle.fabric.specs.declared.fault.FabricFault.TheVariants.{Empty}
use Rattle.handles.specs.Agreement.{is_ready_handle}
use Rattle.handles.specs.Handles.{handle_shim, ready_for, after_call, after_turn}
use Rattle.handles.specs.declared.handle.Handle.TheVariants.{Ready, Waiting}
use Rattle.handles.specs.declared.waiting.Waiting as waiting
use Rattle.rules.specs.Claim.{claim_checks}
use Rattle.rules.specs.Refusals.{passing}
use Rattle.rules.specs.State.{with_claim, fresh_state}
use Rattle.rules.specs.declared.answer.Answer.TheVariants.{Done, Waits, Value, Ended, Handled}
use Rattle.rules.specs.declared.kind.Kind.TheVariants.{Write}
use Rattle.rules.specs.declared.refusal.Refusal.TheVariants.{ShimWaits, NotWaiting, Claimed, Fabric}
use Rattle.cases.specs.Scenes.{small}

-- a waiting handle for shim 3
abbrev pub waiting_for_3 : waiting.Waiting
waiting_for_3 = record { shim = 3; spent = false }

pub record HandleCases : Type 0 where
  -- a claim gives a ready handle for its shim; refused, it gives none
  pub claimed : passing (claim_checks (small 2) fresh_state 1) (ready_for 1) ≡ Ok (ready_for 1)
  pub refused : passing (claim_checks (small 2) (with_claim fresh_state 1 true) 1) (ready_for 1) ≡ Err Claimed
  -- a call that waits gives back a waiting handle for the same shim; any other a ready one, also where it is refused
  pub waits : after_call (ready_for 3) (Ok Waits) ≡ Waiting waiting_for_3
  pub done : after_call (ready_for 3) (Ok Done) ≡ Ready (ready_for 3)
  pub value : after_call (ready_for 3) (Ok (Value 7)) ≡ Ready (ready_for 3)
  pub call_refused : after_call (ready_for 3) (Err ShimWaits) ≡ Ready (ready_for 3)
  -- a turn that ends the wait, or finds none, gives back a ready handle; any other a waiting one
  pub load_ended : after_turn waiting_for_3 (Ok (Value 7)) ≡ Ready (ready_for 3)
  pub ended : after_turn waiting_for_3 (Ok Ended) ≡ Ready (ready_for 3)
  pub no_wait : after_turn waiting_for_3 (Err NotWaiting) ≡ Ready (ready_for 3)
  pub not_ended : after_turn waiting_for_3 (Ok (Handled Write)) ≡ Waiting waiting_for_3
  pub turn_refused : after_turn waiting_for_3 (Err (Fabric (Empty 7))) ≡ Waiting waiting_for_3
  -- whichever it is, it is handed back for its shim
  pub shim : handle_shim (Waiting waiting_for_3) ≡ 3
  -- what its type says
  pub says_ready : is_ready_handle (Ready (ready_for 3)) ≡ true
  pub says_waiting : is_ready_handle (Waiting waiting_for_3) ≡ false
