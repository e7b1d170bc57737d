-- Handles, and what becomes of a handle by what the board says to its call.
use Rattle.std.specs.Prelude.{ℕ, Bool, true, false, cond, Ok, Err, Result}
use Rattle.rules.specs.declared.answer.Answer.{Answer}
use Rattle.rules.specs.declared.answer.Answer.TheVariants.{Waits, Value, Ended}
use Rattle.rules.specs.declared.refusal.Refusal.{Refusal}
use Rattle.rules.specs.declared.refusal.Refusal.TheVariants.{NotWaiting}
use Rattle.handles.specs.declared.handle.Handle.{Handle}
use Rattle.handles.specs.declared.handle.Handle.TheVariants as handle
use Rattle.handles.specs.declared.ready.Ready.{Ready}
use Rattle.handles.specs.declared.waiting.Waiting.{Waiting}

abbrev pub handle_shim : Handle → ℕ
handle_shim (handle.Ready h) = h.shim
handle_shim (handle.Waiting h) = h.shim

-- the handle that a claim gives
abbrev pub ready_for : ℕ → Ready
ready_for s = record { shim = s; spent = false }

-- does the call wait
abbrev pub waits : Result Answer Refusal → Bool
waits (Ok Waits) = true
waits r = false

-- a call that waits makes a ready handle a waiting one for the same shim; any other leaves it
abbrev pub after_call : Ready → Result Answer Refusal → Handle
after_call h r = cond (waits r) (handle.Waiting (record { shim = h.shim; spent = h.spent })) (handle.Ready h)

-- has the turn ended the wait, or found none
abbrev pub wait_over : Result Answer Refusal → Bool
wait_over (Ok (Value w)) = true
wait_over (Ok Ended) = true
wait_over (Err NotWaiting) = true
wait_over r = false

-- such a turn makes a waiting handle a ready one for the same shim; any other leaves it
abbrev pub after_turn : Waiting → Result Answer Refusal → Handle
after_turn h r = cond (wait_over r) (handle.Ready (record { shim = h.shim; spent = h.spent })) (handle.Waiting h)
