-- Calls and answers by numbers.
use Rattle.std.specs.Prelude.{ℕ, cond, Some, None, Ok, Err, Option, Result, ◌==◌}
use Rattle.fabric.specs.Fault.{fault_lane}
use Rattle.rules.specs.declared.answer.Answer.{Answer}
use Rattle.rules.specs.declared.answer.Answer.TheVariants.{Done, Waits, Value, Ended, Handled}
use Rattle.rules.specs.declared.call.Call.{Call}
use Rattle.rules.specs.declared.call.Call.TheVariants.{Load, Store, Fence, Evict, Up, Down}
use Rattle.rules.specs.declared.refusal.Refusal.{Refusal}
use Rattle.rules.specs.declared.refusal.Refusal.TheVariants.{Fabric, Foreign}
use Rattle.rules.specs.Kinds.{kind_number}
use Rattle.rules.specs.Refusals.{refusal_number}
use Rattle.gombultsei.specs.declared.exchange.AnswerNumbers.{AnswerNumbers}
use Rattle.gombultsei.specs.declared.exchange.CallNumbers.{CallNumbers}

-- the call that has these numbers, if one has
abbrev pub call_of : CallNumbers → Option Call
call_of c =
    cond (c.kind == 1) (Some (Load c.shim c.line c.strength))
    (cond (c.kind == 2) (Some (Store c.shim c.line c.strength c.value))
    (cond (c.kind == 3) (Some (Fence c.shim c.strength))
    (cond (c.kind == 4) (Some (Evict c.shim c.line))
    (cond (c.kind == 5) (Some (Up c.shim))
    (cond (c.kind == 6) (Some (Down c.shim)) None)))))

-- the lane that a refusal carries, and 0 where it carries none
abbrev pub lane_told : Refusal → ℕ
lane_told (Fabric fault) = fault_lane fault
lane_told (Foreign lane) = lane
lane_told e = 0

abbrev pub answer_numbers : ℕ → ℕ → ℕ → AnswerNumbers
answer_numbers k n c = record { kind = k; number = n; carried = c }

-- the numbers of what the board said, if it was called
abbrev pub numbers_of : Option (Result Answer Refusal) → AnswerNumbers
numbers_of None = answer_numbers 0 0 0
numbers_of (Some (Ok Done)) = answer_numbers 1 0 0
numbers_of (Some (Ok Waits)) = answer_numbers 2 0 0
numbers_of (Some (Ok (Value w))) = answer_numbers 3 0 w
numbers_of (Some (Ok Ended)) = answer_numbers 4 0 0
numbers_of (Some (Ok (Handled k))) = answer_numbers 5 (kind_number k) 0
numbers_of (Some (Err e)) = answer_numbers 6 (refusal_number e) (lane_told e)
