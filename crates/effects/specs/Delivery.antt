-- What a message that comes down makes of its shim.
use Rattle.std.specs.Prelude.{Bool, true, false, cond, Some, None, Option}
use Rattle.fabric.specs.declared.message.Message.{Message}
use Rattle.rules.specs.declared.answer.Answer.{Answer}
use Rattle.rules.specs.declared.kind.Kind.{Kind}
use Rattle.rules.specs.declared.state.Held.{Held}
use Rattle.rules.specs.declared.state.Wait.{Wait}
use Rattle.rules.specs.Down.{held_updated, over_limit, line_by, ends, answer_by, foreign_kind, foreign_to}
use Rattle.rules.specs.Kinds.{kind_at}
use Rattle.rules.specs.State.{stamp_of}

-- what is answered, none where the message is foreign; what the shim waits for, and the line that the message names
pub record Delivery : Type 0 where
  pub answer : Option Answer
  pub wait : Option Wait
  pub line : Option Held

abbrev pub delivery : Option Answer → Option Wait → Option Held → Delivery
delivery a w l = record { answer = a; wait = w; line = l }

-- a settled line after an update, and whether its stamp stays within the limit; otherwise it stays as it was
abbrev pub update_left : Held → Message → Bool × Option Held
update_left h m = cond (over_limit (stamp_of (held_updated h m))) (false, Some h) (true, held_updated h m)

abbrev pub heard : Option Wait → Option Held → Message → Kind → Delivery
heard w l m k = delivery (Some (answer_by m k)) (cond (ends m k) None w) (line_by l m k)

-- a message of kind k; a foreign one changes nothing
abbrev pub delivered_kind : Option Wait → Option Held → Message → Kind → Delivery
delivered_kind w l m k = cond (foreign_kind w l m k) (delivery None w l) (heard w l m k)

abbrev pub delivered : Option Wait → Option Held → Message → Delivery
delivered w l m = cond (foreign_to w l m) (delivery None w l) (heard w l m (kind_at m))
