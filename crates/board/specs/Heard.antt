-- What a message makes of the shim that it is handed to.
use Rattle.std.specs.Prelude.{None, Option, slice_index_or, slice_set}
use Rattle.fabric.specs.declared.message.Message.{Message}
use Rattle.rules.specs.declared.answer.Answer.{Answer}
use Rattle.rules.specs.declared.state.Shim.{Shim}
use Rattle.effects.specs.Delivery.{delivered}

pub record Hearing : Type 0 where
  pub answer : Option Answer
  pub shim : Shim

abbrev pub hearing : Option Answer → Shim → Hearing
hearing a shim = record { answer = a; shim = shim }

-- a shim once it has the line l at x and waits for w
abbrev pub heard : Shim → Message → Hearing
heard shim m =
    let d = delivered shim.wait (slice_index_or shim.lines m.line None) m in
    hearing d.answer (record shim { wait = d.wait; lines = slice_set shim.lines m.line d.line })
