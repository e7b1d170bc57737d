-- What a session and what it hands out mean.
use Rattle.std.specs.Prelude.{ℕ, List, drop, Some, Option}
use Rattle.std.specs.Borrow.{Bor}
use Rattle.words.specs.Lengths.{line_length}
use Rattle.sheet.specs.Places.{Part}
use Rattle.session.specs.Carrier.{carrier_lanes}
use Rattle.session.specs.Items.{Item, an_answer, a_note, a_flaw}
use Rattle.session.specs.Playing.{Play, running, flawed, over}
use Rattle.session.specs.declared.printed.Printed.{Printed}
use Rattle.session.specs.declared.printed.Printed.TheVariants.{Answered, Note, Flawed}
use Rattle.session.specs.declared.session.Phase.{Phase}
use Rattle.session.specs.declared.session.Phase.TheVariants as phase
use Rattle.session.specs.declared.session.Session.{Session}
use Rattle.session.specs.declared.rig.Rig.{Rig}

-- a run whose next line is at this place, once so many calls were made
abbrev pub running_on : ℕ → ℕ → Rig → Play
running_on place steps rig =
    running (record { place = place; size = rig.board.size; state = rig.board.state; lanes = carrier_lanes rig.carrier; steps = steps })

-- what is left of a sheet
abbrev pub play_in : ℕ → ℕ → Phase → Play
play_in place steps (phase.Running rig) = running_on place steps rig
play_in place steps (phase.Flawed f) = flawed f
play_in place steps phase.Over = over

abbrev pub play_of : Session → Play
play_of s = play_in s.reader.at s.steps s.phase

-- the item that is handed out
abbrev pub item_of : Printed → Item
item_of (Answered step r) = an_answer step r
item_of (Note text) = a_note text.now
item_of (Flawed f) = a_flaw f

-- a note is the caller's own part of the sheet s, from place a on
abbrev pub OwnPart : Bor (List ℕ) → ℕ → Option Printed → Type 0
OwnPart s a (Some (Note text)) = Part s text a (line_length (drop a s.now))
OwnPart s a o = Unit {0}
