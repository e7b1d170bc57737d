-- What a sheet prints: its lines are read one after the other, and each call is made by its rule.
use Rattle.std.specs.Prelude.{ℕ, zero, suc, ◌+◌, ◌*◌, cond, List, [], ◌++◌, length, Some, None, Ok, Err, Option, Result}
use Rattle.std.specs.List.{flat_map}
use Rattle.std.specs.Option.{option_to_list}
use Rattle.fabric.specs.Backing.{Model, no_backing}
use Rattle.fabric.specs.Lanes.{empty_lanes}
use Rattle.frames.specs.Check.{capacity_for}
use Rattle.ring.specs.Ring.{ring_capacity}
use Rattle.words.specs.declared.fault.Fault.{Fault}
use Rattle.rules.specs.Calls.{call_rule}
use Rattle.rules.specs.Sizes.{is_size}
use Rattle.rules.specs.State.{fresh_state}
use Rattle.rules.specs.declared.call.Call.{Call}
use Rattle.rules.specs.declared.state.Size.{Size}
use Rattle.rules.specs.declared.state.State.{State}
use Rattle.sheet.specs.Format.{Entry, a_call}
use Rattle.sheet.specs.Format as format
use Rattle.sheet.specs.Reading.{opened, board_end, next_at, line_end}
use Rattle.sheet.specs.declared.line.Board.{Board}
use Rattle.sheet.specs.declared.line.FabricName.{FabricName}
use Rattle.sheet.specs.declared.line.FabricName.TheVariants.{Ring, Frames, Staged}
use Rattle.verdict.specs.Verdicts.{flaw_of}
use Rattle.session.specs.Items.{Item, an_answer, a_note, a_flaw, item_bytes}
use Rattle.verdict.specs.declared.verdict.Flaw.{Flaw}
use Rattle.verdict.specs.declared.verdict.Flaw.TheVariants.{WrongBoard}

-- how many bytes the frames of a sheet have
abbrev pub buffer_length : ℕ
buffer_length = 4096

-- how many messages each lane can hold; a stage over a ring holds as many as the ring
abbrev pub capacity_named : FabricName → ℕ → ℕ
capacity_named Ring n = ring_capacity
capacity_named Frames n = capacity_for buffer_length n
capacity_named Staged n = ring_capacity

-- the lanes of n shims, just made
abbrev pub empty_fabric : FabricName → ℕ → Model no_backing
empty_fabric f n = record { lanes = empty_lanes (2 * n) (capacity_named f n); state = tt }

-- a sheet in the middle of its run: the place of its next line, the board, the lanes, and how many calls were made
pub record Running : Type 0 where
  pub place : ℕ
  pub size : Size
  pub state : State
  pub lanes : Model no_backing
  pub steps : ℕ

-- what is left of a sheet: to be run on, what is wrong with it to be told, or nothing
pub data Play : Type 0 where
  running : Running → Play
  flawed : Flaw → Play
  over : Play

-- the board that a sheet asks for, with the lines from this place on
abbrev pub begun : ℕ → Board → Running
begun place b =
    record {
      place = place;
      size = record { shims = b.shims; lines = b.lines };
      state = fresh_state;
      lanes = empty_fabric b.fabric b.shims;
      steps = 0;
    }

abbrev pub begun_at : ℕ → Board → Play
begun_at place b = cond (is_size b.shims b.lines) (running (begun place b)) (flawed WrongBoard)

-- what is told first, by the board line; its lines begin at this place
abbrev pub begun_by : List ℕ → ℕ → Result Board Fault → Play
begun_by s place (Ok b) = begun_at place b
begun_by s place (Err f) = flawed (flaw_of s f)

abbrev pub started : List ℕ → Play
started s = begun_by s (board_end s) (opened s)

-- past the line that begins at the place of p
abbrev pub past_line : List ℕ → Running → Running
past_line s p = record { place = line_end s p.place + 1; size = p.size; state = p.state; lanes = p.lanes; steps = p.steps }

-- a call is made
abbrev pub call_made : List ℕ → Running → Call → Running
call_made s p c =
    let a = call_rule no_backing p.size p.state p.lanes c in
    record { place = line_end s p.place + 1; size = p.size; state = a.state; lanes = a.fabric; steps = p.steps + 1 }

abbrev pub call_told : Running → Call → Item
call_told p c = an_answer (p.steps + 1) (call_rule no_backing p.size p.state p.lanes c).outcome

-- an item, if there is one, and what is left then
abbrev pub Told : Type 0
Told = Option Item × Play

abbrev pub entry_told : List ℕ → Running → Entry → Told
entry_told s p (a_call c) = (Some (call_told p c), running (call_made s p c))
entry_told s p (format.a_note text) = (Some (a_note text), running (past_line s p))

abbrev pub line_told : List ℕ → Running → Result (Option Entry) Fault → Told
line_told s p (Ok (Some e)) = entry_told s p e
line_told s p (Ok None) = (None, over)
line_told s p (Err f) = (Some (a_flaw (flaw_of s f)), over)

-- the next item that a sheet prints, if there is one, and what is left then
abbrev pub next_item : List ℕ → Play → Told
next_item s (running p) = line_told s p (next_at s p.place)
next_item s (flawed f) = (Some (a_flaw f), over)
next_item s over = (None, over)

-- the items of the next k that there are
abbrev pub items_from : ℕ → List ℕ → Play → List Item
items_from zero s p = []
items_from (suc k) s p = option_to_list (next_item s p).0 ++ items_from k s (next_item s p).1

-- all that a sheet prints: a line has a byte at least, so that it has no more items than bytes, but for one that ends it
abbrev pub printed_by : List ℕ → List ℕ
printed_by s = flat_map item_bytes (items_from (length s + 1) s (started s))
