-- Boards, lanes and messages for the cases. Numbers stand here as the pages in docs/ give them.
use Rattle.std.specs.Prelude.{ℕ, ◌*◌, Bool, false, List, ◌∷◌, Option, replicate}
use Rattle.fabric.specs.Backing.{Model, no_backing}
use Rattle.fabric.specs.Lanes.{empty_lanes, set_messages}
use Rattle.fabric.specs.declared.message.Message.{Message}
use Rattle.rules.specs.State.{with_line, with_wait, with_hub, fresh_state}
use Rattle.rules.specs.declared.state.Held.{Held}
use Rattle.rules.specs.declared.state.HubLine.{HubLine}
use Rattle.rules.specs.declared.state.Size.{Size}
use Rattle.rules.specs.declared.state.State.{State}
use Rattle.rules.specs.declared.state.Wait.{Wait}

-- n shims and m lines; n shims and one line
abbrev pub sized : ℕ → ℕ → Size
sized n m = record { shims = n; lines = m }

abbrev pub small : ℕ → Size
small n = sized n 1

-- a message, by its fields in the order of the table of messages
abbrev pub message : ℕ → ℕ → ℕ → ℕ → ℕ → ℕ → Message
message kind line mark sender value stamp = record { kind = kind; line = line; mark = mark; sender = sender; value = value; stamp = stamp }

-- the strengths by their numbers
abbrev pub rlx : ℕ
rlx = 0

abbrev pub acq : ℕ
acq = 1

abbrev pub rel : ℕ
rel = 2

abbrev pub sc : ℕ
sc = 3

-- the empty lanes of a ring for n shims; where these messages wait on lane k; where lane k is full
abbrev pub quiet : ℕ → Model no_backing
quiet n = record { lanes = empty_lanes (2 * n) 16; state = tt }

abbrev pub waiting : Model no_backing → ℕ → List Message → Model no_backing
waiting φ k ms = record { lanes = set_messages φ.lanes k ms; state = tt }

abbrev pub filled : Model no_backing → ℕ → Model no_backing
filled φ k = waiting φ k (replicate 16 (message 1 0 0 1 20 1))

-- the first state, where shim 0 has this of line 0; where it waits for this too; where line 0 of the hub is this
abbrev pub holding : Option Held → State
holding l = with_line fresh_state 0 0 l

abbrev pub awaiting : Option Wait → Option Held → State
awaiting w l = with_wait (holding l) 0 w

abbrev pub at_hub : HubLine → State
at_hub h = with_hub fresh_state 0 h

-- a line at the hub: its word and stamp, and whether shims 0, 1 and 2 share it
abbrev pub hub_line : ℕ → ℕ → Bool → Bool → Bool → HubLine
hub_line word stamp a b c = record { word = word; stamp = stamp; sharers = a ∷ b ∷ c ∷ replicate 5 false }
