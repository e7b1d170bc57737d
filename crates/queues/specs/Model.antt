-- What lanes in slots mean, whatever holds the slots.
use Rattle.std.specs.Prelude.{List}
use Rattle.fabric.specs.Lanes.{Lane}
use Rattle.fabric.specs.Backing.{Model}
use Rattle.queues.specs.declared.slots.Slots.{Ghosts}
use Rattle.queues.specs.Rows.{row_lanes, rows_model}

-- the lanes
abbrev pub slots_lanes : {X : Type 0} → Ghosts X → X → List Lane
slots_lanes g s = row_lanes (g.rows s) (g.held s)

-- the lanes, and the state of what lies behind the slots
abbrev pub slots_model : {X : Type 0} → (g : Ghosts X) → X → Model g.backing
slots_model g s = rows_model g.backing (g.rows s) (g.held s) (g.state s)
