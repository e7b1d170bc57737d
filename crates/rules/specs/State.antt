-- The state of a board: its parts, how they are read and written, and the state at first.
use Rattle.std.specs.Prelude.{ℕ, ◌+◌, ◌*◌, Bool, true, false, not, [], is_some, is_none, Some, None, Option, replicate, slice_index_or, slice_set}
use Rattle.fabric.specs.Lanes.{shim_limit}
use Rattle.rules.specs.declared.state.Held.{Held}
use Rattle.rules.specs.declared.state.HubLine.{HubLine}
use Rattle.rules.specs.declared.state.Shim.{Shim}
use Rattle.rules.specs.declared.state.State.{State}
use Rattle.rules.specs.declared.state.Wait.{Wait}
use Rattle.rules.specs.Sizes.{line_limit}

-- how far stamps and the number of stores go
abbrev pub stamp_limit : ℕ
stamp_limit = 1000000

-- shim s sends on its up lane, and receives on its down lane
abbrev pub up_lane : ℕ → ℕ
up_lane s = 2 * s

abbrev pub down_lane : ℕ → ℕ
down_lane s = 2 * s + 1

-- a shim's line: none where the shim does not hold it
abbrev pub is_held : Option Held → Bool
is_held l = is_some l

abbrev pub is_unsettled : Option Held → Bool
is_unsettled None = false
is_unsettled (Some h) = not h.settled

abbrev pub is_settled : Option Held → Bool
is_settled None = false
is_settled (Some h) = h.settled

-- the copy and the stamp of a line, 0 where it is not held
abbrev pub copy_of : Option Held → ℕ
copy_of None = 0
copy_of (Some h) = h.copy

abbrev pub stamp_of : Option Held → ℕ
stamp_of None = 0
stamp_of (Some h) = h.stamp

-- a shim is ready where it waits for nothing
abbrev pub is_ready : Option Wait → Bool
is_ready w = is_none w

-- a line that is held, settled or not
abbrev pub held_at : Bool → ℕ → ℕ → Option Held
held_at settled v t = Some (record { settled = settled; copy = v; stamp = t })

abbrev pub settled_at : ℕ → ℕ → Option Held
settled_at v t = held_at true v t

abbrev pub unsettled_at : ℕ → ℕ → Option Held
unsettled_at v t = held_at false v t

-- shim s; line x of shim s; line x of the hub
abbrev pub shim_at : State → ℕ → Shim
shim_at b s = slice_index_or b.shims s (record { wait = None; lines = []; claimed = false })

abbrev pub wait_at : State → ℕ → Option Wait
wait_at b s = (shim_at b s).wait

abbrev pub is_claimed : State → ℕ → Bool
is_claimed b s = (shim_at b s).claimed

abbrev pub line_at : State → ℕ → ℕ → Option Held
line_at b s x = slice_index_or (shim_at b s).lines x None

abbrev pub hub_at : State → ℕ → HubLine
hub_at b x = slice_index_or b.hub x (record { word = 0; stamp = 0; sharers = [] })

abbrev pub shares : HubLine → ℕ → Bool
shares h s = slice_index_or h.sharers s false

-- the state with another shim, another wait, another line of a shim, a shim claimed or not, another line of the hub, one more store
abbrev pub with_shim : State → ℕ → Shim → State
with_shim b s shim = record b { shims = slice_set b.shims s shim }

abbrev pub with_wait : State → ℕ → Option Wait → State
with_wait b s w = with_shim b s (record (shim_at b s) { wait = w })

abbrev pub with_line : State → ℕ → ℕ → Option Held → State
with_line b s x l = with_shim b s (record (shim_at b s) { lines = slice_set (shim_at b s).lines x l })

abbrev pub with_claim : State → ℕ → Bool → State
with_claim b s t = with_shim b s (record (shim_at b s) { claimed = t })

abbrev pub with_hub : State → ℕ → HubLine → State
with_hub b x h = record b { hub = slice_set b.hub x h }

abbrev pub with_store : State → State
with_store b = record b { stores = b.stores + 1 }

-- at first words, stamps and the number of stores are 0, every shim is ready, and nothing is held, shared or claimed
abbrev pub fresh_hub_line : HubLine
fresh_hub_line = record { word = 0; stamp = 0; sharers = replicate shim_limit false }

abbrev pub fresh_shim : Shim
fresh_shim = record { wait = None; lines = replicate line_limit None; claimed = false }

abbrev pub fresh_state : State
fresh_state = record { stores = 0; hub = replicate line_limit fresh_hub_line; shims = replicate shim_limit fresh_shim }
