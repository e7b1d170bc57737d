-- The rule of a down: the first message of a shim's down lane is handed to the shim.
use Rattle.std.specs.Prelude.{ℕ, ◌+◌, Bool, true, false, cond, not, ◌&&◌, ◌||◌, List, [], ◌∷◌, ◌++◌, is_some, Some, None, Ok, Option, ◌==◌, nat_le, nat_lt}
use Rattle.fabric.specs.Backing.{Backing, Model, take_on}
use Rattle.fabric.specs.Lanes.{Lane}
use Rattle.fabric.specs.declared.message.Message.{Message}
use Rattle.rules.specs.declared.answer.Answer.{Answer}
use Rattle.rules.specs.declared.answer.Answer.TheVariants.{Value, Ended, Handled}
use Rattle.rules.specs.declared.kind.Kind.{Kind}
use Rattle.rules.specs.declared.kind.Kind.TheVariants.{Write, ReadResponse, FenceRequest, FenceResponse, WriteAck}
use Rattle.rules.specs.declared.state.Held.{Held}
use Rattle.rules.specs.declared.state.Size.{Size}
use Rattle.rules.specs.declared.state.State.{State}
use Rattle.rules.specs.declared.state.Wait.{Wait}
use Rattle.rules.specs.declared.state.Wait.TheVariants as wait
use Rattle.rules.specs.Checks.{After, after, unless_refused, message_checks, foreign_on, first_on}
use Rattle.rules.specs.Kinds.{kind_of, kind_at}
use Rattle.rules.specs.Refusals.{Check}
use Rattle.rules.specs.State.{stamp_limit, down_lane, wait_at, line_at, is_unsettled, is_settled, copy_of, stamp_of, settled_at, with_wait, with_line}
use Rattle.rules.specs.Strengths.{is_sc, asks_sync}

-- does the shim wait for a load of line x; for a store to line x; for a fence, which has line 0
abbrev pub awaits_load : Option Wait → ℕ → Bool
awaits_load (Some (wait.Load y)) x = y == x
awaits_load w x = false

abbrev pub awaits_store : Option Wait → ℕ → Bool
awaits_store (Some (wait.Store y)) x = y == x
awaits_store w x = false

abbrev pub awaits_fence : Option Wait → ℕ → Bool
awaits_fence (Some wait.Fence) x = x == 0
awaits_fence w x = false

-- WHAT BECOMES OF THE SHIM'S LINE

-- an update: on a settled line a greater stamp replaces copy and stamp, otherwise the copy stays and its stamp rises by one;
-- on any other line nothing happens
abbrev pub held_updated : Held → Message → Option Held
held_updated h m = cond (nat_lt h.stamp m.stamp) (settled_at m.value m.stamp) (settled_at h.copy (h.stamp + 1))

abbrev pub line_updated : Option Held → Message → Option Held
line_updated None m = None
line_updated (Some h) m = cond h.settled (held_updated h m) (Some h)

-- an acknowledgement: where the store asked to be synchronised, the message's stamp is added, and the line is settled
abbrev pub line_acknowledged : Option Held → Message → Option Held
line_acknowledged l m = cond (asks_sync m.mark) (settled_at (copy_of l) (stamp_of l + m.stamp)) l

-- the shim's line after a message of this kind
abbrev pub line_by : Option Held → Message → Kind → Option Held
line_by l m Write = line_updated l m
line_by l m ReadResponse = settled_at m.value m.stamp
line_by l m WriteAck = line_acknowledged l m
line_by l m k = l

-- WHAT ENDS

-- does a message of this kind end what the shim waits for
abbrev pub ends : Message → Kind → Bool
ends m ReadResponse = true
ends m FenceResponse = true
ends m WriteAck = is_sc m.mark
ends m k = false

-- a load that ends answers its word, a store or a fence that it ended; what ends nothing answers its kind
abbrev pub answer_by : Message → Kind → Answer
answer_by m ReadResponse = Value m.value
answer_by m FenceResponse = Ended
answer_by m WriteAck = cond (is_sc m.mark) Ended (Handled WriteAck)
answer_by m k = Handled k

-- WHAT IS FOREIGN

abbrev pub over_limit : ℕ → Bool
over_limit t = nat_lt stamp_limit t

-- an update with stamp 0, or one that would leave a settled line with a stamp above the limit
abbrev pub foreign_update : Option Held → Message → Bool
foreign_update l m = m.stamp == 0 || is_settled l && over_limit (stamp_of (line_updated l m))

-- an acknowledgement of nothing; of a store that asked to be synchronised, where the line is not unsettled or the sum of the stamps is
-- above the limit; of an SC store that is not waited for
abbrev pub foreign_ack : Option Wait → Option Held → Message → Bool
foreign_ack w l m =
    not (asks_sync m.mark || is_sc m.mark)
    || (asks_sync m.mark && (not (is_unsettled l) || over_limit (stamp_of l + m.stamp))
    || is_sc m.mark && not (awaits_store w m.line))

-- is a message of this kind foreign; each is whose kind does not come down
abbrev pub foreign_kind : Option Wait → Option Held → Message → Kind → Bool
foreign_kind w l m Write = foreign_update l m
foreign_kind w l m ReadResponse = not (awaits_load w m.line)
foreign_kind w l m FenceRequest = false
foreign_kind w l m FenceResponse = not (awaits_fence w m.line)
foreign_kind w l m WriteAck = foreign_ack w l m
foreign_kind w l m k = true

-- is m foreign to a shim that waits for w and has l at the line of m
abbrev pub foreign_to : Option Wait → Option Held → Message → Bool
foreign_to w l m = not (is_some (kind_of m.kind)) || (over_limit m.stamp || foreign_kind w l m (kind_at m))

-- is m, on the down lane of shim s, foreign
abbrev pub foreign_down : Size → State → ℕ → Message → Bool
foreign_down z b s m = nat_le z.lines m.line || (nat_le z.shims m.sender || foreign_to (wait_at b s) (line_at b s m.line) m)

-- THE RULE

abbrev pub down_checks : Size → State → List Lane → ℕ → Message → List Check
down_checks z b lanes s m = message_checks z lanes s (down_lane s) ++ (foreign_on (down_lane s) (foreign_down z b s m) ∷ [])

-- the first message of the down lane of shim s is handed to the shim
abbrev pub handed : (ω : Backing) → State → Model ω → ℕ → Message → After ω
handed ω b φ s m =
    after (Ok (answer_by m (kind_at m)))
    (with_line (with_wait b s (cond (ends m (kind_at m)) None (wait_at b s))) s m.line (line_by (line_at b s m.line) m (kind_at m)))
    (take_on ω φ (down_lane s))

abbrev pub down_rule : (ω : Backing) → Size → State → Model ω → ℕ → After ω
down_rule ω z b φ s =
    let m = first_on φ.lanes (down_lane s) in
    unless_refused b φ (down_checks z b φ.lanes s m) (handed ω b φ s m)
