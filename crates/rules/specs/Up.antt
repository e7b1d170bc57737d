-- The rule of an up: the hub performs the first message of a shim's up lane.
use Rattle.std.specs.Prelude.{ℕ, zero, suc, ◌+◌, Bool, true, false, cond, not, ◌&&◌, ◌||◌, List, [], ◌∷◌, ◌++◌, is_some, Some, None, Ok, Option, ◌==◌, nat_le, slice_set}
use Rattle.fabric.specs.Backing.{Backing, Model, put_on, take_on}
use Rattle.fabric.specs.Lanes.{Lane, is_full}
use Rattle.fabric.specs.declared.fault.FabricFault.TheVariants.{Full}
use Rattle.fabric.specs.declared.message.Message.{Message}
use Rattle.rules.specs.declared.answer.Answer.TheVariants.{Handled}
use Rattle.rules.specs.declared.kind.Kind.{Kind}
use Rattle.rules.specs.declared.kind.Kind.TheVariants.{Write, ReadRequest, ReadResponse, FenceRequest, FenceResponse, WriteAck, Drop}
use Rattle.rules.specs.declared.refusal.Refusal.TheVariants.{Fabric}
use Rattle.rules.specs.declared.state.HubLine.{HubLine}
use Rattle.rules.specs.declared.state.Size.{Size}
use Rattle.rules.specs.declared.state.State.{State}
use Rattle.rules.specs.declared.strength.Strength.TheVariants.{SeqCst}
use Rattle.rules.specs.Checks.{After, after, unless_refused, message_checks, foreign_on, first_on}
use Rattle.rules.specs.Kinds.{kind_number, kind_of, kind_at}
use Rattle.rules.specs.Refusals.{Check, refuse_if}
use Rattle.rules.specs.State.{stamp_limit, up_lane, down_lane, hub_at, shares, with_hub}
use Rattle.rules.specs.Strengths.{strength_number, mark_of, mark_strength, is_sc, asks_sync}

-- WHAT THE HUB KEEPS

-- the hub's line after a message of this kind; the last clause, here and below, is for the kinds that do not go up
abbrev pub hub_by : HubLine → Message → Kind → HubLine
hub_by h m Write = record { word = m.value; stamp = h.stamp + 1; sharers = cond (asks_sync m.mark) (slice_set h.sharers m.sender true) h.sharers }
hub_by h m ReadRequest = record { word = h.word; stamp = h.stamp; sharers = slice_set h.sharers m.sender true }
hub_by h m FenceRequest = h
hub_by h m Drop = record { word = h.word; stamp = h.stamp; sharers = slice_set h.sharers m.sender false }
hub_by h m k = h

-- WHO IS SENT WHAT

-- a store owes its sender an acknowledgement
abbrev pub owes_ack : ℕ → Bool
owes_ack mark = asks_sync mark || is_sc mark

-- the messages that the hub sends; each carries the shim whose message caused it
abbrev pub ack_message : HubLine → Message → Message
ack_message h m = record { kind = kind_number WriteAck; line = m.line; mark = m.mark; sender = m.sender; value = 0; stamp = h.stamp }

abbrev pub update_message : HubLine → Message → Message
update_message h m = record { kind = kind_number Write; line = m.line; mark = mark_strength m.mark; sender = m.sender; value = m.value; stamp = h.stamp + 1 }

abbrev pub read_message : HubLine → Message → Message
read_message h m = record { kind = kind_number ReadResponse; line = m.line; mark = m.mark; sender = m.sender; value = h.word; stamp = h.stamp }

abbrev pub fenced_message : Kind → Message → Message
fenced_message k m = record { kind = kind_number k; line = 0; mark = mark_of (strength_number SeqCst) false; sender = m.sender; value = 0; stamp = 0 }

-- a message, or none
abbrev pub sent_if : Bool → Message → Option Message
sent_if t m = cond t (Some m) None

-- what shim j is sent when the hub, with h at the line of m, performs m, a message of this kind
abbrev pub sent_by : HubLine → Message → ℕ → Kind → Option Message
sent_by h m j Write = cond (m.sender == j) (sent_if (owes_ack m.mark) (ack_message h m)) (sent_if (shares h j) (update_message h m))
sent_by h m j ReadRequest = sent_if (m.sender == j) (read_message h m)
sent_by h m j FenceRequest = Some (fenced_message (cond (m.sender == j) FenceResponse FenceRequest) m)
sent_by h m j Drop = None
sent_by h m j k = None

abbrev pub sent_to : State → Message → ℕ → Option Message
sent_to b m j = sent_by (hub_at b m.line) m j (kind_at m)

-- one message goes down to shim j; each of the first n shims is sent its message, in their order
abbrev pub send_one : (ω : Backing) → Model ω → ℕ → Option Message → Model ω
send_one ω φ j None = φ
send_one ω φ j (Some m) = put_on ω φ (down_lane j) m

abbrev pub send_all : (ω : Backing) → (ℕ → Option Message) → Model ω → ℕ → Model ω
send_all ω sent φ zero = φ
send_all ω sent φ (suc j) = send_one ω (send_all ω sent φ j) j (sent j)

-- WHAT IS FOREIGN

-- the kinds that go up; a store is no more performed once the hub's stamp is at the limit
abbrev pub goes_up : HubLine → Option Kind → Bool
goes_up h (Some Write) = not (nat_le stamp_limit h.stamp)
goes_up h (Some ReadRequest) = true
goes_up h (Some FenceRequest) = true
goes_up h (Some Drop) = true
goes_up h o = false

-- is m, on the up lane of shim s, a message that the hub does not perform
abbrev pub foreign_up : Size → State → ℕ → Message → Bool
foreign_up z b s m = nat_le z.lines m.line || (not (m.sender == s) || not (goes_up (hub_at b m.line) (kind_of m.kind)))

-- THE RULE

-- 10, for each of the first n shims that is sent something: the lowest full lane comes first
abbrev pub full_lanes : (ℕ → Option Message) → List Lane → ℕ → List Check
full_lanes sent lanes zero = []
full_lanes sent lanes (suc j) = full_lanes sent lanes j ++ (refuse_if (is_some (sent j) && is_full lanes (down_lane j)) (Fabric (Full (down_lane j))) ∷ [])

abbrev pub up_checks : Size → State → List Lane → ℕ → Message → List Check
up_checks z b lanes s m =
    message_checks z lanes s (up_lane s) ++ (foreign_on (up_lane s) (foreign_up z b s m) ∷ full_lanes (sent_to b m) lanes z.shims)

-- the first message of the up lane of shim s is performed
abbrev pub performed : (ω : Backing) → Size → State → Model ω → ℕ → Message → After ω
performed ω z b φ s m =
    after (Ok (Handled (kind_at m))) (with_hub b m.line (hub_by (hub_at b m.line) m (kind_at m))) (send_all ω (sent_to b m) (take_on ω φ (up_lane s)) z.shims)

abbrev pub up_rule : (ω : Backing) → Size → State → Model ω → ℕ → After ω
up_rule ω z b φ s =
    let m = first_on φ.lanes (up_lane s) in
    unless_refused b φ (up_checks z b φ.lanes s m) (performed ω z b φ s m)
