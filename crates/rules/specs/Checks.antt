-- What a call leaves, and the tests that it is refused by.
use Rattle.std.specs.Prelude.{ℕ, ◌*◌, Bool, not, ◌||◌, List, [], ◌∷◌, length, is_some, Err, Result, ◌==◌, nat_le, slice_index_or}
use Rattle.fabric.specs.Backing.{Backing, Model}
use Rattle.fabric.specs.Lanes.{Lane, is_full, messages_of}
use Rattle.fabric.specs.declared.message.Message.{Message}
use Rattle.fabric.specs.declared.fault.FabricFault.TheVariants.{Full, Empty}
use Rattle.rules.specs.declared.answer.Answer.{Answer}
use Rattle.rules.specs.declared.refusal.Refusal.{Refusal}
use Rattle.rules.specs.declared.refusal.Refusal.TheVariants.{WrongSize, NoShim, NoLine, WrongStrength, ShimWaits, AtLimit, NotHeld, Unsettled, Fabric, Foreign, Claimed, NotWaiting}
use Rattle.rules.specs.declared.state.Size.{Size}
use Rattle.rules.specs.declared.state.State.{State}
use Rattle.rules.specs.declared.strength.Access.{Access}
use Rattle.rules.specs.Refusals.{Check, refuse_if, tested}
use Rattle.rules.specs.State.{stamp_limit, wait_at, line_at, is_claimed, is_ready, is_held, is_unsettled, stamp_of}
use Rattle.rules.specs.Strengths.{fitting}

-- what a call leaves: what the board says, the board's state, the fabric
pub record After (ω : Backing) : Type 0 where
  pub outcome : Result Answer Refusal
  pub state : State
  pub fabric : Model ω

abbrev pub after : {ω : Backing} → Result Answer Refusal → State → Model ω → After ω
after r b φ = record { outcome = r; state = b; fabric = φ }

-- a call is refused by the first of the tests that it fails, and changes nothing then
abbrev pub unless_refused : {ω : Backing} → State → Model ω → List Check → After ω → After ω
unless_refused b φ cs accepted = tested (λ e. after (Err e) b φ) cs accepted

-- 1: the fabric's lanes are not those of the board
abbrev pub wrong_lanes : Size → List Lane → Check
wrong_lanes z lanes = refuse_if (not (length lanes == 2 * z.shims)) WrongSize

-- 3
abbrev pub no_shim : Size → ℕ → Check
no_shim z s = refuse_if (nat_le z.shims s) NoShim

-- 4
abbrev pub no_line : Size → ℕ → Check
no_line z x = refuse_if (nat_le z.lines x) NoLine

-- 5: the call does not take strength g
abbrev pub wrong_strength : Access → ℕ → Check
wrong_strength a g = refuse_if (not (is_some (fitting a g))) WrongStrength

-- 6
abbrev pub shim_waits : State → ℕ → Check
shim_waits b s = refuse_if (not (is_ready (wait_at b s))) ShimWaits

-- 7
abbrev pub not_held : State → ℕ → ℕ → Check
not_held b s x = refuse_if (not (is_held (line_at b s x))) NotHeld

-- 8
abbrev pub line_unsettled : State → ℕ → ℕ → Check
line_unsettled b s x = refuse_if (is_unsettled (line_at b s x)) Unsettled

-- 9: the number of stores, or the line's stamp at the shim, is at the limit
abbrev pub at_limit : State → ℕ → ℕ → Check
at_limit b s x = refuse_if (nat_le stamp_limit b.stores || nat_le stamp_limit (stamp_of (line_at b s x))) AtLimit

-- 10: the lane to be sent on is full
abbrev pub lane_full : List Lane → ℕ → Check
lane_full lanes k = refuse_if (is_full lanes k) (Fabric (Full k))

-- 11: nothing waits on the lane
abbrev pub lane_empty : List Lane → ℕ → Check
lane_empty lanes k = refuse_if (length (messages_of lanes k) == 0) (Fabric (Empty k))

-- what stands for a message where there is none
abbrev pub no_message : Message
no_message = record { kind = 0; line = 0; mark = 0; sender = 0; value = 0; stamp = 0 }

-- the first message of lane k
abbrev pub first_on : List Lane → ℕ → Message
first_on lanes k = slice_index_or (messages_of lanes k) 0 no_message

-- 12: the first message of the lane is foreign
abbrev pub foreign_on : ℕ → Bool → Check
foreign_on k foreign = refuse_if foreign (Foreign k)

-- 13: a chip has claimed the shim
abbrev pub shim_claimed : State → ℕ → Check
shim_claimed b s = refuse_if (is_claimed b s) Claimed

-- 14: the shim waits for nothing
abbrev pub shim_ready : State → ℕ → Check
shim_ready b s = refuse_if (is_ready (wait_at b s)) NotWaiting

-- 1, 3 and 11, by which a call is refused that needs the first message of lane k of shim s
abbrev pub message_checks : Size → List Lane → ℕ → ℕ → List Check
message_checks z lanes s k = wrong_lanes z lanes ∷ no_shim z s ∷ lane_empty lanes k ∷ []
