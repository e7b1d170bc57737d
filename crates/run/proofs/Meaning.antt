-- What the state of a board and its lanes are to the machine of the common order.
use Rattle.std.proofs.Common.{◌≡◌, ℕ, Bool, true, false, List, Some, None, Option, map, refl}
use mathlib.Core.Bool.{false≢true}
use mathlib.Core.Option.{some}
use Rattle.fabric.specs.Lanes.{Lane, messages_of}
use Rattle.fabric.specs.declared.message.Message.{Message}
use Rattle.rules.specs.Kinds.{kind_at}
use Rattle.rules.specs.State.{up_lane, down_lane, wait_at, line_at, hub_at, shares, is_held, copy_of}
use Rattle.rules.specs.Strengths.{mark_strength, is_sc, asks_sync}
use Rattle.rules.specs.declared.kind.Kind.{Kind}
use Rattle.rules.specs.declared.kind.Kind.TheVariants as kind
use Rattle.rules.specs.declared.state.Held.{Held}
use Rattle.rules.specs.declared.state.State.{State}
use Rattle.rules.specs.declared.state.Wait as rules
use Rattle.rules.specs.declared.state.Wait.TheVariants as wait
use Rattle.order.proofs.Machine.{Request, Write, Read, Sync, Drop, Notice, Update, Ack, Reply, OtherFence, OwnFence, Line, NotHeld, Unsettled, Settled, Wait, Ready, ForLoad, ForStore, ForFence, copy, Board}

abbrev pub wait_of : Option rules.Wait → Wait
wait_of None = Ready
wait_of (Some (wait.Load x)) = ForLoad x
wait_of (Some (wait.Store x)) = ForStore x
wait_of (Some wait.Fence) = ForFence

abbrev pub line_held : Bool → ℕ → ℕ → Line
line_held true c t = Settled c t
line_held false c t = Unsettled c t

abbrev pub line_of : Option Held → Line
line_of None = NotHeld
line_of (Some h) = line_held h.settled h.copy h.stamp

-- a held line's copy is the machine's
pub copy_is : (l : Option Held) → is_held l ≡ true → copy (line_of l) ≡ some (copy_of l)
copy_is None e = absurd (false≢true e)
copy_is (Some h) e = go h.settled
  where
    go : (t : Bool) → copy (line_held t h.copy h.stamp) ≡ some h.copy
    go true = refl
    go false = refl

-- a message on an up lane, by its kind; those that do not go up are foreign there, and whatever stands for them is not used
abbrev pub request_by : Message → Kind → Request
request_by m kind.Write = Write m.line (mark_strength m.mark) (asks_sync m.mark) m.value
request_by m kind.ReadRequest = Read m.line m.mark
request_by m kind.FenceRequest = Sync
request_by m kind.Drop = Drop m.line
request_by m k = Sync

abbrev pub request_of : Message → Request
request_of m = request_by m (kind_at m)

-- a message on a down lane, in the same way
abbrev pub notice_by : Message → Kind → Notice
notice_by m kind.Write = Update m.line m.value m.stamp
notice_by m kind.ReadResponse = Reply m.line m.value m.stamp
notice_by m kind.FenceRequest = OtherFence
notice_by m kind.FenceResponse = OwnFence
notice_by m kind.WriteAck = Ack m.line (is_sc m.mark) (asks_sync m.mark) m.stamp
notice_by m k = OtherFence

abbrev pub notice_of : Message → Notice
notice_of m = notice_by m (kind_at m)

abbrev pub meaning : State → List Lane → Board
meaning b lanes =
    record {
      word = λ x. (hub_at b x).word;
      stamp = λ x. (hub_at b x).stamp;
      shares = λ x s. shares (hub_at b x) s;
      wait = λ s. wait_of (wait_at b s);
      line = λ s x. line_of (line_at b s x);
      up = λ s. map request_of (messages_of lanes (up_lane s));
      down = λ s. map notice_of (messages_of lanes (down_lane s));
    }
