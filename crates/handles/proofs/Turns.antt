-- A turn ends the wait exactly where the shim is ready afterwards, and is not refused because the shim was ready where it waited.
use Rattle.std.proofs.Common.{◌≡◌, ℕ, ◌<◌, ◌≤◌, Bool, true, false, cond, ◌≢◌, length, None, Ok, Err, sym, refl, ◌∙◌, arith, length-set}
use mathlib.Core.Bool.{false≢true}
use Rattle.std.proofs.lemmas.Bool.{leb-true}
use Rattle.fabric.specs.Backing.{Backing, Model}
use Rattle.fabric.specs.declared.message.Message.{Message}
use Rattle.rules.specs.Checks.{After, after, first_on}
use Rattle.rules.specs.Down.{ends, answer_by, down_checks, handed, down_rule}
use Rattle.rules.specs.Kinds.{kind_at}
use Rattle.rules.specs.State.{down_lane, is_ready, wait_at, with_wait}
use Rattle.rules.specs.Strengths.{is_sc}
use Rattle.rules.specs.Turn.{turn_checks, turn_rule}
use Rattle.rules.specs.declared.answer.Answer.TheVariants.{Ended, Handled}
use Rattle.rules.specs.declared.kind.Kind.{Kind}
use Rattle.rules.specs.declared.kind.Kind.TheVariants.{ReadResponse, FenceResponse, WriteAck}
use Rattle.rules.specs.declared.refusal.Refusal.{Refusal}
use Rattle.rules.specs.declared.refusal.Refusal.TheVariants.{NotWaiting}
use Rattle.rules.specs.declared.state.Size.{Size}
use Rattle.rules.specs.declared.state.State.{State}
use Rattle.rules.proofs.Passed.{Passed, unless}
use Rattle.handles.specs.Handles.{wait_over}
use Rattle.handles.proofs.Calls.{replaced}

-- what a turn of a shim leaves, where the board was b before
pub record Turned {ω : Backing} (b : State) (s : ℕ) (a : After ω) : Type 0 where
  pub ready : wait_over a.outcome ≡ is_ready (wait_at a.state s)
  pub taken : is_ready (wait_at b s) ≡ false → a.outcome ≢ Err NotWaiting

module _ {ω : Backing} (z : Size) (b : State) (φ : Model ω) (s : ℕ) (long : z.shims ≤ length b.shims) (on_board : s < z.shims) where
  pub turn_taken : Turned b s (turn_rule ω z b φ s)
  turn_taken =
      unless b φ (Turned b s) (turn_checks z b s) (down_rule ω z b φ s)
      (λ q. let k = leb-true z.shims s q in absurd (omega arith), (λ q. record { ready = sym q; taken = λ k e. false≢true (sym k ∙ q) }, tt)) down_taken
    where
      m : Message
      m = first_on φ.lanes (down_lane s)

      down_taken : Passed (turn_checks z b s) → Turned b s (down_rule ω z b φ s)
      down_taken (shim, (waits, end)) =
          unless b φ (Turned b s) (down_checks z b φ.lanes s m) (handed ω b φ s m) (λ q. keep refl (λ e. cc), (λ q. keep refl (λ e. cc), (λ q. keep refl (λ e. cc), (λ q. keep refl (λ e. cc), tt)))) accepted
        where
          keep : {e : Refusal} → wait_over (Err e) ≡ false → e ≢ NotWaiting → Turned b s (after (Err e) b φ)
          keep still other = record { ready = still ∙ sym waits; taken = λ k e. other cc }

          by_ack : (t : Bool) → wait_over (Ok (cond t Ended (Handled WriteAck))) ≡ is_ready (cond t None (wait_at b s))
          by_ack true = refl
          by_ack false = sym waits

          by_kind : (k : Kind) → wait_over (Ok (answer_by m k)) ≡ is_ready (cond (ends m k) None (wait_at b s))
          by_kind ReadResponse = refl
          by_kind FenceResponse = refl
          by_kind WriteAck = by_ack (is_sc m.mark)
          by_kind k = sym waits

          accepted : Passed (down_checks z b φ.lanes s m) → Turned b s (handed ω b φ s m)
          accepted passed =
              let low : s < length b.shims = omega arith in
              let first = with_wait b s (cond (ends m (kind_at m)) None (wait_at b s)) in
              record { ready = by_kind (kind_at m) ∙ sym (replaced first _ (rw length-set low) ∙ replaced b _ low); taken = λ k e. cc }
