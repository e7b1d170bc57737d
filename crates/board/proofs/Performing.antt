-- An up, past the tests that its message is found by.
use Rattle.std.proofs.Common.{◌≡◌, ℕ, List, ◌∷◌, Ok, Err, Option, Result, sym, ap, ◌∙◌}
use Rattle.fabric.specs.Backing.{Backing, Model, take_on}
use Rattle.fabric.specs.declared.message.Message.{Message}
use Rattle.rules.proofs.Tested.{unless_err, tested_by}
use Rattle.rules.specs.Checks.{After, after, unless_refused, message_checks, foreign_on, first_on}
use Rattle.rules.specs.Refusals.{Check, passing}
use Rattle.rules.specs.State.{up_lane, hub_at, with_hub}
use Rattle.rules.specs.Up.{sent_by, sent_to, send_all, hub_by, foreign_up, full_lanes, performed, up_rule}
use Rattle.rules.specs.declared.answer.Answer.TheVariants.{Handled}
use Rattle.rules.specs.declared.kind.Kind.{Kind}
use Rattle.rules.specs.declared.refusal.Refusal.{Refusal}
use Rattle.rules.specs.declared.state.HubLine.{HubLine}
use Rattle.rules.specs.declared.state.Size.{Size}
use Rattle.rules.specs.declared.state.State.{State}
use Rattle.board.specs.Upward.{Upward}
use Rattle.board.proofs.Firsts.{past_first}

module _ (ω : Backing) (z : Size) (b : State) (φ : Model ω) (s : ℕ) (m : Message) (found : Ok m ≡ passing (message_checks z φ.lanes s (up_lane s)) (first_on φ.lanes (up_lane s))) where
  -- the tests of the message itself
  abbrev message_tests : Message → List Check
  message_tests y = foreign_on (up_lane s) (foreign_up z b s y) ∷ full_lanes (sent_to b y) φ.lanes z.shims

  at_message : up_rule ω z b φ s ≡ unless_refused b φ (message_tests m) (performed ω z b φ s m)
  at_message = past_first z b φ s (up_lane s) m message_tests (performed ω z b φ s) found

  module _ (n : Message) (k : Kind) (h : HubLine) (known : Upward z b s m n k h) where
    abbrev sent : ℕ → Option Message
    sent j = sent_by h n j k

    -- what an accepted request leaves
    abbrev accepted : After ω
    accepted = after (Ok (Handled k)) (with_hub b m.line (hub_by h n k)) (send_all ω sent (take_on ω φ (up_lane s)) z.shims)

    -- the rule at the message's kind
    at_kind : up_rule ω z b φ s ≡ unless_refused b φ (full_lanes sent φ.lanes z.shims) accepted
    at_kind =
        rw (known.hub, known.same)
        (at_message ∙ ap (λ y. unless_refused b φ (foreign_on (up_lane s) y ∷ full_lanes (sent_to b m) φ.lanes z.shims) (performed ω z b φ s m)) known.known
        ∙ ap (λ y. unless_refused b φ (full_lanes (λ j. sent_by (hub_at b m.line) m j y) φ.lanes z.shims)
        (after (Ok (Handled y)) (with_hub b m.line (hub_by (hub_at b m.line) m y)) (send_all ω (λ j. sent_by (hub_at b m.line) m j y) (take_on ω φ (up_lane s)) z.shims))) known.kind)

    -- the rule by what the lanes to be sent on say
    pub up_by : (r : Result Unit Refusal) → r ≡ passing (full_lanes sent φ.lanes z.shims) tt → unless_err (λ e. after (Err e) b φ) r accepted ≡ up_rule ω z b φ s
    up_by r said =
        let refuse = λ (e : Refusal). after (Err e) b φ in
        sym (at_kind ∙ tested_by refuse tt (full_lanes sent φ.lanes z.shims) accepted ∙ ap (λ x. unless_err refuse x accepted) (sym said))
