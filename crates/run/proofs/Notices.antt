-- What the hub sends down when it performs a message is what the machine sends.
use Rattle.std.proofs.Common.{◌≡◌, ℕ, Bool, true, false, eqb, map, Some, refl, ⊎_elim, add-one}
use mathlib.Core.Bool.{false≢true}
use Rattle.std.specs.Option.{option_to_list}
use Rattle.std.proofs.lemmas.Bool.{cases_Bool}
use Rattle.fabric.specs.declared.message.Message.{Message}
use Rattle.rules.specs.State.{hub_at, shares}
use Rattle.rules.specs.Up.{owes_ack, sent_by, goes_up}
use Rattle.rules.specs.declared.kind.Kind.{Kind}
use Rattle.rules.specs.declared.kind.Kind.TheVariants as kind
use Rattle.rules.specs.declared.state.State.{State}
use Rattle.order.proofs.Machine.{notices}
use Rattle.run.proofs.Meaning.{request_by, notice_of}

module _ (b : State) (m : Message) (j : ℕ) where
  -- what the hub sends to shim j for m, as a message of kind k, is what the machine sends
  abbrev Agrees : Kind → Type 0
  Agrees k =
      map notice_of (option_to_list (sent_by (hub_at b m.line) m j k)) ≡ notices (eqb m.sender j) (request_by m k) (λ x. (hub_at b x).word) (λ x. (hub_at b x).stamp) (λ x. shares (hub_at b x) j)

  -- split on whether j is the sender
  by_sender : (k : Kind) → (eqb m.sender j ≡ true → Agrees k) → (eqb m.sender j ≡ false → Agrees k) → Agrees k
  by_sender k own other = ⊎_elim own other (cases_Bool (eqb m.sender j))

  pub agrees : (k : Kind) → goes_up (hub_at b m.line) (Some k) ≡ true → Agrees k
  agrees kind.Write u = go (eqb m.sender j) refl (owes_ack m.mark) refl (shares (hub_at b m.line) j) refl
    where
      go : (t : Bool) → eqb m.sender j ≡ t → (a : Bool) → owes_ack m.mark ≡ a → (c : Bool) → shares (hub_at b m.line) j ≡ c → Agrees kind.Write
      go true p true q c r = rw (p, q)
      go true p false q c r = rw (p, q)
      go false p a q true r = rw (p, r, add-one)
      go false p a q false r = rw (p, r)
  agrees kind.ReadRequest u = by_sender kind.ReadRequest (λ p. rw p) (λ p. rw p)
  agrees kind.FenceRequest u = by_sender kind.FenceRequest (λ p. rw p) (λ p. rw p)
  agrees kind.Drop u = by_sender kind.Drop (λ p. rw p) (λ p. rw p)
  agrees k u = absurd (false≢true u)
