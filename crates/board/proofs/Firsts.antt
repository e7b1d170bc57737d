-- What the first message of a lane says of the lane.
use Rattle.std.proofs.Common.{◌≡◌, ℕ, ◌+◌, ◌*◌, ◌<◌, Bool, true, false, eqb, leb, List, [], ◌∷◌, ◌++◌, length, get_or, Ok, Err, Result, sym, refl, ap, ◌∙◌, arith}
use Rattle.std.proofs.lemmas.Bool.{eqb-true, leb-false}
use Rattle.fabric.specs.Backing.{Backing, Model, take_on, after_take}
use Rattle.fabric.specs.Lanes.{Lane, messages_of, take_answer, rest_of}
use Rattle.fabric.specs.declared.fault.FabricFault.{FabricFault}
use Rattle.fabric.specs.declared.message.Message.{Message}
use Rattle.fabric.proofs.Answered.{take_ok}
use Rattle.rules.specs.Checks.{After, after, unless_refused, message_checks, no_message, first_on}
use Rattle.rules.specs.Refusals.{Check, passing}
use Rattle.rules.specs.declared.refusal.Refusal.{Refusal}
use Rattle.rules.specs.declared.state.Size.{Size}
use Rattle.rules.specs.declared.state.State.{State}
use Rattle.rules.proofs.Tested.{unless_err, tested_then}

-- the lanes are the board's, there is such a shim, and m is the first message of lane k
pub record FirstIs (z : Size) (lanes : List Lane) (s k : ℕ) (m : Message) : Type 0 where
  pub lane_count : length lanes ≡ 2 * z.shims
  pub in_range : s < z.shims
  pub first : first_on lanes k ≡ m
  pub messages : messages_of lanes k ≡ m ∷ rest_of (messages_of lanes k)

pub first_held : (lanes : List Lane) (k : ℕ) → eqb (length (messages_of lanes k)) 0 ≡ false → messages_of lanes k ≡ first_on lanes k ∷ rest_of (messages_of lanes k)
first_held lanes k = held (messages_of lanes k)
  where
    held : (ms : List Message) → eqb (length ms) 0 ≡ false → ms ≡ get_or ms 0 no_message ∷ rest_of ms
    held [] h = absurd cc
    held (m ∷ ms) h = refl

pub first_is : (z : Size) (lanes : List Lane) (s k : ℕ) (m : Message) → Ok m ≡ passing (message_checks z lanes s k) (first_on lanes k) → FirstIs z lanes s k m
first_is z lanes s k m h = go (eqb (length lanes) (2 * z.shims)) refl (leb z.shims s) refl (eqb (length (messages_of lanes k)) 0) refl
  where
    go : (t : Bool) → eqb (length lanes) (2 * z.shims) ≡ t → (u : Bool) → leb z.shims s ≡ u → (v : Bool) → eqb (length (messages_of lanes k)) 0 ≡ v → FirstIs z lanes s k m
    go false p u q v r = let k = rw p at h in absurd cc
    go true p true q v r = let k = rw (p, q) at h in absurd cc
    go true p false q true r = let k = rw (p, q, r) at h in absurd cc
    go true p false q false r =
        let e : first_on lanes k ≡ m = cc (rw (p, q, r) at h) in
        record {
          lane_count = eqb-true (length lanes) (2 * z.shims) p;
          in_range = leb-false z.shims s q;
          first = e;
          messages = first_held lanes k r ∙ ap (λ y. y ∷ rest_of (messages_of lanes k)) e;
        }

-- a rule that looks at the first message of lane k, past the tests that the message is found by
pub past_first : {ω : Backing} (z : Size) (b : State) (φ : Model ω) (s k : ℕ) (m : Message) (tests : Message → List Check) (accepted : Message → After ω)
    → Ok m ≡ passing (message_checks z φ.lanes s k) (first_on φ.lanes k)
    → unless_refused b φ (message_checks z φ.lanes s k ++ tests (first_on φ.lanes k)) (accepted (first_on φ.lanes k)) ≡ unless_refused b φ (tests m) (accepted m)
past_first z b φ s k m tests accepted found =
    let f = first_is z φ.lanes s k m found in
    let refuse = λ (e : Refusal). after (Err e) b φ in
    tested_then refuse (first_on φ.lanes k) (message_checks z φ.lanes s k) (tests (first_on φ.lanes k)) (accepted (first_on φ.lanes k))
    ∙ ap (λ r. unless_err refuse r (unless_refused b φ (tests (first_on φ.lanes k)) (accepted (first_on φ.lanes k)))) (sym found)
    ∙ ap (λ y. unless_refused b φ (tests y) (accepted y)) f.first

-- a take from a lane whose first message was looked at
pub took : (ω : Backing) (φ looked taken : Model ω) (z : Size) (s k : ℕ) (m : Message) (r : Result Message FabricFault)
    → Ok m ≡ passing (message_checks z φ.lanes s k) (first_on φ.lanes k) → k < 2 * s + 2 → looked ≡ φ → r ≡ take_answer looked.lanes k → taken ≡ after_take ω r looked k → taken ≡ take_on ω φ k
took ω φ looked taken z s k m r found low same q p =
    let f = first_is z φ.lanes s k m found in
    let len = f.lane_count in
    let lt = f.in_range in
    let ok : take_answer φ.lanes k ≡ Ok m = take_ok φ.lanes k m (rest_of (messages_of φ.lanes k)) (omega arith) f.messages in
    p ∙ ap (λ x. after_take ω x looked k) (q ∙ ap (λ (x : Model ω). take_answer x.lanes k) same ∙ ok) ∙ ap (λ x. take_on ω x k) same
