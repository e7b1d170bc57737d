-- A down that is refused or accepted by what its message makes of the shim.
use Rattle.std.proofs.Common.{◌≡◌, ℕ, ◌<◌, ◌≤◌, Bool, true, false, cond, List, [], ◌∷◌, length, set, Some, None, Ok, Err, Option, sym, refl, ap, ◌∙◌, arith, get_or-set_same, set-set}
use Rattle.std.proofs.lemmas.Bool.{lt-leb}
use Rattle.std.proofs.lemmas.List.{set-get_or}
use Rattle.fabric.specs.Backing.{Backing, Model, take_on}
use Rattle.fabric.specs.declared.message.Message.{Message}
use Rattle.rules.specs.Checks.{after, unless_refused, message_checks, foreign_on, first_on}
use Rattle.rules.specs.Down.{answer_by, foreign_to, foreign_down, handed, down_rule}
use Rattle.rules.specs.Refusals.{passing}
use Rattle.rules.specs.State.{down_lane, shim_at, wait_at, line_at, with_shim, with_wait, with_line}
use Rattle.rules.specs.declared.answer.Answer.{Answer}
use Rattle.rules.specs.declared.refusal.Refusal.TheVariants.{Foreign}
use Rattle.rules.specs.declared.state.Held.{Held}
use Rattle.rules.specs.declared.state.Shim.{Shim}
use Rattle.rules.specs.declared.state.Size.{Size}
use Rattle.rules.specs.declared.state.State.{State}
use Rattle.rules.specs.declared.state.Wait.{Wait}
use Rattle.rules.specs.Kinds.{kind_at}
use Rattle.effects.specs.Delivery as effects
use Rattle.effects.specs.Delivery.{Delivery, delivery}
use Rattle.board.specs.Heard.{Hearing, hearing, heard}
use Rattle.board.proofs.Firsts.{first_is, past_first}

-- none is no answer, and an answer is one answer
no_answer : {A B : Type 0} (a : A) → None ≡ Some a → B
no_answer a e = absurd cc

one_answer : {A : Type 0} (a e : A) → Some a ≡ Some e → a ≡ e
one_answer a e k = cc

-- a shim's wait and one of its lines change at once, or one after the other
both : (b : State) (s x : ℕ) (w : Option Wait) (l : Option Held) → s < length b.shims
    → with_shim b s (record (shim_at b s) { wait = w; lines = set (shim_at b s).lines x l }) ≡ with_line (with_wait b s w) s x l
both b s x w l low =
    let first : Shim = record (shim_at b s) { wait = w } in
    let f : Shim → Shim = λ y. record y { lines = set y.lines x l } in
    sym (ap (λ y. with_shim (with_shim b s first) s (f y)) (get_or-set_same b.shims s first _ low) ∙ ap {B = State} (λ (ys : List Shim). record b { shims = ys }) (set-set b.shims s first (f first)))

-- a shim that is written back as it was
same_shim : (b : State) (s x : ℕ) → with_shim b s (record (shim_at b s) { wait = wait_at b s; lines = set (shim_at b s).lines x (line_at b s x) }) ≡ b
same_shim b s x =
    ap (λ ls. with_shim b s (record (shim_at b s) { lines = ls })) (set-get_or (shim_at b s).lines x None)
    ∙ ap {B = State} (λ (ys : List Shim). record b { shims = ys }) (set-get_or b.shims s _)

module _ (ω : Backing) (z : Size) (b : State) (φ : Model ω) (s : ℕ) (m : Message) (found : Ok m ≡ passing (message_checks z φ.lanes s (down_lane s)) (first_on φ.lanes (down_lane s)))
    (fits : z.shims ≤ length b.shims) (on_line : m.line < z.lines) (on_board : m.sender < z.shims) where
  -- the rule, past the tests that the message is found by
  at_message : down_rule ω z b φ s ≡ unless_refused b φ (foreign_on (down_lane s) (foreign_down z b s m) ∷ []) (handed ω b φ s m)
  at_message = past_first z b φ s (down_lane s) m (λ y. foreign_on (down_lane s) (foreign_down z b s y) ∷ []) (handed ω b φ s) found

  low : s < length b.shims
  low = let here = (first_is z φ.lanes s (down_lane s) m found).in_range in omega arith

  abbrev foreign : Bool
  foreign = foreign_to (wait_at b s) (line_at b s m.line) m

  same_foreign : foreign_down z b s m ≡ foreign
  same_foreign = let t = lt-leb z.lines m.line on_line in let u = lt-leb z.shims m.sender on_board in rw (t, u)

  at_foreign : (t : Bool) → foreign ≡ t → down_rule ω z b φ s ≡ unless_refused b φ (foreign_on (down_lane s) t ∷ []) (handed ω b φ s m)
  at_foreign t h = at_message ∙ ap (λ y. unless_refused b φ (foreign_on (down_lane s) y ∷ []) (handed ω b φ s m)) (same_foreign ∙ h)

  -- what is heard of the message, where it is foreign or not
  abbrev heard_if : Bool → Hearing
  heard_if t =
      let d : Delivery = cond t (delivery None (wait_at b s) (line_at b s m.line)) (effects.heard (wait_at b s) (line_at b s m.line) m (kind_at m)) in
      hearing d.answer (record (shim_at b s) { wait = d.wait; lines = set (shim_at b s).lines m.line d.line })

  module _ (y : Shim) where
    pub down_foreign : hearing None y ≡ heard (shim_at b s) m → after (Err (Foreign (down_lane s))) (with_shim b s y) φ ≡ down_rule ω z b φ s
    down_foreign h = go foreign refl h
      where
        go : (t : Bool) → foreign ≡ t → hearing None y ≡ heard_if t → after (Err (Foreign (down_lane s))) (with_shim b s y) φ ≡ down_rule ω z b φ s
        go false f k = no_answer _ (ap (λ (r : Hearing). r.answer) k)
        go true f k =
            ap (λ (r : Hearing). after (Err (Foreign (down_lane s))) (with_shim b s r.shim) φ) k ∙ ap (λ c. after (Err (Foreign (down_lane s))) c φ) (same_shim b s m.line)
            ∙ sym (at_foreign true f)

    pub down_accepted : (a : Answer) → hearing (Some a) y ≡ heard (shim_at b s) m → after (Ok a) (with_shim b s y) (take_on ω φ (down_lane s)) ≡ down_rule ω z b φ s
    down_accepted a h = go foreign refl h
      where
        go : (t : Bool) → foreign ≡ t → hearing (Some a) y ≡ heard_if t → after (Ok a) (with_shim b s y) (take_on ω φ (down_lane s)) ≡ down_rule ω z b φ s
        go true f k = no_answer a (sym (ap (λ (r : Hearing). r.answer) k))
        go false f k =
            let φ' = take_on ω φ (down_lane s) in
            let d = effects.heard (wait_at b s) (line_at b s m.line) m (kind_at m) in
            ap (λ e. after (Ok e) (with_shim b s y) φ') (one_answer a (answer_by m (kind_at m)) (ap (λ (r : Hearing). r.answer) k))
            ∙ ap (λ (r : Hearing). after (Ok (answer_by m (kind_at m))) (with_shim b s r.shim) φ') k
            ∙ ap (λ c. after (Ok (answer_by m (kind_at m))) c φ') (both b s m.line d.wait d.line low)
            ∙ sym (at_foreign false f)
