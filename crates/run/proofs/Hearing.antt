-- A down is a step of the machine: a shim hears the first message of its down lane.
use Rattle.std.proofs.Common.{◌≡◌, ℕ, ◌+◌, ◌*◌, ◌<◌, Bool, true, false, cond, not, ◌&&◌, ◌||◌, ltb, leb, ◌≢◌, List, ◌∷◌, map, length, get_or, set, is_some, Some, None, Ok, Option, sym, refl, ap, ◌∙◌, subst, add-one, arith, length-set}
use mathlib.Core.Bool.{false≢true}
use Rattle.std.proofs.lemmas.Bool.{eq-eqb, ne_eqb, leb-false, or_parts}
use Rattle.fabric.proofs.Changes.{changed}
use Rattle.fabric.specs.Backing.{Backing, Model, take_on}
use Rattle.fabric.specs.Lanes.{messages_of, rest_of, take_lanes}
use Rattle.fabric.specs.declared.message.Message.{Message}
use Rattle.rules.specs.Checks.{after, first_on}
use Rattle.rules.specs.Down.{line_updated, line_acknowledged, line_by, ends, answer_by, awaits_store, over_limit, foreign_kind, foreign_to, down_checks, handed, down_rule}
use Rattle.rules.specs.Kinds.{kind_of, kind_at}
use Rattle.rules.specs.State.{up_lane, down_lane, is_unsettled, stamp_of, held_at, settled_at, shim_at, wait_at, line_at, with_shim}
use Rattle.rules.specs.Strengths.{is_sc, asks_sync}
use Rattle.rules.specs.declared.kind.Kind.{Kind}
use Rattle.rules.specs.declared.kind.Kind.TheVariants as kind
use Rattle.rules.specs.declared.state.Held.{Held}
use Rattle.rules.specs.declared.state.Shim.{Shim}
use Rattle.rules.specs.declared.state.Size.{Size}
use Rattle.rules.specs.declared.state.State.{State}
use Rattle.rules.specs.declared.state.Wait as rules
use Rattle.order.specs.Common.{Down}
use Rattle.order.proofs.Machine.{Line, Settled, Ready, updated, heard_line, heard_wait, says, Hears, downs}
use Rattle.board.proofs.Firsts.{first_held}
use Rattle.run.proofs.Meaning.{wait_of, line_held, line_of, notice_by, request_of, notice_of, meaning}
use Rattle.run.proofs.Tables.{Fits, set_each, shim_here, shim_twice, fits_shim}
use Rattle.rules.proofs.Passed.{Passed}
use Rattle.run.proofs.Steps.{Follows, unless, lanes_fit, other_shim}

-- a message of kind k does to a shim what the machine says
record Heard (w : Option rules.Wait) (l : Option Held) (m : Message) (k : Kind) : Type 0 where
  wait : wait_of (cond (ends m k) None w) ≡ heard_wait (notice_by m k) (wait_of w)
  line : line_of (line_by l m k) ≡ heard_line m.line (notice_by m k) (line_of l)
  answer : answer_by m k ≡ says (notice_by m k)

module _ (m : Message) where
  -- an update of a held line, and of any
  updated_held : (u : Bool) (c t : ℕ) → line_of (line_updated (held_at u c t) m) ≡ heard_line m.line (notice_by m kind.Write) (line_held u c t)
  updated_held false c t = rw (eq-eqb m.line m.line refl)
  updated_held true c t = rw (eq-eqb m.line m.line refl) (go (ltb t m.stamp) refl)
    where
      go : (later : Bool) → ltb t m.stamp ≡ later → line_of (line_updated (settled_at c t) m) ≡ updated m.value m.stamp (Settled c t)
      go true p = rw p
      go false p = rw (p, add-one)

  updated_line : (l : Option Held) → line_of (line_updated l m) ≡ heard_line m.line (notice_by m kind.Write) (line_of l)
  updated_line None = rw (eq-eqb m.line m.line refl)
  updated_line (Some h) = updated_held h.settled h.copy h.stamp

  -- an acknowledgement of a held line, and of any
  acknowledged_held : (u : Bool) (c t : ℕ) → asks_sync m.mark ≡ true → (not (not u) || over_limit (t + m.stamp)) ≡ false
      → line_of (line_acknowledged (held_at u c t) m) ≡ heard_line m.line (notice_by m kind.WriteAck) (line_held u c t)
  acknowledged_held true c t q f = absurd (false≢true (sym f))
  acknowledged_held false c t q f = rw (eq-eqb m.line m.line refl, q)

  acknowledged_line : (l : Option Held) (t : Bool) → asks_sync m.mark ≡ t → (t && (not (is_unsettled l) || over_limit (stamp_of l + m.stamp))) ≡ false
      → line_of (line_acknowledged l m) ≡ heard_line m.line (notice_by m kind.WriteAck) (line_of l)
  acknowledged_line None true q f = absurd (false≢true (sym f))
  acknowledged_line (Some h) true q f = acknowledged_held h.settled h.copy h.stamp q f
  acknowledged_line l false q f = rw (eq-eqb m.line m.line refl, q)

module _ (w : Option rules.Wait) (l : Option Held) (m : Message) where
  ready_if : (t : Bool) → wait_of (cond t None w) ≡ cond t Ready (wait_of w)
  ready_if true = refl
  ready_if false = refl

  heard : (k : Kind) → foreign_kind w l m k ≡ false → Heard w l m k
  heard kind.Write f = record { wait = refl; line = updated_line m l; answer = refl }
  heard kind.ReadResponse f = record { wait = refl; line = rw (eq-eqb m.line m.line refl); answer = refl }
  heard kind.FenceRequest f = record { wait = refl; line = refl; answer = refl }
  heard kind.FenceResponse f = record { wait = refl; line = refl; answer = refl }
  heard kind.WriteAck f =
      let sync = (or_parts (asks_sync m.mark && (not (is_unsettled l) || over_limit (stamp_of l + m.stamp))) (is_sc m.mark && not (awaits_store w m.line)) (or_parts _ _ f).1).0 in
      record { wait = ready_if (is_sc m.mark); line = acknowledged_line m l (asks_sync m.mark) refl sync; answer = refl }
  heard k f = absurd (false≢true (sym f))

-- it does nothing to the other lines
heard_elsewhere : (m : Message) (k : Kind) (x : ℕ) (l : Line) → x ≢ m.line → l ≡ heard_line x (notice_by m k) l
heard_elsewhere m kind.Write x l ne = rw (ne_eqb x m.line ne)
heard_elsewhere m kind.ReadResponse x l ne = rw (ne_eqb x m.line ne)
heard_elsewhere m kind.WriteAck x l ne = rw (ne_eqb x m.line ne)
heard_elsewhere m k x l ne = refl

module _ {ω : Backing} (z : Size) (b : State) (φ : Model ω) (s : ℕ) (fits : Fits z b) (m : Message) where
  abbrev w₀ : Option rules.Wait
  w₀ = wait_at b s

  abbrev l₀ : Option Held
  l₀ = line_at b s m.line

  -- the shim once it was handed m
  abbrev new : Shim
  new = record (shim_at b s) { wait = cond (ends m (kind_at m)) None w₀; lines = set (shim_at b s).lines m.line (line_by l₀ m (kind_at m)) }

  module _ (low : s < z.shims) (len : length φ.lanes ≡ 2 * z.shims) (first : messages_of φ.lanes (down_lane s) ≡ m ∷ rest_of (messages_of φ.lanes (down_lane s))) (on_line : m.line < z.lines)
      (h : Heard w₀ l₀ m (kind_at m)) where
    hears : Hears s (notice_of m) (meaning b φ.lanes) (meaning (with_shim b s new) (take_lanes φ.lanes (down_lane s)))
    hears =
        let lane = changed φ.lanes (take_lanes φ.lanes (down_lane s)) (down_lane s) _ (omega arith) refl in
        let long = fits.lines s low in
        record {
          first = ap (map notice_of) first ∙ ap (λ (ms : List Message). notice_of m ∷ map notice_of ms) (sym lane.here);
          wait = ap (λ (y : Shim). wait_of y.wait) (shim_here z b fits s low new) ∙ h.wait;
          line =
              λ x. ap (λ (y : Shim). line_of (get_or y.lines x None)) (shim_here z b fits s low new)
              ∙ set_each (λ y k. line_of k ≡ heard_line y (notice_of m) (line_of (line_at b s y))) (shim_at b s).lines m.line (line_by l₀ m (kind_at m)) None (omega arith) h.line
              (λ y ne. heard_elsewhere m (kind_at m) y (line_of (line_at b s y)) ne) x;
          hub = record { word = λ x. refl; stamp = λ x. refl; shares = λ x j. refl };
          other = λ j ne. other_shim b s j new φ.lanes _ ne;
          up = λ j. ap (map request_of) (lane.there (up_lane j) (omega arith));
          other_down = λ j ne. ap (map notice_of) (lane.there (down_lane j) (omega arith));
        }

    handed_follows : Follows z b φ (Down s) (handed ω b φ s m)
    handed_follows =
        subst (λ (c : State). Follows z b φ (Down s) (after (Ok (answer_by m (kind_at m))) c (take_on ω φ (down_lane s))))
        (sym (shim_twice z b fits s low (record (shim_at b s) { wait = new.wait }) (λ y. record y { lines = set y.lines m.line (line_by l₀ m (kind_at m)) })))
        record {
          fits = fits_shim z b fits s low new (length-set (shim_at b s).lines m.line (line_by l₀ m (kind_at m)));
          step = rw h.answer (downs s (notice_of m) low hears);
        }

pub down_follows : {ω : Backing} (z : Size) (b : State) (φ : Model ω) (s : ℕ) → Fits z b → Follows z b φ (Down s) (down_rule ω z b φ s)
down_follows {ω} z b φ s fits = unless z b φ (Down s) fits (down_checks z b φ.lanes s m) (handed ω b φ s m) accepted
  where
    m : Message
    m = first_on φ.lanes (down_lane s)

    accepted : Passed (down_checks z b φ.lanes s m) → Follows z b φ (Down s) (handed ω b φ s m)
    accepted (lanes, (shim, (waits, (known, end)))) =
        let on_line = or_parts (leb z.lines m.line) _ known in
        let to = (or_parts (leb z.shims m.sender) (foreign_to (wait_at b s) (line_at b s m.line) m) on_line.1).1 in
        let kinds = (or_parts (not (is_some (kind_of m.kind))) _ to).1 in
        let fine = (or_parts (over_limit m.stamp) (foreign_kind (wait_at b s) (line_at b s m.line) m (kind_at m)) kinds).1 in
        handed_follows z b φ s fits m (leb-false z.shims s shim) (lanes_fit z φ.lanes lanes) (first_held φ.lanes (down_lane s) waits) (leb-false z.lines m.line on_line.0)
        (heard (wait_at b s) (line_at b s m.line) m (kind_at m) fine)
