-- An up is a step of the machine: the hub performs the first message of a shim's up lane.
use Rattle.std.proofs.Common.{◌≡◌, ℕ, ◌*◌, ◌<◌, Bool, true, false, cond, not, eqb, leb, ◌≢◌, List, ◌∷◌, ◌++◌, map, length, get_or, set, Some, None, Ok, Option, unwrap_or, sym, refl, ap, ◌∙◌, subst, add-one, arith, length-set}
use mathlib.Core.Bool.{false≢true}
use mathlib.Core.List.{map-append}
use Rattle.std.specs.Option.{option_to_list}
use Rattle.std.proofs.lemmas.Bool.{eqb-true, eq-eqb, ne_eqb, leb-false, not-false, or_parts}
use Rattle.fabric.proofs.Changes.{changed}
use Rattle.fabric.specs.Backing.{Backing, Model, take_on}
use Rattle.fabric.specs.Lanes.{messages_of, rest_of, take_lanes}
use Rattle.fabric.specs.declared.message.Message.{Message}
use Rattle.rules.specs.Checks.{first_on}
use Rattle.rules.specs.Kinds.{kind_of, kind_at}
use Rattle.rules.specs.State.{up_lane, down_lane, hub_at, shares, with_hub}
use Rattle.rules.specs.Strengths.{asks_sync}
use Rattle.rules.specs.Up.{sent_to, send_all, hub_by, goes_up, up_checks, performed, up_rule}
use Rattle.rules.specs.declared.kind.Kind.{Kind}
use Rattle.rules.specs.declared.kind.Kind.TheVariants as kind
use Rattle.rules.specs.declared.state.HubLine.{HubLine}
use Rattle.rules.specs.declared.state.Size.{Size}
use Rattle.rules.specs.declared.state.State.{State}
use Rattle.order.specs.Common.{Up, Handled}
use Rattle.order.proofs.Machine.{Act, Writes, Reads, Drops, Nothing, act, Notice, word_after, stamp_after, shares_after, request_kind, HubPerforms, Step, ups}
use Rattle.board.proofs.Firsts.{first_held}
use Rattle.run.proofs.Meaning.{request_by, request_of, notice_of, meaning}
use Rattle.run.proofs.Tables.{Fits, set_each, fits_hub}
use Rattle.rules.proofs.Passed.{Passed}
use Rattle.run.proofs.Steps.{Follows, unless, lanes_fit}
use Rattle.board.proofs.Sends.{sent_all}
use Rattle.run.proofs.Notices.{agrees}

-- what a message is to its own line
abbrev own_act : Message → Kind → Act
own_act m kind.Write = Writes (asks_sync m.mark) m.value
own_act m kind.ReadRequest = Reads
own_act m kind.Drop = Drops
own_act m k = Nothing

act_here : (m : Message) (k : Kind) → act m.line (request_by m k) ≡ own_act m k
act_here m kind.Write = rw (eq-eqb m.line m.line refl)
act_here m kind.ReadRequest = rw (eq-eqb m.line m.line refl)
act_here m kind.Drop = rw (eq-eqb m.line m.line refl)
act_here m k = refl

-- to another line it is nothing
act_there : (m : Message) (k : Kind) (x : ℕ) → x ≢ m.line → act x (request_by m k) ≡ Nothing
act_there m kind.Write x ne = rw (ne_eqb x m.line ne)
act_there m kind.ReadRequest x ne = rw (ne_eqb x m.line ne)
act_there m kind.Drop x ne = rw (ne_eqb x m.line ne)
act_there m k x ne = refl

-- an act that leaves the sender's bit leaves every bit
bit_kept : (a : Act) → ((v : Bool) → v ≡ shares_after true a v) → (own v : Bool) → v ≡ shares_after own a v
bit_kept a same true v = same v
bit_kept a same false v = refl

nothing_kept : (own v : Bool) → v ≡ shares_after own Nothing v
nothing_kept own v = bit_kept Nothing (λ t. refl) own v

-- one that makes it v changes that bit
bit_set : (a : Act) (bits : List Bool) (s : ℕ) (v : Bool) → s < length bits → ((old : Bool) → v ≡ shares_after true a old) → (j : ℕ) → get_or (set bits s v) j false ≡ shares_after (eqb s j) a (get_or bits j false)
bit_set a bits s v low makes =
    set_each (λ j t. t ≡ shares_after (eqb s j) a (get_or bits j false)) bits s v false low (rw (eq-eqb s s refl) (makes (get_or bits s false))) (λ j ne. rw (ne_eqb s j (λ e. ne (sym e))))

-- the hub's line h once it has performed m, a message of kind k
record Performed (h : HubLine) (m : Message) (k : Kind) : Type 0 where
  word : (hub_by h m k).word ≡ word_after (own_act m k) h.word
  stamp : (hub_by h m k).stamp ≡ stamp_after (own_act m k) h.stamp
  bits : (j : ℕ) → shares (hub_by h m k) j ≡ shares_after (eqb m.sender j) (own_act m k) (shares h j)
  size : length (hub_by h m k).sharers ≡ length h.sharers

performs : (h : HubLine) (m : Message) (k : Kind) → m.sender < length h.sharers → Performed h m k
performs h m kind.Write low = record { word = refl; stamp = rw add-one; bits = bits (asks_sync m.mark); size = size (asks_sync m.mark) }
  where
    bits : (t : Bool) (j : ℕ) → get_or (cond t (set h.sharers m.sender true) h.sharers) j false ≡ shares_after (eqb m.sender j) (Writes t m.value) (shares h j)
    bits true j = bit_set (Writes true m.value) h.sharers m.sender true low (λ v. refl) j
    bits false j = bit_kept (Writes false m.value) (λ v. refl) (eqb m.sender j) (shares h j)

    size : (t : Bool) → length (cond t (set h.sharers m.sender true) h.sharers) ≡ length h.sharers
    size true = length-set h.sharers m.sender true
    size false = refl
performs h m kind.ReadRequest low = record { word = refl; stamp = refl; bits = bit_set Reads h.sharers m.sender true low (λ v. refl); size = length-set h.sharers m.sender true }
performs h m kind.Drop low = record { word = refl; stamp = refl; bits = bit_set Drops h.sharers m.sender false low (λ v. refl); size = length-set h.sharers m.sender false }
performs h m k low = record { word = refl; stamp = refl; bits = λ j. nothing_kept (eqb m.sender j) (shares h j); size = refl }

-- the kind that is answered is that of the request
kind_is : (h : HubLine) (m : Message) (k : Kind) → goes_up h (Some k) ≡ true → k ≡ request_kind (request_by m k)
kind_is h m kind.ReadResponse u = absurd (false≢true u)
kind_is h m kind.FenceResponse u = absurd (false≢true u)
kind_is h m kind.WriteAck u = absurd (false≢true u)
kind_is h m k u = refl

-- a message that goes up has one of the kinds
goes_some : (h : HubLine) (o : Option Kind) → goes_up h o ≡ true → goes_up h (Some (unwrap_or o kind.Write)) ≡ true
goes_some h None u = absurd (false≢true u)
goes_some h (Some k) u = u

module _ {ω : Backing} (z : Size) (b : State) (φ : Model ω) (s : ℕ) (fits : Fits z b) (m : Message) (low : s < z.shims) (len : length φ.lanes ≡ 2 * z.shims)
    (first : messages_of φ.lanes (up_lane s) ≡ m ∷ rest_of (messages_of φ.lanes (up_lane s))) (on_line : m.line < z.lines) (own : m.sender ≡ s) (goes : goes_up (hub_at b m.line) (Some (kind_at m)) ≡ true) where
  abbrev h₀ : HubLine
  h₀ = hub_at b m.line

  abbrev h₁ : HubLine
  h₁ = hub_by h₀ m (kind_at m)

  line_performed : Performed h₀ m (kind_at m)
  line_performed = let many = fits.sharers m.line on_line in performs h₀ m (kind_at m) (omega arith)

  -- what the machine says of every line of the hub is so, if it is of the message's
  each_line : (P : Act → HubLine → HubLine → Type 0) → P (own_act m (kind_at m)) h₀ h₁ → ((h : HubLine) → P Nothing h h) → (x : ℕ) → P (act x (request_of m)) (hub_at b x) (hub_at (with_hub b m.line h₁) x)
  each_line P here there =
      let many = fits.hub in
      set_each (λ x h. P (act x (request_of m)) (hub_at b x) h) b.hub m.line h₁ _ (omega arith) (rw (act_here m (kind_at m)) here) (λ x ne. rw (act_there m (kind_at m) x ne) (there (hub_at b x)))

  hub_performs : HubPerforms z.shims s (request_of m) (meaning b φ.lanes) (meaning (with_hub b m.line h₁) (send_all ω (sent_to b m) (take_on ω φ (up_lane s)) z.shims).lanes)
  hub_performs =
      let lane = changed φ.lanes (take_lanes φ.lanes (up_lane s)) (up_lane s) _ (omega arith) refl in
      let down = sent_all ω (sent_to b m) (take_on ω φ (up_lane s)) z.shims (omega arith) in
      let after_it = line_performed in
      record {
        first = ap (map request_of) first ∙ ap (λ (ms : List Message). request_of m ∷ map request_of ms) (sym (down.there (up_lane s) (λ j lt. omega arith) ∙ lane.here));
        word = each_line (λ a h h'. h'.word ≡ word_after a h.word) after_it.word (λ h. refl);
        stamp = each_line (λ a h h'. h'.stamp ≡ stamp_after a h.stamp) after_it.stamp (λ h. refl);
        shares = λ x j. each_line (λ a h h'. shares h' j ≡ shares_after (eqb s j) a (shares h j)) (rw (← own) (after_it.bits j)) (λ h. nothing_kept (eqb s j) (shares h j)) x;
        down =
            λ j lt. ap (map notice_of) (down.here j lt ∙ ap (λ (ms : List Message). ms ++ option_to_list (sent_to b m j)) (lane.there (down_lane j) (omega arith)))
            ∙ map-append notice_of (messages_of φ.lanes (down_lane j)) (option_to_list (sent_to b m j))
            ∙ ap (λ (ns : List Notice). map notice_of (messages_of φ.lanes (down_lane j)) ++ ns) (rw (← own) (agrees b m j (kind_at m) goes));
        shim = λ j. record { wait = refl; line = λ x. refl };
        other_up = λ j ne. ap (map request_of) (down.there (up_lane j) (λ i lt. omega arith) ∙ lane.there (up_lane j) (omega arith));
      }

  performed_follows : Follows z b φ (Up s) (performed ω z b φ s m)
  performed_follows =
      record {
        fits = fits_hub z b fits m.line on_line h₁ line_performed.size;
        step = subst (λ k. Step z.shims (meaning b φ.lanes) (meaning (with_hub b m.line h₁) (send_all ω (sent_to b m) (take_on ω φ (up_lane s)) z.shims).lanes) (Up s) (Ok (Handled k)))
            (sym (kind_is h₀ m (kind_at m) goes)) (ups s (request_of m) low hub_performs);
      }

pub up_follows : {ω : Backing} (z : Size) (b : State) (φ : Model ω) (s : ℕ) → Fits z b → Follows z b φ (Up s) (up_rule ω z b φ s)
up_follows {ω} z b φ s fits = unless z b φ (Up s) fits (up_checks z b φ.lanes s m) (performed ω z b φ s m) accepted
  where
    m : Message
    m = first_on φ.lanes (up_lane s)

    accepted : Passed (up_checks z b φ.lanes s m) → Follows z b φ (Up s) (performed ω z b φ s m)
    accepted (lanes, (shim, (waits, (known, room)))) =
        let on_line = or_parts (leb z.lines m.line) _ known in
        let own = or_parts (not (eqb m.sender s)) (not (goes_up (hub_at b m.line) (kind_of m.kind))) on_line.1 in
        performed_follows z b φ s fits m (leb-false z.shims s shim) (lanes_fit z φ.lanes lanes) (first_held φ.lanes (up_lane s) waits) (leb-false z.lines m.line on_line.0)
        (eqb-true m.sender s (not-false (eqb m.sender s) own.0))
        (goes_some (hub_at b m.line) (kind_of m.kind) (not-false (goes_up (hub_at b m.line) (kind_of m.kind)) own.1))
