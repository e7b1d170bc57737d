-- Every run of a board that was made has a common order, since it is a run of the machine.
use Rattle.std.proofs.Common.{◌≡◌, ℕ, zero, suc, ◌*◌, ◌<◌, ◌≤◌, Bool, true, false, cond, ◌&&◌, ltb, leb, List, [], ◌∷◌, ◌++◌, map, length, get_or, replicate, Some, None, Ok, Err, sym, refl, ap, ◌∙◌, subst, ⊎_elim, append_assoc, append-nil, arith}
use mathlib.Core.Option.{some}
use lib.ListN.{length-replicate, get_or-replicate}
use Rattle.std.proofs.lemmas.List.{get_or_past, nil_from_length}
use Rattle.std.proofs.lemmas.Bool.{cases_lt, ltb-false, leb-true, not-false, or_parts, and_parts}
use Rattle.fabric.specs.Backing.{Backing, Model}
use Rattle.fabric.specs.Lanes.{Lane, no_lane, messages_of, shim_limit}
use Rattle.rules.specs.Calls.{call_rule, action_rule, run_rule}
use Rattle.rules.specs.Checks.{After}
use Rattle.rules.specs.Make.{any_waits, make_checks, make_rule}
use Rattle.rules.specs.Refusals.{Check, passing}
use Rattle.rules.specs.Sizes.{line_limit}
use Rattle.rules.specs.State.{up_lane, down_lane, line_at, fresh_hub_line, fresh_shim, fresh_state}
use Rattle.rules.specs.declared.action.Action.{Action}
use Rattle.rules.specs.declared.action.Action.TheVariants as action
use Rattle.rules.specs.declared.event.Event.{Event}
use Rattle.rules.specs.declared.state.HubLine.{HubLine}
use Rattle.rules.specs.declared.state.Shim.{Shim}
use Rattle.rules.specs.declared.state.Size.{Size}
use Rattle.rules.specs.declared.state.State.{State}
use Rattle.order.specs.Common.{Call, Load, Store, Fence, Evict, Up, Down, Trace, HasCommonOrder}
use Rattle.order.proofs.Machine.{NotHeld, Ready, Fresh, Runs, none_yet, one_more, alike}
use Rattle.order.proofs.Order.{order_stands}
use Rattle.run.specs.Told.{call_told, calls_of, end_of}
use Rattle.run.proofs.Meaning.{wait_of, line_of, copy_is, request_of, notice_of, meaning}
use Rattle.run.proofs.Tables.{Fits}
use Rattle.rules.proofs.Passed.{Passed}
use Rattle.run.proofs.Steps.{Follows, lanes_fit}
use Rattle.run.proofs.Sending.{load_follows, fence_follows, evict_follows}
use Rattle.run.proofs.Storing.{store_follows}
use Rattle.run.proofs.Hearing.{down_follows}
use Rattle.run.proofs.Performing.{up_follows}
use Rattle.run.proofs.Claiming.{claim_alike, hand_back_alike}

-- A RUN

call_follows : {ω : Backing} (z : Size) (b : State) (φ : Model ω) (c : Call) → Fits z b → Follows z b φ c (call_rule ω z b φ c)
call_follows z b φ (Load s x g) fits = load_follows z b φ s fits x g
call_follows z b φ (Store s x g v) fits = store_follows z b φ s fits x g v
call_follows z b φ (Fence s g) fits = fence_follows z b φ s fits g
call_follows z b φ (Evict s x) fits = evict_follows z b φ s fits x
call_follows z b φ (Up s) fits = up_follows z b φ s fits
call_follows z b φ (Down s) fits = down_follows z b φ s fits

-- what an action leaves after the trace t: a call stands at the trace's end then, and a claim or a handing back does not
abbrev RunsOn : {ω : Backing} → Size → Trace → Action → After ω → Type 0
RunsOn z t a r = Fits z r.state × Runs z.shims (t ++ call_told a (Some r.outcome)) (meaning r.state r.fabric.lanes)

action_runs : {ω : Backing} (z : Size) (b : State) (φ : Model ω) (a : Action) {t : Trace} → Fits z b → Runs z.shims t (meaning b φ.lanes) → RunsOn z t a (action_rule ω z b φ a)
action_runs z b φ (action.Call c) fits r = let k = call_follows z b φ c fits in (k.fits, one_more r k.step)
action_runs z b φ (action.Claim s) fits r = let k = claim_alike z b φ.lanes s fits in (k.0, rw append-nil (alike r k.1))
action_runs z b φ (action.HandBack s) fits r = let k = hand_back_alike z b φ.lanes s fits in (k.0, rw append-nil (alike r k.1))

-- the events es after the trace t
runs_on : (ω : Backing) (z : Size) (es : List Event) (t : Trace) (b : State) (φ : Model ω) → Fits z b → Runs z.shims t (meaning b φ.lanes)
    → Runs z.shims (t ++ calls_of (run_rule ω z b φ es).events) (meaning (run_rule ω z b φ es).state (run_rule ω z b φ es).fabric.lanes)
runs_on ω z [] t b φ fits r = rw append-nil r
runs_on ω z (e ∷ es) t b φ fits r =
    let a = action_rule ω z b φ e.action in
    let k = action_runs z b φ e.action fits r in
    let rest = runs_on ω z es (t ++ call_told e.action (Some a.outcome)) a.state a.fabric k.0 k.1 in
    rw append_assoc at rest

-- THE BOARD AT FIRST

-- what holds of a and of the default holds of every entry of a table of a
all_alike : {A : Type 0} (P : A → Type 0) (n i : ℕ) (a d : A) → P a → P d → P (get_or (replicate n a) i d)
all_alike P n i a d pa pd =
    ⊎_elim (λ (lt : i < n). rw (get_or-replicate n i a d lt) pa) (λ (le : n ≤ i). let l = length-replicate n a in rw (get_or_past (replicate n a) i d (omega arith)) pd) (cases_lt i n)

fresh_fits : (z : Size) → z.shims ≤ shim_limit → z.lines ≤ line_limit → Fits z fresh_state
fresh_fits z few short =
    record {
      hub = rw length-replicate short;
      shims = rw length-replicate few;
      lines = λ s lt. rw (get_or-replicate shim_limit s fresh_shim _ (omega arith), length-replicate) short;
      sharers = λ x lt. rw (get_or-replicate line_limit x fresh_hub_line _ (omega arith), length-replicate) few;
    }

fresh_meaning : (lanes : List Lane) → ((k : ℕ) → messages_of lanes k ≡ []) → Fresh (meaning fresh_state lanes)
fresh_meaning lanes quiet =
    record {
      word = λ x. all_alike (λ (h : HubLine). h.word ≡ 0) line_limit x fresh_hub_line _ refl refl;
      stamp = λ x. all_alike (λ (h : HubLine). h.stamp ≡ 0) line_limit x fresh_hub_line _ refl refl;
      shares = λ x s. all_alike (λ (h : HubLine). get_or h.sharers s false ≡ false) line_limit x fresh_hub_line _ (all_alike (λ t. t ≡ false) shim_limit s false false refl refl) refl;
      wait = λ s. all_alike (λ (y : Shim). wait_of y.wait ≡ Ready) shim_limit s fresh_shim _ refl refl;
      line =
          λ s x. all_alike (λ (y : Shim). line_of (get_or y.lines x None) ≡ NotHeld) shim_limit s fresh_shim _ (all_alike (λ l. line_of l ≡ NotHeld) line_limit x None None refl refl) refl;
      up = λ s. ap (map request_of) (quiet (up_lane s));
      down = λ s. ap (map notice_of) (quiet (down_lane s));
    }

-- WHAT MAKING SAYS

-- a value that passed was the one given, and every test is passed
passed_ok : {A : Type 0} (cs : List Check) (a y : A) → Ok y ≡ passing cs a → Passed cs × (y ≡ a)
passed_ok [] a y h = (tt, cc)
passed_ok (c ∷ cs) a y h = go c.fails refl (passed_ok cs a y) h
  where
    go : (t : Bool) → c.fails ≡ t → (Ok y ≡ passing cs a → Passed cs × (y ≡ a)) → Ok y ≡ cond t (Err c.refusal) (passing cs a) → Passed (c ∷ cs) × (y ≡ a)
    go true q rest k = absurd cc
    go false q rest k = let r = rest k in ((q, r.0), r.1)

quiet_below : (lanes : List Lane) (n k : ℕ) → any_waits lanes n ≡ false → k < n → messages_of lanes k ≡ []
quiet_below lanes zero k h lt = absurd (omega arith)
quiet_below lanes (suc n) k h lt =
    let here = or_parts (ltb 0 (length (messages_of lanes n))) (any_waits lanes n) h in
    let none = ltb-false 0 (length (messages_of lanes n)) here.0 in
    ⊎_elim (λ (l : k < n). quiet_below lanes n k here.1 l) (λ (l : n ≤ k). let e : k ≡ n = omega arith in rw e (nil_from_length (messages_of lanes n) (omega arith))) (cases_lt k n)

quiet_all : (lanes : List Lane) (n : ℕ) → length lanes ≡ n → any_waits lanes n ≡ false → (k : ℕ) → messages_of lanes k ≡ []
quiet_all lanes n len h k =
    ⊎_elim (λ (l : k < n). quiet_below lanes n k h l) (λ (l : n ≤ k). ap (λ (y : Lane). y.messages) (get_or_past lanes k no_lane (omega arith))) (cases_lt k n)

-- THE ORDER

runs_ordered : (z : Size) (t : Trace) (b : State) (lanes : List Lane) → Runs z.shims t (meaning b lanes) → HasCommonOrder t (end_of z b lanes)
runs_ordered z t b lanes r =
    let h = order_stands z.shims t (meaning b lanes) r in
    let o = h.1 in (
      h.0,
      record {
        once = o.once;
        only = o.only;
        all = o.all;
        as_hub = o.as_hub;
        unperformed_last = o.unperformed_last;
        as_chip = o.as_chip;
        loads = o.loads;
        words = λ q x w e. o.words (quiet q) x w e;
        copies = λ q s x w e. o.copies (quiet q) s x w (e.0, copy_is (line_at b s x) e.1 ∙ ap some e.2);
      },
    )
  where
    quiet : ((k : ℕ) → messages_of lanes k ≡ []) → (s : ℕ) → s < z.shims → (map request_of (messages_of lanes (up_lane s)) ≡ []) × (map notice_of (messages_of lanes (down_lane s)) ≡ [])
    quiet q s lt = (ap (map request_of) (q (up_lane s)), ap (map notice_of) (q (down_lane s)))

-- the calls of the events es, done over the fabric on a board of this size and state, have a common order
abbrev pub OrderOf : (ω : Backing) → Model ω → List Event → Size × State → Type 0
OrderOf ω φ es (z, b) = let r = run_rule ω z b φ es in HasCommonOrder (calls_of r.events) (end_of z r.state r.fabric.lanes)

pub made_ordered : (ω : Backing) (φ : Model ω) (n m : ℕ) (es : List Event) (made : Size × State) → Ok made ≡ make_rule φ.lanes n m → OrderOf ω φ es made
made_ordered ω φ n m es made h = go (passed_ok (make_checks φ.lanes n m) (z, fresh_state) made h)
  where
    z : Size
    z = record { shims = n; lines = m }

    go : Passed (make_checks φ.lanes n m) × (◌≡◌ {A = Size × State} made (z, fresh_state)) → OrderOf ω φ es made
    go ((size, (lanes, (waits, end))), e) =
        let parts = and_parts (leb 1 n && leb n shim_limit) (leb 1 m && leb m line_limit) (not-false _ size) in
        let few = leb-true n shim_limit (and_parts (leb 1 n) (leb n shim_limit) parts.0).1 in
        let short = leb-true m line_limit (and_parts (leb 1 m) (leb m line_limit) parts.1).1 in
        let quiet = quiet_all φ.lanes (2 * n) (lanes_fit z φ.lanes lanes) waits in
        let r = run_rule ω z fresh_state φ es in
        subst (OrderOf ω φ es) (sym e) (runs_ordered z (calls_of r.events) r.state r.fabric.lanes (runs_on ω z es [] fresh_state φ (fresh_fits z few short) (none_yet (fresh_meaning φ.lanes quiet))))
