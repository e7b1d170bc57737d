-- A load, a fence and an eviction are steps of the machine: the shim changes, and sends its request up.
use Rattle.std.proofs.Common.{◌≡◌, ℕ, ◌*◌, ◌<◌, Bool, true, false, cond, not, ◌≢◌, List, [], ◌∷◌, ◌++◌, map, length, get_or, set, Some, None, Ok, Option, sym, refl, ap, ◌∙◌, ⊎_elim, arith, length-set}
use mathlib.Core.Bool.{false≢true}
use Rattle.std.proofs.lemmas.List.{map_push}
use Rattle.std.proofs.lemmas.Bool.{eq-eqb, ne_eqb, leb-false, cases_eq}
use Rattle.fabric.proofs.Changes.{changed}
use Rattle.fabric.specs.Backing.{Backing, Model, put_on}
use Rattle.fabric.specs.Lanes.{Lane, messages_of, put_lanes}
use Rattle.fabric.specs.declared.message.Message.{Message}
use Rattle.rules.specs.Checks.{after, wrong_lanes, no_shim, shim_waits, lane_full}
use Rattle.rules.specs.Evict.{evict_checks, evict_rule}
use Rattle.rules.specs.Fence.{fence_checks, fence_rule}
use Rattle.rules.specs.Load.{load_checks, load_miss, load_rule}
use Rattle.rules.specs.Requests.{load_message, fence_message, drop_message}
use Rattle.rules.specs.State.{up_lane, down_lane, is_ready, is_held, is_unsettled, copy_of, stamp_of, shim_at, wait_at, line_at, with_shim, with_wait, with_line}
use Rattle.rules.specs.Strengths.{mark_of}
use Rattle.rules.specs.declared.state.Held.{Held}
use Rattle.rules.specs.declared.state.Shim.{Shim}
use Rattle.rules.specs.declared.state.Size.{Size}
use Rattle.rules.specs.declared.state.State.{State}
use Rattle.rules.specs.declared.state.Wait as rules
use Rattle.rules.specs.declared.state.Wait.TheVariants as wait
use Rattle.order.specs.Common.{Load, Fence, Evict, Done, Waits, Value}
use Rattle.order.proofs.Machine.{Request, Read, Sync, Drop, Nothing, act, Settled, Ready, line_after, wait_after, Sends, hit, miss, fences, evicts}
use Rattle.run.proofs.Meaning.{wait_of, line_held, line_of, copy_is, request_of, notice_of, meaning}
use Rattle.run.proofs.Tables.{Fits, set_each, shim_here, fits_shim}
use Rattle.rules.proofs.Passed.{Passed}
use Rattle.run.proofs.Steps.{Follows, same, unless, lanes_fit, other_shim}

-- what the tests of a call that sends something say: there is such a shim, and it is ready
pub record Sender (z : Size) (b : State) (lanes : List Lane) (s : ℕ) : Type 0 where
  pub low : s < z.shims
  pub count : length lanes ≡ 2 * z.shims
  pub ready : wait_of (wait_at b s) ≡ Ready

pub sender : (z : Size) (b : State) (lanes : List Lane) (s : ℕ) → (wrong_lanes z lanes).fails ≡ false → (no_shim z s).fails ≡ false → (shim_waits b s).fails ≡ false → Sender z b lanes s
sender z b lanes s fit shim waits = record { low = leb-false z.shims s shim; count = lanes_fit z lanes fit; ready = ready (wait_at b s) waits }
  where
    ready : (w : Option rules.Wait) → not (is_ready w) ≡ false → wait_of w ≡ Ready
    ready None h = refl
    ready (Some w) h = absurd (false≢true (sym h))

module _ (z : Size) (b : State) (s : ℕ) (o : Request) where
  -- the shim new is what the request o makes of shim s
  pub record Changes (new : Shim) : Type 0 where
    pub wait : wait_of new.wait ≡ wait_after o
    pub line : (x : ℕ) → line_of (get_or new.lines x None) ≡ line_after (act x o) (line_of (line_at b s x))

  -- a request that is about line x, where that becomes l
  pub line_changes : Fits z b → s < z.shims → (w : Option rules.Wait) (x : ℕ) (l : Option Held) → x < z.lines → wait_of w ≡ wait_after o → line_of l ≡ line_after (act x o) (line_of (line_at b s x))
      → ((y : ℕ) → y ≢ x → act y o ≡ Nothing) → Changes (record (shim_at b s) { wait = w; lines = set (shim_at b s).lines x l })
  line_changes fits low w x l on_line waits here there =
      let long = fits.lines s low in
      record {
        wait = waits;
        line = set_each (λ y k. line_of k ≡ line_after (act y o) (line_of (line_at b s y))) (shim_at b s).lines x l None (omega arith) here (λ y ne. rw (there y ne));
      }

-- a shim that becomes new by the request o, and sends it up as m
pub sends : (z : Size) (b : State) (lanes : List Lane) (s : ℕ) → Fits z b → Sender z b lanes s → (m : Message) (o : Request) → request_of m ≡ o → (new : Shim) → Changes z b s o new
    → Sends s o (meaning b lanes) (meaning (with_shim b s new) (put_lanes lanes (up_lane s) m))
sends z b lanes s fits by m o reads new change =
    let low = by.low in
    let count = by.count in
    let lane = changed lanes (put_lanes lanes (up_lane s) m) (up_lane s) _ (omega arith) refl in
    let before = messages_of lanes (up_lane s) in
    record {
      ready = by.ready;
      wait = ap (λ (y : Shim). wait_of y.wait) (shim_here z b fits s low new) ∙ change.wait;
      line = λ x. ap (λ (y : Shim). line_of (get_or y.lines x None)) (shim_here z b fits s low new) ∙ change.line x;
      up = ap (map request_of) lane.here ∙ map_push request_of before m ∙ ap (λ (q : Request). map request_of before ++ q ∷ []) reads;
      hub = record { word = λ x. refl; stamp = λ x. refl; shares = λ x j. refl };
      other = λ j ne. other_shim b s j new lanes _ ne;
      other_up = λ j ne. ap (map request_of) (lane.there (up_lane j) (omega arith));
      down = λ j. ap (map notice_of) (lane.there (down_lane j) (omega arith));
    }

module _ {ω : Backing} (z : Size) (b : State) (φ : Model ω) (s : ℕ) (fits : Fits z b) where
  pub load_follows : (x g : ℕ) → Follows z b φ (Load s x g) (load_rule ω z b φ s x g)
  load_follows x g = unless z b φ (Load s x g) fits (load_checks z b φ.lanes s x g) _ accepted
    where
      new : Shim
      new = record (shim_at b s) { wait = Some (wait.Load x) }

      change : Changes z b s (Read x g) new
      change = record { wait = refl; line = λ y. ⊎_elim (λ (e : y ≡ x). rw (eq-eqb y x e)) (λ (ne : y ≢ x). rw (ne_eqb y x ne)) (cases_eq y x) }

      split : Sender z b φ.lanes s → (l : Option Held) → line_at b s x ≡ l → Follows z b φ (Load s x g) (cond (is_held l) (after (Ok (Value (copy_of (line_at b s x)))) b φ) (load_miss ω b φ s x g))
      split by None q =
          let plain : mark_of g false ≡ g = omega arith in
          unless z b φ (Load s x g) fits (lane_full φ.lanes (up_lane s) ∷ []) _
          (λ k. record { fits = fits_shim z b fits s by.low new refl; step = miss s x g by.low (rw q) (sends z b φ.lanes s fits by (load_message s x g) (Read x g) (ap (Read x) plain) new change) })
      split by (Some h) q = record { fits = fits; step = hit s x g (copy_of (line_at b s x)) by.low by.ready (copy_is (line_at b s x) (rw q)) (same (meaning b φ.lanes)) }

      accepted : Passed (load_checks z b φ.lanes s x g) → Follows z b φ (Load s x g) (cond (is_held (line_at b s x)) (after (Ok (Value (copy_of (line_at b s x)))) b φ) (load_miss ω b φ s x g))
      accepted (lanes, (shim, (line, (strength, (waits, end))))) = split (sender z b φ.lanes s lanes shim waits) (line_at b s x) refl

  pub fence_follows : (g : ℕ) → Follows z b φ (Fence s g) (fence_rule ω z b φ s g)
  fence_follows g = unless z b φ (Fence s g) fits (fence_checks z b φ.lanes s g) _ accepted
    where
      new : Shim
      new = record (shim_at b s) { wait = Some wait.Fence }

      accepted : Passed (fence_checks z b φ.lanes s g) → Follows z b φ (Fence s g) (after (Ok Waits) (with_wait b s (Some wait.Fence)) (put_on ω φ (up_lane s) (fence_message s)))
      accepted (lanes, (shim, (strength, (waits, (full, end))))) =
          let by = sender z b φ.lanes s lanes shim waits in
          record {
            fits = fits_shim z b fits s by.low new refl;
            step = fences s g by.low (sends z b φ.lanes s fits by (fence_message s) Sync refl new (record { wait = refl; line = λ x. refl }));
          }

  pub evict_follows : (x : ℕ) → Follows z b φ (Evict s x) (evict_rule ω z b φ s x)
  evict_follows x = unless z b φ (Evict s x) fits (evict_checks z b φ.lanes s x) _ accepted
    where
      settled : (l : Option Held) → not (is_held l) ≡ false → is_unsettled l ≡ false → line_of l ≡ Settled (copy_of l) (stamp_of l)
      settled None e f = absurd (false≢true (sym e))
      settled (Some h) e f = go h.settled f
        where
          go : (u : Bool) → not u ≡ false → line_held u h.copy h.stamp ≡ Settled h.copy h.stamp
          go true k = refl
          go false k = absurd (false≢true (sym k))

      new : Shim
      new = record (shim_at b s) { lines = set (shim_at b s).lines x None }

      accepted : Passed (evict_checks z b φ.lanes s x) → Follows z b φ (Evict s x) (after (Ok Done) (with_line b s x None) (put_on ω φ (up_lane s) (drop_message s x)))
      accepted (lanes, (shim, (line, (waits, (held, (unsettled, (full, end))))))) =
          let by = sender z b φ.lanes s lanes shim waits in
          let change : Changes z b s (Drop x) new = line_changes z b s (Drop x) fits by.low (wait_at b s) x None (leb-false z.lines x line) by.ready (rw (eq-eqb x x refl)) (λ y ne. rw (ne_eqb y x ne)) in
          record {
            fits = fits_shim z b fits s by.low new (length-set (shim_at b s).lines x None);
            step =
                evicts s x (copy_of (line_at b s x)) (stamp_of (line_at b s x)) by.low (settled (line_at b s x) held unsettled)
                (sends z b φ.lanes s fits by (drop_message s x) (Drop x) refl new change);
          }
