-- What a call says, and what it leaves of the board and the lanes, depends on the lanes alone, and not on what lies behind them.
use Rattle.std.proofs.Common.{◌≡◌, ℕ, zero, suc, Bool, true, false, cond, List, [], ◌∷◌, Some, None, Ok, Err, Option, refl, ap}
use Rattle.fabric.specs.Backing.{Backing, Model, no_backing, take_on}
use Rattle.fabric.specs.declared.message.Message.{Message}
use Rattle.rules.specs.Calls.{call_rule}
use Rattle.rules.specs.Checks.{After, after, unless_refused, lane_full, first_on}
use Rattle.rules.specs.Down.{down_checks, handed}
use Rattle.rules.specs.Evict.{evict_checks}
use Rattle.rules.specs.Fence.{fence_checks}
use Rattle.rules.specs.Kinds.{kind_at}
use Rattle.rules.specs.Load.{load_checks, load_miss}
use Rattle.rules.specs.Refusals.{Check}
use Rattle.rules.specs.State.{up_lane, down_lane, line_at, hub_at, is_held, with_hub}
use Rattle.rules.specs.Store.{store_checks, store_accepted}
use Rattle.rules.specs.Strengths.{is_sc}
use Rattle.rules.specs.Up.{send_one, send_all, sent_to, hub_by, up_checks, performed}
use Rattle.rules.specs.declared.answer.Answer.TheVariants.{Handled}
use Rattle.rules.specs.declared.call.Call.{Call}
use Rattle.rules.specs.declared.call.Call.TheVariants.{Load, Store, Fence, Evict, Up, Down}
use Rattle.rules.specs.declared.state.Size.{Size}
use Rattle.rules.specs.declared.state.State.{State}
use Rattle.session.specs.Carrier.{bare}

module _ (ω : Backing) where
  -- what a call leaves, with nothing behind the lanes
  abbrev forget : After ω → After no_backing
  forget a = after a.outcome a.state (bare a.fabric)

  forget_cond : (t : Bool) (a a' : After ω) (c c' : After no_backing) → forget a ≡ c → forget a' ≡ c' → forget (cond t a a') ≡ cond t c c'
  forget_cond true a a' c c' p q = p
  forget_cond false a a' c c' p q = q

  forget_checks : (b : State) (φ : Model ω) (cs : List Check) (a : After ω) (c : After no_backing) → forget a ≡ c → forget (unless_refused b φ cs a) ≡ unless_refused b (bare φ) cs c
  forget_checks b φ [] a c p = p
  forget_checks b φ (t ∷ cs) a c p = forget_cond t.fails (after (Err t.refusal) b φ) (unless_refused b φ cs a) (after (Err t.refusal) b (bare φ)) (unless_refused b (bare φ) cs c) refl (forget_checks b φ cs a c p)

  bare_send : (φ : Model ω) (φ' : Model no_backing) (j : ℕ) (o : Option Message) → bare φ ≡ φ' → bare (send_one ω φ j o) ≡ send_one no_backing φ' j o
  bare_send φ φ' j None e = e
  bare_send φ φ' j (Some m) e = ap (λ x. send_one no_backing x j (Some m)) e

  bare_send_all : (sent : ℕ → Option Message) (φ : Model ω) (n : ℕ) → bare (send_all ω sent φ n) ≡ send_all no_backing sent (bare φ) n
  bare_send_all sent φ zero = refl
  bare_send_all sent φ (suc n) = bare_send (send_all ω sent φ n) (send_all no_backing sent (bare φ) n) n (sent n) (bare_send_all sent φ n)

  pub lanes_alone : (z : Size) (b : State) (φ : Model ω) (c : Call) → forget (call_rule ω z b φ c) ≡ call_rule no_backing z b (bare φ) c
  lanes_alone z b φ (Load s x g) =
      forget_checks b φ (load_checks z b φ.lanes s x g) _ _
      (forget_cond (is_held (line_at b s x)) _ (load_miss ω b φ s x g) _ (load_miss no_backing b (bare φ) s x g) refl (forget_checks b φ (lane_full φ.lanes (up_lane s) ∷ []) _ _ refl))
  lanes_alone z b φ (Store s x g v) = forget_checks b φ (store_checks z b φ.lanes s x g) (store_accepted ω b φ s x g v) (store_accepted no_backing b (bare φ) s x g v) (forget_cond (is_sc g) _ _ _ _ refl refl)
  lanes_alone z b φ (Fence s g) = forget_checks b φ (fence_checks z b φ.lanes s g) _ _ refl
  lanes_alone z b φ (Evict s x) = forget_checks b φ (evict_checks z b φ.lanes s x) _ _ refl
  lanes_alone z b φ (Up s) =
      let m = first_on φ.lanes (up_lane s) in
      forget_checks b φ (up_checks z b φ.lanes s m) (performed ω z b φ s m) (performed no_backing z b (bare φ) s m)
      (ap (after (Ok (Handled (kind_at m))) (with_hub b m.line (hub_by (hub_at b m.line) m (kind_at m)))) (bare_send_all (sent_to b m) (take_on ω φ (up_lane s)) z.shims))
  lanes_alone z b φ (Down s) =
      let m = first_on φ.lanes (down_lane s) in
      forget_checks b φ (down_checks z b φ.lanes s m) (handed ω b φ s m) (handed no_backing b (bare φ) s m) refl
