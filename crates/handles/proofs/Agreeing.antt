-- The handle that comes back agrees with the board that is left.
use Rattle.std.proofs.Common.{◌≡◌, ℕ, ◌<◌, ◌≤◌, Bool, true, false, cond, not, length, Result, sym, refl, ap, ◌∙◌, subst, arith}
use Rattle.fabric.specs.Backing.{Backing, Model}
use Rattle.rules.specs.Checks.{After, after}
use Rattle.rules.specs.Evict.{evict_rule}
use Rattle.rules.specs.declared.call.Call.TheVariants.{Load, Store, Fence, Evict}
use Rattle.rules.specs.declared.answer.Answer.{Answer}
use Rattle.rules.specs.declared.refusal.Refusal.{Refusal}
use Rattle.rules.specs.declared.state.Size.{Size}
use Rattle.board.specs.Called.{left, called, turned}
use Rattle.board.specs.declared.board.Board.{Board}
use Rattle.handles.specs.Agreement.{is_ready_handle, ready_at, CallAgrees, TurnAgrees}
use Rattle.handles.specs.Handles.{waits, after_call, wait_over, after_turn}
use Rattle.handles.specs.declared.handle.Handle.{Handle}
use Rattle.handles.specs.declared.handle.Handle.TheVariants as handle
use Rattle.handles.specs.declared.ready.Ready.{Ready}
use Rattle.handles.specs.declared.waiting.Waiting.{Waiting}
use Rattle.handles.proofs.Calls.{Taken, Stays, load_taken, store_taken, fence_taken, evict_taken}
use Rattle.handles.proofs.Turns.{Turned, turn_taken}

module _ {ω : Backing} (b b' : Board) (φ φ' : Model ω) (r : Result Answer Refusal) where
  long : b.size.shims ≤ length b.state.shims
  long = let few = b.few_shims in let all = b.all_shims in omega arith

  module _ (a : After ω) (rule : left r b' φ' ≡ (b.size, a)) where
    made : after r b'.state φ' ≡ a
    made = ap (λ (x : Size × After ω). x.1) rule

    by_taken : (s : ℕ) (t : Bool) → (ready_at b s ≡ true → t ≡ not (waits r)) → (ready_at b s ≡ true → Taken s a) → CallAgrees b s t b' r
    by_taken s t same taken =
        record {
          handle = λ ready. same ready ∙ sym (subst (Taken s) (sym made) (taken ready)).ready;
          taken = λ ready. (subst (Taken s) (sym made) (taken ready)).taken;
        }

  -- a call that may wait
  module _ (h : Ready) (h' : Handle) (back : h' ≡ after_call h r) where
    kind : (t : Bool) → is_ready_handle (cond t (handle.Waiting (record { shim = h.shim; spent = h.spent })) (handle.Ready h)) ≡ not t
    kind true = refl
    kind false = refl

    agrees : (a : After ω) → left r b' φ' ≡ (b.size, a) → (ready_at b h.shim ≡ true → Taken h.shim a) → CallAgrees b h.shim (is_ready_handle h') b' r
    agrees a rule = by_taken a rule h.shim (is_ready_handle h') (λ ready. ap is_ready_handle back ∙ kind (waits r))

    pub load_agrees : (x g : ℕ) → left r b' φ' ≡ called b φ (Load h.shim x g) → CallAgrees b h.shim (is_ready_handle h') b' r
    load_agrees x g rule = agrees _ rule (λ ready. load_taken b.size b.state φ h.shim long ready x g)

    pub store_agrees : (x g v : ℕ) → left r b' φ' ≡ called b φ (Store h.shim x g v) → CallAgrees b h.shim (is_ready_handle h') b' r
    store_agrees x g v rule = agrees _ rule (λ ready. store_taken b.size b.state φ h.shim long ready x g v)

    pub fence_agrees : (g : ℕ) → left r b' φ' ≡ called b φ (Fence h.shim g) → CallAgrees b h.shim (is_ready_handle h') b' r
    fence_agrees g rule = agrees _ rule (λ ready. fence_taken b.size b.state φ h.shim long ready g)

  pub evict_agrees : (s x : ℕ) → left r b' φ' ≡ called b φ (Evict s x) → CallAgrees b s true b' r
  evict_agrees s x rule = by_taken _ rule s true (λ ready. sym (ap (λ (y : After ω). not (waits y.outcome)) (made _ rule) ∙ ap not (stays ready).1)) (λ ready. (stays ready).0)
    where
      stays : ready_at b s ≡ true → Stays s (evict_rule ω b.size b.state φ s x)
      stays ready = evict_taken b.size b.state φ s long ready x

  pub turn_agrees : (h : Waiting) (h' : Handle) → h' ≡ after_turn h r → left r b' φ' ≡ turned b φ h.shim → TurnAgrees b h.shim (is_ready_handle h') b' r
  turn_agrees h h' back rule =
      record {
        handle = λ on_board. ap is_ready_handle back ∙ kind (wait_over r) ∙ (left_by on_board).ready;
        taken = λ on_board. (left_by on_board).taken;
      }
    where
      left_by : h.shim < b.size.shims → Turned b.state h.shim (after r b'.state φ')
      left_by on_board = subst (Turned b.state h.shim) (sym (made _ rule)) (turn_taken b.size b.state φ h.shim long on_board)

      kind : (t : Bool) → is_ready_handle (cond t (handle.Ready (record { shim = h.shim; spent = h.spent })) (handle.Waiting h)) ≡ t
      kind true = refl
      kind false = refl
