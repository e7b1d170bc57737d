-- What the type of a handle says of its shim, and that calls keep it true.
use Rattle.std.specs.Prelude.{◌≡◌, ℕ, ◌<◌, Bool, true, false, ◌≢◌, Err, Result}
use Rattle.rules.specs.State.{is_ready, wait_at}
use Rattle.rules.specs.declared.answer.Answer.{Answer}
use Rattle.rules.specs.declared.refusal.Refusal.{Refusal}
use Rattle.rules.specs.declared.refusal.Refusal.TheVariants.{ShimWaits, NotWaiting}
use Rattle.board.specs.declared.board.Board.{Board}
use Rattle.handles.specs.declared.handle.Handle.{Handle}
use Rattle.handles.specs.declared.handle.Handle.TheVariants.{Ready, Waiting}

abbrev pub is_ready_handle : Handle → Bool
is_ready_handle (Ready h) = true
is_ready_handle (Waiting h) = false

-- shim s of the board is ready
abbrev pub ready_at : Board → ℕ → Bool
ready_at b s = is_ready (wait_at b.state s)

-- What board b says, r, to a call through a ready handle for shim s, where that shim is ready: a ready handle comes back (t) exactly where
-- the shim is ready on the board b' that is left, and the call is not refused because the shim waits.
pub record CallAgrees (b : Board) (s : ℕ) (t : Bool) (b' : Board) (r : Result Answer Refusal) : Type 0 where
  pub handle : ready_at b s ≡ true → t ≡ ready_at b' s
  pub taken : ready_at b s ≡ true → r ≢ Err ShimWaits

-- The same of a turn, on any board that has the shim: a ready handle comes back exactly where the shim is ready then, whatever was
-- before; where the shim waits, the turn is not refused because it does not.
pub record TurnAgrees (b : Board) (s : ℕ) (t : Bool) (b' : Board) (r : Result Answer Refusal) : Type 0 where
  pub handle : s < b.size.shims → t ≡ ready_at b' s
  pub taken : s < b.size.shims → ready_at b s ≡ false → r ≢ Err NotWaiting
