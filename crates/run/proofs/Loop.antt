-- A loop that does what a list asks: what is left at each turn, and at the end.
use Rattle.std.proofs.Common.{◌≡◌, ℕ, ◌≤◌, List, ◌++◌, length, take, drop, Ok, sym, subst}
use Rattle.std.proofs.lemmas.List.{append-nil, take_all, drop_all}
use Rattle.fabric.specs.Backing.{Backing, Model}
use Rattle.rules.specs.Calls.{Run, ran, run_rule}
use Rattle.rules.specs.Make.{make_rule}
use Rattle.rules.specs.declared.event.Event.{Event}
use Rattle.rules.specs.declared.state.Size.{Size}
use Rattle.rules.specs.declared.state.State.{State}
use Rattle.order.specs.Common.{HasCommonOrder}
use Rattle.run.specs.Told.{calls_of, end_of}
use Rattle.run.proofs.Runs.{made_ordered}

module _ (ω : Backing) (z : Size) where
  -- the events that were done, and what those to come leave
  abbrev pub with_rest : List Event → State → Model ω → List Event → Run ω
  with_rest made b φ rest = let r = run_rule ω z b φ rest in ran (made ++ r.events) r.state r.fabric

-- once all events are done on the board that was made, their calls have a common order
pub ordered : (ω : Backing) (φ φ' : Model ω) (n m : ℕ) (es es' : List Event) (i : ℕ) (z z' : Size) (b b' : State) → Ok (z, b) ≡ make_rule φ.lanes n m → z' ≡ z → length es' ≤ i
    → with_rest ω z (take i es') b' φ' (drop i es') ≡ run_rule ω z b φ es → HasCommonOrder (calls_of es') (end_of z' b' φ'.lanes)
ordered ω φ φ' n m es es' i z z' b b' made size le so_far =
    let all : ran es' b' φ' ≡ run_rule ω z b φ es = rw (take_all i es' le, drop_all i es' le, append-nil) at so_far in
    rw size (subst (λ (r : Run ω). HasCommonOrder (calls_of r.events) (end_of z r.state r.fabric.lanes)) (sym all) (made_ordered ω φ n m es (z, b) made))
