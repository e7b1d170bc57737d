-- What lies behind the lanes of a fabric, and what an accepted call makes of it.
use Rattle.std.specs.Prelude.{◌≡◌, ℕ, cond, List, [], is_ok, Result, refl}
use Rattle.fabric.specs.declared.message.Message.{Message}
use Rattle.fabric.specs.declared.fault.FabricFault.{FabricFault}
use Rattle.fabric.specs.Lanes.{Lane, put_lanes, take_lanes}

-- a kind of backing: its states; the bytes of the buffer handed in, none where there is none;
-- what an accepted put and an accepted take make of a state, given the lanes before; and that a take writes no byte
pub record Backing : Type 1 where
  pub State : Type 0
  pub bytes_of : State → List ℕ
  pub put_state : State → List Lane → ℕ → Message → State
  pub take_state : State → List Lane → ℕ → State
  pub take_keeps_bytes : (s : State) (lanes : List Lane) (k : ℕ) → bytes_of (take_state s lanes k) ≡ bytes_of s

-- nothing lies behind the lanes
abbrev pub no_backing : Backing
no_backing = record { State = Unit {0}; bytes_of = λ _. []; put_state = λ s _ _ _. s; take_state = λ s _ _. s; take_keeps_bytes = λ _ _ _. refl }

-- the meaning of a fabric: its lanes, and the state of what lies behind them
pub record Model (b : Backing) : Type 0 where
  pub lanes : List Lane
  pub state : b.State

-- a fabric once x is put on lane k
abbrev pub put_on : (b : Backing) → Model b → ℕ → Message → Model b
put_on b m k x = record { lanes = put_lanes m.lanes k x; state = b.put_state m.state m.lanes k x }

-- a fabric once the first message of lane k is taken
abbrev pub take_on : (b : Backing) → Model b → ℕ → Model b
take_on b m k = record { lanes = take_lanes m.lanes k; state = b.take_state m.state m.lanes k }

-- a fabric after a put that answered r: a refusal leaves it as it was
abbrev pub after_put : (b : Backing) → {A : Type 0} → Result A FabricFault → Model b → ℕ → Message → Model b
after_put b r m k x = cond (is_ok r) (put_on b m k x) m

-- a fabric after a take that answered r
abbrev pub after_take : (b : Backing) → {A : Type 0} → Result A FabricFault → Model b → ℕ → Model b
after_take b r m k = cond (is_ok r) (take_on b m k) m
