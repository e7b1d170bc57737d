-- Moving the first message of one lane to the end of another.
use Rattle.std.specs.Prelude.{ℕ, cond, List, is_ok, Ok, Err, Result}
use Rattle.fabric.specs.declared.message.Message.{Message}
use Rattle.fabric.specs.declared.fault.FabricFault.{FabricFault}
use Rattle.fabric.specs.Lanes.{Lane, put_answer, take_answer}
use Rattle.fabric.specs.Backing.{Backing, Model, put_on, take_on}

-- one answer after another: a refusal is the last
abbrev pub followed_by : {A B : Type 0} → Result A FabricFault → (A → Result B FabricFault) → Result B FabricFault
followed_by (Ok a) next = next a
followed_by (Err e) next = Err e

-- what a move answers: the refusals of look, then those of put
abbrev pub move_answer : List Lane → ℕ → ℕ → Result Unit FabricFault
move_answer lanes from to = followed_by (take_answer lanes from) (λ _. put_answer lanes to)

-- the message that look answered is put on lane `to`, then taken from lane `from`
abbrev pub moved : (b : Backing) → Result Message FabricFault → Model b → ℕ → ℕ → Model b
moved b (Ok x) m from to = take_on b (put_on b m to x) from
moved b (Err e) m from to = m

-- a fabric after a move that answered r: a refusal leaves it as it was
abbrev pub after_move : (b : Backing) → {A : Type 0} → Result A FabricFault → Model b → ℕ → ℕ → Model b
after_move b r m from to = cond (is_ok r) (moved b (take_answer m.lanes from) m from to) m
