-- Carrying a message through two stages over a fabric in a buffer.
use Rattle.std.specs.Prelude.{ℕ, List, length, Ok, Err, Result}
use Rattle.fabric.specs.declared.message.Message.{Message}
use Rattle.fabric.specs.declared.fault.FabricFault.{FabricFault}
use Rattle.fabric.specs.Lanes.{Lane, put_answer, put_lanes, take_answer, take_lanes}
use Rattle.fabric.specs.Backing.{Model, after_put}
use Rattle.frames.specs.Frames.{buffer_backing, lanes_over, made_over}
use Rattle.relay.specs.Moving.{followed_by, move_answer, after_move}

-- the lanes once the message that look answered is moved
abbrev pub moved_lanes : Result Message FabricFault → List Lane → ℕ → ℕ → List Lane
moved_lanes (Ok x) lanes from to = take_lanes (put_lanes lanes to x) from
moved_lanes (Err e) lanes from to = lanes

-- what moving and taking answer, once the message is put
abbrev pub delivery : List Lane → ℕ → ℕ → Result Message FabricFault
delivery lanes from to = followed_by (move_answer lanes from to) (λ _. take_answer (moved_lanes (take_answer lanes from) lanes from to) to)

-- what carrying answers in a buffer of `len` bytes; a stage keeps the lanes below
abbrev pub carry_answer : ℕ → ℕ → ℕ → ℕ → Message → Result Message FabricFault
carry_answer len shims from to x =
    followed_by (put_answer (lanes_over len shims) from) (λ _. delivery (put_lanes (lanes_over len shims) from x) from to)

-- what putting and moving answer in a buffer of `len` bytes
abbrev pub move_in_answer : ℕ → ℕ → ℕ → ℕ → Message → Result Unit FabricFault
move_in_answer len shims from to x = followed_by (put_answer (lanes_over len shims) from) (λ _. move_answer (put_lanes (lanes_over len shims) from x) from to)

-- a fabric in a buffer, once a message is put
abbrev pub put_in : List ℕ → ℕ → ℕ → Message → Model buffer_backing
put_in bytes shims from x = after_put buffer_backing (put_answer (lanes_over (length bytes) shims) from) (made_over bytes shims) from x

-- the bytes once a message is put and moved
abbrev pub move_in_bytes : List ℕ → ℕ → ℕ → ℕ → Message → List ℕ
move_in_bytes bytes shims from to x = (after_move buffer_backing (move_in_answer (length bytes) shims from to x) (put_in bytes shims from x) from to).state.bytes
