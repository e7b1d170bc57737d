-- The messages that shims send up, by shim s, line x, the number g of a strength and value v. Fields that a message does not use are 0.
use Rattle.std.specs.Prelude.{ℕ, Bool, false, not}
use Rattle.fabric.specs.declared.message.Message.{Message}
use Rattle.rules.specs.declared.kind.Kind.TheVariants.{Write, ReadRequest, FenceRequest, Drop}
use Rattle.rules.specs.declared.strength.Strength.TheVariants.{SeqCst}
use Rattle.rules.specs.Kinds.{kind_number}
use Rattle.rules.specs.Strengths.{strength_number, mark_of}

-- a load of a line that the shim does not hold
abbrev pub load_message : ℕ → ℕ → ℕ → Message
load_message s x g = record { kind = kind_number ReadRequest; line = x; mark = mark_of g false; sender = s; value = 0; stamp = 0 }

-- a store: it asks to be synchronised where the shim does not hold the line
abbrev pub store_message : ℕ → ℕ → ℕ → Bool → ℕ → Message
store_message s x g held v = record { kind = kind_number Write; line = x; mark = mark_of g (not held); sender = s; value = v; stamp = 0 }

-- a fence
abbrev pub fence_message : ℕ → Message
fence_message s = record { kind = kind_number FenceRequest; line = 0; mark = mark_of (strength_number SeqCst) false; sender = s; value = 0; stamp = 0 }

-- an eviction
abbrev pub drop_message : ℕ → ℕ → Message
drop_message s x = record { kind = kind_number Drop; line = x; mark = 0; sender = s; value = 0; stamp = 0 }
