use Rattle.std.proofs.Common.{◌≡◌, ◌≤◌, ◌++◌, take, vec_items, vec_capacity}
use Rattle.words.specs.Parts.{joined}
use Rattle.words.proofs.parts.write_parts.Given as goal

-- the parts so far stand behind what stood there
abbrev pub invariant-loop-part : goal.invariant-loop-part
invariant-loop-part l =
    (vec_items l.out ≡ vec_items l.fn.out ++ joined (take l.part-index l.parts)) × (vec_capacity l.fn.out ≤ vec_capacity l.out)
