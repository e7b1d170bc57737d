use Rattle.std.proofs.Common.{ℕ, List, [], length, Bor, length-append, vec_items, ap, ◌∙◌, rules, take}
use Rattle.std.proofs.lemmas.List.Folds.{length-flat_map-take}
use Rattle.words.specs.Parts.{joined}
use Rattle.words.proofs.parts.write_parts.Goals as goal

-- this part and those before it are no longer than all of them
pub returns-then-is_err-clause-room : goal.returns-then-is_err-clause-room
returns-then-is_err-clause-room c =
    let before = joined (take c.loop-part.part-index c.args.parts.now) in
    let so_far = ap length c.loop-part.invariant.0 ∙ length-append (vec_items c.args.out.now) before in
    let bound = length-flat_map-take (λ (part : Bor (List ℕ)). part.now) c.args.parts.now _ (record { ref_ptr = (0, 0); now = [] }) c.loop-part-test.true in
    search rules
