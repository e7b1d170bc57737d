use Rattle.std.proofs.Common.{rules, [], take, sym, ap, ◌∙◌}
use Rattle.std.proofs.Output.{has_written_append, has_written_of_eq}
use Rattle.std.proofs.lemmas.List.{flat_map_more, take_more}
use Rattle.cases.specs.Bytes.{byte_text, bytes_text}
use Rattle.cases.proofs.bytes.BytesDisplay.fmt.Goals as goal

pub loop-b-preserved : goal.loop-b-preserved
loop-b-preserved g c = λ p.
    let bs = c.args.self.now.0.now in
    has_written_of_eq _ _ _ _ _
    (flat_map_more byte_text [] (take c.loop-b.b-index bs) _ ∙ ap bytes_text (sym (take_more bs c.loop-b.b-index 0 c.loop-b-test.true)))
    (has_written_append _ _ _ _ _ _ (c.loop-b.invariant p) (search rules))
