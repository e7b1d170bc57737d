use Rattle.std.proofs.Common.{◌≡◌, ◌∙◌, ap, rules}
use Rattle.words.proofs.Folding.{reads, folded, reads-number}
use Rattle.words.proofs.text.number.Goals as goal

pub returns : goal.returns
returns c =
    let same : c.iter.result.rest.now ≡ c.args.word.now = search rules in
    folded _ _ (λ h n x v h' k. search rules) c.iter.result _ _ 0 c.try_fold.result c.try_fold.ensures.ran
    ∙ ap (reads 0) same
    ∙ reads-number c.args.word.now (search rules)
