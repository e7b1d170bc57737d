use Rattle.std.proofs.Common.{◌≡◌, codes, refl, arith, rules}
use Rattle.sheet.proofs.Spelt.{spelt}
use Rattle.sheet.proofs.names.fabric_named.Goals as goal

pub returns-in-frames : goal.returns-in-frames
returns-in-frames c =
    let same : c.args.word.now ≡ codes "frames" = spelt _ _ (omega arith) (search rules) in
    rw same refl

pub returns-in-staged : goal.returns-in-staged
returns-in-staged c =
    let same : c.args.word.now ≡ codes "staged" = spelt _ _ (omega arith) (search rules) in
    rw same refl
