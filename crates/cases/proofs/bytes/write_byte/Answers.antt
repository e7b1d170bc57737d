use Rattle.std.proofs.Common.{rules, ◌∷◌, false, ap}
use Rattle.std.proofs.Output.{has_written_of_eq}
use Rattle.std.proofs.lemmas.Fmt.{hex_byte}
use Rattle.cases.proofs.bytes.write_byte.Goals as goal

pub returns : goal.returns
returns g c = λ p ok. has_written_of_eq _ _ _ _ _ (ap (λ t. 32 ∷ t) (hex_byte false c.args.b c.ranges.b.fits)) (search rules)
