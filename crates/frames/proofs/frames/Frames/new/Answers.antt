use Rattle.frames.proofs.Making.{made}
use Rattle.frames.proofs.frames.Frames.new.Goals as goal

pub invariant_of-result : goal.invariant_of-result
invariant_of-result c = record { lawful = (made c.args.bytes.now c.args.shims _ c.made_rows-rows.ensures).lawful }

pub returns-clause-model : goal.returns-clause-model
returns-clause-model c =
    let bs = c.args.bytes.now in
    let m = made bs c.args.shims c.made_rows-rows.result c.made_rows-rows.ensures in
    λ i. record { lanes = m.lanes i; state = record { bytes = bs; first = m.begin i } }
