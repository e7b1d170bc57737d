use Rattle.std.proofs.Common.{◌≡◌, zero, suc, refl, arith}
use Rattle.rules.specs.Strengths.{fitting}
use Rattle.law_cases.specs.Sheets.{asked_of, told, plain, own, crossed, crossed_end}

pub plain_told : told (asked_of plain) ≡ plain
unfolding fitting told
plain_told = refl

pub own_told : told (asked_of own) ≡ own
unfolding fitting told
own_told = refl

pub crossed_told : told (asked_of crossed) ≡ crossed
unfolding fitting told
crossed_told = refl

-- at the end of the crossed run no message waits, and the hub's word of line 0 is that of the first store
pub crossed_quiet : crossed_end.Quiet
unfolding fitting
crossed_quiet zero = refl
crossed_quiet (suc zero) = refl
crossed_quiet (suc (suc zero)) = refl
crossed_quiet (suc (suc (suc zero))) = refl
crossed_quiet (suc (suc (suc (suc k)))) = refl

pub crossed_word : crossed_end.HubWord 0 1
unfolding fitting
crossed_word = refl

-- .. and shim 1 holds a copy of it
pub crossed_copy : crossed_end.HeldCopy 1 0 1
unfolding fitting
crossed_copy = (omega arith, refl, refl)
