-- With the words of the law an order by words is a common order, and the other way round.
use Rattle.std.proofs.Common.{ℕ, List}
use Rattle.order.specs.Common.{Trace, End, CommonOrder}
use Rattle.law_cases.specs.Law.{as_stated, OrderBy}

pub from_law : {t : Trace} {z : End} {o : List ℕ} → CommonOrder t z o → OrderBy as_stated t z o
from_law h =
    record {
      once = h.once;
      only = h.only;
      all = h.all;
      as_hub = h.as_hub;
      unperformed_last = h.unperformed_last;
      as_chip = h.as_chip;
      loads = h.loads;
      words = h.words;
      copies = h.copies;
    }

pub to_law : {t : Trace} {z : End} {o : List ℕ} → OrderBy as_stated t z o → CommonOrder t z o
to_law h =
    record {
      once = h.once;
      only = h.only;
      all = h.all;
      as_hub = h.as_hub;
      unperformed_last = h.unperformed_last;
      as_chip = h.as_chip;
      loads = h.loads;
      words = h.words;
      copies = h.copies;
    }
