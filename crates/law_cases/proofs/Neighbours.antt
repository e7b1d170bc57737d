-- What tells each neighbour from the law.
use Rattle.law_cases.specs.Neighbours.{Neighbours}
use Rattle.law_cases.proofs.AsStated.{from_law, to_law}
use Rattle.law_cases.proofs.None.{never_passes_plain, own_unseen_own, hub_backwards_crossed, hub_as_called_crossed, sc_none, fenced_none, lost_none}
use Rattle.law_cases.proofs.Orders.{passes_sc_order, no_fences_order, leaves_out_order}

pub neighbours : Neighbours
neighbours =
    record {
      busy_law = λ t o. record { from_law = from_law; to_law = to_law };
      crossed_law = λ t o. record { from_law = from_law; to_law = to_law };
      never_passes = never_passes_plain;
      own_unseen = own_unseen_own;
      hub_backwards = hub_backwards_crossed;
      hub_as_called = hub_as_called_crossed;
      passes_sc = (passes_sc_order, sc_none);
      no_fences = (no_fences_order, fenced_none);
      leaves_out = (leaves_out_order, lost_none);
    }
