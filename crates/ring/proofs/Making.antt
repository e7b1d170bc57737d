-- A ring just made.
use Rattle.std.proofs.Common.{◌≡◌, ℕ, ap, ◌∙◌}
use Rattle.fabric.specs.declared.message.Message.{Message}
use Rattle.queues.specs.declared.rows.Rows.{Rows}
use Rattle.queues.specs.Rows.{new_rows, row_lanes, rows_model}
use Rattle.queues.proofs.Calls.{new_lanes}
use Rattle.ring.specs.Ring.{no_backing, ring_capacity, lanes_for, made_ring}

pub made : (shims n : ℕ) (r : Rows) (held : ℕ → Message) → n ≡ lanes_for shims → r ≡ new_rows n ring_capacity → rows_model no_backing r held (λ _. tt) ≡ made_ring shims
made shims n r held lanes new =
    ap (λ l. record { lanes = l; state = tt })
    (ap (λ q. row_lanes q held) (new ∙ ap (λ m. new_rows m ring_capacity) lanes) ∙ new_lanes (lanes_for shims) ring_capacity held)
