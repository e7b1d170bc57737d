-- What holds of all lanes that lie in a row of slots.
use Rattle.std.proofs.Common.{ℕ, ◌+◌, ◌*◌, refl, arith}
use Rattle.fabric.specs.declared.message.Message.{Message}
use Rattle.fabric.specs.Lanes.{Sound, Level}
use Rattle.fabric.proofs.Queue.{queue_length}
use Rattle.fabric.proofs.Tables as tables
use Rattle.queues.specs.declared.rows.Rows.{Rows}
use Rattle.queues.specs.Rows.{span_of, row_lane, row_lanes, RowsLawful}

module _ (r : Rows) (room : ℕ) (held : ℕ → Message) (ok : RowsLawful r room) where
  pub rows_sound : Sound (row_lanes r held)
  rows_sound =
      tables.table_sound r.lanes (row_lane r held) ok.fit.lane_bound
      (λ k h. (ok.fit.capacity_least (omega arith), ok.fit.capacity_most, omega (arith, queue_length (λ j. held (r.capacity * k + j)) r.capacity (span_of r k).first (span_of r k).waiting, ok.waiting_most k)))

  pub rows_level : Level (row_lanes r held)
  rows_level = tables.table_level r.lanes (row_lane r held) r.capacity (λ _ _. refl)
