-- A fabric just made over a buffer.
use Rattle.std.proofs.Common.{◌≡◌, ℕ, ◌*◌, ◌/◌, ◌≤◌, true, false, ◌&&◌, leb, List, length, replicate, sym, refl, subst, ⊎_elim, mul-le-mul_right, div-add-mod', arith}
use native.Mathlib.Nat.{min-le_left, min-le_right}
use Rattle.std.proofs.lemmas.Bool.{cases_Bool, and_parts, leb-true}
use Rattle.fabric.specs.Frame.{frame_bytes}
use Rattle.fabric.specs.Lanes.{shim_limit, lane_limit, capacity_limit}
use Rattle.queues.specs.declared.rows.Rows.{Rows}
use Rattle.queues.specs.Rows.{RowsLawful, new_rows, firsts, row_lanes}
use Rattle.queues.proofs.Calls.{new_lawful, new_lanes}
use Rattle.frames.specs.Check.{serves, capacity_for, rows_for}
use Rattle.frames.specs.Buffer.{frames_room, message_in}
use Rattle.frames.specs.Frames.{lanes_over}

-- such rows lie in the bytes, and have the lanes that making gives
pub record Made (bs : List ℕ) (n : ℕ) (r : Rows) : Type 0 where
  pub lawful : RowsLawful r (frames_room bs)
  pub lanes : row_lanes r (message_in bs) ≡ lanes_over (length bs) n
  pub begin : firsts r ≡ replicate lane_limit 0

module _ (bs : List ℕ) (n : ℕ) where
  abbrev len : ℕ
  len = length bs

  abbrev c : ℕ
  c = capacity_for (length bs) n

  good : serves (length bs) n ≡ true → Made bs n (new_rows (2 * n) (capacity_for (length bs) n))
  good t =
      let p = and_parts (leb 1 n && leb n shim_limit) (leb 1 (capacity_for len n)) t in
      let q = and_parts (leb 1 n) (leb n shim_limit) p.0 in
      let one : 1 ≤ capacity_for len n = leb-true 1 _ p.1 in
      let few : n ≤ shim_limit = leb-true n shim_limit q.1 in
      let most : capacity_for len n ≤ capacity_limit = min-le_right (len / (2 * frame_bytes * n)) capacity_limit in
      let part : capacity_for len n * (2 * frame_bytes * n) ≤ len / (2 * frame_bytes * n) * (2 * frame_bytes * n) = mul-le-mul_right (2 * frame_bytes * n) (min-le_left (len / (2 * frame_bytes * n)) capacity_limit) in
      let whole : len / (2 * frame_bytes * n) * (2 * frame_bytes * n) ≤ len = omega (arith, div-add-mod' len (2 * frame_bytes * n)) in
      record {
        lawful = new_lawful (2 * n) c (frames_room bs) (record { lane_bound = omega arith; capacity_least = λ _. one; capacity_most = most; all_in = omega (arith, part, whole) });
        lanes = rw t (new_lanes (2 * n) c (message_in bs));
        begin = refl;
      }

  none : serves (length bs) n ≡ false → Made bs n (new_rows 0 0)
  none f =
      record {
        lawful = new_lawful 0 0 (frames_room bs) (record { lane_bound = omega arith; capacity_least = λ h. absurd (omega arith); capacity_most = omega arith; all_in = omega arith });
        lanes = rw f refl;
        begin = refl;
      }

  -- what a check of the length makes
  pub made : (r : Rows) → r ≡ rows_for (length bs) n → Made bs n r
  made r e = subst (λ q. Made bs n q) (sym e) (⊎_elim (λ t. rw t (good t)) (λ f. rw f (none f)) (cases_Bool (serves len n)))
