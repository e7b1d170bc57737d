-- What writing one slot of a buffer leaves of the others.
use Rattle.std.proofs.Common.{◌≡◌, ℕ, ◌+◌, ◌-◌, ◌*◌, ◌/◌, ◌<◌, ◌≤◌, ◌≢◌, List, ◌++◌, length, take, drop, sym, refl, ap, ◌∙◌, ⊎_elim, div-add-mod', arith}
use borrow.Rule.Slice.PartMut.{put_mid}
use Rattle.std.proofs.lemmas.List.{drop-drop}
use Rattle.std.proofs.lemmas.Slice.{between_is, drop-put_mid, take-put_mid_below}
use Rattle.std.proofs.lemmas.Bool.{cases_order}
use Rattle.fabric.specs.declared.message.Message.{Message}
use Rattle.fabric.specs.Frame.{frame_bytes, frame_of, message_of}
use Rattle.frames.specs.Buffer.{frame_at, message_in, overwritten}

module _ (bs : List ℕ) (p : ℕ) (f : List ℕ) (in_range : p + frame_bytes ≤ length bs) (size : length f ≡ frame_bytes) where
  as_mid : overwritten bs p f ≡ put_mid p frame_bytes bs f
  as_mid = ap (λ l. take p bs ++ (f ++ l)) (sym (drop-drop frame_bytes p bs))

  read_below : (q : ℕ) → q + frame_bytes ≤ p → frame_at (overwritten bs p f) q ≡ frame_at bs q
  read_below q h =
      let n : frame_bytes ≡ q + frame_bytes - q = omega arith in
      ap (λ l. frame_at l q) as_mid ∙ ap (λ n. take n (drop q (put_mid p frame_bytes bs f))) n
      ∙ between_is (put_mid p frame_bytes bs f) q (q + frame_bytes) ∙ ap (drop q) (take-put_mid_below p frame_bytes bs f (q + frame_bytes) h (omega arith))
      ∙ sym (between_is bs q (q + frame_bytes)) ∙ ap (λ n. take n (drop q bs)) (sym n)

  read_above : (q : ℕ) → p + frame_bytes ≤ q → frame_at (overwritten bs p f) q ≡ frame_at bs q
  read_above q h = ap (λ l. frame_at l q) as_mid ∙ ap (take frame_bytes) (drop-put_mid p frame_bytes bs f q h (omega arith) size)

-- the bytes of a slot after another is written
pub read_other : (bs f : List ℕ) (n i : ℕ) → frame_bytes * n + frame_bytes ≤ length bs → length f ≡ frame_bytes
    → i ≢ n → frame_at (overwritten bs (frame_bytes * n) f) (frame_bytes * i) ≡ frame_at bs (frame_bytes * i)
read_other bs f n i h s differ =
    ⊎_elim (λ same. absurd (differ same))
    (⊎_elim (λ b. read_below bs (frame_bytes * n) f h s (frame_bytes * i) (omega arith))
    (λ a. read_above bs (frame_bytes * n) f h s (frame_bytes * i) (omega arith)))
    (cases_order i n)

-- and so its message
pub message_other : (bs bs' : List ℕ) (x : Message) (n i : ℕ) → n < length bs / frame_bytes
    → bs' ≡ overwritten bs (frame_bytes * n) (frame_of x) → i ≢ n → message_in bs' i ≡ message_in bs i
message_other bs bs' x n i h e differ =
    let fits : frame_bytes * n + frame_bytes ≤ length bs = omega (arith, div-add-mod' (length bs) frame_bytes) in
    ap (λ l. message_in l i) e ∙ ap message_of (read_other bs (frame_of x) n i fits refl differ)
