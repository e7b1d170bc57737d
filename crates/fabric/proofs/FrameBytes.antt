-- The frame of a frame's message is that frame.
use Rattle.std.proofs.Common.{◌≡◌, ℕ, suc, ◌+◌, ◌<◌, ◌≤◌, List, ◌∷◌, ◌++◌, length, get_or, take, drop, sym, refl, ap, ◌∙◌, subst, ⊎_elim, arith, length-drop, take-append-drop}
use Rattle.std.specs.Int.{w32, to_be_bytes, from_be_bytes}
use Rattle.std.proofs.lemmas.Bool.{cases_lt}
use Rattle.std.proofs.lemmas.List.{take_all, length-take-le, get_or-take, get_or_past, get_or-drop}
use Rattle.std.proofs.lemmas.Nat.{be_bytes_4}
use Rattle.fabric.specs.Frame.{frame_of, message_of, frame_bytes}

-- four bytes are those of the number that they write
four : (bs : List ℕ) → 4 ≤ length bs → ((i : ℕ) → get_or bs i 0 < 256) → to_be_bytes w32 (from_be_bytes w32 (take 4 bs)) ≡ take 4 bs
four bs h small =
    let n : length (take 4 bs) ≡ 4 = length-take-le 4 bs h in
    be_bytes_4 (take 4 bs) _ n
    (λ i. ⊎_elim (λ l. rw (get_or-take 4 bs i 0 l) (small i)) (λ past. rw (get_or_past (take 4 bs) i 0 (omega arith)) (omega arith)) (cases_lt i 4))
    refl

pub frame_back : (frame : List ℕ) → length frame ≡ frame_bytes → ((i : ℕ) → get_or frame i 0 < 256) → frame_of (message_of frame) ≡ frame
frame_back (a ∷ b ∷ c ∷ d ∷ rest) e small =
    let after : length (drop 4 rest) ≡ 4 = omega (arith, length-drop 4 rest) in
    let each : (i : ℕ) → get_or rest i 0 < 256 = λ i. small (suc (suc (suc (suc i)))) in
    let word = four rest (omega arith) each in
    let stamp = four (drop 4 rest) (omega arith) (λ i. subst (λ n. n < 256) (sym (get_or-drop 4 rest i 0)) (each (4 + i))) ∙ take_all 4 (drop 4 rest) (omega arith) in
    ap (λ l. a ∷ b ∷ c ∷ d ∷ l) ((λ i. word i ++ stamp i) ∙ take-append-drop 4 rest)
frame_back frame e small = absurd (omega arith)
