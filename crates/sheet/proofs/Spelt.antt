-- A word whose bytes are those of a name, one after the other, is that name.
use Rattle.std.proofs.Common.{◌≡◌, ℕ, ◌+◌, List, [], ◌∷◌, length, get_or, drop, ◌∙◌, add-one, drop-cons, drop_of_length-le, arith}

abbrev pub Spells : List ℕ → ℕ → List ℕ → Type 0
Spells w i [] = Unit {0}
Spells w i (b ∷ bs) = (get_or w i 0 ≡ b) × Spells w (i + 1) bs

spelt_from : (w : List ℕ) (i : ℕ) (v : List ℕ) → length w ≡ i + length v → Spells w i v → drop i w ≡ v
spelt_from w i [] long here = drop_of_length-le w {i = i} (omega arith)
spelt_from w i (b ∷ bs) long here =
    let first = drop-cons w i 0 (omega arith) in
    let next = spelt_from w (i + 1) bs (omega arith) here.1 in
    first ∙ (λ k. here.0 k ∷ (rw add-one at next) k)

pub spelt : (w v : List ℕ) → length w ≡ length v → Spells w 0 v → w ≡ v
spelt w v long here = spelt_from w 0 v (omega arith) here
