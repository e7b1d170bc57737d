-- The first byte of a word tells much of it.
use Rattle.std.proofs.Common.{◌≡◌, ℕ, suc, ◌+◌, not, cond, ◌⊎◌, List, [], ◌∷◌, get_or, take, drop, refl, ap, ◌∙◌, inl, inr, ⊎_elim, add-zero}
use Rattle.std.proofs.Math.Numerals.{one-add}
use Rattle.std.proofs.lemmas.List.{get_or-drop}
use Rattle.std.proofs.lemmas.Bool.{cases_Bool}
use Rattle.sheet.specs.Reading.{word_at}
use Rattle.words.specs.Lengths.{ends_word, word_length}

-- a word is empty, or begins with the byte at its place
front : (d : List ℕ) → (take (word_length d) d ≡ []) ⊎ (get_or (take (word_length d) d) 0 0 ≡ get_or d 0 0)
front [] = inl refl
front (b ∷ bs) =
    ⊎_elim
    (λ e. inl (ap (λ t. take (cond (not t) (1 + word_length bs) 0) (b ∷ bs)) e))
    (λ e. let one : word_length (b ∷ bs) ≡ suc (word_length bs) = ap (λ t. cond (not t) (1 + word_length bs) 0) e ∙ one-add _ in inr (ap (λ n. get_or (take n (b ∷ bs)) 0 0) one))
    (cases_Bool (ends_word b))

pub first_of_word : (s : List ℕ) (a : ℕ) → (word_at s a ≡ []) ⊎ (get_or (word_at s a) 0 0 ≡ get_or s a 0)
first_of_word s a = ⊎_elim inl (λ e. inr (e ∙ get_or-drop a s 0 0 ∙ ap (λ n. get_or s n 0) (add-zero a))) (front (drop a s))
