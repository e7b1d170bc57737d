-- A line that was read ends at its line feed.
use Rattle.std.proofs.Common.{◌≡◌, ℕ, ◌+◌, ◌<◌, true, false, not, cond, eqb, List, [], ◌∷◌, length, get_or, drop, Ok, Err, Result, sym, refl, ap, ◌∙◌, ⊎_elim, zero-add, add-zero, add-one, drop-cons, arith, rules}
use Rattle.std.proofs.Math.Numerals.{one-add}
use Rattle.std.proofs.lemmas.List.{drop-drop}
use Rattle.std.proofs.lemmas.Bool.{cases_Bool, or_parts}
use Rattle.words.specs.declared.fault.Fault.{Fault}
use Rattle.sheet.specs.Reading.{followed_by, wanted, line_ends, word_end, line_end, Operand, operand_at, operand_end, operands_at, operands_end}
use Rattle.words.specs.Lengths.{line_feed, space, ends_word, word_length, line_length}

-- what went well went well step by step
pub followed_by_ok : {X Y : Type 0} (r : Result X Fault) (next : X → Result Y Fault) (y : Y) → followed_by r next ≡ Ok y → (x : X) × (r ≡ Ok x) × (next x ≡ Ok y)
followed_by_ok (Ok x) next y e = (x, refl, e)
followed_by_ok (Err f) next y e = absurd cc

-- a word has no line feed
line_of_word : (d : List ℕ) → line_length d ≡ word_length d + line_length (drop (word_length d) d)
line_of_word [] = refl
line_of_word (b ∷ bs) =
    ⊎_elim
    (λ e. let w : word_length (b ∷ bs) ≡ 0 = ap (λ t. cond (not t) (1 + word_length bs) 0) e in rw w (sym (zero-add _)))
    (λ e.
    let l : line_length (b ∷ bs) ≡ 1 + line_length bs = ap (λ t. cond (not t) (1 + line_length bs) 0) (or_parts (eqb b space) (eqb b line_feed) e).1 in
    let w : word_length (b ∷ bs) ≡ 1 + word_length bs = ap (λ t. cond (not t) (1 + word_length bs) 0) e in
    l ∙ omega (arith, line_of_word bs, ap (λ n. line_length (drop n (b ∷ bs))) (w ∙ one-add _)))
    (cases_Bool (ends_word b))

pub line_end_of_word : (s : List ℕ) (a : ℕ) → line_end s (word_end s a) ≡ line_end s a
line_end_of_word s a =
    let n : ℕ = word_length (drop a s) in
    omega (arith, ap line_length (drop-drop (word_length (drop a s)) a s), line_of_word (drop a s))

module _ (s : List ℕ) (a : ℕ) where
  pub wanted_within : wanted s a ≡ Ok tt → (a < length s) × (eqb (get_or s a 0) line_feed ≡ false)
  wanted_within e = search rules

  pub ends_within : line_ends s a ≡ Ok tt → (a < length s) × (eqb (get_or s a 0) line_feed ≡ true)
  ends_within e = search rules

  pub line_end_next : wanted s a ≡ Ok tt → line_end s (a + 1) ≡ line_end s a
  line_end_next e =
      let w = wanted_within e in
      let here : line_length (drop a s) ≡ 1 + line_length (drop (a + 1) s) = rw (drop-cons s a 0 w.0) (simp (w.1, add-one)) in
      omega arith

  pub line_end_here : line_ends s a ≡ Ok tt → line_end s a ≡ a
  line_end_here e = let w = ends_within e in rw (drop-cons s a 0 w.0) (simp w.1 (add-zero a))

pub operand_wanted : (o : Operand) (s : List ℕ) (a v : ℕ) → operand_at o s a ≡ Ok v → (wanted s a ≡ Ok tt) × (wanted s (a + 1) ≡ Ok tt)
operand_wanted o s a v e =
    let one = followed_by_ok (wanted s a) _ v e in
    let two = followed_by_ok (wanted s (a + 1)) _ v one.2 in
    (one.1, two.1)

pub operands_line : (os : List Operand) (s : List ℕ) (a : ℕ) (vs : List ℕ) → operands_at os s a ≡ Ok vs → operands_end os s a ≡ line_end s a + 1
operands_line [] s a vs e = let one = followed_by_ok (line_ends s a) _ vs e in omega (arith, line_end_here s a one.1)
operands_line (o ∷ os) s a vs e =
    let one = followed_by_ok (operand_at o s a) _ vs e in
    let two = followed_by_ok (operands_at os s (operand_end s a)) _ vs one.2 in
    let w = operand_wanted o s a one.0 one.1 in
    operands_line os s (operand_end s a) two.0 two.1
    ∙ ap (λ n. n + 1) (line_end_of_word s (a + 1) ∙ line_end_next s a w.0)
