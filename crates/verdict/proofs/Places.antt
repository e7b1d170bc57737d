-- What is found at a place of a sheet whose bytes from there on are known.
use Rattle.std.proofs.Common.{◌≡◌, ℕ, ◌+◌, ◌<◌, Bool, true, false, not, cond, eqb, List, [], ◌∷◌, ◌++◌, length, get_or, take, drop, Ok, Err, sym, refl, ap, ◌∙◌, ⊎_elim, add-zero, arith, length-drop}
use Rattle.std.specs.List.{position_or_len}
use Rattle.std.proofs.lemmas.List.{drop-drop, drop_at, take_at, get_or-drop}
use Rattle.std.proofs.lemmas.Bool.{cases_Bool, lt-leb}
use Rattle.words.specs.declared.fault.FaultKind.TheVariants.{WordCount, NoLineFeed}
use Rattle.words.specs.Faults.{fault}
use Rattle.sheet.specs.Reading.{unless, wanted, line_ends, word_at, word_end}
use Rattle.words.specs.Lengths.{line_feed, ends_word, word_length}

-- no byte of w passes the test
abbrev pub Free : (ℕ → Bool) → List ℕ → Type 0
Free stop w = position_or_len stop w ≡ length w

module _ (stop : ℕ → Bool) (b : ℕ) (bs : List ℕ) where
  by_first : (t : Bool) → stop b ≡ t → position_or_len stop (b ∷ bs) ≡ cond (not t) (1 + position_or_len stop bs) 0
  by_first t h = ap (λ t. cond (not t) (1 + position_or_len stop bs) 0) h

  pub free_cons : stop b ≡ false → Free stop bs → Free stop (b ∷ bs)
  free_cons h free = omega (arith, by_first false h, free)

  pub free_parts : Free stop (b ∷ bs) → (stop b ≡ false) × Free stop bs
  free_parts free = ⊎_elim (λ h. absurd (omega (arith, by_first true h, free))) (λ h. (h, omega (arith, by_first false h, free))) (cases_Bool (stop b))

pub before_free : (stop : ℕ → Bool) (w rest : List ℕ) → Free stop w → position_or_len stop (w ++ rest) ≡ length w + position_or_len stop rest
before_free stop [] rest free = omega arith
before_free stop (b ∷ bs) rest free =
    let parts = free_parts stop b bs free in
    by_first stop b (bs ++ rest) false parts.0 ∙ omega (arith, before_free stop bs rest parts.1)

-- the rest of the sheet after its first n bytes from place a on
pub drop_more : (s p q : List ℕ) (a : ℕ) → drop a s ≡ p ++ q → drop (a + length p) s ≡ q
drop_more s p q a e = sym (drop-drop (length p) a s) ∙ ap (drop (length p)) e ∙ drop_at p q (length p) refl

module _ (s : List ℕ) (a c : ℕ) (t : List ℕ) (e : drop a s ≡ c ∷ t) where
  pub byte_is : get_or s a 0 ≡ c
  byte_is = ap (λ n. get_or s n 0) (sym (add-zero a)) ∙ sym (get_or-drop a s 0 0) ∙ ap (λ d. get_or d 0 0) e

  pub within : a < length s
  within = omega (arith, ap length e, length-drop a s)

  pub drop_next : drop (a + 1) s ≡ t
  drop_next = drop_more s (c ∷ []) t a e

  pub is_wanted : eqb c line_feed ≡ false → wanted s a ≡ Ok tt
  is_wanted h =
      ap (λ (b : Bool). cond b (Err (fault NoLineFeed (length s))) (cond (eqb (get_or s a 0) line_feed) (Err (fault WordCount a)) (Ok tt))) (lt-leb (length s) a within)
      ∙ ap (λ (b : Bool). cond b (Err (fault WordCount a)) (Ok tt)) (ap (λ x. eqb x line_feed) byte_is ∙ h)

  pub line_ends_here : eqb c line_feed ≡ true → line_ends s a ≡ Ok tt
  line_ends_here h =
      ap (λ (b : Bool). cond b (Err (fault NoLineFeed (length s))) (unless (eqb (get_or s a 0) line_feed) (fault WordCount a))) (lt-leb (length s) a within)
      ∙ ap (λ (b : Bool). unless b (fault WordCount a)) (ap (λ x. eqb x line_feed) byte_is ∙ h)

-- a word that is followed by a byte that ends words
module _ (s : List ℕ) (a : ℕ) (w : List ℕ) (c : ℕ) (t : List ℕ) (e : drop a s ≡ w ++ c ∷ t) (free : Free ends_word w) (ends : ends_word c ≡ true) where
  length_is : word_length (drop a s) ≡ length w
  length_is = ap word_length e ∙ before_free ends_word w (c ∷ t) free ∙ ap (λ b. length w + cond (not b) (1 + word_length t) 0) ends ∙ add-zero (length w)

  pub word_is : word_at s a ≡ w
  word_is = ap (λ n. take n (drop a s)) length_is ∙ ap (take (length w)) e ∙ take_at w (c ∷ t) (length w) refl

  pub word_end_is : word_end s a ≡ a + length w
  word_end_is = ap (λ n. a + n) length_is

  pub after_word_is : drop (word_end s a) s ≡ c ∷ t
  after_word_is = ap (λ n. drop n s) word_end_is ∙ drop_more s w (c ∷ t) a e
