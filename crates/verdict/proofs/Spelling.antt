-- The words of operands.
use Rattle.std.proofs.Common.{◌≡◌, ℕ, suc, ◌^◌, ◌<◌, ◌≤◌, true, false, cond, ◌&&◌, ltb, leb, List, [], ◌∷◌, length, get_or, Some, None, decimal, refl, ap, ◌∙◌, ⊎_elim, arith, rules}
use Rattle.std.proofs.lemmas.Fmt.{decimal_digit, digits_decimal, digits_value-decimal, decimal_nonempty, first_decimal}
use Rattle.std.proofs.lemmas.Bool.{and_parts, and_from, lt-ltb, le-leb, cases_eq}
use Rattle.std.specs.Char.{is_ascii_digit}
use Rattle.std.specs.Str.{all_ascii_digits}
use Rattle.sheet.specs.Format.{strength_words, word_of}
use Rattle.sheet.specs.Reading.{fabric_words, Operand, a_number, a_strength, a_fabric, operand_of}
use Rattle.verdict.proofs.Places.{Free, free_cons}
use Rattle.words.proofs.Digits.{own}
use Rattle.words.specs.Lengths.{ends_word}
use Rattle.words.specs.Numbers.{largest, plain, value_after, number_of}

-- the word of an operand of this value
abbrev pub spelled : Operand → ℕ → List ℕ
spelled a_number v = decimal v
spelled a_strength v = word_of strength_words v
spelled a_fabric v = word_of fabric_words v

-- the values that an operand can have
abbrev pub Fit : Operand → ℕ → Type 0
Fit a_number v = v ≤ largest
Fit a_strength v = v < length strength_words
Fit a_fabric v = v < length fabric_words

-- the same of operands one after the other
abbrev pub spelled_all : List Operand → List ℕ → List (List ℕ)
spelled_all (o ∷ os) (v ∷ vs) = spelled o v ∷ spelled_all os vs
spelled_all os vs = []

abbrev pub Fits : List Operand → List ℕ → Type 0
Fits [] [] = Unit {0}
Fits (o ∷ os) (v ∷ vs) = Fit o v × Fits os vs
Fits os vs = ⊥

digits_free : (w : List ℕ) → all_ascii_digits w ≡ true → Free ends_word w
digits_free [] e = refl
digits_free (c ∷ cs) e = let p = and_parts (is_ascii_digit c) (all_ascii_digits cs) e in free_cons ends_word c cs (digit_ends_nothing c p.0) (digits_free cs p.1)
  where
    digit_ends_nothing : (c : ℕ) → is_ascii_digit c ≡ true → ends_word c ≡ false
    digit_ends_nothing c h = search rules

plain_from : (w : List ℕ) → all_ascii_digits w ≡ true → 0 < length w → (1 < length w → 48 < get_or w 0 0) → plain w ≡ true
plain_from [] d l z = absurd (omega arith)
plain_from (c ∷ []) d l z = (and_parts (is_ascii_digit c) true d).0
plain_from (c ∷ e ∷ ds) d l z = and_from (ltb 48 c) (all_ascii_digits (c ∷ e ∷ ds)) (lt-ltb 48 c (z (omega arith))) d

number_back : (v : ℕ) → v ≤ largest → number_of (decimal v) ≡ Some v
number_back v h =
    let small : v < 2 ^ 64 = omega arith in
    let digits : all_ascii_digits (decimal v) ≡ true = digits_decimal own v small in
    let value : value_after 0 (decimal v) ≡ v = digits_value-decimal own v small in
    let first : 1 < length (decimal v) → 48 < get_or (decimal v) 0 0 =
    λ l. ⊎_elim (λ z. absurd (omega (arith, ap (λ n. length (decimal n)) z, ap length (decimal_digit 0 (omega arith))))) (λ p. first_decimal v (omega arith) small) (cases_eq v 0) in
    let right : plain (decimal v) ≡ true = plain_from (decimal v) digits (decimal_nonempty v small) first in
    ap (λ t. cond (t && leb (value_after 0 (decimal v)) largest) (Some (value_after 0 (decimal v))) None) right
    ∙ ap (λ n. cond (leb n largest) (Some n) None) value
    ∙ ap (λ t. cond t (Some v) None) (le-leb v largest h)

-- an operand's word is read as its value, and no byte of it ends a word
pub spelled_back : (o : Operand) (v : ℕ) → Fit o v → operand_of o (spelled o v) ≡ Some v
spelled_back a_number v h = number_back v h
spelled_back a_strength (suc (suc (suc (suc v)))) h = absurd (omega arith)
spelled_back a_fabric (suc (suc (suc v))) h = absurd (omega arith)
spelled_back o v h = refl

pub spelled_free : (o : Operand) (v : ℕ) → Fit o v → Free ends_word (spelled o v)
spelled_free a_number v h = digits_free (decimal v) (digits_decimal own v (omega arith))
spelled_free a_strength (suc (suc (suc (suc v)))) h = absurd (omega arith)
spelled_free a_fabric (suc (suc (suc v))) h = absurd (omega arith)
spelled_free o v h = refl
