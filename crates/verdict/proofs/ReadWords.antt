-- What was read as operands was written from them.
use Rattle.std.proofs.Common.{◌≡◌, ℕ, suc, ◌+◌, ◌<◌, ◌≤◌, Bool, true, false, cond, ◌&&◌, eqb, leb, List, [], ◌∷◌, ◌++◌, length, get_or, take, drop, Some, None, Ok, decimal, Option, sym, refl, ap, ◌∙◌, subst, ⊎_elim, arith}
use Rattle.std.proofs.lemmas.Fmt.{decimal-digits_value}
use Rattle.std.proofs.lemmas.Slice.Eq.{bytes_eq-Decides}
use Rattle.std.proofs.lemmas.List.{append_assoc, take-append-drop, drop-drop, drop_more, get_or-drop, length-drop}
use Rattle.std.proofs.lemmas.List.Sums.{passes_at_first}
use Rattle.std.proofs.lemmas.Bool.{cases_Bool, or_cases, eqb-true, both_ways, and_parts, leb-true}
use Rattle.std.specs.Option.{option_map}
use Rattle.std.specs.Str.{bytes_eq}
use Rattle.words.specs.declared.fault.FaultKind.{FaultKind}
use Rattle.sheet.specs.Format.{word_of, after_word, strength_words}
use Rattle.sheet.specs.Reading.{wanted, line_ends, word_at, word_end, fabric_words, index_of, Operand, a_number, a_strength, a_fabric, operand_of, not_an, known, operand_at, operand_end, operands_at, operands_end}
use Rattle.sheet.proofs.Ends.{followed_by_ok, wanted_within, ends_within}
use Rattle.words.specs.Lengths.{space, line_feed, ends_word, word_length}
use Rattle.words.specs.Numbers.{largest, plain, value_after, number_of}
use Rattle.words.proofs.Digits.{own, plain_digits}
use Rattle.verdict.proofs.Spelling.{spelled, Fit, spelled_all, Fits}

-- t stands in the sheet s from place a to place b
pub record Stands (s : List ℕ) (a : ℕ) (t : List ℕ) (b : ℕ) : Type 0 where
  pub bytes : drop a s ≡ t ++ drop b s

pub stands_on : {s t u : List ℕ} {a b c : ℕ} → Stands s a t b → Stands s b u c → Stands s a (t ++ u) c
stands_on {s = s} {t = t} {u = u} {c = c} first later = record { bytes = first.bytes ∙ ap (λ r. t ++ r) later.bytes ∙ sym (append_assoc t u (drop c s)) }

-- the same by an equal text, up to an equal place
pub stands_as : {s t u : List ℕ} {a b c : ℕ} → t ≡ u → b ≡ c → Stands s a t b → Stands s a u c
stands_as {s = s} {u = u} {b = b} text place h = record { bytes = h.bytes ∙ ap (λ r. r ++ drop b s) text ∙ ap (λ n. u ++ drop n s) place }

pub taken_stands : (n : ℕ) (s : List ℕ) (a : ℕ) → Stands s a (take n (drop a s)) (a + n)
taken_stands n s a = record { bytes = sym (take-append-drop n (drop a s)) ∙ ap (λ r. take n (drop a s) ++ r) (drop-drop n a s) }

pub byte_stands : (s : List ℕ) (a c : ℕ) → a < length s → get_or s a 0 ≡ c → Stands s a (c ∷ []) (a + 1)
byte_stands s a c h is = record { bytes = drop_more s a 0 h ∙ ap (λ x. x ∷ drop (a + 1) s) is }

-- a byte that ends a word stands at place a, unless the sheet ends there
abbrev pub Stops : List ℕ → ℕ → Type 0
Stops s a = a < length s → ends_word (get_or s a 0) ≡ true

pub word_stops : (s : List ℕ) (a : ℕ) → Stops s (word_end s a)
word_stops s a h =
    ap ends_word (sym (get_or-drop a s (word_length (drop a s)) 0)) ∙ passes_at_first ends_word (drop a s) 0 (omega (arith, length-drop a s))

module _ (s : List ℕ) (a : ℕ) where
  space_stands : Stops s a → wanted s a ≡ Ok tt → Stands s a (space ∷ []) (a + 1)
  space_stands stops e =
      let w = wanted_within s a e in
      byte_stands s a space w.0 (⊎_elim (eqb-true (get_or s a 0) space) (λ f. absurd (both_ways _ w.1 f)) (or_cases (eqb (get_or s a 0) space) (eqb (get_or s a 0) line_feed) (stops w.0)))

  pub feed_stands : line_ends s a ≡ Ok tt → Stands s a (line_feed ∷ []) (a + 1)
  feed_stands e = let w = ends_within s a e in byte_stands s a line_feed w.0 (eqb-true (get_or s a 0) line_feed w.1)

number_found : (w : List ℕ) (v : ℕ) → number_of w ≡ Some v → (w ≡ decimal v) × (v ≤ largest)
number_found w v e =
    ⊎_elim
    (λ t.
    let both = and_parts (plain w) (leb (value_after 0 w) largest) t in
    let d = plain_digits w both.0 in
    let small = leb-true (value_after 0 w) largest both.1 in
    let is : value_after 0 w ≡ v = cc (simp t at e) in
    (sym (decimal-digits_value own w d.0 d.1 d.2 (omega arith)) ∙ ap decimal is, omega arith))
    (λ f. absurd (cc (simp f at e)))
    (cases_Bool (plain w && leb (value_after 0 w) largest))

index_found : (ws : List (List ℕ)) (w : List ℕ) (k : ℕ) → index_of ws w ≡ Some k → (w ≡ word_of ws k) × (k < length ws)
index_found [] w k e = absurd cc
index_found (v ∷ vs) w k e = by_test (bytes_eq w v) (index_of vs w) refl (index_found vs w) e
  where
    by_test : (t : Bool) (r : Option ℕ) → bytes_eq w v ≡ t → ((j : ℕ) → r ≡ Some j → (w ≡ word_of vs j) × (j < length vs)) → cond t (Some 0) (option_map suc r) ≡ Some k → (w ≡ word_of (v ∷ vs) k) × (k < suc (length vs))
    by_test true r same later e =
        let is : 0 ≡ k = cc in
        (subst (λ j. w ≡ word_of (v ∷ vs) j) is ((bytes_eq-Decides w v).0 same), omega arith)
    by_test false (Some j) same later e =
        let is : suc j ≡ k = cc in
        let found = later j refl in
        (subst (λ j. w ≡ word_of (v ∷ vs) j) is found.0, omega arith)
    by_test false None same later e = absurd cc

operand_found : (o : Operand) (w : List ℕ) (v : ℕ) → operand_of o w ≡ Some v → (w ≡ spelled o v) × Fit o v
operand_found a_number w v e = number_found w v e
operand_found a_strength w v e = index_found strength_words w v e
operand_found a_fabric w v e = index_found fabric_words w v e

-- the operand after the word that ends at place a
operand_read : (o : Operand) (s : List ℕ) (a v : ℕ) → Stops s a → operand_at o s a ≡ Ok v → Stands s a (space ∷ spelled o v) (operand_end s a) × Fit o v
operand_read o s a v stops e =
    let one = followed_by_ok (wanted s a) _ v e in
    let two = followed_by_ok (wanted s (a + 1)) _ v one.2 in
    let found = operand_found o (word_at s (a + 1)) v (known_some (not_an o) (a + 1) (operand_of o (word_at s (a + 1))) v two.2) in
    (stands_on (space_stands s a stops one.1) (stands_as found.0 refl (taken_stands (word_length (drop (a + 1) s)) s (a + 1))), found.1)
  where
    known_some : (kind : FaultKind) (place : ℕ) (r : Option ℕ) (v : ℕ) → known kind place r ≡ Ok v → r ≡ Some v
    known_some kind place (Some x) v e = cc
    known_some kind place None v e = absurd cc

-- the operands after it, with the end of the line
pub operands_read : (os : List Operand) (s : List ℕ) (a : ℕ) (vs : List ℕ) → Stops s a → operands_at os s a ≡ Ok vs → Stands s a (after_word (spelled_all os vs)) (operands_end os s a) × Fits os vs
operands_read [] s a vs stops e =
    let one = followed_by_ok (line_ends s a) _ vs e in
    let is : [] ≡ vs = cc one.2 in
    (feed_stands s a one.1, subst (Fits []) is tt)
operands_read (o ∷ os) s a vs stops e =
    let one = followed_by_ok (operand_at o s a) _ vs e in
    let two = followed_by_ok (operands_at os s (operand_end s a)) _ vs one.2 in
    let first = operand_read o s a one.0 stops one.1 in
    let rest = operands_read os s (operand_end s a) two.0 (word_stops s (a + 1)) two.1 in
    let is : one.0 ∷ two.0 ≡ vs = cc two.2 in
    subst (λ vs. Stands s a (after_word (spelled_all (o ∷ os) vs)) (operands_end (o ∷ os) s a) × Fits (o ∷ os) vs) is
    (stands_on first.0 rest.0, (first.1, rest.1))
