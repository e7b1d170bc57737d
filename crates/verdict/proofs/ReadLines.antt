-- What was read as lines was written from them.
use Rattle.std.proofs.Common.{◌≡◌, ℕ, zero, suc, ◌+◌, ◌≤◌, Bool, true, false, cond, eqb, leb, List, [], ◌∷◌, ◌++◌, length, get_or, take, drop, Some, None, Ok, Err, Option, Result, refl, ap, ◌∙◌, subst, ⊎_elim, arith}
use Rattle.std.proofs.Math.Numerals.{one-add}
use Rattle.std.specs.List.{position_or_len}
use Rattle.std.proofs.lemmas.Slice.Eq.{bytes_eq-Decides}
use Rattle.std.proofs.lemmas.List.{drop_all}
use Rattle.std.proofs.lemmas.Bool.{cases_Bool, eqb-true, leb-true}
use Rattle.std.specs.List.{flat_map, AllByRecursion}
use Rattle.std.specs.Str.{bytes_eq}
use Rattle.words.specs.declared.fault.Fault.{Fault}
use Rattle.sheet.specs.declared.op.Op.{Op}
use Rattle.sheet.specs.declared.op.Op.TheVariants.{Load, Store, Fence, Evict, Up, Down}
use Rattle.sheet.specs.Format.{hash, words_line, Entry, a_call, a_note, entry_line, WellFormed, op_word}
use Rattle.sheet.specs.Reading.{followed_by, wanted, line_ends, word_at, word_end, line_at, line_end, Operand, operands_at, operands_end, op_operands, op_of, call_of, call_at, note_at, entry_at, next_at, and_then, entries_from}
use Rattle.sheet.proofs.Ends.{followed_by_ok, wanted_within, operands_line, line_end_of_word}
use Rattle.words.specs.Lengths.{word_length, line_length}
use Rattle.verdict.proofs.ReadWords.{Stands, stands_on, stands_as, taken_stands, byte_stands, word_stops, feed_stands, operands_read}
use Rattle.verdict.proofs.Spelling.{Fit, spelled_all, Fits}

-- P holds of all values that the operands can have
abbrev pub Throughout : List Operand → (List ℕ → Type 0) → Type 0
Throughout [] P = P []
Throughout (o ∷ os) P = (v : ℕ) → Fit o v → Throughout os (λ vs. P (v ∷ vs))

by_values : (os : List Operand) (P : List ℕ → Type 0) → Throughout os P → (vs : List ℕ) → Fits os vs → P vs
by_values [] P all [] fit = all
by_values (o ∷ os) P all (v ∷ vs) fit = by_values os (λ vs. P (v ∷ vs)) (all v fit.0) vs fit.1
by_values os P all vs fit = absurd fit

-- what a line tells: an x that is written as line x, and has to be Good
module _ {X : Type 0} (line : X → List ℕ) (Good : X → Type 0) where
  -- x was read at place a
  abbrev pub LineRead : List ℕ → ℕ → X → Type 0
  LineRead s a x = Stands s a (line x) (line_end s a + 1) × Good x

  -- the word w and operands of these values are the line of what they make
  abbrev pub Makes : List ℕ → List Operand → (List ℕ → X) → List ℕ → Type 0
  Makes w os make vs = (words_line (w ∷ spelled_all os vs) ≡ line (make vs)) × Good (make vs)

  pub line_read : (w : List ℕ) (os : List Operand) (make : List ℕ → X) → Throughout os (Makes w os make)
      → (s : List ℕ) (a : ℕ) (x : X) → word_at s a ≡ w → followed_by (operands_at os s (word_end s a)) (λ vs. Ok (make vs)) ≡ Ok x → LineRead s a x
  line_read w os make all s a x first read =
      let one = followed_by_ok (operands_at os s (word_end s a)) (λ vs. Ok (make vs)) x read in
      let is : make one.0 ≡ x = cc one.2 in
      let rest = operands_read os s (word_end s a) one.0 (word_stops s a) one.1 in
      let made = by_values os (Makes w os make) all one.0 rest.1 in
      let same : words_line (word_at s a ∷ spelled_all os one.0) ≡ line (make one.0) = ap (λ v. words_line (v ∷ spelled_all os one.0)) first ∙ made.0 in
      let next : operands_end os s (word_end s a) ≡ line_end s a + 1 = operands_line os s (word_end s a) one.0 one.1 ∙ ap (λ n. n + 1) (line_end_of_word s a) in
      subst (LineRead s a) is (stands_as same next (stands_on (taken_stands (word_length (drop a s)) s a) rest.0), made.1)

op_found : (w : List ℕ) (op : Op) → op_of w ≡ Some op → w ≡ op_word op
op_found w op = or Load (or Store (or Fence (or Evict (or Up (or Down (λ e. absurd cc))))))
  where
    by_test : (o : Op) (r : Option Op) (t : Bool) → (r ≡ Some op → w ≡ op_word op) → bytes_eq w (op_word o) ≡ t → cond t (Some o) r ≡ Some op → w ≡ op_word op
    by_test o r true later same e = let is : o ≡ op = cc in (bytes_eq-Decides w (op_word o)).0 same ∙ ap op_word is
    by_test o r false later same e = later e

    or : (o : Op) {r : Option Op} → (r ≡ Some op → w ≡ op_word op) → cond (bytes_eq w (op_word o)) (Some o) r ≡ Some op → w ≡ op_word op
    or o {r = r} later e = by_test o r (bytes_eq w (op_word o)) later refl e

call_written : (op : Op) → Throughout (op_operands op) (Makes entry_line WellFormed (op_word op) (op_operands op) (λ vs. a_call (call_of op vs)))
call_written Load = λ x x_Fits y y_fits k k_fits. (refl, (x_Fits, y_fits, k_fits))
call_written Store = λ x x_Fits y y_fits k k_fits v v_fits. (refl, (x_Fits, y_fits, k_fits, v_fits))
call_written Fence = λ x x_Fits k k_fits. (refl, (x_Fits, k_fits))
call_written Evict = λ x x_Fits y y_fits. (refl, (x_Fits, y_fits))
call_written Up = λ x x_Fits. (refl, x_Fits)
call_written Down = λ x x_Fits. (refl, x_Fits)

-- no byte before the first that stops does
none_before : (stop : ℕ → Bool) (d : List ℕ) → position_or_len stop (take (position_or_len stop d) d) ≡ length (take (position_or_len stop d) d)
none_before stop [] = refl
none_before stop (b ∷ bs) =
    ⊎_elim
    (λ (e : stop b ≡ true). simp e)
    (λ (e : stop b ≡ false). simp (e, one-add) (ap suc (none_before stop bs)))
    (cases_Bool (stop b))

abbrev EntryRead : List ℕ → ℕ → Entry → Type 0
EntryRead s a e = LineRead entry_line WellFormed s a e

module _ (s : List ℕ) (a : ℕ) where
  note_read : (e : Entry) → wanted s a ≡ Ok tt → eqb (get_or s a 0) hash ≡ true → note_at s a ≡ Ok e → EntryRead s a e
  note_read e here first read =
      let one = followed_by_ok (line_ends s (line_end s a)) _ e read in
      let is : a_note (line_at s a) ≡ e = cc one.2 in
      let byte = byte_stands s a hash (wanted_within s a here).0 (eqb-true (get_or s a 0) hash first) in
      subst (EntryRead s a) is (
        stands_on (taken_stands (line_length (drop a s)) s a) (feed_stands s (line_end s a) one.1),
        (ap (λ d. get_or (take (line_length d) d) 0 0) byte.bytes ∙ ap (λ n. get_or (take n (hash ∷ drop (a + 1) s)) 0 0) (one-add _), none_before _ (drop a s)),
      )

  call_read : (e : Entry) (o : Option Op) → op_of (word_at s a) ≡ o → call_at s a o ≡ Ok e → EntryRead s a e
  call_read e None found read = absurd cc
  call_read e (Some op) found read = line_read entry_line WellFormed (op_word op) (op_operands op) (λ vs. a_call (call_of op vs)) (call_written op) s a e (op_found (word_at s a) op found) read

  entry_read : (e : Entry) → entry_at s a ≡ Ok e → EntryRead s a e
  entry_read e read = let one = followed_by_ok (wanted s a) _ e read in by_first (eqb (get_or s a 0) hash) one.1 refl one.2
    where
      by_first : (t : Bool) → wanted s a ≡ Ok tt → eqb (get_or s a 0) hash ≡ t → cond t (note_at s a) (call_at s a (op_of (word_at s a))) ≡ Ok e → EntryRead s a e
      by_first true here first read = note_read e here first read
      by_first false here first read = call_read e (op_of (word_at s a)) refl read

-- the entries that were read from place a on are all that stands there
abbrev EntriesRead : List ℕ → ℕ → List Entry → Type 0
EntriesRead s a es = (drop a s ≡ flat_map entry_line es) × AllByRecursion WellFormed es

none_read : (s : List ℕ) (a : ℕ) (es : List Entry) → length s ≤ a → [] ≡ es → EntriesRead s a es
none_read s a es h is = subst (EntriesRead s a) is (drop_all a s h, tt)

-- one more entry before those that r read
module _ (s : List ℕ) (a : ℕ) (es : List Entry) (r : Result (List Entry) Fault) (rest : (later : List Entry) → r ≡ Ok later → EntriesRead s (line_end s a + 1) later) where
  by_entry : (q : Result Entry Fault) → entry_at s a ≡ q → followed_by (followed_by q (λ e. Ok (Some e))) (λ next. and_then next r) ≡ Ok es → EntriesRead s a es
  by_entry (Err f) here read = absurd cc
  by_entry (Ok e) here read =
      let one = followed_by_ok r (λ later. Ok (e ∷ later)) es read in
      let is : e ∷ one.0 ≡ es = cc one.2 in
      let entry = entry_read s a e here in
      let later = rest one.0 one.1 in
      subst (EntriesRead s a) is (entry.0.bytes ∙ ap (λ t. entry_line e ++ t) later.0, (entry.1, later.1))

  next_read : followed_by (next_at s a) (λ next. and_then next r) ≡ Ok es → EntriesRead s a es
  next_read read = by_end (leb (length s) a) refl read
    where
      by_end : (t : Bool) → leb (length s) a ≡ t → followed_by (cond t (Ok None) (followed_by (entry_at s a) (λ e. Ok (Some e)))) (λ next. and_then next r) ≡ Ok es → EntriesRead s a es
      by_end true end read = none_read s a es (leb-true (length s) a end) cc
      by_end false end read = by_entry (entry_at s a) refl read

pub entries_read : (k : ℕ) (s : List ℕ) (a : ℕ) (es : List Entry) → length s ≤ k + a → entries_from k s a ≡ Ok es → EntriesRead s a es
entries_read zero s a es h read = none_read s a es (omega arith) cc
entries_read (suc k) s a es h read = next_read s a es (entries_from k s (line_end s a + 1)) (λ later. entries_read k s (line_end s a + 1) later (omega arith)) read
