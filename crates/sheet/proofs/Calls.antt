-- The line of a call: its first byte tells which it can be.
use Rattle.std.proofs.Common.{◌≡◌, ℕ, ◌+◌, Bool, true, false, cond, eqb, ◌⊎◌, List, [], ◌∷◌, get_or, IfOk, OnOk, Some, None, Ok, Err, Option, Result, sym, refl, ap, ◌∙◌, subst, inl, inr, ⊎_elim, Bor}
use Rattle.std.specs.Str.{bytes_eq}
use Rattle.words.specs.declared.fault.Fault.{Fault}
use Rattle.words.specs.declared.fault.FaultKind.TheVariants.{UnknownWord}
use Rattle.sheet.specs.declared.line.Line.{Line}
use Rattle.sheet.specs.declared.line.Line.TheVariants as line
use Rattle.sheet.specs.declared.op.Op.{Op}
use Rattle.sheet.specs.declared.op.Op.TheVariants.{Load}
use Rattle.words.specs.Faults.{fault}
use Rattle.sheet.specs.Format.{hash, a_call, op_word}
use Rattle.sheet.specs.Moves.{MovedTo}
use Rattle.sheet.specs.declared.reader.Reader.{Reader}
use Rattle.sheet.specs.Lines.{told, InPlace, LineAt, call_line_at}
use Rattle.sheet.specs.Reading.{followed_by, unless, wanted, keyword_at, word_at, word_end, line_end, operands_at, operands_end, op_operands, op_of, call_of, call_at, note_at, entry_at}
use Rattle.sheet.proofs.Ends.{followed_by_ok, operands_line, line_end_of_word}
use Rattle.sheet.proofs.Firsts.{first_of_word}

-- the first byte of the word that a call begins with
abbrev pub initial : Op → ℕ
initial op = get_or (op_word op) 0 0

-- op, where the word is its name
abbrev confirmed : Op → List ℕ → Option Op
confirmed op w = cond (bytes_eq w (op_word op)) (Some op) None

-- a word that begins as one call's name is that name or none
op_of_initial : (op : Op) (bs : List ℕ) → op_of (initial op ∷ bs) ≡ confirmed op (initial op ∷ bs)
op_of_initial Load bs = refl
op_of_initial op bs = refl

op_of_empty : (op : Op) → op_of [] ≡ confirmed op []
op_of_empty Load = refl
op_of_empty op = refl

op_by_first : (w : List ℕ) (op : Op) → (w ≡ []) ⊎ (get_or w 0 0 ≡ initial op) → op_of w ≡ confirmed op w
op_by_first [] op h = op_of_empty op
op_by_first (b ∷ bs) op (inl e) = absurd cc
op_by_first (b ∷ bs) op (inr e) = let P : ℕ → Type 0 = λ x. op_of (x ∷ bs) ≡ confirmed op (x ∷ bs) in subst P (sym e) (op_of_initial op bs)

initial_is_no_note : (op : Op) → eqb (initial op) hash ≡ false
initial_is_no_note Load = refl
initial_is_no_note op = refl

told_call : (op : Op) (r : Result (List ℕ) Fault) → told (followed_by r (λ vs. Ok (line.Call (call_of op vs)))) ≡ followed_by r (λ vs. Ok (a_call (call_of op vs)))
told_call op (Ok vs) = refl
told_call op (Err f) = refl

call_in_place : (s : Bor (List ℕ)) (a : ℕ) (op : Op) (q : Result Unit Fault) (r : Result (List ℕ) Fault) → IfOk (followed_by q (λ _. followed_by r (λ vs. Ok (line.Call (call_of op vs))))) (InPlace s a)
call_in_place s a op (Ok _) (Ok vs) = tt
call_in_place s a op q r = tt

module _ (s : List ℕ) (a : ℕ) (op : Op) where
  abbrev rest : Result Line Fault
  rest = followed_by (operands_at (op_operands op) s (word_end s a)) (λ vs. Ok (line.Call (call_of op vs)))

  by_test : (b : Bool) → told (followed_by (unless b (fault UnknownWord a)) (λ _. rest)) ≡ call_at s a (cond b (Some op) None)
  by_test true = told_call op (operands_at (op_operands op) s (word_end s a))
  by_test false = refl

  call_entry : wanted s a ≡ Ok tt → get_or s a 0 ≡ initial op → told (call_line_at op s a) ≡ entry_at s a
  call_entry here first =
      let w = word_at s a in
      ap (λ (h : Result Unit Fault). told (followed_by (followed_by h (λ _. unless (bytes_eq (word_at s a) (op_word op)) (fault UnknownWord a))) (λ _. rest))) here
      ∙ by_test (bytes_eq (word_at s a) (op_word op))
      ∙ sym (ap (call_at s a) (op_by_first (word_at s a) op (⊎_elim inl (λ e. inr (e ∙ first)) (first_of_word s a))))
      ∙ sym (ap (λ b. cond b (note_at s a) (call_at s a (op_of (word_at s a)))) (ap (λ b. eqb b hash) first ∙ initial_is_no_note op))
      ∙ sym (ap (λ (h : Result Unit Fault). followed_by h (λ _. cond (eqb (get_or s a 0) hash) (note_at s a) (call_at s a (op_of (word_at s a))))) here)

  call_after : (before here : Reader) (r : Result Line Fault) → r ≡ call_line_at op s a → OnOk r (MovedTo before here (operands_end (op_operands op) s (word_end s a)))
      → IfOk r (λ _. here.at ≡ line_end s a + 1)
  call_after before here (Err f) read moved = tt
  call_after before here (Ok l) read moved =
      let one = followed_by_ok (keyword_at (op_word op) s a) _ l (sym read) in
      let two = followed_by_ok (operands_at (op_operands op) s (word_end s a)) _ l one.2 in
      moved.at ∙ operands_line (op_operands op) s (word_end s a) two.0 two.1 ∙ ap (λ n. n + 1) (line_end_of_word s a)

-- the line of a call whose first byte is right
pub call_line : (before here : Reader) (op : Op) (r : Result Line Fault) → wanted before.sheet.now before.at ≡ Ok tt → get_or before.sheet.now before.at 0 ≡ initial op
    → r ≡ call_line_at op before.sheet.now before.at → OnOk r (MovedTo before here (operands_end (op_operands op) before.sheet.now (word_end before.sheet.now before.at)))
    → LineAt before.sheet before.at r here.at
call_line before here op r wants first read moved =
    let s = before.sheet in
    let a = before.at in
    record {
      value = ap told read ∙ call_entry s.now a op wants first;
      place = subst (λ r. IfOk r (InPlace s a)) (sym read) (call_in_place s a op (keyword_at (op_word op) s.now a) (operands_at (op_operands op) s.now (word_end s.now a)));
      after = call_after s.now a op before here r read moved;
    }
