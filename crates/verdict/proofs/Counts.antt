-- Counting the calls of a sheet, line by line.
use Rattle.std.proofs.Common.{◌≡◌, ℕ, zero, suc, ◌+◌, ◌<◌, ◌≤◌, cond, List, ◌∷◌, length, Some, None, Ok, Err, Option, Result, sym, refl, ap, ◌∙◌, add-zero, arith, Bor}
use Rattle.std.proofs.lemmas.Bool.{le-leb}
use Rattle.rules.specs.declared.call.Call.{Call}
use Rattle.words.specs.declared.fault.Fault.{Fault}
use Rattle.sheet.specs.declared.line.Line.{Line}
use Rattle.sheet.specs.declared.line.Line.TheVariants as line
use Rattle.sheet.specs.Format.{Entry}
use Rattle.sheet.specs.Lines.{NextLine, entry_of, next_told, next_place}
use Rattle.sheet.specs.Reading.{followed_by, next_at, entry_at, and_then, entries_from, line_end}
use Rattle.verdict.specs.Verdicts.{calls_in}

-- beyond the end there is no line
pub at_end : (s : List ℕ) (a : ℕ) → length s ≤ a → next_at s a ≡ Ok None
at_end s a h = ap (λ t. cond t (Ok None) (followed_by (entry_at s a) (λ e. Ok (Some e)))) (le-leb (length s) a h)

-- the entries from place a on, by what is read there
abbrev with_next : List ℕ → ℕ → ℕ → Result (Option Entry) Fault → Result (List Entry) Fault
with_next s k a r = followed_by r (λ next. and_then next (entries_from k s (line_end s a + 1)))

-- once there are lines enough, their number does not matter
enough : (s : List ℕ) (j k a : ℕ) → length s ≤ j + a → length s ≤ k + a → entries_from j s a ≡ entries_from k s a
enough s zero zero a h i = refl
enough s zero (suc k) a h i = sym (ap (with_next s k a) (at_end s a (omega arith)))
enough s (suc j) zero a h i = ap (with_next s j a) (at_end s a (omega arith))
enough s (suc j) (suc k) a h i = ap (λ (rest : Result (List Entry) Fault). followed_by (next_at s a) (λ next. and_then next rest)) (enough s j k (line_end s a + 1) (omega arith) (omega arith))

-- the calls among entries, after those that are counted
abbrev counted : ℕ → Result (List Entry) Fault → Result ℕ Fault
counted calls r = followed_by r (λ es. Ok (calls + calls_in es))

abbrev pub counted_from : List ℕ → ℕ → ℕ → Result ℕ Fault
counted_from s a calls = counted calls (entries_from (length s) s a)

pub none_counted : (r : Result (List Entry) Fault) → followed_by r (λ es. Ok (calls_in es)) ≡ counted 0 r
none_counted (Ok es) = ap (λ n. Ok n) (omega arith)
none_counted (Err f) = refl

-- what is to be counted is what is left at place a of the sheet s, after so many calls; r is the next line there, and t the same sheet
module _ (whole : Result ℕ Fault) (s t : Bor (List ℕ)) (a calls : ℕ) (left : whole ≡ counted_from s.now a calls) (r : Result (Option Line) Fault) (next : ℕ) (n : NextLine s a r next) (same : t ≡ s) where
  by_line : (q : Result (Option Line) Fault) → r ≡ q → whole ≡ counted calls (with_next s.now (length s.now) a (next_told q))
  by_line q e =
      left ∙ ap (counted calls) (enough s.now (length s.now) (suc (length s.now)) a (omega arith) (omega arith))
      ∙ ap (λ x. counted calls (with_next s.now (length s.now) a x)) (sym n.value ∙ ap next_told e)

  pub after_end : r ≡ Ok None → whole ≡ Ok calls
  after_end e = by_line (Ok None) e ∙ ap (λ n. Ok n) (add-zero calls)

  pub after_fault : (f : Fault) → r ≡ Err f → whole ≡ Err f
  after_fault f e = by_line (Err f) e

  pub later : (l : Line) → r ≡ Ok (Some l) → a < next
  later l e = omega (arith, n.after ∙ ap (next_place s.now a) e)

  after_line : (l : Line) (calls' : ℕ) → r ≡ Ok (Some l) → ((es : List Entry) → calls + calls_in (entry_of l ∷ es) ≡ calls' + calls_in es) → whole ≡ counted_from t.now next calls'
  after_line l calls' e more =
      by_line (Ok (Some l)) e ∙ by_rest (entries_from (length s.now) s.now (line_end s.now a + 1))
      ∙ ap (λ p. counted_from s.now p calls') (sym (n.after ∙ ap (next_place s.now a) e)) ∙ ap (λ (x : Bor (List ℕ)). counted_from x.now next calls') (sym same)
    where
      by_rest : (q : Result (List Entry) Fault) → counted calls (followed_by q (λ es. Ok (entry_of l ∷ es))) ≡ counted calls' q
      by_rest (Ok es) = ap (λ n. Ok n) (more es)
      by_rest (Err f) = refl

  pub after_call : (l : Line) (x : Call) → r ≡ Ok (Some l) → l ≡ line.Call x → whole ≡ counted_from t.now next (calls + 1)
  after_call l x e is = after_line (line.Call x) (calls + 1) (e ∙ ap (λ y. Ok (Some y)) is) (λ es. omega arith)

  pub after_note : (l : Line) (text : Bor (List ℕ)) → r ≡ Ok (Some l) → l ≡ line.Note text → whole ≡ counted_from t.now next calls
  after_note l text e is = after_line (line.Note text) calls (e ∙ ap (λ y. Ok (Some y)) is) (λ es. refl)
