-- A number is read digit by digit.
use Rattle.std.proofs.Common.{◌≡◌, ℕ, ◌+◌, ◌-◌, ◌*◌, ◌≤◌, true, ◌&&◌, cond, nat_le, List, [], ◌∷◌, length, Some, None, Option, Bor, Iter, refl, sym, ap, ◌∙◌, ⊎_elim, arith, rules}
use denote.Param.Members.{Mut}
use Rattle.std.specs.Fn.{Called}
use Rattle.std.specs.Iterator.{Yields, TryFoldTurn, TryFoldsItems}
use Rattle.std.specs.List.{FoldsTo}
use Rattle.std.specs.Option.{MatchOption}
use Rattle.std.specs.ControlFlow.{continue_value}
use Rattle.std.proofs.lemmas.Fn.{fronts}
use Rattle.std.proofs.lemmas.Bool.{cases_lt}
use Rattle.std.specs.Str.{all_ascii_digits}
use Rattle.words.specs.Numbers.{largest, value_after, number_of, has_plain_front, with_digit}

-- the number that n and the digits behind it write
abbrev pub reads : ℕ → List ℕ → Option ℕ
reads n [] = Some n
reads n (c ∷ cs) = elim (with_digit n c) [ Some m ↦ reads m cs | None ↦ None ]

-- no digits behind it
reads-none : (n : ℕ) (cs : List ℕ) → length cs ≡ 0 → reads n cs ≡ Some n
reads-none n [] e = refl
reads-none n (c ∷ cs) e = absurd (omega (arith, e))

-- what a `try_fold` gives whose closure reads a digit at each call
module _ {F : Type 0} (E : Type 0) (g : Mut F (ℕ × (Bor ℕ × Unit {0})) (Option ℕ))
    (step : (h : F) (n : ℕ) (x : Bor ℕ) (v : Option ℕ) (h' : F) → Called g h (n, (x, tt)) v h' → v ≡ with_digit n x.now) where
  -- the calls that went on
  on : (xs : List (Bor ℕ)) (s t : Iter ℕ) (p q : F × ℕ) → Yields fronts s xs t
      → FoldsTo (TryFoldTurn {E = E} g (λ r c. r ≡ continue_value c)) p xs q → reads p.1 s.rest.now ≡ reads q.1 t.rest.now
  on [] s t p q same done = λ i. reads (done i).1 (same i).rest.now
  on (x ∷ xs) s t p q ys fs =
      ap (reads p.1) ys.1
      ∙ ap (λ o. elim o [ Some m ↦ reads m ys.0.rest.now | None ↦ None ])
      (sym (step _ _ _ _ _ fs.1.1) ∙ fs.1.2)
      ∙ on xs ys.0 t fs.0 q ys.2 fs.2

  -- the last call: there is no more digit, or what is there is none
  ends : (o : Option (Bor ℕ)) (t u : Iter ℕ) (h : F) (n : ℕ) (r : Option ℕ) → fronts t o u
      → MatchOption o (r ≡ Some n)
      (λ x. (v : Option ℕ) × (h' : F) × (e : E) × Called g h (n, (x, tt)) v h' × (v ≡ None) × (r ≡ None))
      → r ≡ reads n t.rest.now
  ends None t u h n r last done = done ∙ sym (reads-none n t.rest.now last.0)
  ends (Some x) t u h n r last done =
      done.5
      ∙ sym (ap (reads n) last
      ∙ ap (λ o. elim o [ Some m ↦ reads m u.rest.now | None ↦ None ]) (sym (step _ _ _ _ _ done.3) ∙ done.4))

  pub folded : (s u : Iter ℕ) (f : F) (n : ℕ) (r : Option ℕ)
      → TryFoldsItems fronts g (λ r c. r ≡ continue_value c) (λ (e : E) r. r ≡ None) s f n r u → r ≡ reads n s.rest.now
  folded s u f n r d = ends d.1 d.4.0 u d.2 d.3 r d.4.2 d.6 ∙ sym (on d.0 s d.4.0 (f, n) (d.2, d.3) d.4.1 d.5)

-- the digits that follow make a value no smaller
value_ge : (n : ℕ) (ds : List ℕ) → n ≤ value_after n ds
value_ge n [] = omega arith
value_ge n (d ∷ ds) = let h = value_ge (n * 10 + (d - 48)) ds in omega arith

-- it is the value of all digits, where all are digits and the value is not too large
reads-value : (n : ℕ) (w : List ℕ) → n ≤ largest
    → reads n w ≡ cond (all_ascii_digits w && nat_le (value_after n w) largest) (Some (value_after n w)) None
reads-value n [] small = search rules
reads-value n (c ∷ cs) small =
    ⊎_elim
    (λ big. let more = value_ge (n * 10 + (c - 48)) cs in search rules)
    (λ fits. let rest = reads-value (n * 10 + (c - 48)) cs fits in search rules)
    (cases_lt largest (n * 10 + (c - 48)))

-- and so the number of a word with a plain front
pub reads-number : (w : List ℕ) → has_plain_front w ≡ true → reads 0 w ≡ number_of w
reads-number [] front = search rules
reads-number (c ∷ []) front = reads-value 0 (c ∷ []) (omega arith) ∙ search rules
reads-number (c ∷ d ∷ ds) front = reads-value 0 (c ∷ d ∷ ds) (omega arith) ∙ search rules
