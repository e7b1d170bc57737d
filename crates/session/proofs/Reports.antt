-- What a sheet prints, item after item.
use Rattle.std.proofs.Common.{◌≡◌, ℕ, zero, suc, ◌+◌, ◌-◌, ◌<◌, ◌≤◌, true, false, Bool, List, [], ◌++◌, length, Some, None, Ok, Err, Option, Result, sym, refl, ap, ◌∙◌, ⊎_elim, append_assoc, append-nil, arith}
use Rattle.std.proofs.lemmas.Bool.{cases_lt}
use Rattle.std.specs.List.{flat_map}
use Rattle.std.specs.Option.{option_to_list}
use Rattle.words.specs.declared.fault.Fault.{Fault}
use Rattle.rules.specs.Sizes.{is_size}
use Rattle.sheet.specs.Format.{Entry, a_call}
use Rattle.sheet.specs.Format as format
use Rattle.sheet.specs.Reading.{next_at, opened, board_end}
use Rattle.sheet.specs.declared.line.Board.{Board}
use Rattle.session.specs.Items.{Item, item_bytes}
use Rattle.session.specs.Playing.{Play, running, flawed, over, begun_at, started, begun_by, line_told, next_item, items_from, printed_by}
use Rattle.verdict.proofs.Counts.{at_end}

-- a bound on the items that are left
abbrev pub left_of : List ℕ → Play → ℕ
left_of s (running p) = length s + 1 - p.place
left_of s (flawed f) = 1
left_of s over = 0

-- each item leaves fewer
pub falls : (s : List ℕ) (p : Play) (i : Item) → (next_item s p).0 ≡ Some i → left_of s (next_item s p).1 < left_of s p
falls s (running p) i e = ⊎_elim
    (λ h. go h (next_at s p.place) e)
    (λ h. let none : ◌≡◌ {A = Option Item} None (Some i) = sym (ap (λ r. (line_told s p r).0) (at_end s p.place h)) ∙ e in absurd cc)
    (cases_lt p.place (length s))
  where
    go : p.place < length s → (r : Result (Option Entry) Fault) → (line_told s p r).0 ≡ Some i → left_of s (line_told s p r).1 < left_of s (running p)
    go h (Ok None) e = absurd cc
    go h (Ok (Some (a_call c))) e = omega arith
    go h r e = omega arith
falls s (flawed f) i e = omega arith
falls s over i e = absurd cc

-- once a sheet is over, nothing comes
pub over_quiet : (s : List ℕ) (k : ℕ) → items_from k s over ≡ []
over_quiet s zero = refl
over_quiet s (suc k) = over_quiet s k

none_over : (s : List ℕ) (p : Play) → (next_item s p).0 ≡ None → (next_item s p).1 ≡ over
none_over s (running p) e = go (next_at s p.place) e
  where
    go : (r : Result (Option Entry) Fault) → (line_told s p r).0 ≡ None → (line_told s p r).1 ≡ over
    go (Ok (Some (a_call c))) e = absurd cc
    go (Ok (Some (format.a_note text))) e = absurd cc
    go r e = refl
none_over s (flawed f) e = absurd cc
none_over s over e = refl

-- the bytes so far and those of what is to come, at most n items, are the whole
pub record ToCome (n : ℕ) (s : List ℕ) (p : Play) (out whole : List ℕ) : Type 0 where
  pub enough : left_of s p ≤ n
  pub bytes : whole ≡ out ++ flat_map item_bytes (items_from n s p)

pub all_to_come : (s : List ℕ) → ToCome (length s + 1) s (started s) [] (printed_by s)
all_to_come s = record { enough = by_line (opened s); bytes = refl }
  where
    by_size : (b : Board) (t : Bool) → is_size b.shims b.lines ≡ t → left_of s (begun_at (board_end s) b) ≤ length s + 1
    by_size b true e = rw e (omega arith)
    by_size b false e = rw e (omega arith)

    by_line : (r : Result Board Fault) → left_of s (begun_by s (board_end s) r) ≤ length s + 1
    by_line (Ok b) = by_size b (is_size b.shims b.lines) refl
    by_line (Err f) = omega arith

pub one_printed : (n : ℕ) (s : List ℕ) (p : Play) (i : Item) (out out' whole : List ℕ) → (next_item s p).0 ≡ Some i → ToCome n s p out whole → out' ≡ out ++ item_bytes i
    → (m : ℕ) × ToCome m s (next_item s p).1 out' whole
one_printed zero s p i out out' whole e h w = absurd (omega (arith, falls s p i e, h.enough))
one_printed (suc n) s p i out out' whole e h w = (
  n,
  record {
    enough = omega (arith, falls s p i e, h.enough);
    bytes =
        h.bytes ∙ ap (λ o. out ++ flat_map item_bytes (option_to_list o ++ items_from n s (next_item s p).1)) e
        ∙ sym (append_assoc out (item_bytes i) (flat_map item_bytes (items_from n s (next_item s p).1)))
        ∙ ap (λ o. o ++ flat_map item_bytes (items_from n s (next_item s p).1)) (sym w);
  },
)

pub all_printed : (n : ℕ) (s : List ℕ) (p : Play) (out whole : List ℕ) → (next_item s p).0 ≡ None → ToCome n s p out whole → out ≡ whole
all_printed n s p out whole e h = sym (h.bytes ∙ ap (λ is. out ++ flat_map item_bytes is) (quiet n) ∙ append-nil out)
  where
    quiet : (k : ℕ) → items_from k s p ≡ []
    quiet zero = refl
    quiet (suc k) = ap (λ o. option_to_list o ++ items_from k s (next_item s p).1) e ∙ ap (items_from k s) (none_over s p e) ∙ over_quiet s k
