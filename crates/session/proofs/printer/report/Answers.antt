use Rattle.std.proofs.Common.{◌≡◌, ℕ, ◌+◌, ◌<◌, List, length, vec_items, Option, sym, ap, ◌∙◌, subst}
use Rattle.std.specs.Option.{option_map}
use Rattle.session.specs.Items.{Item}
use Rattle.session.specs.Meaning.{play_of, item_of}
use Rattle.session.specs.Playing.{Play, started, next_item, printed_by}
use Rattle.session.proofs.Reports.{ToCome, left_of, falls, all_to_come, one_printed, all_printed}
use Rattle.session.proofs.printer.report.Goals as goal

-- an item told of the same sheet by another name
of_same : (s t : List ℕ) (p : Play) (o : Option Item) → t ≡ s → o ≡ (next_item t p).0 → (next_item s p).0 ≡ o
of_same s t p o same e = ap (λ u. (next_item u p).0) (sym same) ∙ sym e

pub loop-printed-init : goal.loop-printed-init
loop-printed-init c =
    let s = c.args.sheet.now in
    let n = length s + 1 in (
      ap (λ x. x.now) c.new-session.ensures.sheet,
      (
        n,
        subst (λ (p : Play). ToCome n s p (vec_items c.new-out.result) (printed_by s)) (sym c.new-session.ensures.play)
            (subst (λ out. ToCome n s (started s) out (printed_by s)) (sym c.new-out.ensures.items) (all_to_come s)),
      ),
    )

pub loop-printed-smaller : goal.loop-printed-smaller
loop-printed-smaller c =
    let s = c.args.sheet.now in
    let p = play_of c.loop-printed.session in
    let same = c.loop-printed.invariant.0 in
    subst (λ q. left_of s q < left_of s p) (sym (c.in-Some.ensures.left ∙ ap (λ t. (next_item t p).1) same)) (falls s p _ (of_same s _ p _ same c.in-Some.ensures.item))

pub loop-printed-preserved : goal.loop-printed-preserved
loop-printed-preserved c =
    let s = c.args.sheet.now in
    let p = play_of c.loop-printed.session in
    let same = c.loop-printed.invariant.0 in
    let h = c.loop-printed.invariant.1 in (
      ap (λ x. x.now) c.in-Some.ensures.sheet ∙ same,
      subst (λ q. (m : ℕ) × ToCome m s q (vec_items c.write.new.out) (printed_by s)) (sym (c.in-Some.ensures.left ∙ ap (λ t. (next_item t p).1) same))
          (one_printed h.0 s p _ _ _ _ (of_same s _ p _ same c.in-Some.ensures.item) h.1 c.in_ok-write.ensures.bytes),
    )

pub returns-clause-printed : goal.returns-clause-printed
returns-clause-printed c =
    let s = c.args.sheet.now in
    let h = c.loop-printed.invariant.1 in
    all_printed h.0 s (play_of c.loop-printed.session) _ _ (of_same s _ _ _ c.loop-printed.invariant.0 (ap (option_map item_of) (sym c.in_default.is) ∙ c.next.ensures.item)) h.1
