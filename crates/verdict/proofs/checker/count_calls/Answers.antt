use Rattle.std.proofs.Common.{Ok, refl, ap, ◌∙◌, arith, rules}
use Rattle.verdict.proofs.Counts.{none_counted, after_end, after_fault, after_call, after_note, later}
use Rattle.verdict.proofs.checker.count_calls.Goals as goal

pub loop-line-init : goal.loop-line-init
loop-line-init c = (refl, omega arith, none_counted _)

pub returns-in_err-line : goal.returns-in_err-line
returns-in_err-line c =
    let n = c.next_line in
    let e = after_fault _ c.loop-line.reader.sheet n.new.self.sheet _ _ c.loop-line.invariant.2 n.result _ n.ensures.line n.ensures.sheet c.in_err-line.field-0.0 c.in_err-line.was in
    search rules

pub loop-line-preserved-in-Call : goal.loop-line-preserved-in-Call
loop-line-preserved-in-Call c =
    let n = c.next_line in
    let some = c.in_ok-line.was ∙ ap (λ x. Ok x) c.in-Some.is in
    let l = later _ c.loop-line.reader.sheet n.new.self.sheet _ _ c.loop-line.invariant.2 n.result _ n.ensures.line n.ensures.sheet c.in-Some.line some in
    let left = after_call _ c.loop-line.reader.sheet n.new.self.sheet _ _ c.loop-line.invariant.2 n.result _ n.ensures.line n.ensures.sheet c.in-Some.line c.in-Call.field-0 some c.in-Call.is in
    (n.ensures.sheet ∙ c.loop-line.invariant.0, omega (arith, l, c.loop-line.invariant.1), left)

pub loop-line-preserved : goal.loop-line-preserved
loop-line-preserved c =
    let n = c.next_line in
    let some = c.in_ok-line.was ∙ ap (λ x. Ok x) c.in-Some.is in
    let l = later _ c.loop-line.reader.sheet n.new.self.sheet _ _ c.loop-line.invariant.2 n.result _ n.ensures.line n.ensures.sheet c.in-Some.line some in
    let left = after_note _ c.loop-line.reader.sheet n.new.self.sheet _ _ c.loop-line.invariant.2 n.result _ n.ensures.line n.ensures.sheet c.in-Some.line c.in_default-line.field-0 some c.in_default-line.is in
    (n.ensures.sheet ∙ c.loop-line.invariant.0, omega (arith, l, c.loop-line.invariant.1), left)

pub returns : goal.returns
returns c =
    let n = c.next_line in
    let e = after_end _ c.loop-line.reader.sheet n.new.self.sheet _ _ c.loop-line.invariant.2 n.result _ n.ensures.line n.ensures.sheet (c.in_ok-line.was ∙ ap (λ x. Ok x) c.in_default.is) in
    search rules
