use Rattle.std.proofs.Common.{◌≡◌, ◌+ℤ◌, arith, to_z, of_z}
use mir.Syntax.{w128}
use Rattle.std.proofs.lemmas.List.{at_drop_more, at_drop_all}
use Rattle.std.proofs.lemmas.Int.{ints, to_z-of_z}
use Rattle.page.specs.Pages.{blank}
use Rattle.dues.specs.Dues.{all_due}
use Rattle.dues.proofs.due_in.Goals as goal

pub overflow_add-total : goal.overflow_add-total
overflow_add-total c = grind (arith, ints, to_z-of_z)

pub loop-page-preserved : goal.loop-page-preserved
loop-page-preserved c =
    let total = c.loop-page.total in
    let due = c.due_at_closing-total.result in
    let sum : to_z w128 (of_z w128 (total +ℤ to_z w128 (of_z w128 due))) ≡ total +ℤ due = grind (arith, ints, to_z-of_z) in
    let more = at_drop_more (all_due c.args.terms.now c.args.credits.now) c.args.pages.now c.loop-page.page-index blank (omega arith) in
    (grind (arith, ints, to_z-of_z), omega (arith, ints, sum, more, c.due_at_closing-total.ensures.value, c.loop-page.invariant.1))

pub returns : goal.returns
returns c =
    let none = at_drop_all (all_due c.args.terms.now c.args.credits.now) c.args.pages.now c.loop-page.page-index (omega arith) in
    omega (arith, ints, none, c.loop-page.invariant.1)
