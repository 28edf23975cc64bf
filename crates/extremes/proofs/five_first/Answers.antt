use Rattle.std.proofs.Common.{◌≡◌, ◌≤◌, length, take, sum, sym, ap, ◌∙◌, subst, arith}
use Rattle.std.proofs.lemmas.List.{take_all}
use Rattle.extremes.specs.Arranged.{Ascending, InOrder, sorted}
use Rattle.extremes.proofs.Five.{ascending_take, sorted_ascends}
use Rattle.extremes.proofs.Shuffles.{sorted_shuffles, five_bound}
use Rattle.extremes.proofs.OneOrder.{one_order}
use Rattle.extremes.proofs.five_first.Goals as goal

pub join-count-requires-clause-ascending : goal.join-count-requires-clause-ascending
join-count-requires-clause-ascending g c =
    let u = g.O.Order.upto in
    let so-far = take c.loop-x.x-index c.args.xs.now in
    subst (Ascending u) (sym c.loop-x.invariant.2) (ascending_take u 5 (sorted u so-far) (sorted_ascends u g.met.O.Order.total so-far))

pub returns : goal.returns
returns g c =
    let u = g.O.Order.upto in
    let met = g.met.O.Order in
    let xs = c.args.xs.now in
    let l = c.loop-x in
    let full : length l.held ≤ l.count = omega arith in
    let five : l.held ≡ take 5 (sorted u xs) = sym (take_all l.count l.held full) ∙ l.invariant.2 ∙ ap (λ ys. take 5 (sorted u ys)) (take_all l.x-index xs c.loop-x-test.false) in
    let order : InOrder u xs (sorted u xs) = (sorted_shuffles u xs, sorted_ascends u met.total xs) in
    record {
      five = five;
      order = order;
      any_order = λ ys o. five ∙ ap (take 5) (one_order u met.total met.chain met.same xs (sorted u xs) ys order o);
      bound = λ m all. omega (arith, ap sum five, five_bound u xs m all);
    }
