use Rattle.std.proofs.Common.{◌≡◌, ◌≤◌, length, ap, arith, length-take, rules}
use Rattle.std.proofs.lemmas.List.Sorted.{length_permutation}
use Rattle.extremes.specs.Arranged.{sorted}
use Rattle.extremes.proofs.sum_of_five_first.Goals as goal

pub returns : goal.returns
returns g c =
    let five = c.five_first-five in
    let xs = c.args.xs.now in
    let s = sorted g.O.Order.upto xs in
    let five-long : length five.result ≡ 5 = search rules in
    let enough : 5 ≤ length xs = omega (arith, ap length five.ensures.five, length-take 5 s, length_permutation xs s five.ensures.order.0) in
    record {
      value = search rules;
      order = five.ensures.order;
      any_order = search rules;
      bound = λ m all. omega (arith, five.ensures.bound m all);
    }
