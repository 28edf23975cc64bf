use Rattle.std.proofs.Common.{◌∙◌}
use Rattle.extremes.proofs.Lead.{found_foremost, found_is, found_bound}
use Rattle.extremes.proofs.first.Goals as goal

pub returns : goal.returns
returns g c =
    let u = g.O.Order.upto in
    let met = g.met.O.Order in
    let xs = c.args.xs.now in
    let is = c.found_in.ensures in
    record {
      value = is ∙ found_is u met.total met.chain met.same xs;
      foremost = rw is (found_foremost u met.total met.chain xs);
      bound = λ m all. rw is (found_bound u m xs all);
    }
