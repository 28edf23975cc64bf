use Rattle.std.proofs.Common.{◌≤◌, arith}
use Rattle.std.specs.List.{All}
use Rattle.std.proofs.lemmas.List.Elements.{All-take}
use Rattle.cards.proofs.index.points.Doubles.five.Goals as goal

pub returns-clause-bound : goal.returns-clause-bound
returns-clause-bound g c =
    let d = c.args.self.now in
    let small : All (λ x. x ≤ 20000000) c.all.result.now = rw c.all.ensures (All-take (λ x. x ≤ 20000000) d.days d.places d.limited) in
    omega (arith, rw c.unwrap.ensures at c.sum_of_five_first.ensures.bound 20000000 small)
