use Rattle.std.proofs.Common.{refl, ◌∙◌, subst, arith}
use Rattle.std.proofs.lemmas.Result.{MatchResult-from_err}
use Rattle.std.proofs.lemmas.Int.{ints}
use Rattle.tally.specs.Limits.{Kept}
use Rattle.tally.specs.Meanings.{numbers_of, offers_of}
use Rattle.tally.proofs.Algebra.{added_here, placed_added}
use Rattle.tally.proofs.tally.Tally.count.Goals as goal

pub returns-in_err-number : goal.returns-in_err-number
returns-in_err-number c =
    let a = c.args.account in
    let here = added_here a c.args.by (numbers_of c.args.self.now.numbers) in
    MatchResult-from_err _ _ _ c.from_residual.ensures.0 (λ _. (refl, λ f. c.in_err-number.ensures (subst (Kept a) (here ∙ omega (arith, ints)) (f.numbers a))))

pub returns : goal.returns
returns c =
    let n = numbers_of c.args.self.now.numbers in
    let v = c.in_ok-number.ensures in
    λ i. record {
      number = (c.put.ensures ∙ placed_added c.args.account c.args.by _ n (omega (arith, ints, v.0, v.1))) i;
      offers = offers_of c.args.self.now.offers;
    }
