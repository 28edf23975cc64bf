use Rattle.std.proofs.Common.{ℕ, refl, ap, ◌∙◌, subst, arith}
use Rattle.std.proofs.lemmas.Result.{MatchResult-from_err}
use Rattle.std.proofs.lemmas.Int.{ints}
use Rattle.tally.specs.Limits.{Kept}
use Rattle.tally.specs.Tallies.{added, emptied}
use Rattle.tally.specs.Meanings.{numbers_of, offers_of}
use Rattle.tally.proofs.Algebra.{placed_added, emptied_added, folded_here}
use Rattle.tally.proofs.tally.Tally.carry.Goals as goal

pub returns-then-member-agent : goal.returns-then-member-agent
returns-then-member-agent c =
    let n = numbers_of c.args.self.now.numbers in
    let m = c.args.member in
    λ i. record {
      number = (emptied_added m (n m) n ∙ ap (λ (a : ℕ). emptied m (added a (n m) n)) c.if-member-agent.true) i;
      offers = offers_of c.args.self.now.offers;
    }

pub returns-in_err-sum : goal.returns-in_err-sum
returns-in_err-sum c =
    let n = numbers_of c.args.self.now.numbers in
    let m = c.args.member in
    let a = c.args.agent in
    let here = folded_here m a (n m) n c.if-member-agent.false in
    MatchResult-from_err _ _ _ c.from_residual.ensures.0 (λ _. (refl, λ f. c.in_err-sum.ensures (subst (Kept a) (here ∙ omega (arith, ints)) (f.numbers a))))

pub returns : goal.returns
returns c =
    let n = numbers_of c.args.self.now.numbers in
    let m = c.args.member in
    let v = c.in_ok-sum.ensures in
    λ i. record {
      number = emptied m ((c.put.ensures ∙ placed_added c.args.agent (n m) _ n (omega (arith, ints, v.0, v.1))) i);
      offers = offers_of c.args.self.now.offers;
    }
