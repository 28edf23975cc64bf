use Rattle.std.proofs.Common.{ℕ, pos, neg_ℤ, sym, refl, ap, ◌∙◌, subst, arith}
use Rattle.std.proofs.lemmas.Result.{MatchResult-from_err}
use Rattle.std.proofs.lemmas.Int.{ints}
use Rattle.tally.specs.Limits.{Kept}
use Rattle.tally.specs.Tallies.{added}
use Rattle.tally.specs.Meanings.{numbers_of, offers_of}
use Rattle.tally.specs.Steps.{placed}
use Rattle.tally.proofs.Algebra.{added_back, placed_traded, given_here, taken_here}
use Rattle.tally.proofs.tally.Tally.trade.Goals as goal

pub returns-then-giver-taker : goal.returns-then-giver-taker
returns-then-giver-taker c =
    let n = numbers_of c.args.self.now.numbers in
    let q = pos c.args.quantity in
    λ i. record {
      number =
          (added_back c.args.taker q n
          ∙ ap (λ (g : ℕ). added c.args.taker q (added g (neg_ℤ q) n)) (sym c.if-giver-taker.true))
          i;
      offers = offers_of c.args.self.now.offers;
    }

pub returns-in_err-less : goal.returns-in_err-less
returns-in_err-less c =
    let n = numbers_of c.args.self.now.numbers in
    let g = c.args.giver in
    let here = given_here g c.args.taker (pos c.args.quantity) n c.if-giver-taker.false in
    MatchResult-from_err _ _ _ c.from_residual.ensures.0 (λ _. (refl, λ os f. c.in_err-less.ensures (subst (Kept g) (here ∙ omega (arith, ints)) (f.numbers g))))

pub returns-in_err-more : goal.returns-in_err-more
returns-in_err-more c =
    let n = numbers_of c.args.self.now.numbers in
    let k = c.args.taker in
    let here = taken_here c.args.giver k (pos c.args.quantity) n c.if-giver-taker.false in
    MatchResult-from_err _ _ _ c.from_residual-in_err-more.ensures.0 (λ _. (refl, λ os f. c.in_err-more.ensures (subst (Kept k) (here ∙ omega (arith, ints)) (f.numbers k))))

pub returns : goal.returns
returns c =
    let n = numbers_of c.args.self.now.numbers in
    let v = c.in_ok-less.ensures in
    let w = c.in_ok-more.ensures in
    λ i. record {
      number =
          (c.put-2.ensures
          ∙ ap (placed c.args.taker _) c.put.ensures
          ∙ placed_traded
          c.args.giver
          c.args.taker
          (pos c.args.quantity)
          _
          _
          n
          c.if-giver-taker.false
          (omega (arith, ints, v.0, v.1))
          (omega (arith, ints, w.0, w.1)))
          i;
      offers = offers_of c.args.self.now.offers;
    }
