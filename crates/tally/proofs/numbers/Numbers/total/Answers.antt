use Rattle.std.proofs.Common.{arith}
use Rattle.std.proofs.lemmas.Int.{ints}
use Rattle.tally.specs.Meanings.{numbers_of}
use Rattle.tally.proofs.Places.{together_none, together_more}
use Rattle.tally.proofs.numbers.Numbers.total.Goals as goal

pub loop-number-init : goal.loop-number-init
loop-number-init c = (together_none (numbers_of c.args.self.now), omega arith)

pub loop-number-preserved : goal.loop-number-preserved
loop-number-preserved c =
    let more = together_more c.loop-number.number-index (numbers_of c.args.self.now) in
    (omega (arith, ints, c.loop-number.invariant.0, more), omega (arith, ints, c.loop-number.invariant.1))
