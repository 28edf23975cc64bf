use Rattle.std.proofs.Common.{arith}
use Rattle.std.proofs.lemmas.List.{at_drop_all}
use Rattle.std.proofs.lemmas.Int.{ints}
use Rattle.tally.specs.Tallies.{cashed_out}
use Rattle.tally.proofs.Lines.{cashed_more}
use Rattle.tally.proofs.gas.cashed_out.Goals as goal

pub loop-line-preserved : goal.loop-line-preserved
loop-line-preserved c =
    let more = cashed_more c.args.lines.now c.loop-line.line-index c.cashed_by.result c.loop-line-test.true c.cashed_by.ensures in
    (omega (arith, ints, c.loop-line.invariant.0, more), omega (arith, ints, c.loop-line.invariant.1))

pub returns : goal.returns
returns c =
    let none = at_drop_all cashed_out c.args.lines.now c.loop-line.line-index (omega arith) in
    record { value = omega (arith, ints, c.loop-line.invariant.0, none); bound = omega (arith, ints, c.loop-line.invariant.1) }
