use Rattle.std.proofs.Common.{arith}
use Rattle.std.proofs.lemmas.Nat.{pow_pos}
use Rattle.series.proofs.Digits.{zeros}
use Rattle.series.proofs.PriceSeries.new.Goals as goal

pub invariant_of-result : goal.invariant_of-result
invariant_of-result c = record {
  dayed = (c.days.ensures.value, omega arith, omega arith, pow_pos _);
  priced = (omega arith, λ k. omega (arith, zeros 31 k));
}
