use Rattle.std.proofs.Common.{◌≡◌, ◌*◌, ◌^◌, ◌≤◌, nat_abs}
use Rattle.tally.specs.Meanings.{numbers_of, together}
use Rattle.tally.proofs.numbers.Numbers.total.Given as goal

abbrev pub invariant-loop-number : goal.invariant-loop-number
invariant-loop-number l = (l.sum ≡ together l.number-index (numbers_of l.self)) × (nat_abs l.sum ≤ l.number-index * 2 ^ 63)
