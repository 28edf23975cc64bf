use Rattle.std.proofs.Common.{◌≡◌, ◌*◌, ◌^◌, ◌≤◌, drop, ◌+ℤ◌, nat_abs}
use Rattle.tally.specs.Tallies.{cashed_out}
use Rattle.tally.proofs.gas.cashed_out.Given as goal

-- what is counted and what is left make all, and each line counted adds at most 63 bits
abbrev pub invariant-loop-line : goal.invariant-loop-line
invariant-loop-line l =
    (l.sum +ℤ cashed_out (drop l.line-index l.lines) ≡ cashed_out l.lines)
    × (nat_abs l.sum ≤ l.line-index * 2 ^ 63)
