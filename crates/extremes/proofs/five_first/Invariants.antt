use Rattle.std.proofs.Common.{◌≡◌, min, length, take}
use Rattle.extremes.specs.Arranged.{sorted}
use Rattle.extremes.proofs.five_first.Given as goal

-- what is held is the first five of the numbers so far
abbrev pub invariant-loop-x : goal.invariant-loop-x
invariant-loop-x g l =
    let upto = g.O.Order.upto in
    (l.count ≡ min l.x-index 5) × (length l.held ≡ 5) × (take l.count l.held ≡ take 5 (sorted upto (take l.x-index l.xs)))
