use Rattle.std.proofs.Common.{◌≡◌, ◌++◌, take, drop}
use Rattle.extremes.proofs.Pass.{pass}
use Rattle.extremes.proofs.place.Given as goal

-- what is left of the pass gives what the whole pass gives
abbrev pub invariant-loop-k : goal.invariant-loop-k
invariant-loop-k g l =
    let upto = g.O.Order.upto in
    take l.k-index l.held ++ pass upto l.carry (drop l.k-index l.held) ≡ pass upto l.x l.initial.held
