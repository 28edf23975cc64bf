use Rattle.std.proofs.Common.{arith}
use Rattle.extremes.proofs.Pass.{passed}
use Rattle.extremes.proofs.place.Goals as goal

pub returns : goal.returns
returns g c = passed g.O.Order.upto c.args.held.now c.loop-k.held c.args.x c.loop-k.carry c.loop-k.k-index c.requires (omega arith) c.loop-k.invariant
