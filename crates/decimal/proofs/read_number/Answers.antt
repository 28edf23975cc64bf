use Rattle.std.proofs.Common.{refl, arith}
use Rattle.decimal.proofs.Readings.{rests, tens}
use Rattle.decimal.proofs.read_number.Goals as goal

-- Only the start of the loop is answered. The search closes the turn and the returns from the invariant.
pub loop-b-init : goal.loop-b-init
loop-b-init c = (omega arith, refl, refl, rests c.args.digits.now, tens)
