use Rattle.tally.proofs.Places.{none_held}
use Rattle.tally.proofs.numbers.Numbers.new.Goals as goal

pub returns : goal.returns
returns c = rw c.zeros.ensures (λ i a. none_held 64 a i)
