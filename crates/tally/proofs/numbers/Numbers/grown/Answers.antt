use Rattle.std.proofs.Common.{rules}
use Rattle.tally.proofs.numbers.Numbers.grown.Goals as goal

pub returns : goal.returns
returns c = (search rules, record { least = search rules; most = search rules; past = λ h. search rules })
