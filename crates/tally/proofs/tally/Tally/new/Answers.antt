use Rattle.std.proofs.Common.{rules}
use Rattle.tally.proofs.Once.{once}
use Rattle.tally.proofs.tally.Tally.new.Goals as goal

pub returns : goal.returns
returns c = record { starts_empty = search rules; an_offer_counts_once = once }
