use Rattle.std.proofs.Common.{ap, map, take, ◌∙◌}
use Rattle.tally.specs.Meanings.{laid_of}
use Rattle.tally.proofs.Places.{laid_over}
use Rattle.tally.proofs.offers.Offers.put.Goals as goal

pub returns : goal.returns
returns c = ap (λ xs. map laid_of (take c.args.self.now.count xs)) c.write.ensures ∙ laid_over c.args.self.now.places c.args.self.now.count c.args.place c.args.offer.now
