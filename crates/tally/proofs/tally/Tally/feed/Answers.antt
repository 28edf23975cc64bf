use Rattle.tally.proofs.tally.Tally.feed.Goals as goal

pub returns-in-Accept : goal.returns-in-Accept
returns-in-Accept c = rw c.in-Accept.is c.accept.ensures
