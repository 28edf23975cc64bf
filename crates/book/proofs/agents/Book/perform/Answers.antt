use Rattle.std.proofs.Common.{length}
use Rattle.register.specs.Registers.{free}
use Rattle.ledger.specs.Calls.{folding, settling}
use Rattle.book.proofs.Untouched.{unwritten}
use Rattle.book.proofs.agents.Book.perform.Goals as goal

pub returns-in-Fold-clause-bills_after : goal.returns-in-Fold-clause-bills_after
returns-in-Fold-clause-bills_after g c =
    rw c.in-Fold.is (unwritten (folding c.args.self.now.ledger c.in-Fold.member c.in-Fold.agent).answer c.args.bills.now)

pub returns-in-Fold-clause-trades_after : goal.returns-in-Fold-clause-trades_after
returns-in-Fold-clause-trades_after g c =
    rw c.in-Fold.is (unwritten (folding c.args.self.now.ledger c.in-Fold.member c.in-Fold.agent).answer c.args.trades.now)

pub returns-in-Settle-clause-trades_after : goal.returns-in-Settle-clause-trades_after
returns-in-Settle-clause-trades_after g c =
    let f = g.A.BalancingOption.rules c.args.self.now.first in
    let s = g.B.BalancingOption.rules c.args.self.now.second in
    let t = g.C.Card.meaning c.args.cards.now.settling in
    rw c.in-Settle.is (unwritten (settling f s t c.args.self.now.ledger c.in-Settle.account c.in-Settle.clear (length (free c.args.bills.now))).answer c.args.trades.now)
