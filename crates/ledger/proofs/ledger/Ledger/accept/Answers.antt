use Rattle.std.proofs.Common.{◌≡◌, [], ◌∷◌, length, arith}
use Rattle.std.proofs.lemmas.Bool.Decides.{nat_tests}
use Rattle.register.specs.Registers.{free, Wrote}
use Rattle.register.proofs.Wrotes.{wrote_none}
use Rattle.ledger.specs.Calls.{accepting, confirmed}
use Rattle.ledger.specs.Ledgers.{offer_at}
use Rattle.ledger.proofs.ledger.Ledger.accept.Goals as goal

pub returns-in_err-poorer-clause-trades_after : goal.returns-in_err-poorer-clause-trades_after
returns-in_err-poorer-clause-trades_after c =
    let before = c.args.trades.now in
    let none : (accepting c.args.self.now c.args.taker c.args.place (length (free before))).trades ≡ [] = grind (arith, nat_tests) in
    rw none (wrote_none before)

pub returns-in_err-write-clause-trades_after : goal.returns-in_err-write-clause-trades_after
returns-in_err-write-clause-trades_after c =
    let before = c.args.trades.now in
    let none : (accepting c.args.self.now c.args.taker c.args.place (length (free before))).trades ≡ [] = grind (arith, nat_tests) in
    let same : c.write.new.self ≡ before = grind (arith, nat_tests) in
    rw (none, same) (wrote_none before)

pub returns-clause-trades_after : goal.returns-clause-trades_after
returns-clause-trades_after c =
    let before = c.args.trades.now in
    let l = c.args.self.now in
    let one : (accepting l c.args.taker c.args.place (length (free before))).trades ≡ confirmed l (offer_at l c.args.place) ∷ [] = grind (arith, nat_tests) in
    let wrote : Wrote before (confirmed l (offer_at l c.args.place) ∷ []) c.write.new.self = grind (arith, nat_tests) in
    rw one wrote
