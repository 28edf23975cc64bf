use Rattle.std.proofs.Common.{◌≡◌, ◌<◌, ◌/◌, ◌%◌, arith, rules}
use Rattle.tariff.proofs.TwoDigits.{two_digits}
use Rattle.tariff.proofs.money.CentsDisplay.fmt.Goals as goal

pub returns-clause-writes : goal.returns-clause-writes
returns-clause-writes g c p q =
    let cents = c.unsigned_abs-cents.result in
    let small : cents % 100 < 100 = omega arith in
    let tens : cents % 100 / 10 ≡ cents / 10 % 10 = omega arith in
    let ones : cents % 100 % 10 ≡ cents % 10 = omega arith in
    let written = rw (c.laid_out.ensures, two_digits (cents % 100) small, tens, ones) at (c.write.ensures.writes p q) in
    search rules
