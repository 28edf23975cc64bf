use Rattle.std.proofs.Common.{◌<◌, arith}
use Rattle.tariff.specs.Months.{number_of}
use Rattle.tariff.proofs.TwoDigits.{two_digits}
use Rattle.tariff.proofs.month.MonthDisplay.fmt.Goals as goal

pub returns-clause-writes : goal.returns-clause-writes
returns-clause-writes g c p q =
    let small : number_of c.args.self.now < 100 = omega arith in
    rw (c.laid_out.ensures, c.number-number.ensures, c.year-year.ensures.value, two_digits (number_of c.args.self.now) small) at (c.write.ensures.writes p q)
