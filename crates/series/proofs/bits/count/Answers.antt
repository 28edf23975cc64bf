use Rattle.series.proofs.Digits.{all_counted}
use Rattle.series.proofs.bits.count.Goals as goal

pub returns : goal.returns
returns c prices last h = all_counted c.args.days prices last h
