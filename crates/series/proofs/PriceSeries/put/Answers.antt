use Rattle.std.proofs.Common.{refl, arith, rules}
use Rattle.series.proofs.Digits.{held_entered, bits_fit, set_fits}
use Rattle.series.proofs.PriceSeries.put.Goals as goal

pub invariant_of-self : goal.invariant_of-self
invariant_of-self c =
    let s = c.args.self.now in record {
      dayed = (s.dayed.0, s.dayed.1, s.dayed.2, omega (arith, bits_fit s.published s.days c.args.day (omega arith) (omega arith) s.dayed.3));
      priced = (s.priced.0, set_fits 10000000 s.prices _ c.args.price s.priced.1 (omega arith));
    }

pub returns : goal.returns
returns c =
    let s = c.args.self.now in
    record {
      month = refl;
      before = refl;
      entries = λ d. rw c.with_day-self.ensures (held_entered s.published s.prices c.args.day c.args.price (omega arith) (search rules) d);
    }
