use Rattle.std.proofs.Common.{Some, None, sym, refl, ap, ◌∙◌}
use Rattle.series.specs.Days.{entered, or_else}
use Rattle.series.proofs.Digits.{in_month, masked, none_upto, some_upto}
use Rattle.series.proofs.Rules.{follows}
use Rattle.series.proofs.PriceSeries.latest_day.Goals as goal

pub returns-then-upto-eq0 : goal.returns-then-upto-eq0
returns-then-upto-eq0 c =
    let s = c.args.self.now in
    let day = c.args.day in
    let fits = in_month s.published s.days s.dayed.2 s.dayed.3 in
    let upto = masked s.published day c.days_upto.result fits c.days_upto.ensures in
    let none = none_upto s.published s.prices day (sym upto ∙ c.if-upto-eq0.true) in
    record {
      within = tt;
      value = sym (ap (λ o. or_else o s.before) none);
      rule = follows s.before (entered s) day None refl none;
    }

pub returns : goal.returns
returns c =
    let s = c.args.self.now in
    let day = c.args.day in
    let fits = in_month s.published s.days s.dayed.2 s.dayed.3 in
    let upto = masked s.published day c.days_upto.result fits c.days_upto.ensures in
    let some = some_upto s.published s.prices day _ fits upto c.if-upto-eq0.false in
    record {
      within = (some.0, some.1);
      value = sym (ap (λ o. or_else o s.before) some.2);
      rule = follows s.before (entered s) day (Some _) refl some.2;
    }
