use Rattle.std.proofs.Common.{sym, subst}
use Rattle.quote.specs.Quotes.{parts_of, Whole, HalfACentALine}
use Rattle.quote.specs.declared.Quote.{Quote}
use Rattle.quote.proofs.Totals.{total_near}
use Rattle.quote.proofs.Quote.new.Goals as goal

pub returns : goal.returns
returns g c =
    let o = g.O.BalancingOption.rules c.args.option.now in
    let s = c.args.statement.now in
    let p = c.args.prices.now in
    let back = sym c.split_and_cash_out.ensures in
    record {
      value = c.split_and_cash_out.ensures;
      no_gas_is_lost = subst (λ (q : Quote). Whole s q) back ((g.met.O.BalancingOption.sound c.args.option.now).parts_add_up s.usage s.monthly_quantity s.imbalance);
      half_a_cent_a_line = subst (λ (q : Quote). HalfACentALine p q) back (total_near p (parts_of o s));
    }
