use Rattle.runs.proofs.Totals.{gas_on_all_pages}
use Rattle.runs.proofs.Tallies.{gas_on_each_page, offers_stand_alike}
use Rattle.runs.proofs.Offers.{offers_count_once}
use Rattle.runs.proofs.Money.{half_a_cent_a_line}
use Rattle.book.proofs.agents.law_stands.Goals as goal

pub returns : goal.returns
returns g c =
    let f = g.met.A.BalancingOption.sound c.args.first.now in
    let s = g.met.B.BalancingOption.sound c.args.second.now in
    record {
      gas_on_all_pages = gas_on_all_pages _ _ f s;
      gas_on_each_page = gas_on_each_page _ _ f s;
      offers_count_once = offers_count_once;
      offers_stand_alike = offers_stand_alike _ _ f s;
      half_a_cent_a_line = half_a_cent_a_line _ _;
    }
