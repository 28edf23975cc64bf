-- Closing: what it bills on a page, and how it turns the page.
use Rattle.std.specs.Prelude.{ℕ, suc, Bool, false, cond, not, ◌&&◌, List, [], ◌∷◌, ◌++◌, pos, ◌==◌}
use Rattle.tariff.specs.declared.bill.BillKind.TheVariants.{DailyExcess, AccumulatedExcess, Credit}
use Rattle.tariff.specs.Bills.{tier_line}
use Rattle.balancing.specs.Rules.{Rules}
use Rattle.cards.specs.declared.terms.Terms.{Terms}
use Rattle.records.specs.declared.lines.BillLine.{BillLine}
use Rattle.page.specs.Pages.{is_open, basis, nothing_posted}
use Rattle.page.specs.Settling.{line_of}
use Rattle.records.specs.declared.account.Election.{Election}
use Rattle.records.specs.declared.account.Election.TheVariants.{First, Second}
use Rattle.page.specs.declared.closing.Credits.{Credits}
use Rattle.page.specs.declared.page.Page.{Page}

-- whether the accounts of the first and of the second option earn the credit
abbrev pub credits_of : Rules → Rules → Credits
credits_of f s = record { first = f.earns_credit; second = s.earns_credit }

abbrev pub earned : Credits → Election → Bool
earned k First = k.first
earned k Second = k.second

-- the usage on which the credit is given: the month's, for options that earn it
abbrev pub credited : Credits → Page → ℕ
credited k p = cond (earned k p.election) p.month.usage 0

-- the bill lines of the account a: both sums of excesses at noncompliance, then the credit; none of quantity 0
abbrev pub closing_lines : Terms → Credits → ℕ → Page → List BillLine
closing_lines t k a p = cond (is_open p)
    (line_of a t.month (tier_line DailyExcess (pos p.posted.daily_excess) t.noncompliance)
    ++ (line_of a t.month (tier_line AccumulatedExcess (pos p.posted.accumulated_excess) t.noncompliance)
    ++ line_of a t.month (tier_line Credit (pos (credited k p)) t.credit)))
    []

-- the bill lines of all accounts from a on, in order
abbrev pub all_lines : Terms → Credits → ℕ → List Page → List BillLine
all_lines t k a [] = []
all_lines t k a (p ∷ ps) = closing_lines t k a p ++ all_lines t k (suc a) ps

-- a page after closing: the statement takes the running imbalance, which takes what was carried; the month starts anew, unsettled
abbrev pub turned : Page → Page
turned p = cond (is_open p) (record {
  status = p.status;
  kind = p.kind;
  election = p.election;
  settled = false;
  gas = record { running = p.gas.carried; statement = p.gas.running; operating = p.gas.operating; carryover = p.gas.carryover; carried = pos 0 };
  month = basis 0 p.month.monthly_quantity;
  posted = nothing_posted;
  statement = p.month;
}) p

-- a page with days missing, and one that is not settled
abbrev pub behind : ℕ → Page → Bool
behind days p = is_open p && not (p.posted.day == days)

abbrev pub unsettled : Page → Bool
unsettled p = is_open p && not p.settled
