-- What an agent is quoted before its imbalance is traded or cashed out.
use Rattle.std.specs.Prelude.{◌≡◌, ℕ, ◌+◌, ◌*◌, ℤ, pos, ◌+ℤ◌, ◌*ℤ◌, Some, None, Option}
use Rattle.tariff.specs.Bills.{amount_due}
use Rattle.balancing.specs.Cashouts.{tier_price, cashout}
use Rattle.tariff.specs.Money.{Within}
use Rattle.balancing.specs.Rules.{Rules}
use Rattle.tariff.specs.declared.bill.BillKind.TheVariants.{TierOne, TierTwo}
use Rattle.tariff.specs.declared.bill.Charge.{Charge}
use Rattle.balancing.specs.declared.cashout.TierPrices.{TierPrices}
use Rattle.balancing.specs.declared.option.Parts.{Parts}
use Rattle.quote.specs.declared.Quote.{Quote}
use Rattle.balancing.specs.declared.option.Statement.{Statement}

-- the parts of a statement's imbalance under an option
abbrev pub parts_of : Rules → Statement → Parts
parts_of o s = o.split s.usage s.monthly_quantity s.imbalance

-- the parts under the option, and their cashout at the prices
abbrev pub quoted : Rules → Statement → TierPrices → Quote
quoted o s p = record { parts = parts_of o s; cashout = cashout p (parts_of o s) }

-- no gas is lost: what is kept and what is cashed out make up the imbalance
abbrev pub Whole : Statement → Quote → Type 0
Whole s q = (q.parts.kept +ℤ q.parts.tier_one) +ℤ q.parts.tier_two ≡ s.imbalance

-- what parts come to, exactly: each tier's part at that tier's price
abbrev pub due : TierPrices → Parts → ℤ
due p x =
    amount_due TierOne x.tier_one (tier_price x.tier_one p.one_over p.one_under)
    +ℤ amount_due TierTwo x.tier_two (tier_price x.tier_two p.two_over p.two_under)

-- how many lines a cashout has
abbrev pub line_count : Option Charge → ℕ
line_count None = 0
line_count (Some c) = 1

-- the total differs from what is due by at most half a cent for each line
abbrev pub HalfACentALine : TierPrices → Quote → Type 0
HalfACentALine p q =
    Within ((line_count q.cashout.tier_one + line_count q.cashout.tier_two) * 5000) (q.cashout.total.count *ℤ pos 10000) (due p q.parts)
