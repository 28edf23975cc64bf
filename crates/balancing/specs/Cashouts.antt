-- The cashout of the parts of an imbalance that are not kept.
use Rattle.std.specs.Prelude.{ℕ, cond, ℤ, pos, ◌+ℤ◌, Some, None, Option, int_lt}
use Rattle.tariff.specs.Bills.{tier_line}
use Rattle.tariff.specs.declared.bill.BillKind.TheVariants.{TierOne, TierTwo}
use Rattle.tariff.specs.declared.bill.Charge.{Charge}
use Rattle.balancing.specs.declared.cashout.Cashout.{Cashout}
use Rattle.balancing.specs.declared.cashout.TierPrices.{TierPrices}
use Rattle.balancing.specs.declared.option.Parts.{Parts}

-- gas delivered over the usage has one price, gas delivered under it another
abbrev pub tier_price : ℤ → ℕ → ℕ → ℕ
tier_price q over under = cond (int_lt q (pos 0)) under over

-- the cents of a line that may be absent
abbrev pub cents_of : Option Charge → ℤ
cents_of None = pos 0
cents_of (Some c) = c.cents.count

-- each tier's own part is billed at that tier's price, and the total adds up the lines
abbrev pub tier_one_line : TierPrices → Parts → Option Charge
tier_one_line c p = tier_line TierOne p.tier_one (tier_price p.tier_one c.one_over c.one_under)

abbrev pub tier_two_line : TierPrices → Parts → Option Charge
tier_two_line c p = tier_line TierTwo p.tier_two (tier_price p.tier_two c.two_over c.two_under)

abbrev pub cashout : TierPrices → Parts → Cashout
cashout c p = record {
  tier_one = tier_one_line c p;
  tier_two = tier_two_line c p;
  total = record { count = cents_of (tier_one_line c p) +ℤ cents_of (tier_two_line c p) };
}
