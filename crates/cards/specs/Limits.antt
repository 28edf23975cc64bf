-- The limits of prices.
use Rattle.std.specs.Prelude.{ℕ, ◌≤◌, Bool, ◌||◌, nat_lt}
use Rattle.balancing.specs.declared.cashout.TierPrices.{TierPrices}
use Rattle.cards.specs.declared.terms.Terms.{Terms}

-- a card price is at most 1,500 dollars, in millionths of a dollar
abbrev pub most_card_price : ℕ
most_card_price = 1500000000

-- the four cashout prices keep the limit
abbrev pub TiersWithinLimits : TierPrices → Type 0
TiersWithinLimits p = (p.one_over ≤ most_card_price) × (p.one_under ≤ most_card_price) × (p.two_over ≤ most_card_price) × (p.two_under ≤ most_card_price)

-- all six prices keep it
abbrev pub WithinLimits : Terms → Type 0
WithinLimits t = TiersWithinLimits t.tiers × (t.noncompliance ≤ most_card_price) × (t.credit ≤ most_card_price)

-- one of the four cashout prices passes the limit
abbrev pub past_limit : TierPrices → Bool
past_limit p = nat_lt most_card_price p.one_over || nat_lt most_card_price p.one_under || nat_lt most_card_price p.two_over || nat_lt most_card_price p.two_under
