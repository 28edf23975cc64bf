-- The fixed card.
use Rattle.std.specs.Prelude.{ℕ, cond, Some, None, Option}
use Rattle.tariff.specs.Faults.{Answer, done, refused, card_layer, no_account}
use Rattle.tariff.specs.Months.{named}
use Rattle.tariff.specs.declared.month.Month.{Month}
use Rattle.balancing.specs.declared.cashout.TierPrices.{TierPrices}
use Rattle.cards.specs.Limits.{past_limit}
use Rattle.cards.specs.declared.terms.Terms.{Terms}

-- the terms of a month with four cashout prices: noncompliance costs 1 dollar, the credit pays half a cent, for each Dth
abbrev pub fixed_terms : Month → TierPrices → Terms
fixed_terms m p = record { month = m; tiers = p; noncompliance = 1000000; credit = 5000 }

-- refused under row 1 where there is no such month, then under row 10 where a price passes the limit
abbrev pub fixed_card_of : Option Month → TierPrices → Answer Terms
fixed_card_of None p = refused 1 card_layer no_account
fixed_card_of (Some m) p = cond (past_limit p) (refused 10 card_layer no_account) (done (fixed_terms m p))

-- the card of the month that a year and a number name
abbrev pub fixed_card : ℕ → ℕ → TierPrices → Answer Terms
fixed_card year number p = fixed_card_of (named year number) p
