-- The index card: from published prices to six card prices.
-- Published prices are in ten-thousandths of a dollar for each Dth, card prices in millionths.
use Rattle.std.specs.Prelude.{ℕ, zero, suc, ◌+◌, ◌*◌, ◌/◌, min, max, Bool, cond, not, ◌&&◌, ◌||◌, List, [], ◌∷◌, ◌++◌, take, sum, ◌==◌, nat_le, nat_lt, slice_index}
use Rattle.tariff.specs.Faults.{Answer, done, refused, card_layer, no_account}
use Rattle.tariff.specs.Months.{same_month}
use Rattle.balancing.specs.declared.cashout.TierPrices.{TierPrices}
use Rattle.series.specs.Days.{daily, days_of, month_of}
use Rattle.series.specs.declared.PriceSeries.{PriceSeries}
use Rattle.extremes.specs.Arranged.{sorted}
use Rattle.cards.specs.declared.terms.Terms.{Terms}
use Rattle.cards.specs.declared.index.published.Published.{Published}
use Rattle.cards.specs.declared.index.working.Point.{Point}
use Rattle.cards.specs.declared.index.working.Working.{Working}

-- a day's double adds up what both services have for the day; these are the doubles of day 1 to day n
abbrev pub doubled : (ℕ → ℕ) → (ℕ → ℕ) → ℕ → List ℕ
doubled p q zero = []
doubled p q (suc n) = doubled p q n ++ ((p (suc n) + q (suc n)) ∷ [])

-- the doubles of all days of a month at a point with two services
abbrev pub doubles_of : PriceSeries → PriceSeries → List ℕ
doubles_of a b = doubled (daily a) (daily b) (days_of a)

-- the smaller first, the larger first
abbrev pub rising : ℕ → ℕ → Bool
rising x y = nat_le x y

abbrev pub falling : ℕ → ℕ → Bool
falling x y = nat_le y x

-- a month's doubles: the sums of the five smallest and of the five largest, and the smallest and the largest
abbrev pub point_over : List ℕ → Point
point_over doubles = record {
  low = sum (take 5 (sorted rising doubles));
  high = sum (take 5 (sorted falling doubles));
  smallest = slice_index (sorted rising doubles) 0;
  largest = slice_index (sorted falling doubles) 0;
}

-- a point with two services
abbrev pub point_of : PriceSeries → PriceSeries → Point
point_of a b = point_over (doubles_of a b)

-- the whole number nearest to x / d, a half going up
abbrev pub nearest_up : ℕ → ℕ → ℕ
nearest_up x d = (2 * x + d) / (2 * d)

-- sums of ten prices at Malin and at Topock, weighed by the supply amounts m and n, as one price
abbrev pub weighted : ℕ → ℕ → ℕ → ℕ → ℕ
weighted malin m topock n = nearest_up (malin * m + topock * n) (10 * (m + n))

-- the highest price of day 1 to day n
abbrev pub highest : (ℕ → ℕ) → ℕ → ℕ
highest p zero = 0
highest p (suc n) = max (highest p n) (p (suc n))

-- whole dollars of a published price, rounded up
abbrev pub dollars : ℕ → ℕ
dollars p = (p + 9999) / 10000

-- what a clerk checks by hand: both points, the weighted low and high, Citygate's highest price and its whole dollars
abbrev pub working_of : Published → Working
working_of x = record {
  malin = point_of x.malin_a x.malin_b;
  topock = point_of x.topock_a x.topock_b;
  weighted_low = weighted (point_of x.malin_a x.malin_b).low x.malin_supply (point_of x.topock_a x.topock_b).low x.topock_supply;
  weighted_high = weighted (point_of x.malin_a x.malin_b).high x.malin_supply (point_of x.topock_a x.topock_b).high x.topock_supply;
  citygate_high = max (highest (daily x.citygate) (days_of x.citygate)) x.citygate_index;
  citygate_dollars = dollars (max (highest (daily x.citygate) (days_of x.citygate)) x.citygate_index);
}

-- Tier I: 75 percent of the lower of bid-week index and weighted low, 125 percent of the higher of bid-week index and weighted high.
-- Tier II: 50 percent of the smallest daily average of both services at either point, 150 percent of the largest; a double is twice that average.
abbrev pub tiers_of : ℕ → Working → TierPrices
tiers_of bid w = record {
  one_over = 75 * min bid w.weighted_low;
  one_under = 125 * max bid w.weighted_high;
  two_over = 25 * min w.malin.smallest w.topock.smallest;
  two_under = 75 * max w.malin.largest w.topock.largest;
}

-- noncompliance costs half of Citygate's dollars; the credit pays 5.81 cents
abbrev pub index_terms : Published → Terms
index_terms x = record {
  month = month_of x.citygate;
  tiers = tiers_of x.bid_week (working_of x);
  noncompliance = 500000 * (working_of x).citygate_dollars;
  credit = 58100;
}

-- the five series are of one month
abbrev pub one_month : Published → Bool
one_month x =
    same_month (month_of x.malin_a) (month_of x.citygate)
    && same_month (month_of x.malin_b) (month_of x.citygate)
    && same_month (month_of x.topock_a) (month_of x.citygate)
    && same_month (month_of x.topock_b) (month_of x.citygate)

-- an index past 1,000 dollars, or a supply amount past 100,000,000 Dth
abbrev pub past_limits : Published → Bool
past_limits x = nat_lt 10000000 x.bid_week || nat_lt 10000000 x.citygate_index || nat_lt 100000000 x.malin_supply || nat_lt 100000000 x.topock_supply

-- both supply amounts are 0
abbrev pub no_supply : Published → Bool
no_supply x = x.malin_supply == 0 && x.topock_supply == 0

-- refused under row 6 for series of unlike months, then row 10, then row 15 where both supply amounts are 0;
-- else the card's terms and its working
abbrev pub index_card : Published → Answer (Terms × Working)
index_card x =
    cond (not (one_month x)) (refused 6 card_layer no_account)
    (cond (past_limits x) (refused 10 card_layer no_account)
    (cond (no_supply x) (refused 15 card_layer no_account) (done (index_terms x, working_of x))))
