-- Worked figures of the written rules, each beside its rule's definition.
use Rattle.std.specs.Prelude.{◌≡◌, ℕ, ℤ, pos, neg_ℤ}
use Rattle.balancing.specs.Cashouts.{tier_one_line, cents_of}
use Rattle.balancing.specs.Options.{monthly, self_balancing}
use Rattle.cards.specs.Index.{dollars}
use Rattle.balancing.specs.declared.option.FlowOrder.{FlowOrder}
use Rattle.balancing.specs.declared.option.FlowOrder.TheVariants.{Absent, InEffect}
use Rattle.balancing.specs.declared.option.Parts.{Parts}

-- kept, Tier I and Tier II
abbrev pub parts : ℤ → ℤ → ℤ → Parts
parts kept one two = record { kept = kept; tier_one = one; tier_two = two }

-- n Dth delivered under the usage
abbrev pub under : ℕ → ℤ
under n = neg_ℤ (pos n)

-- Monthly at 5 percent, with any monthly quantity d
pub record MonthlyFigures : Type 0 where
  pub whole_band_is_kept : (d : ℕ) → (monthly 5).split 1000 d (pos 50) ≡ parts (pos 50) (pos 0) (pos 0)
  pub past_the_band_is_tier_one : (d : ℕ) → (monthly 5).split 1000 d (pos 51) ≡ parts (pos 50) (pos 1) (pos 0)
  pub ten_percent_under_is_tier_one : (d : ℕ) → (monthly 5).split 1000 d (under 100) ≡ parts (under 50) (under 50) (pos 0)
  pub past_ten_percent_is_tier_two : (d : ℕ) → (monthly 5).split 1000 d (under 101) ≡ parts (under 50) (under 50) (under 1)
  pub no_usage_keeps_nothing : (d : ℕ) → (monthly 5).split 0 d (pos 7) ≡ parts (pos 0) (pos 0) (pos 7)
  pub small_usage_keeps_nothing : (d : ℕ) → (monthly 5).split 19 d (pos 1) ≡ parts (pos 0) (pos 1) (pos 0)

-- Self-Balancing, with any usage u, and a day with any monthly quantity d and accumulated imbalance z
pub record SelfBalancingFigures : Type 0 where
  pub past_one_percent_is_tier_two : (u : ℕ) → self_balancing.split u 1200 (under 13) ≡ parts (under 12) (pos 0) (under 1)
  pub ten_percent_of_a_day_is_allowed : (d : ℕ) (z : ℤ) → (self_balancing.excess 1100 1000 Absent d z).daily ≡ 0
  pub past_ten_percent_of_a_day : (d : ℕ) (z : ℤ) → ((self_balancing.excess 1101 1000 Absent d z).daily ≡ 1) × ((self_balancing.excess 1101 1000 InEffect d z).daily ≡ 0)
  pub past_one_percent_accumulated : (r u : ℕ) (f : FlowOrder) → (self_balancing.excess r u f 1200 (pos 15)).accumulated ≡ 3

-- three Dth of Tier I, delivered over the usage, at 1.255 dollars come to 376.5 cents, paid to the agent, whatever the other
-- prices and parts are
pub record MoneyFigures : Type 0 where
  pub half_a_cent_goes_away_from_zero : (u v w : ℕ) (k t : ℤ) → cents_of (tier_one_line (record { one_over = 1255000; one_under = u; two_over = v; two_under = w }) (parts k (pos 3) t)) ≡ neg_ℤ (pos 377)

-- Citygate's price in whole dollars: a ten-thousandth above 4 dollars makes 5
pub record CardFigures : Type 0 where
  pub citygate_is_rounded_up : (dollars 40001 ≡ 5) × (dollars 40000 ≡ 4)

-- the table: twelve figures
pub record WorkedFigures : Type 0 where
  pub monthly_balancing : MonthlyFigures
  pub self_balancing_days : SelfBalancingFigures
  pub money : MoneyFigures
  pub cards : CardFigures
