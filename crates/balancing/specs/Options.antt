-- The two options of Schedule G-BAL, written outright.
use Rattle.std.specs.Prelude.{ℕ, ◌-◌, ◌*◌, ◌/◌, true, false, cond, ◌&&◌, ℤ, pos, ◌-ℤ◌, nat_le, unsigned_abs}
use Rattle.tariff.specs.Faults.{Answer, done, refused, book_layer, no_account}
use Rattle.balancing.specs.Rules.{Rules, apart, held_within}
use Rattle.balancing.specs.declared.option.Parts.{Parts}
use Rattle.balancing.specs.declared.option.Excess.{Excess}
use Rattle.balancing.specs.declared.option.FlowOrder.{FlowOrder}
use Rattle.balancing.specs.declared.option.FlowOrder.TheVariants.{Absent, InEffect}
use Rattle.balancing.specs.declared.monthly.Tolerance.{Tolerance}
use Rattle.balancing.specs.declared.monthly.Tolerance.TheVariants.{Three, Four, Five}

-- a tolerance in percent
abbrev pub percentage : Tolerance → ℕ
percentage Three = 3
percentage Four = 4
percentage Five = 5

-- Monthly is made with a tolerance of 3 to 5 percent; any other is refused under row 1
abbrev pub tolerance_answer : ℕ → Answer ℕ
tolerance_answer t = cond (nat_le 3 t && nat_le t 5) (done t) (refused 1 book_layer no_account)

-- an imbalance s split by two bands: kept is s held within the narrow one,
-- Tier I is s held within the wide one, less kept, and Tier II is the rest
abbrev pub split_in_bands : ℕ → ℕ → ℤ → Parts
split_in_bands narrow wide s = record {
  kept = held_within narrow s;
  tier_one = held_within wide s -ℤ held_within narrow s;
  tier_two = s -ℤ held_within wide s;
}

-- Monthly balancing at t percent, of a statement's usage u and imbalance s: t percent of the usage are kept,
-- Tier I reaches to ten percent of the usage
abbrev pub monthly_split : ℕ → ℕ → ℤ → Parts
monthly_split t u s = split_in_bands (u * t / 100) (u / 10) s

-- it has no limits on a day
abbrev pub no_excess : Excess
no_excess = record { daily = 0; accumulated = 0 }

-- Self-Balancing, of a statement's monthly quantity d and imbalance s:
-- kept is s within one percent of the monthly quantity, nothing is Tier I, and Tier II is the rest
abbrev pub self_balancing_split : ℕ → ℤ → Parts
self_balancing_split d s = record { kept = held_within (d / 100) s; tier_one = pos 0; tier_two = s -ℤ held_within (d / 100) s }

-- what a day's receipts and usage are apart beyond ten percent of the usage; nothing while an order is in effect
abbrev pub day_excess : ℕ → ℕ → FlowOrder → ℕ
day_excess r u Absent = apart r u - u / 10
day_excess r u InEffect = 0

-- what the accumulated imbalance has beyond one percent of the monthly quantity, on every day
abbrev pub accumulation_excess : ℕ → ℤ → ℕ
accumulation_excess d z = unsigned_abs z - d / 100

-- both excesses of a day
abbrev pub self_balancing_excess : ℕ → ℕ → FlowOrder → ℕ → ℤ → Excess
self_balancing_excess r u f d z = record { daily = day_excess r u f; accumulated = accumulation_excess d z }

-- the two options whole: marks M (77) and S (83); only Self-Balancing earns the credit
abbrev pub monthly : ℕ → Rules
monthly t = record { mark = 77; earns_credit = false; split = λ u d s. monthly_split t u s; excess = λ r u f d z. no_excess }

abbrev pub self_balancing : Rules
self_balancing = record { mark = 83; earns_credit = true; split = λ u d s. self_balancing_split d s; excess = self_balancing_excess }
