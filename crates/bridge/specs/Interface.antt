-- What the C interface answers, by the definitions of the crates below it.
use Rattle.std.specs.Prelude.{◌≡◌, ℕ, ◌+◌, ◌-◌, ◌*◌, ◌^◌, Bool, true, false, ℤ, pos, negsuc, Some, None, Option}
use Rattle.tariff.specs.Bills.{kind_number, charge}
use Rattle.tariff.specs.Faults.{Answer, done, refused}
use Rattle.tariff.specs.Months.{from_to, year_of, number_of, days_in, following, preceding}
use Rattle.tariff.specs.declared.bill.BillKind.{BillKind}
use Rattle.tariff.specs.declared.month.Month.{Month}
use Rattle.balancing.specs.Options.{monthly_split}
use Rattle.balancing.specs.declared.option.Excess.{Excess}
use Rattle.balancing.specs.declared.option.FlowOrder.{FlowOrder}
use Rattle.balancing.specs.declared.option.FlowOrder.TheVariants.{Absent, InEffect}
use Rattle.balancing.specs.declared.option.Parts.{Parts}
use Rattle.decimal.specs.declared.Decimals.{Decimals}
use Rattle.decimal.specs.declared.Decimals.TheVariants.{Four, Six}
use Rattle.bridge.specs.declared.DayExcess.{DayExcess}
use Rattle.bridge.specs.declared.SplitParts.{SplitParts}

-- the days of a month, and 0 where there is no month
abbrev pub month_days : Option Month → ℕ
month_days None = 0
month_days (Some m) = days_in m

-- the month after and the month before, where there is a month to start from
abbrev pub month_after : Option Month → Option Month
month_after None = None
month_after (Some m) = following m

abbrev pub month_before : Option Month → Option Month
month_before None = None
month_before (Some m) = preceding m

-- a month as one number, as 202603 for March 2026, and 0 where there is no month
abbrev pub month_code : Option Month → ℕ
month_code None = 0
month_code (Some m) = year_of m * 100 + number_of m

-- parts and excesses in the layout of C
abbrev pub laid_out : Parts → SplitParts
laid_out p = record { kept = p.kept; tier_one = p.tier_one; tier_two = p.tier_two }

abbrev pub excess_laid_out : Excess → DayExcess
excess_laid_out e = record { daily = e.daily; accumulated = e.accumulated }

-- whether a tolerance was accepted
abbrev pub accepted : Answer ℕ → Bool
accepted (done t) = true
accepted (refused row layer account) = false

-- what a split under Monthly leaves, of a usage u and an imbalance s: its parts at the tolerance that was accepted,
-- and what stood there before where the tolerance was refused
abbrev pub monthly_parts : Answer ℕ → ℕ → ℤ → SplitParts → SplitParts
monthly_parts (done t) u s old = laid_out (monthly_split t u s)
monthly_parts (refused row layer account) u s old = old

-- whether a flow order is in effect
abbrev pub order_of : Bool → FlowOrder
order_of true = InEffect
order_of false = Absent

-- r is the cents billed for a quantity q at a price p under the kind that has the number n;
-- where no kind has it, r is the least signed number of 64 bits
abbrev pub Billed : ℕ → ℤ → ℕ → ℤ → Type 0
Billed n q p r = ((k : BillKind) → kind_number k ≡ n → r ≡ (charge k q p).cents.count) × (from_to 1 5 n ≡ false → r ≡ negsuc (2 ^ 63 - 1))

-- six decimals, or four
abbrev pub decimals_of : Bool → Decimals
decimals_of true = Six
decimals_of false = Four

-- an amount that was read, and -1 where there was none
abbrev pub amount_read : Option ℕ → ℤ
amount_read None = negsuc 0
amount_read (Some n) = pos n
