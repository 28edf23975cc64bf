-- What the calls answer, with the rows of refusals in their order.
use Rattle.std.specs.Prelude.{ℕ, cond, not, Some, None, Option, nat_lt}
use Rattle.tariff.specs.declared.fault.Layer.TheVariants.{Card}
use Rattle.tariff.specs.declared.month.Month.{Month}
use Rattle.tariff.specs.Faults.{Answer, done, refused, layer_number, no_account}
use Rattle.tariff.specs.Months.{named, from_to}
use Rattle.series.specs.declared.PriceSeries.{PriceSeries}
use Rattle.series.specs.Days.{daily}

-- a refusal of the card layer, over no account
abbrev pub turned_down : {V : Type 0} → ℕ → Answer V
turned_down row = refused row (layer_number Card) no_account

-- the largest price, in ten-thousandths of a dollar: 1,000 dollars
abbrev pub most_price : ℕ
most_price = 10000000

-- a new series in a month, where one was named: row 1 where none was, then row 10 where the price before it passes the limit
abbrev pub opening_in : Option Month → ℕ → Answer Month
opening_in None before = turned_down 1
opening_in (Some m) before = cond (nat_lt most_price before) (turned_down 10) (done m)

-- a new series for the month that a year and a number name
abbrev pub opening : ℕ → ℕ → ℕ → Answer Month
opening year number before = opening_in (named year number) before

-- an entry: row 1 where the day is outside 1 to the month's last day, then row 10 where the price passes the limit
abbrev pub entering : ℕ → ℕ → ℕ → Answer (Unit {0})
entering days day price =
    cond (not (from_to 1 days day)) (turned_down 1) (cond (nat_lt most_price price) (turned_down 10) (done tt))

-- a day's price: row 1 where the day is outside 1 to the month's last day
abbrev pub pricing : PriceSeries → ℕ → Answer ℕ
pricing s day = cond (not (from_to 1 s.days day)) (turned_down 1) (done (daily s day))
