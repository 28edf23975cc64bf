-- What was published of a month, and what each day's price is.
use Rattle.std.specs.Prelude.{◌≡◌, ℕ, zero, suc, ◌+◌, ◌-◌, ◌/◌, ◌%◌, ◌^◌, ◌<◌, ◌≤◌, cond, ◌⊎◌, List, Some, None, Option, ◌==◌, slice_index}
use Rattle.tariff.specs.declared.month.Month.{Month}
use Rattle.series.specs.declared.PriceSeries.{PriceSeries}

-- the month of a series
abbrev pub month_of : PriceSeries → Month
month_of s = s.month

-- how many days that month has
abbrev pub days_of : PriceSeries → ℕ
days_of s = s.days

-- what bits and prices hold for a day: day 1 has the lowest bit and the first price; there is no day 0
abbrev pub held : ℕ → List ℕ → ℕ → Option ℕ
held bits prices zero = None
held bits prices (suc k) = cond (bits / 2 ^ k % 2 == 1) (Some (slice_index prices k)) None

-- the price that was entered for a day, if one was; such a day is published
abbrev pub entered : PriceSeries → ℕ → Option ℕ
entered s = held s.published s.prices

-- one day where there is an entry, else none
abbrev pub one_if : Option ℕ → ℕ
one_if (Some p) = 1
one_if None = 0

-- how many of the first days have an entry
abbrev pub published_upto : (ℕ → Option ℕ) → ℕ → ℕ
published_upto entries zero = 0
published_upto entries (suc k) = one_if (entries (suc k)) + published_upto entries k

-- an entry, or another where there is none
abbrev pub if_none : Option ℕ → Option ℕ → Option ℕ
if_none (Some p) other = Some p
if_none None other = other

-- the entry's price, or another where there is none
abbrev pub or_else : Option ℕ → ℕ → ℕ
or_else (Some p) other = p
or_else None other = other

-- the price of the last published day not after a day, if there is one: its own entry, or else the latest of the day before
abbrev pub latest : (ℕ → Option ℕ) → ℕ → Option ℕ
latest entries zero = None
latest entries (suc k) = if_none (entries (suc k)) (latest entries k)

-- the price entered for a published day, or the price before the month where there is none
abbrev pub price_at : PriceSeries → Option ℕ → ℕ
price_at s (Some day) = slice_index s.prices (day - 1)
price_at s None = s.before

-- A day's price: the price of the last published day not after it, or else the price before the month.
abbrev pub daily : PriceSeries → ℕ → ℕ
daily s day = or_else (latest (entered s) day) s.before

-- The same as a relation: a published day not after the day has this price, and no day between has an entry; or no day up to it has one, and
-- the price is the one before the month.
abbrev pub Rule : PriceSeries → ℕ → ℕ → Type 0
Rule s day price =
    ((k : ℕ) × (k ≤ day) × (entered s k ≡ Some price) × ((j : ℕ) → k < j → j ≤ day → entered s j ≡ None))
    ⊎ (((j : ℕ) → j ≤ day → entered s j ≡ None) × (price ≡ s.before))
