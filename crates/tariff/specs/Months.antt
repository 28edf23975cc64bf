-- The calendar: months from January 2000 to December 2099.
use Rattle.std.specs.Prelude.{◌≡◌, ℕ, ◌+◌, ◌-◌, ◌*◌, ◌/◌, ◌%◌, Bool, false, cond, ◌&&◌, List, [], ◌∷◌, ◌++◌, IfSome, Some, None, decimal, Option, ◌==◌, nat_le, slice_index}
use Rattle.tariff.specs.declared.month.Month.{Month}

-- the month that comes n months after January 2000
abbrev pub since : ℕ → Month
since n = record { index = n }

-- n lies from a to b
abbrev pub from_to : ℕ → ℕ → ℕ → Bool
from_to a b n = nat_le a n && nat_le n b

-- the month with a number from 1 to 12 of a year from 2000 to 2099; no other pair names a month
abbrev pub named : ℕ → ℕ → Option Month
named year number =
    cond (from_to 2000 2099 year && from_to 1 12 number) (Some (since ((year - 2000) * 12 + (number - 1)))) None

-- its year, and its number in the year: January is 1
abbrev pub year_of : Month → ℕ
year_of m = 2000 + m.index / 12

abbrev pub number_of : Month → ℕ
number_of m = m.index % 12 + 1

-- a month that was named has this year and this number
abbrev pub ReadsBack : ℕ → ℕ → Option Month → Type 0
ReadsBack year number r = IfSome r (λ m. (year_of m ≡ year) × (number_of m ≡ number))

-- both are one month
abbrev pub same_month : Month → Month → Bool
same_month m n = m.index == n.index

-- the days of January to December; February has one more in years divisible by four
abbrev pub lengths : List ℕ
lengths = 31 ∷ 28 ∷ 31 ∷ 30 ∷ 31 ∷ 30 ∷ 31 ∷ 31 ∷ 30 ∷ 31 ∷ 30 ∷ 31 ∷ []

abbrev pub days_in : Month → ℕ
days_in m = cond (number_of m == 2 && year_of m % 4 == 0) 29 (slice_index lengths (number_of m - 1))

-- the month after: January follows December, and nothing follows December 2099
abbrev pub following : Month → Option Month
following m = cond (number_of m == 12) (named (year_of m + 1) 1) (named (year_of m) (number_of m + 1))

-- the month before: nothing comes before January 2000
abbrev pub preceding : Month → Option Month
preceding m = cond (number_of m == 1) (named (year_of m - 1) 12) (named (year_of m) (number_of m - 1))

-- the month n comes next after m
abbrev pub same_as : Option Month → Month → Bool
same_as None n = false
same_as (Some k) n = same_month k n

abbrev pub follows : Month → Month → Bool
follows m n = same_as (following m) n

-- as it is printed: the year, a hyphen, and the number in two digits
abbrev pub month_text : Month → List ℕ
month_text m = decimal (year_of m) ++ (45 ∷ (decimal (number_of m / 10) ++ decimal (number_of m % 10)))
