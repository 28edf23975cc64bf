-- The limits on quantities, in Dth.
use Rattle.std.specs.Prelude.{ℕ, Bool, ◌||◌, ℤ, ◌+ℤ◌, nat_lt, unsigned_abs}

-- a quantity further from 0 than a hundred million
abbrev pub past : ℤ → Bool
past q = nat_lt 100000000 (unsigned_abs q)

-- a quantity, or what is held with it, passes the limit
abbrev pub past_together : ℤ → ℤ → Bool
past_together held q = past q || past (held +ℤ q)

-- the most of a day's receipts or usage, of a month's usage or monthly quantity, and of a sum of excesses
abbrev pub most_a_day : ℕ
most_a_day = 3000000

abbrev pub most_a_month : ℕ
most_a_month = 100000000

abbrev pub most_excess : ℕ
most_excess = 3100000000
