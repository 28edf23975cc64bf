-- Values with the numbers 1 and 2.
use Rattle.std.specs.Prelude.{ℕ, cond, Ok, Err, Result}
use Rattle.records.specs.Refusals.{outside}
use Rattle.tariff.specs.declared.fault.NoSuch.{NoSuch}

-- the value with a number; only 1 and 2 are the number of one
abbrev pub numbered : {V : Type 0} → (ℕ → V) → ℕ → Result V NoSuch
numbered value_of n = cond (outside 1 2 n) (Err (record {})) (Ok (value_of n))
