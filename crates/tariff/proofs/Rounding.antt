-- Billed cents differ from the exact amount by at most half a cent, and a sum of bills by half a cent for each.
use Rattle.std.proofs.Common.{ℕ, ◌+◌, ℤ, pos, negsuc, ◌+ℤ◌, ◌*ℤ◌, arith}
use Rattle.std.proofs.lemmas.Int.{ints}
use Rattle.tariff.specs.Money.{nearest, Within}

pub nearest_within : (z : ℤ) → Within 5000 (nearest z *ℤ pos 10000) z
nearest_within (pos n) = (omega (arith, ints), omega (arith, ints))
nearest_within (negsuc n) = (omega (arith, ints), omega (arith, ints))

pub sum_within : (a b c d : ℤ) (m n : ℕ) → Within m (a *ℤ pos 10000) b → Within n (c *ℤ pos 10000) d → Within (m + n) ((a +ℤ c) *ℤ pos 10000) (b +ℤ d)
sum_within a b c d m n p q = (omega (arith, ints), omega (arith, ints))
