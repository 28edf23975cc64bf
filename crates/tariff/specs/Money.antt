-- Exact amounts and billed cents.
use Rattle.std.specs.Prelude.{ℕ, suc, ◌+◌, ◌/◌, ◌%◌, cond, List, [], ◌∷◌, ◌++◌, ℤ, pos, negsuc, ◌+ℤ◌, ◌*ℤ◌, neg_ℤ, ◌≤ℤ◌, decimal, int_lt, unsigned_abs}

-- the exact amount of a quantity at a price, in ten-thousandths of a cent
abbrev pub exact : ℤ → ℕ → ℤ
exact quantity price = quantity *ℤ pos price

-- the nearest whole cent of such an amount, a half going away from zero
abbrev pub nearest : ℤ → ℤ
nearest (pos n) = pos ((n + 5000) / 10000)
nearest (negsuc n) = neg_ℤ (pos ((suc n + 5000) / 10000))

-- a and b differ by at most n
abbrev pub Within : ℕ → ℤ → ℤ → Type 0
Within n a b = (a ≤ℤ (b +ℤ pos n)) × (b ≤ℤ (a +ℤ pos n))

-- billed cents as they are printed: a hyphen before what is paid to the agent, the dollars, a point, and the cents in two digits
abbrev pub sign_text : ℤ → List ℕ
sign_text z = cond (int_lt z (pos 0)) (45 ∷ []) []

abbrev pub cents_text : ℤ → List ℕ
cents_text z = sign_text z ++ (decimal (unsigned_abs z / 100) ++ (46 ∷ (decimal (unsigned_abs z / 10 % 10) ++ decimal (unsigned_abs z % 10))))
