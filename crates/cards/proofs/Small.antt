-- What weighed prices come to at most.
use Rattle.std.proofs.Common.{ℕ, ◌+◌, ◌*◌, ◌/◌, ◌<◌, ◌≤◌, arith}
use Rattle.std.proofs.lemmas.Nat.{mul-le, div_below}

-- a sum of ten prices times a supply amount
pub product_small : (sum supply : ℕ) → sum ≤ 100000000 → sum * supply ≤ 100000000 * supply
product_small sum supply h = mul-le sum supply 100000000 supply h (omega arith)

-- an average of prices passes no limit that they keep
pub average_small : (whole parts : ℕ) → 0 < parts → whole ≤ 10000000 * parts → (2 * whole + parts) / (2 * parts) ≤ 10000000
average_small whole parts some h =
    let below : (2 * whole + parts) / (2 * parts) < 10000001 = div_below (2 * whole + parts) (2 * parts) 10000001 (omega arith) (omega arith) in
    omega arith
