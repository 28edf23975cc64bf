-- What the running tally can hold.
use Rattle.std.specs.Prelude.{◌≡◌, ℕ, ◌-◌, ◌*◌, ◌^◌, ◌≤◌, length, ℤ, pos, neg_ℤ, ◌≤ℤ◌, ◌<ℤ◌}
use Rattle.tally.specs.Tallies.{Tally}

-- a number that has a place: one of 64 bits for the accounts below 64, and 0 for any other account
pub record Kept (account : ℕ) (z : ℤ) : Type 0 where
  pub least : neg_ℤ (pos (2 ^ 63)) ≤ℤ z
  pub most : z <ℤ pos (2 ^ 63)
  pub past : 64 ≤ account → z ≡ pos 0

-- a tally that the running tally can be: every number has a place, and there are at most 128 offers
pub record Fits (t : Tally) : Type 0 where
  pub numbers : (a : ℕ) → Kept a (t.number a)
  pub offers : length t.offers ≤ 128

-- no call moves more: it wrote fewer than 2^64 lines, none of more than 2^63
abbrev pub most_moved : ℕ
most_moved = (2 ^ 64 - 1) * 2 ^ 63
