-- What the loops over a text rest on: its rest at each index, and the powers of ten.
use Rattle.std.proofs.Common.{◌≡◌, ℕ, ◌+◌, ◌*◌, ◌^◌, ◌<◌, ◌≤◌, List, [], ◌∷◌, length, get_or, drop, pow-suc, add-one, lit<}
use native.Mathlib.Nat.{pow-le-pow_right}
use Rattle.std.proofs.lemmas.List.{drop_more, drop_all}

-- the rest of a list at an index is the element there and the next rest, and from the end on it is empty
abbrev pub Rests : List ℕ → Type 0
Rests xs = ((k : ℕ) → k < length xs → drop k xs ≡ get_or xs k 0 ∷ drop (k + 1) xs) × ((k : ℕ) → length xs ≤ k → drop k xs ≡ [])

pub rests : (xs : List ℕ) → Rests xs
rests xs = (λ k h. drop_more xs k 0 h, λ k h. drop_all k xs h)

-- one more digit makes ten times as many numbers, and those of twelve digits are below 10 ^ 12
abbrev pub Tens : Type 0
Tens = ((k : ℕ) → 10 ^ (k + 1) ≡ 10 ^ k * 10) × ((k : ℕ) → k ≤ 12 → 10 ^ k ≤ 10 ^ 12)

pub tens : Tens
tens = (λ k. rw add-one (pow-suc 10 k), λ k h. pow-le-pow_right {n = 10} (lit< tt) h)
