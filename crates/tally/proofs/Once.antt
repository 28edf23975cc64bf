-- An offer counts at most once.
use Rattle.std.proofs.Common.{◌≡◌, ℕ, false, List, length, get_or, set, ap, inl, inr}
use Rattle.std.proofs.lemmas.List.{get_or-set_same, get_or_past, length-set}
use Rattle.std.proofs.lemmas.Bool.{cases_lt, cases_Bool, cond-false}
use Rattle.tally.specs.Tallies.{Tally, Laid, nothing_laid, laid_at, spent, traded}
use Rattle.tally.specs.Promises.{AnOfferCountsOnce}

-- where nothing stands at the place, accepting changes nothing
idle : (t : Tally) (b k : ℕ) → (laid_at t k).stands ≡ false → traded t (laid_at t k) b k ≡ t
idle t b k e = cond-false (laid_at t k).stands _ t e

-- after accepting nothing stands at the place
spent_at : (os : List Laid) (k : ℕ) → (get_or (set os k (spent (get_or os k nothing_laid))) k nothing_laid).stands ≡ false
spent_at os k = elim (cases_lt k (length os)) [
  | inl h ↦ ap (λ (o : Laid). o.stands) (get_or-set_same os k (spent (get_or os k nothing_laid)) nothing_laid h)
  | inr h ↦ ap (λ (o : Laid). o.stands) (get_or_past (set os k (spent (get_or os k nothing_laid))) k nothing_laid (rw length-set h))
]

gone : (t : Tally) (a k : ℕ) → (laid_at (traded t (laid_at t k) a k) k).stands ≡ false
gone t a k = elim (cases_Bool (laid_at t k).stands) [
  | inl e ↦ rw e (spent_at t.offers k)
  | inr e ↦ rw e e
]

pub once : AnOfferCountsOnce
once t a b k ls ls' = idle (traded t (laid_at t k) a k) b k (gone t a k)
