-- Numbers and offers as they lie in arrays.
use Rattle.std.proofs.Common.{◌≡◌, ℕ, zero, suc, ◌+◌, List, [], ◌∷◌, map, get_or, take, set, replicate, ℤ, pos, ◌+ℤ◌, refl, ap, ◌∙◌, add-one}
use Rattle.std.proofs.lemmas.List.{map-set}
use Rattle.tally.specs.Meanings.{together, laid_of}
use Rattle.tally.specs.declared.offers.Laid.{Laid as Offer}

-- no number is in an array of zeros
pub none_held : (k a : ℕ) → get_or (replicate k (pos 0)) a (pos 0) ≡ pos 0
none_held zero a = refl
none_held (suc k) zero = refl
none_held (suc k) (suc a) = none_held k a

-- one account more
pub together_more : (k : ℕ) (n : ℕ → ℤ) → together (k + 1) n ≡ together k n +ℤ n k
unfolding together
together_more k n = rw (add-one k)

pub together_none : (n : ℕ → ℤ) → pos 0 ≡ together 0 n
unfolding together
together_none n = refl

-- another offer at a place
pub laid_over : (xs : List Offer) (c k : ℕ) (o : Offer) → map laid_of (take c (set xs k o)) ≡ set (map laid_of (take c xs)) k (laid_of o)
laid_over xs c k o = ap (map laid_of) (take_over c k xs) ∙ map-set laid_of (take c xs) k o where
  take_over : (c k : ℕ) (xs : List Offer) → take c (set xs k o) ≡ set (take c xs) k o
  take_over zero k xs = refl
  take_over (suc c) k [] = refl
  take_over (suc c) zero (x ∷ xs) = refl
  take_over (suc c) (suc k) (x ∷ xs) = ap (λ (l : List Offer). x ∷ l) (take_over c k xs)
