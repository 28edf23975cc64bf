-- What `sorted` gives has the numbers of its list, each as often. Assumes nothing.
use Rattle.std.proofs.Common.{ℕ, zero, suc, ◌*◌, ◌≤◌, Bool, List, [], ◌∷◌, ◌++◌, length, get_or, take, sum, refl, subst, add-one, arith}
use Rattle.std.specs.List.Sorted.{IsPermutation}
use Rattle.std.specs.List.{All}
use Rattle.std.proofs.lemmas.Nat.{mul-le}
use Rattle.std.proofs.lemmas.List.Elements.{All-take}
use Rattle.std.proofs.lemmas.List.Sums.{sum_by-le}
use Rattle.std.proofs.lemmas.List.{take_more, take_all, length-take}
use Rattle.std.proofs.lemmas.List.Sorted.{IsPermutation-refl, IsPermutation-cons, IsPermutation-to_front, IsPermutation-swap, IsPermutation-trans, All-permutation}
use Rattle.std.proofs.lemmas.Bool.{cond_both}
use Rattle.extremes.specs.Arranged.{insert, sorted}
use Rattle.extremes.proofs.Five.{sorted_more}

module _ (upto : ℕ → ℕ → Bool) where
  insert_shuffles : (x : ℕ) (ys : List ℕ) → IsPermutation (x ∷ ys) (insert upto x ys)
  insert_shuffles x [] = IsPermutation-refl (x ∷ [])
  insert_shuffles x (y ∷ ys) =
      cond_both (upto x y) (x ∷ y ∷ ys) (y ∷ insert upto x ys) (λ l. IsPermutation (x ∷ y ∷ ys) l)
      (λ _. IsPermutation-refl (x ∷ y ∷ ys))
      (λ _. IsPermutation-trans (x ∷ y ∷ ys) (y ∷ x ∷ ys) (y ∷ insert upto x ys)
      (IsPermutation-swap (x ∷ y ∷ ys) (y ∷ x ∷ ys) 0 1 (omega arith) (omega arith) refl)
      (IsPermutation-cons y (x ∷ ys) (insert upto x ys) (insert_shuffles x ys)))

  front_shuffled : (xs : List ℕ) (i : ℕ) → i ≤ length xs → IsPermutation (take i xs) (sorted upto (take i xs))
  front_shuffled xs zero h = IsPermutation-refl []
  front_shuffled xs (suc i) h =
      let x : ℕ = get_or xs i 0 in
      let l : List ℕ = take i xs in
      let s : List ℕ = sorted upto l in
      let all = IsPermutation-trans (l ++ (x ∷ [])) (x ∷ l) (insert upto x s) (IsPermutation-to_front l x)
      (IsPermutation-trans (x ∷ l) (x ∷ s) (insert upto x s) (IsPermutation-cons x l s (front_shuffled xs i (omega arith))) (insert_shuffles x s)) in
      subst (λ n. IsPermutation (take n xs) (sorted upto (take n xs))) (add-one i) (rw (sorted_more upto xs i h, take_more xs i 0 h) all)

  pub sorted_shuffles : (xs : List ℕ) → IsPermutation xs (sorted upto xs)
  sorted_shuffles xs = subst (λ l. IsPermutation l (sorted upto l)) (take_all (length xs) xs (omega arith)) (front_shuffled xs (length xs) (omega arith))

  -- the first five of numbers up to m
  pub five_bound : (xs : List ℕ) (m : ℕ) → All (λ x. x ≤ m) xs → sum (take 5 (sorted upto xs)) ≤ 5 * m
  five_bound xs m all =
      let s : List ℕ = sorted upto xs in
      let low = sum_by-le (λ x. x) m (take 5 s) (All-take (λ x. x ≤ m) 5 s (All-permutation (λ x. x ≤ m) xs s (sorted_shuffles xs) all)) in
      let few : length (take 5 s) ≤ 5 = rw length-take (omega arith) in
      omega (arith, low, mul-le (length (take 5 s)) m 5 m few (omega arith))
