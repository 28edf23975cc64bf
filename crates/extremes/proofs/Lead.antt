-- The number of a list that comes first, found by one pass that keeps the one that comes first so far. Assumes nothing.
use Rattle.std.proofs.Common.{◌≡◌, ℕ, ◌<◌, ◌≤◌, Bool, true, false, cond, List, [], ◌∷◌, length, get_or, fold, Some, None, MatchOption, nat_eq, ap, refl, ⊎_elim, arith}
use Rattle.std.specs.List.{All, Contains, reduce}
use Rattle.std.proofs.lemmas.List.Elements.{All-get_or, All-contains, All-contains_itself, All-weaker, All-nil, All-cons, All-head, All-tail}
use Rattle.std.proofs.lemmas.List.Sorted.{length_permutation, All-permutation, Contains-permutation}
use Rattle.std.proofs.lemmas.Bool.{cases_Bool, cond_both, ne_eqb}
use Rattle.extremes.specs.Arranged.{Ascending, Foremost, sorted}
use Rattle.extremes.proofs.Five.{sorted_ascends}
use Rattle.extremes.proofs.Shuffles.{sorted_shuffles}

module _ (upto : ℕ → ℕ → Bool) where
  -- the one that comes first of a and the numbers of a list
  abbrev lead : ℕ → List ℕ → ℕ
  lead a xs = fold (λ b x. cond (upto x b) x b) a xs

  -- what holds of each of the numbers holds of the one that comes first
  lead_keeps : (P : ℕ → Type 0) (a : ℕ) (xs : List ℕ) → P a → All P xs → P (lead a xs)
  lead_keeps P a [] p all = p
  lead_keeps P a (x ∷ xs) p all =
      lead_keeps P (cond (upto x a) x a) xs (cond_both (upto x a) x a P (λ _. All-head P x xs all) (λ _. p)) (All-tail P x xs all)

  -- a bound of all the numbers bounds the one found
  pub found_bound : (m : ℕ) (xs : List ℕ) → All (λ x. x ≤ m) xs → MatchOption (reduce (λ b x. cond (upto x b) x b) xs) (length xs ≡ 0) (λ x. x ≤ m)
  found_bound m [] all = refl
  found_bound m (x ∷ xs) all = lead_keeps (λ y. y ≤ m) x xs (All-head (λ y. y ≤ m) x xs all) (All-tail (λ y. y ≤ m) x xs all)

  module _ (total : (x y : ℕ) → upto x y ≡ false → upto y x ≡ true) (chain : (x y z : ℕ) → upto x y ≡ true → upto y z ≡ true → upto x z ≡ true) where
    itself : (x : ℕ) → upto x x ≡ true
    itself x = ⊎_elim (λ t. t) (λ f. total x x f) (cases_Bool (upto x x))

    lead_first : (a : ℕ) (xs : List ℕ) → All (λ y. upto (lead a xs) y ≡ true) (a ∷ xs)
    lead_first a [] = All-cons (λ y. upto a y ≡ true) a [] (itself a) (All-nil (λ y. upto a y ≡ true))
    lead_first a (x ∷ xs) =
        let b : ℕ = cond (upto x a) x a in
        let l : ℕ = lead b xs in
        let P : ℕ → Type 0 = λ y. upto l y ≡ true in
        let first : P b = All-head P b xs (lead_first b xs) in
        let to-a : upto b a ≡ true = cond_both (upto x a) x a (λ v. upto v a ≡ true) (λ t. t) (λ _. itself a) in
        let to-x : upto b x ≡ true = cond_both (upto x a) x a (λ v. upto v x ≡ true) (λ _. itself x) (λ f. total x a f) in
        All-cons P a (x ∷ xs) (chain l b a first to-a) (All-cons P x xs (chain l b x first to-x) (All-tail P b xs (lead_first b xs)))

    lead_foremost : (a : ℕ) (xs : List ℕ) → Foremost upto (a ∷ xs) (lead a xs)
    lead_foremost a xs =
        let P : ℕ → Type 0 = Contains (a ∷ xs) in
        let here : All P (a ∷ xs) = All-contains_itself (a ∷ xs) in
        (lead_keeps P a xs (All-head P a xs here) (All-tail P a xs here), lead_first a xs)

    -- of a list, the one found is one of it that comes first, and nothing is found in an empty list alone
    pub found_foremost : (xs : List ℕ) → MatchOption (reduce (λ b x. cond (upto x b) x b) xs) (length xs ≡ 0) (λ x. Foremost upto xs x)
    found_foremost [] = refl
    found_foremost (x ∷ xs) = lead_foremost x xs

    -- the first of a list in order comes no later than the others
    first_of_ascending : (ys : List ℕ) → Ascending upto ys → All (λ y. upto (get_or ys 0 0) y ≡ true) ys
    first_of_ascending [] h = All-nil (λ y. upto 0 y ≡ true)
    first_of_ascending (y ∷ []) h = All-cons (λ w. upto y w ≡ true) y [] (itself y) (All-nil (λ w. upto y w ≡ true))
    first_of_ascending (y ∷ z ∷ zs) h =
        All-cons (λ w. upto y w ≡ true) y (z ∷ zs) (itself y)
        (All-weaker (λ w. upto z w ≡ true) (λ w. upto y w ≡ true) (λ w t. chain y z w h.0 t) (z ∷ zs) (first_of_ascending (z ∷ zs) h.1))

    -- the number that comes first is the first of the list in order
    foremost_is : ((x y : ℕ) → upto x y ≡ true → upto y x ≡ true → x ≡ y) → (xs : List ℕ) (x : ℕ) → Foremost upto xs x → x ≡ get_or (sorted upto xs) 0 0
    foremost_is same xs x h =
        let s : List ℕ = sorted upto xs in
        let shuffled = sorted_shuffles upto xs in
        let some : 0 < length s = omega (arith, length_permutation xs s shuffled, h.0.1) in
        let to = All-get_or (λ y. upto x y ≡ true) s 0 0 some (All-permutation (λ y. upto x y ≡ true) xs s shuffled h.1) in
        let fro = All-contains (λ y. upto (get_or s 0 0) y ≡ true) s x (first_of_ascending s (sorted_ascends upto total xs)) (Contains-permutation xs s x shuffled h.0) in
        same x (get_or s 0 0) to fro

    -- so the one found is the first of the list in order
    pub found_is : ((x y : ℕ) → upto x y ≡ true → upto y x ≡ true → x ≡ y) → (xs : List ℕ) → reduce (λ b x. cond (upto x b) x b) xs ≡ cond (nat_eq (length xs) 0) None (Some (get_or (sorted upto xs) 0 0))
    found_is same [] = refl
    found_is same (x ∷ xs) =
        let some : nat_eq (length (x ∷ xs)) 0 ≡ false = ne_eqb (length (x ∷ xs)) 0 (λ e. absurd (omega (arith, e))) in
        rw some (ap Some (foremost_is same (x ∷ xs) (lead x xs) (lead_foremost x xs)))
