-- A list put in order, and its first number. An order is a test `upto`, which says of two numbers whether the first comes no later than the second. Assumes nothing.
use Rattle.std.specs.Prelude.{◌≡◌, ℕ, Bool, true, cond, List, [], ◌∷◌, fold}
use Rattle.std.specs.List.Sorted.{IsPermutation}
use Rattle.std.specs.List.{All, Contains}

-- a number put into a list that is in order: before the first one that it may stand before, or else at the end
abbrev pub insert : (ℕ → ℕ → Bool) → ℕ → List ℕ → List ℕ
insert upto x [] = x ∷ []
insert upto x (y ∷ ys) = cond (upto x y) (x ∷ y ∷ ys) (y ∷ insert upto x ys)

-- the list put in order: starting from the empty list, its numbers are put in one after the other
abbrev pub sorted : (ℕ → ℕ → Bool) → List ℕ → List ℕ
sorted upto xs = fold (λ ys x. insert upto x ys) [] xs

-- x comes no later than the first number of a list; of an empty list this says nothing
abbrev pub Leads : (ℕ → ℕ → Bool) → ℕ → List ℕ → Type 0
Leads upto x [] = Unit {0}
Leads upto x (y ∷ ys) = upto x y ≡ true

-- a list is in order: each number comes no later than the next
abbrev pub Ascending : (ℕ → ℕ → Bool) → List ℕ → Type 0
Ascending upto [] = Unit {0}
Ascending upto (x ∷ xs) = Leads upto x xs × Ascending upto xs

-- ys is xs put in order: it has the same numbers, each as often, and is in order
abbrev pub InOrder : (ℕ → ℕ → Bool) → List ℕ → List ℕ → Type 0
InOrder upto xs ys = IsPermutation xs ys × Ascending upto ys

-- x is one of the numbers of xs, and comes no later than any of them
abbrev pub Foremost : (ℕ → ℕ → Bool) → List ℕ → ℕ → Type 0
Foremost upto xs x = Contains xs x × All (λ y. upto x y ≡ true) xs
