-- One pass over numbers in order, which carries a number on from place to place. Assumes nothing.
use Rattle.std.proofs.Common.{◌≡◌, ℕ, ◌+◌, ◌<◌, ◌≤◌, Bool, true, false, cond, List, [], ◌∷◌, ◌++◌, length, get_or, take, drop, set, refl, ap, ◌∙◌, ⊎_elim, arith}
use Rattle.std.proofs.lemmas.List.{append_assoc, take_more, set-get_or, take_more_set, drop-set-lt, drop_more, take_all, drop_all}
use Rattle.std.proofs.lemmas.Bool.{cases_Bool}
use Rattle.extremes.specs.Arranged.{insert, Ascending}

module _ (upto : ℕ → ℕ → Bool) where
  -- what the pass leaves, with the number that is carried out of it last
  abbrev pub pass : ℕ → List ℕ → List ℕ
  pass c [] = c ∷ []
  pass c (y ∷ ys) = cond (upto c y) (c ∷ pass y ys) (y ∷ pass c ys)

  -- a turn of the pass leaves what it gives in the end as it was: where it takes the number at its place, and where it keeps it
  pub pass_takes : (xs : List ℕ) (i c : ℕ) → i < length xs → upto c (get_or xs i 0) ≡ true → take (i + 1) (set xs i c) ++ pass (get_or xs i 0) (drop (i + 1) (set xs i c)) ≡ take i xs ++ pass c (drop i xs)
  pass_takes xs i c h t =
      let lt : i < i + 1 = omega arith in
      rw (take_more_set xs i c h, drop-set-lt (i + 1) xs i c lt, append_assoc, drop_more xs i 0 h, t)

  pub pass_keeps : (xs : List ℕ) (i c : ℕ) → i < length xs → upto c (get_or xs i 0) ≡ false → take (i + 1) (set xs i (get_or xs i 0)) ++ pass c (drop (i + 1) (set xs i (get_or xs i 0))) ≡ take i xs ++ pass c (drop i xs)
  pass_keeps xs i c h f = rw (set-get_or, take_more xs i 0 h, append_assoc, drop_more xs i 0 h, f)

  pass_front : (y : ℕ) (ys : List ℕ) → Ascending upto (y ∷ ys) → pass y ys ≡ y ∷ ys
  pass_front y [] h = refl
  pass_front y (z ∷ zs) h = rw h.0 (ap (λ l. y ∷ l) (pass_front z zs h.1))

  pass_insert : (x : ℕ) (ys : List ℕ) → Ascending upto ys → pass x ys ≡ insert upto x ys
  pass_insert x [] h = refl
  pass_insert x (y ∷ ys) h =
      ⊎_elim
      (λ t. rw t (ap (λ l. x ∷ l) (pass_front y ys h)))
      (λ f. rw f (ap (λ l. y ∷ l) (pass_insert x ys h.1)))
      (cases_Bool (upto x y))

  -- at the end of the pass
  pub passed : (before after : List ℕ) (x c i : ℕ) → Ascending upto before → length after ≤ i → take i after ++ pass c (drop i after) ≡ pass x before → after ++ (c ∷ []) ≡ insert upto x before
  passed before after x c i up end e = rw (take_all i after end, drop_all i after end) at e ∙ pass_insert x before up
