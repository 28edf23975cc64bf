-- The first few of a list in order, as one more number joins it. Assumes nothing.
use Rattle.std.proofs.Common.{◌≡◌, ℕ, zero, suc, ◌+◌, ◌<◌, Bool, true, false, List, [], ◌∷◌, ◌++◌, length, get_or, take, set, fold, sym, ap, ◌∙◌, arith}
use Rattle.std.proofs.lemmas.List.{take_more_set, take_all, take_at, length_push}
use Rattle.std.proofs.lemmas.List.Sums.{fold_more}
use Rattle.std.proofs.lemmas.Bool.{cond_both}
use Rattle.extremes.specs.Arranged.{insert, sorted, Leads, Ascending}

module _ (upto : ℕ → ℕ → Bool) where
  -- p are the numbers held after a pass, in n places, and r is the one carried out of it: there is a place left for r
  pub one_more : (r n : ℕ) (p rest : List ℕ) → length p ≡ n → n < 5 → n < length (p ++ rest) → take (n + 1) (set (p ++ rest) n r) ≡ take 5 (p ++ (r ∷ []))
  one_more r n p rest len small within =
      take_more_set (p ++ rest) n r within ∙ ap (λ l. l ++ (r ∷ [])) (take_at p rest n len) ∙ sym (take_all 5 (p ++ (r ∷ [])) (omega (arith, length_push p r)))

  -- there is none
  pub none_left : (r : ℕ) (p rest : List ℕ) → length p ≡ 5 → take 5 (p ++ rest) ≡ take 5 (p ++ (r ∷ []))
  none_left r p rest len = take_at p rest 5 len ∙ sym (take_at p (r ∷ []) 5 len)

  pub sorted_more : (xs : List ℕ) (i : ℕ) → i < length xs → sorted upto (take (i + 1) xs) ≡ insert upto (get_or xs i 0) (sorted upto (take i xs))
  sorted_more xs i h = fold_more (λ ys x. insert upto x ys) [] xs i 0 h

  pub ascending_take : (n : ℕ) (xs : List ℕ) → Ascending upto xs → Ascending upto (take n xs)
  ascending_take zero xs h = tt
  ascending_take (suc n) [] h = tt
  ascending_take (suc n) (x ∷ xs) h = (leads n xs h.0, ascending_take n xs h.1)
    where
      leads : (n : ℕ) (ys : List ℕ) → Leads upto x ys → Leads upto x (take n ys)
      leads zero ys l = tt
      leads (suc n) [] l = tt
      leads (suc n) (y ∷ ys) l = l

  module _ (total : (x y : ℕ) → upto x y ≡ false → upto y x ≡ true) where
    leads_insert : (y x : ℕ) (ys : List ℕ) → upto y x ≡ true → Leads upto y ys → Leads upto y (insert upto x ys)
    leads_insert y x [] t l = t
    leads_insert y x (z ∷ zs) t l = cond_both (upto x z) (x ∷ z ∷ zs) (z ∷ insert upto x zs) (λ v. Leads upto y v) (λ _. t) (λ _. l)

    ascending_insert : (x : ℕ) (ys : List ℕ) → Ascending upto ys → Ascending upto (insert upto x ys)
    ascending_insert x [] h = (tt, tt)
    ascending_insert x (y ∷ ys) h =
        cond_both (upto x y) (x ∷ y ∷ ys) (y ∷ insert upto x ys) (Ascending upto)
        (λ t. (t, h))
        (λ f. (leads_insert y x ys (total x y f) h.0, ascending_insert x ys h.1))

    ascending_folded : (ys xs : List ℕ) → Ascending upto ys → Ascending upto (fold (λ l x. insert upto x l) ys xs)
    ascending_folded ys [] h = h
    ascending_folded ys (x ∷ xs) h = ascending_folded (insert upto x ys) xs (ascending_insert x ys h)

    pub sorted_ascends : (xs : List ℕ) → Ascending upto (sorted upto xs)
    sorted_ascends xs = ascending_folded [] xs tt
