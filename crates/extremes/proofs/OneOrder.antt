-- A list has one order: under a total order any two ways to put it in order are the same list. Assumes nothing.
use Rattle.std.proofs.Common.{◌≡◌, ℕ, Bool, true, false, cond, eqb, List, [], ◌∷◌, sum_by, sym, refl, ap, ◌∙◌, subst, ⊎_elim, arith}
use Rattle.std.proofs.lemmas.List.Sorted.{sum_by-IsPermutation}
use Rattle.std.proofs.lemmas.List.Sums.{sum_by-cons}
use Rattle.std.proofs.lemmas.Bool.{both_ways, cases_Bool, eq-eqb, ne_eqb, cond-true, cond-false}
use Rattle.extremes.specs.Arranged.{Ascending, InOrder}

-- 1 at b, and 0 elsewhere
abbrev is : ℕ → ℕ → ℕ
is b v = cond (eqb v b) 1 0

module _ (upto : ℕ → ℕ → Bool) (total : (x y : ℕ) → upto x y ≡ false → upto y x ≡ true) (chain : (x y z : ℕ) → upto x y ≡ true → upto y z ≡ true → upto x z ≡ true) (same : (x y : ℕ) → upto x y ≡ true → upto y x ≡ true → x ≡ y) where
  itself : (x : ℕ) → upto x x ≡ true
  itself x = ⊎_elim (λ t. t) (λ f. total x x f) (cases_Bool (upto x x))

  other : (b v lo : ℕ) → upto lo b ≡ false → upto lo v ≡ true → is b v ≡ 0
  other b v lo f t = cond-false {A = ℕ} (eqb v b) 1 0 (ne_eqb v b (λ e. both_ways (upto lo b) f (subst (λ z. upto lo z ≡ true) e t)))

  -- what comes before the first of a list in order is not in it
  absent : (b lo : ℕ) (ys : List ℕ) → upto lo b ≡ false → Ascending upto (lo ∷ ys) → sum_by (is b) ys ≡ 0
  absent b lo [] f h = refl
  absent b lo (z ∷ zs) f h =
      let later : upto z b ≡ false = ⊎_elim (λ t. absurd (both_ways (upto lo b) f (chain lo z b h.0 t))) (λ e. e) (cases_Bool (upto z b)) in
      sum_by-cons (is b) z zs ∙ omega (arith, other b z lo f h.0, absent b z zs later h.1)

  leads : (a b : ℕ) (xs ys : List ℕ) → Ascending upto (a ∷ xs) → sum_by (is b) (a ∷ xs) ≡ sum_by (is b) (b ∷ ys) → upto a b ≡ true
  leads a b xs ys h e =
      ⊎_elim (λ t. t)
      (λ f. absurd (omega (arith, e, sum_by-cons (is b) a xs, sum_by-cons (is b) b ys, other b a a f (itself a), absent b a xs f h, cond-true {A = ℕ} (eqb b b) 1 0 (eq-eqb b b refl))))
      (cases_Bool (upto a b))

  one_list : (xs ys : List ℕ) → Ascending upto xs → Ascending upto ys → ((f : ℕ → ℕ) → sum_by f xs ≡ sum_by f ys) → xs ≡ ys
  one_list [] [] up vp e = refl
  one_list [] (y ∷ ys) up vp e = absurd (omega (arith, e (λ _. 1), sum_by-cons (λ _. 1) y ys))
  one_list (x ∷ xs) [] up vp e = absurd (omega (arith, e (λ _. 1), sum_by-cons (λ _. 1) x xs))
  one_list (x ∷ xs) (y ∷ ys) up vp e =
      let first : x ≡ y = same x y (leads x y xs ys up (e (is y))) (leads y x ys xs vp (sym (e (is x)))) in
      let rest : xs ≡ ys = one_list xs ys up.1 vp.1 (λ f. omega (arith, e f, sum_by-cons f x xs, sum_by-cons f y ys, ap f first)) in
      cc

  pub one_order : (xs ys zs : List ℕ) → InOrder upto xs ys → InOrder upto xs zs → ys ≡ zs
  one_order xs ys zs p q = one_list ys zs p.1 q.1 (λ f. sum_by-IsPermutation f xs ys p.0 ∙ sym (sum_by-IsPermutation f xs zs q.0))
