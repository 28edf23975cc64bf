-- A month's days, one after another.
use Rattle.std.proofs.Common.{◌≡◌, ℕ, zero, suc, ◌+◌, ◌<◌, ◌≤◌, max, List, get_or, ◌++◌, ◌∷◌, [], map, sym, refl, ap, ◌∙◌, subst, inl, inr, add-one, arith}
use Rattle.std.specs.List.{range_with_len}
use Rattle.std.specs.Array.{IsFromFnResult, IsFromFnResultFrom}
use Rattle.std.specs.Fn.{Called}
use Rattle.std.proofs.lemmas.Bool.{cases_eq}
use Rattle.std.proofs.lemmas.List.FromFn.{fill_by_all, map-range_with_len_more}
use denote.Param.Members.{Mut}
use Rattle.cards.specs.Index.{doubled, highest}

-- where every call of a closure gives what h says of the number, and leaves the closure as it was, calls at each number in turn gave the list of h
given_at : {F : Type 0} (g : Mut F (ℕ × Unit {0}) ℕ) (f : F) (h : ℕ → ℕ) (call : (i y : ℕ) (q : F) → Called g f (i, tt) y q → (y ≡ h i) × (q ≡ f)) (ys : List ℕ) (n i k d : ℕ) → IsFromFnResultFrom g f ys i n → i ≤ k → k < i + n → get_or ys k d ≡ h k
given_at g f h call ys zero i k d all low high = absurd (omega arith)
given_at {F} g f h call ys (suc n) i k d all low high = elim (cases_eq k i) [
  | inl e ↦ rw e (all.2.1 d ∙ (call i all.1 all.0 all.3).0)
  | inr ne ↦
      let next : IsFromFnResultFrom g f ys (i + 1) n = subst (λ (q : F). IsFromFnResultFrom g q ys (i + 1) n) (call i all.1 all.0 all.3).1 all.4 in
      given_at g f h call ys n (i + 1) k d next (omega (arith, ne)) (omega arith)
]

pub given : {F : Type 0} {g : Mut F (ℕ × Unit {0}) ℕ} {f : F} {ys : List ℕ} {n : ℕ} → IsFromFnResult g f ys n → (h : ℕ → ℕ) → ((i y : ℕ) (q : F) → Called g f (i, tt) y q → (y ≡ h i) × (q ≡ f)) → ys ≡ map h (range_with_len 0 n)
given {F} {g} {f} {ys} {n} made h call = fill_by_all h ys n 0 made.long (λ k below. given_at g f h call ys n 0 k 0 made.each (omega arith) (omega arith))

range_more : (f : ℕ → ℕ) (n : ℕ) → map f (range_with_len 0 (suc n)) ≡ map f (range_with_len 0 n) ++ (f n ∷ [])
range_more f n = ap (λ k. map f (range_with_len 0 k)) (sym (add-one n)) ∙ map-range_with_len_more f 0 n n (omega arith)

-- the doubles of the first n days, as one list over the places from 0 on
pub doubled_is : (p q : ℕ → ℕ) (n : ℕ) → map (λ k. p (k + 1) + q (k + 1)) (range_with_len 0 n) ≡ doubled p q n
doubled_is p q zero = refl
doubled_is p q (suc n) = range_more (λ k. p (k + 1) + q (k + 1)) n ∙ rw (doubled_is p q n, add-one n)

-- with one day more, the highest price is the higher of what it was and that day's
pub highest_more : (p : ℕ → ℕ) (k : ℕ) → highest p (k + 1) ≡ max (highest p k) (p (k + 1))
highest_more p k = rw add-one
