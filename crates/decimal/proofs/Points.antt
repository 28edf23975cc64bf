-- The first point of a text is where the library's search finds it, and a text without one is all before it.
use Rattle.std.proofs.Common.{◌≡◌, ℕ, Bool, true, false, List, [], ◌∷◌, refl, arith}
use Rattle.std.specs.Prelude.{◌==◌, position, Option, Some, None, IfNone, if◌then◌else◌}
use Rattle.std.specs.List.{position_or_len}
use Rattle.std.proofs.lemmas.Grind.{common_steps}
use Rattle.decimal.specs.Amounts.{point_at, has_point, before_point, after_point}

point_found : (xs : List ℕ) → position_or_len (λ b. b == 46) xs ≡ point_at xs
point_found [] = refl
point_found (x ∷ xs) = grind (arith, common_steps, point_found xs)

pub found : (xs : List ℕ) → position (λ b. b == 46) xs ≡ (if has_point xs then Some (point_at xs) else None)
found xs = rw (point_found xs) refl

without : (xs : List ℕ) → has_point xs ≡ false → (before_point xs ≡ xs) × (after_point xs ≡ [])
without xs h = (grind (arith, common_steps), grind (arith, common_steps))

none_found : (b : Bool) (n : ℕ) → None ≡ (if b then Some n else None) → b ≡ false
none_found true n e = cc
none_found false n e = refl

pub whole_without : (xs : List ℕ) (r : Option ℕ) → r ≡ (if has_point xs then Some (point_at xs) else None) → IfNone r ((before_point xs ≡ xs) × (after_point xs ≡ []))
whole_without xs (Some n) e = tt
whole_without xs None e = without xs (none_found (has_point xs) (point_at xs) e)
