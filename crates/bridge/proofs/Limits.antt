-- An amount of at most six decimals is below 2 ^ 63, so that a signed number of 64 bits holds it.
use Rattle.std.proofs.Common.{◌≡◌, ℕ, suc, ◌+◌, ◌-◌, ◌*◌, ◌^◌, ◌<◌, ◌≤◌, Bool, true, false, List, [], ◌∷◌, length, IfSome, sym, refl, ap, ◌∙◌, mul-le-mul_right, mul_assoc, mul-le-mul, arith, lit<}
use native.Mathlib.Nat.{pow-le-pow_right, pow-succ'}
use Rattle.std.proofs.lemmas.List.{drop_all}
use Rattle.decimal.specs.Amounts.{places, provided, all_digits, is_number, read_on, number, point_at, has_point, before_point, after_point, is_amount, units, amount}
use Rattle.decimal.specs.declared.Decimals.{Decimals}
use Rattle.decimal.specs.declared.Decimals.TheVariants.{Four, Six}

power_most : (k m : ℕ) → k ≤ m → 10 ^ k ≤ 10 ^ m
power_most k m h = pow-le-pow_right {n = 10} (lit< tt) h

-- digits behind those of n write a number below n + 1 with as many zeros
digits_below : (n : ℕ) (bs : List ℕ) → all_digits bs ≡ true → read_on n bs < (n + 1) * 10 ^ length bs
digits_below n [] h = omega arith
digits_below n (b ∷ bs) h =
    let digit : b - 48 ≤ 9 = grind arith in
    let rest : all_digits bs ≡ true = grind arith in
    let below = digits_below (n * 10 + (b - 48)) bs rest in
    let most : n * 10 + (b - 48) + 1 ≤ (n + 1) * 10 = omega arith in
    let more : (n * 10 + (b - 48) + 1) * 10 ^ length bs ≤ (n + 1) * 10 * 10 ^ length bs = mul-le-mul_right (10 ^ length bs) most in
    let same : (n + 1) * 10 * 10 ^ length bs ≡ (n + 1) * 10 ^ suc (length bs) =
    mul_assoc (n + 1) 10 (10 ^ length bs) ∙ ap (λ x. (n + 1) * x) (sym (pow-succ' 10 (length bs)))
    in
    omega (arith, below, more, same)

-- a number of at most m digits
number_below : (m : ℕ) (bs : List ℕ) → is_number m bs ≡ true → number bs < 10 ^ m
number_below m bs h =
    let digits : all_digits bs ≡ true = grind arith in
    let short : length bs ≤ m = grind arith in
    omega (arith, digits_below 0 bs digits, power_most (length bs) m short)

-- the digits behind the point, of which there are at most six; where there is no point they write 0
fraction_below : (b : Bool) (d : ℕ) (bs : List ℕ) → b ≡ has_point bs → d ≤ 6 → is_amount d bs ≡ true → number (after_point bs) < 10 ^ 6
fraction_below true d bs e h k =
    let digits : is_number d (after_point bs) ≡ true = grind arith in
    omega (arith, number_below d (after_point bs) digits, power_most d 6 h)
fraction_below false d bs e h k =
    let past : length bs ≤ point_at bs + 1 = grind arith in
    omega (arith, ap number (drop_all (point_at bs + 1) bs past))

units_below : (d : ℕ) (bs : List ℕ) → d ≤ 6 → is_amount d bs ≡ true → units d bs < 2 ^ 63
units_below d bs h k =
    let whole : is_number 12 (before_point bs) ≡ true = grind arith in
    let w : number (before_point bs) ≤ 10 ^ 12 = omega (arith, number_below 12 (before_point bs) whole) in
    let f : number (after_point bs) ≤ 10 ^ 6 = omega (arith, fraction_below (has_point bs) d bs refl h k) in
    let zeros : d - length (after_point bs) ≤ 6 = omega arith in
    let front : number (before_point bs) * 10 ^ d ≤ 10 ^ 12 * 10 ^ 6 = mul-le-mul w (power_most d 6 h) in
    let back : number (after_point bs) * 10 ^ (d - length (after_point bs)) ≤ 10 ^ 6 * 10 ^ 6 = mul-le-mul f (power_most _ 6 zeros) in
    omega (arith, front, back)

provided_below : (b : Bool) (n : ℕ) → (b ≡ true → n < 2 ^ 63) → IfSome (provided b n) (λ m. m < 2 ^ 63)
provided_below true n h = h refl
provided_below false n h = tt

six_at_most : (d : Decimals) → places d ≤ 6
six_at_most Four = omega arith
six_at_most Six = omega arith

pub amount_below : (d : Decimals) (bs : List ℕ) → IfSome (amount (places d) bs) (λ n. n < 2 ^ 63)
amount_below d bs = provided_below (is_amount (places d) bs) (units (places d) bs) (units_below (places d) bs (six_at_most d))
