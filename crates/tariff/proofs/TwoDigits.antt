-- A number below a hundred as `{:02}` writes it, with a width of two filled up with zeros: the tens, then the ones.
use Rattle.std.proofs.Common.{◌≡◌, ℕ, ◌/◌, ◌%◌, ◌^◌, ◌<◌, ◌≤◌, ◌++◌, ◌⊎◌, inl, inr, refl, arith}
use Rattle.std.specs.Fmt.{decimal, styled_decimal, format_spec, padded_integral, char_count}
use Rattle.std.proofs.lemmas.Bool.{cases_lt}
use Rattle.std.proofs.lemmas.Fmt.{decimal_digit, decimal_step}

below_ten : (n : ℕ) → n < 10 → styled_decimal (format_spec 32 0 4 2 18446744073709551615) n ≡ decimal (n / 10) ++ decimal (n % 10)
unfolding padded_integral char_count
below_ten n h =
    let tens : n / 10 ≡ 0 = omega arith in
    let ones : n % 10 ≡ n = omega arith in
    let nought : 0 < 10 = omega arith in
    rw (tens, ones, decimal_digit n h, decimal_digit 0 nought) refl

from_ten : (n : ℕ) → 10 ≤ n → n < 100 → styled_decimal (format_spec 32 0 4 2 18446744073709551615) n ≡ decimal (n / 10) ++ decimal (n % 10)
unfolding padded_integral char_count
from_ten n l h =
    let tens : n / 10 < 10 = omega arith in
    let ones : n % 10 < 10 = omega arith in
    let whole : n < 2 ^ 64 = omega arith in
    rw (decimal_step n l whole, decimal_digit (n / 10) tens, decimal_digit (n % 10) ones) refl

either : (n : ℕ) → n < 100 → (n < 10) ⊎ (10 ≤ n) → styled_decimal (format_spec 32 0 4 2 18446744073709551615) n ≡ decimal (n / 10) ++ decimal (n % 10)
either n h (inl l) = below_ten n l
either n h (inr l) = from_ten n l h

pub two_digits : (n : ℕ) → n < 100 → styled_decimal (format_spec 32 0 4 2 18446744073709551615) n ≡ decimal (n / 10) ++ decimal (n % 10)
two_digits n h = either n h (cases_lt n 10)
