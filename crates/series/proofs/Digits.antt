-- The days as bits: which is the highest up to a day, how many there are, and what one more changes.
use Rattle.std.proofs.Common.{◌≡◌, ℕ, zero, suc, ◌+◌, ◌-◌, ◌*◌, ◌/◌, ◌%◌, ◌^◌, ◌<◌, ◌≤◌, min, true, false, cond, eqb, ◌≢◌, ◌⊎◌, List, [], ◌∷◌, length, get_or, set, replicate, Some, None, Option, sym, refl, ap, ◌∙◌, subst, inl, inr, ⊎_elim, zero-le, mod-eq_of_lt, one-mul, pow-suc, one-add, arith, get_or-set_other, get_or-set_same, pow_mono}
use native.Mathlib.Nat.{mod-le, mod-one, div-eq_of_lt}
use lib.Count.{ones, count_leading_zeros, leading_unique, ones_cat, ones-ones}
use lib.Bits.{bit_and, bit_or, or_zero_r, shifted_even}
use Rattle.std.proofs.lemmas.Nat.{pow_pos, pow-add, pow_below, mod-pow-add, mod_below, shl-shr, or_shr, or_mod, and_mask, or_lt, leading_top}
use Rattle.std.proofs.lemmas.Bool.{cases_eq, cases_lt, eq-eqb, ne_eqb}
use Rattle.series.specs.Days.{held, latest, published_upto}

-- the lowest suc k digits of n are the digit k and the k digits below it
split_more : (n k : ℕ) → n % 2 ^ suc k ≡ (n / 2 ^ k % 2) * 2 ^ k + n % 2 ^ k
split_more n k = rw one-add at (mod-pow-add n 1 k)

-- a number has one length
one_length : (a l m : ℕ) → a < 2 ^ l → 2 ^ l ≤ 2 * a + 1 → a < 2 ^ m → 2 ^ m ≤ 2 * a + 1 → m ≡ l
one_length a l m ll lg ml mg =
    leading_unique (m + l) a m l refl ll lg ∙ sym (leading_unique (m + l) a l m (omega arith) ml mg)

-- the price of the day whose bit makes a number m digits long
abbrev at : List ℕ → ℕ → Option ℕ
at prices zero = None
at prices (suc k) = Some (get_or prices k 0)

at_length : (n : ℕ) (prices : List ℕ) (d m : ℕ) → n % 2 ^ d < 2 ^ m → 2 ^ m ≤ 2 * (n % 2 ^ d) + 1 → latest (held n prices) d ≡ at prices m
at_length n prices zero zero lt ge = refl
at_length n prices zero (suc m) lt ge =
    absurd (omega (arith, pow-suc 2 m, pow_pos m, mod_below n 1 (omega arith)))
at_length n prices (suc d) m lt ge =
    let whole = split_more n d in
    let small : n % 2 ^ d < 2 ^ d = mod_below n (2 ^ d) (pow_pos d) in
    ⊎_elim
    (λ one.
    let t : eqb (n / 2 ^ d % 2) 1 ≡ true = eq-eqb _ _ one in
    let w = rw one at whole in
    let e : m ≡ suc d = one_length (n % 2 ^ suc d) (suc d) m (omega (arith, pow-suc 2 d)) (omega (arith, pow-suc 2 d)) lt ge in
    rw (t, e))
    (λ other.
    let f : eqb (n / 2 ^ d % 2) 1 ≡ false = ne_eqb _ _ other in
    let none : n / 2 ^ d % 2 ≡ 0 = omega (arith, mod_below (n / 2 ^ d) 2 (omega arith)) in
    let w = rw none at whole in
    let e : n % 2 ^ suc d ≡ n % 2 ^ d = omega arith in
    rw f (at_length n prices d m (omega arith) (omega arith)))
    (cases_eq (n / 2 ^ d % 2) 1)

-- a digit is 0 or 1
digit : (n : ℕ) → (n % 2 ≡ 1) ⊎ (n % 2 ≡ 0)
digit n = ⊎_elim (λ one. inl one) (λ other. inr (omega (arith, mod_below n 2 (omega arith)))) (cases_eq (n % 2) 1)

counted : (n : ℕ) (prices : List ℕ) (k : ℕ) → ones (n % 2 ^ k) ≡ published_upto (held n prices) k
counted n prices zero = rw mod-one (ones-ones 0)
counted n prices (suc k) =
    let parts : ones (n % 2 ^ suc k) ≡ ones (n / 2 ^ k % 2) + ones (n % 2 ^ k) = rw split_more (ones_cat k (n / 2 ^ k % 2) (n % 2 ^ k) (mod_below n (2 ^ k) (pow_pos k))) in
    let rest = counted n prices k in
    parts ∙ ⊎_elim
    (λ one. rw one (omega (arith, ones-ones 1)))
    (λ none. rw none (omega (arith, ones-ones 0)))
    (digit (n / 2 ^ k))

pub all_counted : (n : ℕ) (prices : List ℕ) (last : ℕ) → n < 2 ^ last → ones n ≡ published_upto (held n prices) last
all_counted n prices last h = ap ones (sym (mod-eq_of_lt h)) ∙ counted n prices last

or_digit : (a b j : ℕ) → bit_or a b / 2 ^ j % 2 ≡ bit_or (a / 2 ^ j % 2) (b / 2 ^ j % 2)
or_digit a b j = ap (λ x. x % 2) (or_shr a b j) ∙ or_mod (a / 2 ^ j) (b / 2 ^ j) 1

or_one : (n : ℕ) → bit_or (n % 2) 1 ≡ 1
or_one n = ⊎_elim (λ one. rw one) (λ none. rw none) (digit n)

-- the one digit of a power
pow_digit : (k : ℕ) → 2 ^ k / 2 ^ k % 2 ≡ 1
pow_digit k = rw one-mul at (ap (λ x. x % 2) (shl-shr 1 k))

pow_above : (i j : ℕ) → 2 ^ (suc i + j) / 2 ^ j % 2 ≡ 0
pow_above i j = rw (pow-add 2 (suc i) j, shl-shr (2 ^ suc i) j) (rw one-mul at (shifted_even 1 i))

pow_other : (k j : ℕ) → j ≢ k → 2 ^ k / 2 ^ j % 2 ≡ 0
pow_other k j ne =
    ⊎_elim
    (λ above. let e : suc (k - j - 1) + j ≡ k = omega arith in subst (λ x. 2 ^ x / 2 ^ j % 2 ≡ 0) e (pow_above (k - j - 1) j))
    (λ below. rw (div-eq_of_lt (pow_below k j (omega arith))))
    (cases_lt j k)

-- a price entered at place k is held for day suc k, and every other day holds what it held
held_after : (n : ℕ) (prices : List ℕ) (k p : ℕ) → k < length prices → (d : ℕ) → held (bit_or n (2 ^ k)) (set prices k p) d ≡ cond (eqb d (suc k)) (Some p) (held n prices d)
held_after n prices k p within zero = rw (ne_eqb zero (suc k) (λ e. omega arith))
held_after n prices k p within (suc j) =
    ⊎_elim
    (λ same.
    let t : eqb (suc j) (suc k) ≡ true = eq-eqb _ _ (ap suc same) in
    let b : bit_or n (2 ^ k) / 2 ^ k % 2 ≡ 1 = or_digit n (2 ^ k) k ∙ rw pow_digit (or_one (n / 2 ^ k)) in
    rw (t, same, b, get_or-set_same prices k p 0 within))
    (λ ne.
    let f : eqb (suc j) (suc k) ≡ false = ne_eqb _ _ (λ e. ne (omega arith)) in
    let b : bit_or n (2 ^ k) / 2 ^ j % 2 ≡ n / 2 ^ j % 2 = or_digit n (2 ^ k) j ∙ rw (pow_other k j ne) (or_zero_r _) in
    rw (f, b, get_or-set_other prices k j p 0 ne))
    (cases_eq j k)

pub held_entered : (n : ℕ) (prices : List ℕ) (day p : ℕ) → 1 ≤ day → day ≤ length prices → (d : ℕ) → held (bit_or n (2 ^ (day - 1))) (set prices (day - 1) p) d ≡ cond (eqb d day) (Some p) (held n prices d)
held_entered n prices zero p low high d = absurd (omega arith)
held_entered n prices (suc k) p low high d =
    let e : suc k - 1 ≡ k = omega arith in
    rw e (held_after n prices k p (omega arith) d)

pub bits_fit : (n days day : ℕ) → 1 ≤ day → day ≤ days → n < 2 ^ days → bit_or n (2 ^ (day - 1)) < 2 ^ days
bits_fit n days day low high h = or_lt days n (2 ^ (day - 1)) h (pow_below (day - 1) days (omega arith))

-- a month's bits end below bit 31
pub in_month : (n days : ℕ) → days ≤ 31 → n < 2 ^ days → n < 2 ^ 31
in_month n days short fits = omega (arith, pow_mono {i = days} {j = 31} short)

-- the bits up to a day, where a day past the 32nd takes them all
pub masked : (n d mask : ℕ) → n < 2 ^ 31 → mask ≡ 2 ^ min d 32 - 1 → bit_and n mask ≡ n % 2 ^ d
masked n d mask fits is =
    rw is
    (⊎_elim
    (λ low. let e : min d 32 ≡ d = omega arith in rw e (and_mask n d))
    (λ high.
    let e : min d 32 ≡ 32 = omega arith in
    let more : 2 ^ 32 ≤ 2 ^ d = pow_mono {i = 32} {j = d} high in
    let same : n % 2 ^ d ≡ n = mod-eq_of_lt (omega arith) in
    rw e (and_mask n 32 ∙ (mod-eq_of_lt (omega arith) ∙ sym same)))
    (cases_lt d 32))

-- no bit up to a day: no day up to it has an entry
pub none_upto : (n : ℕ) (prices : List ℕ) (d : ℕ) → n % 2 ^ d ≡ 0 → latest (held n prices) d ≡ None
none_upto n prices d e = at_length n prices d 0 (omega arith) (omega arith)

-- some bit up to a day: the highest is that of the last day with an entry
pub some_upto : (n : ℕ) (prices : List ℕ) (d u : ℕ) → n < 2 ^ 31 → u ≡ n % 2 ^ d → (u ≡ 0 → ⊥) → (1 ≤ 32 - count_leading_zeros 32 u) × (32 - count_leading_zeros 32 u ≤ 31) × (latest (held n prices) d ≡ Some (get_or prices (32 - count_leading_zeros 32 u - 1) 0))
some_upto n prices d u fits e some =
    let small : n % 2 ^ d ≤ n = mod-le n (2 ^ d) in
    let top = leading_top 32 u (omega (arith, some)) (omega arith) in
    let j = top.0 in
    let short : j < 31 = ⊎_elim (λ lt. lt) (λ long. omega (arith, top.2, pow_mono {i = 31} {j = j} long)) (cases_lt j 31) in
    let is : j ≡ 32 - count_leading_zeros 32 u - 1 = omega (arith, top.1) in
    let price = at_length n prices d (suc j) (omega (arith, top.3)) (omega (arith, top.2, pow-suc 2 j)) in
    (omega (arith, top.1), omega (arith, top.1), price ∙ ap (λ i. Some (get_or prices i 0)) is)

-- each price is at most m after one that is at most m is entered
pub set_fits : (m : ℕ) (xs : List ℕ) (i p : ℕ) → ((k : ℕ) → get_or xs k 0 ≤ m) → p ≤ m → (k : ℕ) → get_or (set xs i p) k 0 ≤ m
set_fits m [] i p h hp k = h k
set_fits m (x ∷ xs) zero p h hp zero = hp
set_fits m (x ∷ xs) zero p h hp (suc k) = h (suc k)
set_fits m (x ∷ xs) (suc i) p h hp zero = h zero
set_fits m (x ∷ xs) (suc i) p h hp (suc k) = set_fits m xs i p (λ j. h (suc j)) hp k

pub zeros : (n k : ℕ) → get_or {A = ℕ} (replicate n 0) k 0 ≤ 0
zeros zero k = zero-le
zeros (suc n) zero = zero-le
zeros (suc n) (suc k) = zeros n k
