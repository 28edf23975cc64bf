-- Amounts as a clerk writes them: digits, and perhaps a point and decimals. A text is the list of its bytes.
use Rattle.std.specs.Prelude.{ℕ, ◌+◌, ◌-◌, ◌*◌, ◌^◌, Bool, true, cond, not, ◌&&◌, ◌||◌, List, [], ◌∷◌, length, take, drop, Some, None, Option, ◌==◌, nat_le, nat_lt}
use Rattle.decimal.specs.declared.Decimals.{Decimals}
use Rattle.decimal.specs.declared.Decimals.TheVariants.{Four, Six}

-- how many decimals an amount may have
abbrev pub places : Decimals → ℕ
places Four = 4
places Six = 6

-- n where the test holds, else nothing
abbrev pub provided : Bool → ℕ → Option ℕ
provided b n = cond b (Some n) None

-- nothing but digits: the bytes of '0' to '9' are 48 to 57
abbrev pub all_digits : List ℕ → Bool
all_digits [] = true
all_digits (b ∷ bs) = nat_le 48 b && nat_le b 57 && all_digits bs

-- one to m digits
abbrev pub is_number : ℕ → List ℕ → Bool
is_number m bs = nat_le 1 (length bs) && nat_le (length bs) m && all_digits bs

-- the number that digits write after those of n
abbrev pub read_on : ℕ → List ℕ → ℕ
read_on n [] = n
read_on n (b ∷ bs) = read_on (n * 10 + (b - 48)) bs

-- the number that digits write, and 0 where there are none
abbrev pub number : List ℕ → ℕ
number bs = read_on 0 bs

-- where the first point (46) stands, or the length where there is none
abbrev pub point_at : List ℕ → ℕ
point_at [] = 0
point_at (b ∷ bs) = cond (b == 46) 0 (point_at bs + 1)

-- whether there is a point
abbrev pub has_point : List ℕ → Bool
has_point bs = nat_lt (point_at bs) (length bs)

-- what stands before the point, and all of it where there is none
abbrev pub before_point : List ℕ → List ℕ
before_point bs = take (point_at bs) bs

-- nothing where there is no point
abbrev pub after_point : List ℕ → List ℕ
after_point bs = drop (point_at bs + 1) bs

-- one to twelve digits, and perhaps a point and one to d digits behind it
abbrev pub is_amount : ℕ → List ℕ → Bool
is_amount d bs = is_number 12 (before_point bs) && (not (has_point bs) || is_number d (after_point bs))

-- in units of the last of d decimals: whole × 10^d + fraction × 10^(d − number of digits behind the point)
abbrev pub units : ℕ → List ℕ → ℕ
units d bs = number (before_point bs) * 10 ^ d + number (after_point bs) * 10 ^ (d - length (after_point bs))

-- an amount of at most d decimals, in units of the last of them; nothing where the text is no such amount
abbrev pub amount : ℕ → List ℕ → Option ℕ
amount d bs = provided (is_amount d bs) (units d bs)
