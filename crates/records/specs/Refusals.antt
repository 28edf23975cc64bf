-- Tables of refusals, and what they decide.
use Rattle.std.specs.Prelude.{ℕ, Bool, cond, ◌||◌, List, [], ◌∷◌, None, Option, Result, nat_lt}
use Rattle.tariff.specs.Faults.{Answer, done, refused, answer, layer_number, book_layer, no_account}
use Rattle.tariff.specs.declared.fault.Fault.{Fault}
use Rattle.tariff.specs.declared.fault.Layer.TheVariants.{Register}

-- a field lies outside its values
abbrev pub outside : ℕ → ℕ → ℕ → Bool
outside least most n = nat_lt n least || nat_lt most n

-- a line of a table: where the test holds, the book refuses with this row and this account;
-- or a register does, which has fewer places than lines to write
pub data Refusal : Type 0 where
  when : Bool → ℕ → Option ℕ → Refusal
  short : Bool → Refusal

-- the first line whose test holds refuses; where none does, the call is performed and gives its value
abbrev pub first_of : {V : Type 0} → List Refusal → V → Answer V
first_of [] v = done v
first_of (when b n a ∷ rest) v = cond b (refused n book_layer a) (first_of rest v)
first_of (short b ∷ rest) v = cond b (refused 12 (layer_number Register) no_account) (first_of rest v)

-- what a call gives where it is performed is a place, or nothing: nothing here
abbrev pub decided : List Refusal → Answer (Option ℕ)
decided ts = first_of ts None

abbrev pub said : Result (Unit {0}) Fault → Answer (Option ℕ)
said r = answer (λ x. None) r

-- what stands after a call: the new where it is performed, else the old
abbrev pub after : {V X : Type 0} → Answer V → X → X → X
after (done v) new old = new
after (refused n l a) new old = old
