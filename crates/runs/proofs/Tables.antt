-- Tables of refusals: a call that is performed passed every line of its table.
use Rattle.std.proofs.Common.{◌≡◌, ℕ, Bool, true, false, List, [], ◌∷◌, refl, arith}
use Rattle.std.specs.List.{AllByRecursion}
use Rattle.tariff.specs.Faults.{done}
use Rattle.records.specs.Refusals.{Refusal, when, short, first_of}

-- the test of a line
abbrev pub test : Refusal → Bool
test (when b n a) = b
test (short b) = b

-- no line of a table refuses
abbrev pub AllPassed : List Refusal → Type 0
AllPassed ts = AllByRecursion (λ t. test t ≡ false) ts

-- a call that is performed, whatever it gives, passed them all
pub passed : {V : Type 0} (ts : List Refusal) (v x : V) → first_of ts v ≡ done x → AllPassed ts
passed [] v x e = tt
passed (when true n a ∷ ts) v x e = let z : ◌≡◌ {A = ℕ} 0 1 = cc in absurd (omega arith)
passed (when false n a ∷ ts) v x e = (refl, passed ts v x e)
passed (short true ∷ ts) v x e = let z : ◌≡◌ {A = ℕ} 0 1 = cc in absurd (omega arith)
passed (short false ∷ ts) v x e = (refl, passed ts v x e)
