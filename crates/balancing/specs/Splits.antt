-- That Monthly keeps the laws of an option: the parts of an imbalance that is held within a band, and within two. Lemmas, no rule.
use Rattle.std.specs.Prelude.{ℕ, ◌*◌, ◌/◌, ◌≤◌, ℤ, ◌-ℤ◌}
use Rattle.std.proofs.Common.{arith}
use Rattle.std.proofs.lemmas.Int.{ints}
use Rattle.balancing.specs.Rules.{Laws, Part, held_within}
use Rattle.balancing.specs.Options.{monthly, percentage}
use Rattle.balancing.specs.declared.monthly.Tolerance.{Tolerance}
use Rattle.balancing.specs.declared.monthly.Tolerance.TheVariants.{Three, Four, Five}

pub part_within : (b : ℕ) (s : ℤ) → Part (held_within b s) s
part_within b s = record { over = λ h. (grind (arith, ints), grind (arith, ints)); under = λ h. (grind (arith, ints), grind (arith, ints)) }

pub part_beyond : (b : ℕ) (s : ℤ) → Part (s -ℤ held_within b s) s
part_beyond b s = record { over = λ h. (grind (arith, ints), grind (arith, ints)); under = λ h. (grind (arith, ints), grind (arith, ints)) }

pub part_between : (a b : ℕ) (s : ℤ) → a ≤ b → Part (held_within b s -ℤ held_within a s) s
part_between a b s e = record { over = λ h. (grind (arith, ints), grind (arith, ints)); under = λ h. (grind (arith, ints), grind (arith, ints)) }

-- no tolerance passes a tenth
pub tolerated : (t : Tolerance) (u : ℕ) → u * percentage t / 100 ≤ u / 10
tolerated Three u = omega arith
tolerated Four u = omega arith
tolerated Five u = omega arith

-- Monthly keeps the laws of an option, at each of its tolerances
pub monthly_laws : (t : Tolerance) → Laws (monthly (percentage t))
monthly_laws t = record {
  parts_add_up = λ u d s. omega (arith, ints);
  kept_is_part = λ u d s. part_within _ s;
  tier_one_is_part = λ u d s. part_between _ _ s (tolerated t u);
  tier_two_is_part = λ u d s. part_beyond _ s;
  daily_at_most = λ r u f d z. omega arith;
  accumulated_at_most = λ r u f d z. omega arith;
}
