-- The gas on all pages where one page changes.
use Rattle.std.proofs.Common.{◌≡◌, ℕ, zero, suc, ◌<◌, List, [], ◌∷◌, length, get_or, set, ◌+ℤ◌, ◌-ℤ◌, le_of_suc-le-suc, not-suc-le-zero, arith}
use Rattle.std.proofs.lemmas.Int.{ints}
use Rattle.page.specs.Pages.{blank, gas_on}
use Rattle.page.specs.declared.page.Page.{Page}
use Rattle.ledger.specs.Ledgers.{gas_on_all}

-- the gas on all pages changes by as much as the gas on that page
pub gas_set : (ps : List Page) (i : ℕ) (p : Page) → i < length ps → gas_on_all (set ps i p) ≡ gas_on_all ps +ℤ (gas_on p -ℤ gas_on (get_or ps i blank))
gas_set [] i p h = absurd (not-suc-le-zero h)
gas_set (x ∷ xs) zero p h = omega (arith, ints)
gas_set (x ∷ xs) (suc i) p h = let e = gas_set xs i p (le_of_suc-le-suc h) in omega (arith, ints, e)
