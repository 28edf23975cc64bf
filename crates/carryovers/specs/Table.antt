-- Worked figures of carryovers, each beside its rule's definition.
use Rattle.std.specs.Prelude.{ℕ, ◌≡◌, true, false, nat_le, ℤ, pos, unsigned_abs, ◌+ℤ◌, Some}
use Rattle.tariff.specs.Faults.{refused, book_layer}
use Rattle.tariff.specs.Months.{follows}
use Rattle.tariff.specs.declared.month.Month.{Month}
use Rattle.balancing.specs.Rules.{Rules}
use Rattle.balancing.specs.declared.option.Parts.{Parts}
use Rattle.cards.specs.declared.terms.Terms.{Terms}
use Rattle.figures.specs.Table.{under}
use Rattle.page.specs.Settling.{settled_gas, rest_of_carryover, large_carryover, settling_answer}
use Rattle.records.specs.declared.account.Election.{Election}
use Rattle.records.specs.declared.account.Kind.TheVariants.{Core}
use Rattle.records.specs.declared.account.Status.TheVariants.{Open}
use Rattle.page.specs.declared.page.Basis.{Basis}
use Rattle.page.specs.declared.page.Gas.{Gas}
use Rattle.page.specs.declared.page.Page.{Page}
use Rattle.page.specs.declared.page.Posted.{Posted}

-- a page's five quantities
abbrev pub gas : ℤ → ℤ → ℤ → ℤ → ℤ → Gas
gas r s p c k = record { running = r; statement = s; operating = p; carryover = c; carried = k }

-- a core group's page, open and unsettled, with a carryover and no operating imbalance
abbrev pub core_page : ℤ → ℤ → ℤ → ℤ → Election → Basis → Posted → Basis → Page
core_page r s c k e m d b = record { status = Open; kind = Core; election = e; settled = false; gas = gas r s (pos 0) c k; month = m; posted = d; statement = b }

-- settling moves a twelfth of the carryover on, and with the clear flag all of it, where the rest is below 5,000 Dth;
-- whatever else the page holds, and whatever is kept of the statement
pub record CarryoverFigures : Type 0 where
  pub a_twelfth_moves_on : (r s k : ℤ) (x : Parts) →
      ((settled_gas false (gas r s (under 25) (pos 0) k) x).carried ≡ (k +ℤ under 2) +ℤ x.kept) × ((settled_gas false (gas r s (under 25) (pos 0) k) x).carryover ≡ under 23)
  pub small_rest_is_cleared : (r s k : ℤ) (x : Parts) →
      (nat_le large_carryover (unsigned_abs (rest_of_carryover (gas r s (pos 0) (pos 5453) k))) ≡ false)
      × ((settled_gas true (gas r s (pos 0) (pos 5453) k) x).carried ≡ (k +ℤ pos 5453) +ℤ x.kept)
      × ((settled_gas true (gas r s (pos 0) (pos 5453) k) x).carryover ≡ pos 0)
  pub large_rest_is_refused : (o : Rules) (t : Terms) (n : Month) (r s k : ℤ) (e : Election) (m : Basis) (d : Posted) (b : Basis) (a room : ℕ) →
      follows t.month n ≡ true → settling_answer o t (core_page r s (pos 5454) k e m d b) n a 1 room ≡ refused 9 book_layer (Some a)
