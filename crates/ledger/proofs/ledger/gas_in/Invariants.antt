use Rattle.std.proofs.Common.{◌≡◌, ◌*◌, ◌≤◌, drop, ◌+ℤ◌, nat_abs}
use Rattle.ledger.specs.Ledgers.{gas_on_all}
use Rattle.ledger.proofs.ledger.gas_in.Given as goal

-- the gas added up and that on the pages that are left are all
abbrev pub invariant-loop-page : goal.invariant-loop-page
invariant-loop-page l =
    (nat_abs l.total ≤ 12884901888 * l.page-index)
    × (l.total +ℤ gas_on_all (drop l.page-index l.pages) ≡ gas_on_all l.pages)
