-- What a page makes due at closing, exactly.
use Rattle.std.specs.Prelude.{cond, List, [], ◌∷◌, ℤ, pos, ◌+ℤ◌}
use Rattle.tariff.specs.Bills.{amount_due}
use Rattle.tariff.specs.declared.bill.BillKind.TheVariants.{DailyExcess, AccumulatedExcess, Credit}
use Rattle.cards.specs.declared.terms.Terms.{Terms}
use Rattle.page.specs.Closing.{credited}
use Rattle.page.specs.Pages.{is_open}
use Rattle.page.specs.declared.closing.Credits.{Credits}
use Rattle.page.specs.declared.page.Page.{Page}

-- what a page owes at closing, exactly: both sums of excesses at noncompliance, less the credit on the month's usage
abbrev pub due_at_closing : Terms → Credits → Page → ℤ
due_at_closing t k p = cond (is_open p)
    (amount_due DailyExcess (pos p.posted.daily_excess) t.noncompliance
    +ℤ (amount_due AccumulatedExcess (pos p.posted.accumulated_excess) t.noncompliance
    +ℤ amount_due Credit (pos (credited k p)) t.credit))
    (pos 0)

abbrev pub all_due : Terms → Credits → List Page → ℤ
all_due t k [] = pos 0
all_due t k (p ∷ ps) = due_at_closing t k p +ℤ all_due t k ps
