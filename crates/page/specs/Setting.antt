-- Setting: another monthly quantity, before the month's first day is posted.
use Rattle.std.specs.Prelude.{ℕ, not, List, [], ◌∷◌, Some, Option, nat_lt}
use Rattle.page.specs.Limits.{most_a_month}
use Rattle.page.specs.Pages.{is_open, basis}
use Rattle.tariff.specs.Faults.{Answer}
use Rattle.records.specs.Refusals.{Refusal, when, decided, after}
use Rattle.page.specs.declared.page.Page.{Page}

-- setting the monthly quantity d of the account a
abbrev pub setting_refusals : Page → ℕ → ℕ → List Refusal
setting_refusals p a d =
    when (not (is_open p)) 2 (Some a)
    ∷ when (nat_lt 0 p.posted.day) 7 (Some a)
    ∷ when (nat_lt most_a_month d) 10 (Some a)
    ∷ []

-- the page with another monthly quantity
abbrev pub with_monthly_quantity : Page → ℕ → Page
with_monthly_quantity p d = record { status = p.status; kind = p.kind; election = p.election; settled = p.settled; gas = p.gas; month = basis p.month.usage d; posted = p.posted; statement = p.statement }

-- the answer, and the page after it
abbrev pub setting_answer : Page → ℕ → ℕ → Answer (Option ℕ)
setting_answer p a d = decided (setting_refusals p a d)

abbrev pub page_set : Page → ℕ → ℕ → Page
page_set p a d = after (setting_answer p a d) (with_monthly_quantity p d) p
