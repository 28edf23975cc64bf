-- Adjusting and stating: a signed quantity joins the running or the operating imbalance.
use Rattle.std.specs.Prelude.{ℕ, not, List, [], ◌∷◌, ℤ, ◌+ℤ◌, Some, Option}
use Rattle.records.specs.declared.component.Component.TheVariants.{Operating}
use Rattle.page.specs.Limits.{past_together}
use Rattle.page.specs.Pages.{is_open, is_core, with_gas, with_running, with_held}
use Rattle.tariff.specs.Faults.{Answer}
use Rattle.records.specs.Refusals.{Refusal, when, decided, after}
use Rattle.page.specs.declared.page.Page.{Page}

-- adjusting the account a by q
abbrev pub adjusting_refusals : Page → ℕ → ℤ → List Refusal
adjusting_refusals p a q =
    when (not (is_open p)) 2 (Some a)
    ∷ when (past_together p.gas.running q) 10 (Some a)
    ∷ []

-- q joins the running imbalance
abbrev pub adjusted : Page → ℤ → Page
adjusted p q = with_gas p (with_running p.gas (p.gas.running +ℤ q))

-- the answer, and the page after it
abbrev pub adjusting_answer : Page → ℕ → ℤ → Answer (Option ℕ)
adjusting_answer p a q = decided (adjusting_refusals p a q)

abbrev pub page_adjusted : Page → ℕ → ℤ → Page
page_adjusted p a q = after (adjusting_answer p a q) (adjusted p q) p

-- stating the operating quantity q of the account a
abbrev pub stating_refusals : Page → ℕ → ℤ → List Refusal
stating_refusals p a q =
    when (not (is_open p)) 2 (Some a)
    ∷ when (not (is_core p)) 4 (Some a)
    ∷ when p.settled 8 (Some a)
    ∷ when (past_together p.gas.operating q) 10 (Some a)
    ∷ []

-- q joins the operating imbalance
abbrev pub stated : Page → ℤ → Page
stated p q = with_gas p (with_held Operating p.gas (p.gas.operating +ℤ q))

-- the answer, and the page after it
abbrev pub stating_answer : Page → ℕ → ℤ → Answer (Option ℕ)
stating_answer p a q = decided (stating_refusals p a q)

abbrev pub page_stated : Page → ℕ → ℤ → Page
page_stated p a q = after (stating_answer p a q) (stated p q) p
