-- Folding: a noncore member's page is added to a noncore agent's, and the member is retired.
use Rattle.std.specs.Prelude.{ℕ, ◌+◌, Bool, true, not, ◌&&◌, ◌||◌, List, [], ◌∷◌, ◌+ℤ◌, ◌==◌, nat_lt, Some}
use Rattle.records.specs.Accounts.{election_number}
use Rattle.page.specs.Limits.{past, most_a_month, most_excess}
use Rattle.page.specs.Pages.{is_open, is_core, no_gas_held, basis, nothing_posted}
use Rattle.tariff.specs.Faults.{Answer}
use Rattle.records.specs.Refusals.{Refusal, when, first_of, after}
use Rattle.records.specs.declared.account.Status.TheVariants.{Folded}
use Rattle.page.specs.declared.page.Gas.{Gas}
use Rattle.page.specs.declared.page.Basis.{Basis}
use Rattle.page.specs.declared.page.Posted.{Posted}
use Rattle.page.specs.declared.page.Page.{Page}

-- every quantity added to its like
abbrev pub joined_gas : Gas → Gas → Gas
joined_gas g h = record {
  running = g.running +ℤ h.running;
  statement = g.statement +ℤ h.statement;
  operating = g.operating +ℤ h.operating;
  carryover = g.carryover +ℤ h.carryover;
  carried = g.carried +ℤ h.carried;
}

abbrev pub joined_basis : Basis → Basis → Basis
joined_basis b c = basis (b.usage + c.usage) (b.monthly_quantity + c.monthly_quantity)

-- the last day stays the agent's; neither has posted one
abbrev pub joined_posted : Posted → Posted → Posted
joined_posted s t = record { day = s.day; daily_excess = s.daily_excess + t.daily_excess; accumulated_excess = s.accumulated_excess + t.accumulated_excess }

-- the agent's page q with the member's page p: settled only if both were
abbrev pub joined : Page → Page → Page
joined q p = record {
  status = q.status;
  kind = q.kind;
  election = q.election;
  settled = q.settled && p.settled;
  gas = joined_gas q.gas p.gas;
  month = joined_basis q.month p.month;
  posted = joined_posted q.posted p.posted;
  statement = joined_basis q.statement p.statement;
}

-- the member's page afterwards: empty and settled
abbrev pub retired : Page → Page
retired p = record { status = Folded; kind = p.kind; election = p.election; settled = true; gas = no_gas_held; month = basis 0 0; posted = nothing_posted; statement = basis 0 0 }

-- a quantity of the page passes its limit
abbrev pub past_gas : Gas → Bool
past_gas g = past g.running || past g.statement || past g.operating || past g.carryover || past g.carried

abbrev pub past_basis : Basis → Bool
past_basis b = nat_lt most_a_month b.usage || nat_lt most_a_month b.monthly_quantity

abbrev pub past_posted : Posted → Bool
past_posted s = nat_lt most_excess s.daily_excess || nat_lt most_excess s.accumulated_excess

abbrev pub past_page : Page → Bool
past_page p = past_gas p.gas || past_basis p.month || past_posted p.posted || past_basis p.statement

-- both elect unlike options
abbrev pub unlike : Page → Page → Bool
unlike p q = not (election_number p.election == election_number q.election)

-- folding the member m with the page p into the agent a with the page q
abbrev pub folding_refusals : ℕ → Page → ℕ → Page → List Refusal
folding_refusals m p a q =
    when (not (is_open p)) 2 (Some m)
    ∷ when (not (is_open q)) 2 (Some a)
    ∷ when (is_core p || unlike p q || m == a) 4 (Some m)
    ∷ when (is_core q) 4 (Some a)
    ∷ when (nat_lt 0 p.posted.day) 7 (Some m)
    ∷ when (nat_lt 0 q.posted.day) 7 (Some a)
    ∷ when (past_page (joined q p)) 10 (Some a)
    ∷ []

-- the answer with the agent's page after it, and the member's page after it
abbrev pub folding_answer : ℕ → Page → ℕ → Page → Answer Page
folding_answer m p a q = first_of (folding_refusals m p a q) (joined q p)

abbrev pub page_folded : ℕ → Page → ℕ → Page → Page
page_folded m p a q = after (folding_answer m p a q) (retired p) p
