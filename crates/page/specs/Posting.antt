-- Posting: the next day of the running month.
use Rattle.std.specs.Prelude.{ℕ, ◌+◌, Bool, cond, not, ◌||◌, List, [], ◌∷◌, ℤ, pos, ◌+ℤ◌, ◌-ℤ◌, Some, Option, ◌==◌, nat_lt}
use Rattle.tariff.specs.Faults.{Answer, no_account}
use Rattle.balancing.specs.Rules.{Rules, order_of}
use Rattle.balancing.specs.declared.option.Excess.{Excess}
use Rattle.page.specs.Limits.{past, most_a_day, most_a_month, most_excess}
use Rattle.page.specs.Pages.{is_open, with_running, basis}
use Rattle.records.specs.Refusals.{Refusal, when, outside, decided, after}
use Rattle.page.specs.declared.page.Page.{Page}

-- the running imbalance with a day's receipts r and usage u
abbrev pub running_after : Page → ℕ → ℕ → ℤ
running_after p r u = p.gas.running +ℤ (pos r -ℤ pos u)

-- the day's excesses under the option o
abbrev pub excess_of : Rules → Page → ℕ → ℕ → ℕ → Excess
excess_of o p flag r u = o.excess r u (order_of flag) p.month.monthly_quantity (running_after p r u)

-- the day is not the next one, or the month has no such day
abbrev pub out_of_turn : Page → ℕ → ℕ → Bool
out_of_turn p days d = not (d == p.posted.day + 1) || nat_lt days d

-- the running imbalance, the month's usage or a sum of excesses would pass its limit
abbrev pub past_day : Rules → Page → ℕ → ℕ → ℕ → Bool
past_day o p flag r u =
    past (running_after p r u)
    || nat_lt most_a_month (p.month.usage + u)
    || nat_lt most_excess (p.posted.daily_excess + (excess_of o p flag r u).daily)
    || nat_lt most_excess (p.posted.accumulated_excess + (excess_of o p flag r u).accumulated)

-- posting the day d of a month with so many days, with an order flag, for the account a
abbrev pub posting_refusals : Rules → Page → ℕ → ℕ → ℕ → ℕ → ℕ → ℕ → List Refusal
posting_refusals o p days a d flag r u =
    when (outside 1 31 d) 1 no_account
    ∷ when (nat_lt 1 flag) 1 no_account
    ∷ when (not (is_open p)) 2 (Some a)
    ∷ when (out_of_turn p days d) 7 (Some a)
    ∷ when (nat_lt most_a_day r) 10 (Some a)
    ∷ when (nat_lt most_a_day u) 10 (Some a)
    ∷ when (past (running_after p r u)) 10 (Some a)
    ∷ when (nat_lt most_a_month (p.month.usage + u)) 10 (Some a)
    ∷ when (nat_lt most_excess (p.posted.daily_excess + (excess_of o p flag r u).daily)) 10 (Some a)
    ∷ when (nat_lt most_excess (p.posted.accumulated_excess + (excess_of o p flag r u).accumulated)) 10 (Some a)
    ∷ []

-- a day entered: the running imbalance grows by receipts less usage, the month's usage by the usage, and the excesses join their sums
abbrev pub with_day : Page → ℕ → ℕ → ℕ → Excess → Page
with_day p d r u x = record {
  status = p.status;
  kind = p.kind;
  election = p.election;
  settled = p.settled;
  gas = with_running p.gas (running_after p r u);
  month = basis (p.month.usage + u) p.month.monthly_quantity;
  posted = record {
    day = d;
    daily_excess = p.posted.daily_excess + x.daily;
    accumulated_excess = p.posted.accumulated_excess + x.accumulated;
  };
  statement = p.statement;
}

-- the day entered with its excesses under the option o
abbrev pub entered : Rules → Page → ℕ → ℕ → ℕ → ℕ → Page
entered o p d flag r u = with_day p d r u (excess_of o p flag r u)

-- the answer, and the page after it
abbrev pub posting_answer : Rules → Page → ℕ → ℕ → ℕ → ℕ → ℕ → ℕ → Answer (Option ℕ)
posting_answer o p days a d flag r u = decided (posting_refusals o p days a d flag r u)

abbrev pub page_posted : Rules → Page → ℕ → ℕ → ℕ → ℕ → ℕ → ℕ → Page
page_posted o p days a d flag r u = after (posting_answer o p days a d flag r u) (entered o p d flag r u) p
