-- Settling: the carryover moves on, the kept part of the statement is carried, and both tiers are billed.
use Rattle.std.specs.Prelude.{ℕ, suc, ◌/◌, Bool, true, false, cond, not, ◌&&◌, List, [], ◌∷◌, ◌++◌, length, ℤ, pos, negsuc, ◌+ℤ◌, ◌-ℤ◌, neg_ℤ, Some, None, Option, ◌==◌, nat_le, nat_lt, unsigned_abs}
use Rattle.tariff.specs.Faults.{Answer, no_account}
use Rattle.tariff.specs.Months.{follows}
use Rattle.tariff.specs.declared.bill.Charge.{Charge}
use Rattle.tariff.specs.declared.month.Month.{Month}
use Rattle.balancing.specs.Cashouts.{tier_one_line, tier_two_line}
use Rattle.balancing.specs.Rules.{Rules}
use Rattle.balancing.specs.declared.option.Parts.{Parts}
use Rattle.cards.specs.declared.terms.Terms.{Terms}
use Rattle.records.specs.declared.lines.BillLine.{BillLine}
use Rattle.page.specs.Limits.{past}
use Rattle.page.specs.Pages.{is_open, is_core, basis}
use Rattle.records.specs.Refusals.{Refusal, when, short, decided, after}
use Rattle.page.specs.declared.page.Gas.{Gas}
use Rattle.page.specs.declared.page.Page.{Page}

-- a twelfth, its fraction dropped toward zero
abbrev pub twelfth : ℤ → ℤ
twelfth (pos n) = pos (n / 12)
twelfth (negsuc n) = neg_ℤ (pos (suc n / 12))

-- the carryover once the operating imbalance has joined it, and its rest once a twelfth has moved on
abbrev pub joined_carryover : Gas → ℤ
joined_carryover g = g.carryover +ℤ g.operating

abbrev pub rest_of_carryover : Gas → ℤ
rest_of_carryover g = joined_carryover g -ℤ twelfth (joined_carryover g)

-- what moves on, and what is left of the carryover: with the clear flag the rest moves too
abbrev pub moved_on : Bool → Gas → ℤ
moved_on clear g = cond clear (joined_carryover g) (twelfth (joined_carryover g))

abbrev pub left_over : Bool → Gas → ℤ
left_over clear g = cond clear (pos 0) (rest_of_carryover g)

-- the parts of the statement's imbalance under the option o
abbrev pub parts_of : Rules → Page → Parts
parts_of o p = o.split p.statement.usage p.statement.monthly_quantity p.gas.statement

-- what is carried afterwards: what moves on and the kept part have joined it
abbrev pub carried_on : Bool → Gas → Parts → ℤ
carried_on clear g x = (g.carried +ℤ moved_on clear g) +ℤ x.kept

-- the page afterwards
abbrev pub settled_gas : Bool → Gas → Parts → Gas
settled_gas clear g x = record { running = g.running; statement = pos 0; operating = pos 0; carryover = left_over clear g; carried = carried_on clear g x }

abbrev pub settled_page : Bool → Page → Parts → Page
settled_page clear p x = record {
  status = p.status;
  kind = p.kind;
  election = p.election;
  settled = true;
  gas = settled_gas clear p.gas x;
  month = p.month;
  posted = p.posted;
  statement = basis 0 0;
}

-- the bill line of a charge that may be absent
abbrev pub line_of : ℕ → Month → Option Charge → List BillLine
line_of a m None = []
line_of a m (Some c) = record { account = a; month = m; charge = c } ∷ []

-- the lines of both tiers at the card's prices; a tier with no gas has none
abbrev pub tier_lines : Terms → ℕ → Parts → List BillLine
tier_lines t a x = line_of a t.month (tier_one_line t.tiers x) ++ line_of a t.month (tier_two_line t.tiers x)

-- a carryover whose rest is this large is not cleared at once
abbrev pub large_carryover : ℕ
large_carryover = 5000

-- carrying the parts x of the statement on, with so much room for bill lines
abbrev pub carrying_refusals : Bool → Terms → Page → ℕ → Parts → ℕ → List Refusal
carrying_refusals clear t p a x room =
    when (past (left_over clear p.gas)) 10 (Some a)
    ∷ when (past (carried_on clear p.gas x)) 10 (Some a)
    ∷ short (nat_lt room (length (tier_lines t a x)))
    ∷ []

-- settling the account a in the running month m with a card and a clear flag c, with so much room for bill lines
abbrev pub settling_refusals : Rules → Terms → Page → Month → ℕ → ℕ → ℕ → List Refusal
settling_refusals o t p m a c room =
    when (nat_lt 1 c) 1 no_account
    ∷ when (not (is_open p)) 2 (Some a)
    ∷ when (c == 1 && not (is_core p)) 4 (Some a)
    ∷ when (not (follows t.month m)) 6 no_account
    ∷ when p.settled 8 (Some a)
    ∷ when (c == 1 && nat_le large_carryover (unsigned_abs (rest_of_carryover p.gas))) 9 (Some a)
    ∷ carrying_refusals (c == 1) t p a (parts_of o p) room

-- the answer, the page after it, and the bill lines that it writes
abbrev pub settling_answer : Rules → Terms → Page → Month → ℕ → ℕ → ℕ → Answer (Option ℕ)
settling_answer o t p m a c room = decided (settling_refusals o t p m a c room)

abbrev pub page_settled : Rules → Terms → Page → Month → ℕ → ℕ → ℕ → Page
page_settled o t p m a c room = after (settling_answer o t p m a c room) (settled_page (c == 1) p (parts_of o p)) p

abbrev pub settling_lines : Rules → Terms → Page → Month → ℕ → ℕ → ℕ → List BillLine
settling_lines o t p m a c room = after (settling_answer o t p m a c room) (tier_lines t a (parts_of o p)) []
