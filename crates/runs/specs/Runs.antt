-- What lists of calls come to.
use Rattle.std.specs.Prelude.{ℕ, List, [], ◌∷◌, ◌++◌, ℤ, pos, ◌+ℤ◌, ◌-ℤ◌}
use Rattle.balancing.specs.Rules.{Rules}
use Rattle.cards.specs.declared.terms.Terms.{Terms}
use Rattle.records.specs.declared.call.Call.{Call}
use Rattle.records.specs.declared.call.Call.TheVariants.{Open, Set, Post, Adjust, State, Offer, Accept, Fold, Settle, Close}
use Rattle.records.specs.declared.lines.BillLine.{BillLine}
use Rattle.records.specs.Refusals.{after}
use Rattle.ledger.specs.Calls.{opening, setting, posting, adjusting, stating, offering, accepting, folding, settling, closing}
use Rattle.ledger.specs.Dues.{due_by}
use Rattle.ledger.specs.Ledgers.{Outcome}
use Rattle.ledger.specs.declared.ledger.Ledger.{Ledger}
use Rattle.tally.specs.Tallies.{Tally, fed, cashed_out}

-- a call with all that is handed to it: the meanings of a card for settling and of one for closing, and the room in both registers
pub record Event : Type 0 where
  pub call : Call
  pub settling_card : Terms
  pub closing_card : Terms
  pub bill_room : ℕ
  pub trade_room : ℕ

abbrev pub handed : Call → Terms → Terms → ℕ → ℕ → Event
handed c t u m n = record { call = c; settling_card = t; closing_card = u; bill_room = m; trade_room = n }

-- what any of the ten calls comes to
abbrev pub called : Rules → Rules → Ledger → Call → Terms → Terms → ℕ → ℕ → Outcome
called f s l (Open a k e d) t u m n = opening l a k e d
called f s l (Set a d) t u m n = setting l a d
called f s l (Post a d o r q) t u m n = posting f s l a d o r q
called f s l (Adjust a q) t u m n = adjusting l a q
called f s l (State a q) t u m n = stating l a q
called f s l (Offer g gc k kc q) t u m n = offering l g gc k kc q
called f s l (Accept k place) t u m n = accepting l k place n
called f s l (Fold b a) t u m n = folding l b a
called f s l (Settle a c) t u m n = settling f s t l a c m
called f s l Close t u m n = closing f s u l m

abbrev pub outcome : Rules → Rules → Ledger → Event → Outcome
outcome f s l e = called f s l e.call e.settling_card e.closing_card e.bill_room e.trade_room

-- the ledger after a list of events
abbrev pub run : Rules → Rules → Ledger → List Event → Ledger
run f s l [] = l
run f s l (e ∷ es) = run f s (outcome f s l e).ledger es

-- a performed call, with the bill lines that it wrote
pub record Entry : Type 0 where
  pub call : Call
  pub lines : List BillLine

-- the performed calls of a list of events, in order
abbrev pub history : Rules → Rules → Ledger → List Event → List Entry
history f s l [] = []
history f s l (e ∷ es) = after (outcome f s l e).answer
    (record { call = e.call; lines = (outcome f s l e).bills } ∷ history f s (outcome f s l e).ledger es)
    (history f s (outcome f s l e).ledger es)

-- the gas that a performed call brings to the book or takes from it: receipts less usage, an adjustment,
-- an operating quantity, and gas cashed out by the lines that a settling wrote
pub record Flow : Type 0 where
  pub delivered : ℤ
  pub adjusted : ℤ
  pub stated : ℤ
  pub cashed : ℤ

abbrev pub flowing : ℤ → ℤ → ℤ → ℤ → Flow
flowing d a p c = record { delivered = d; adjusted = a; stated = p; cashed = c }

abbrev pub flow_of : Call → List BillLine → Flow
flow_of (Open a k e d) ls = flowing (pos 0) (pos 0) (pos 0) (pos 0)
flow_of (Set a d) ls = flowing (pos 0) (pos 0) (pos 0) (pos 0)
flow_of (Post a d o r u) ls = flowing (pos r -ℤ pos u) (pos 0) (pos 0) (pos 0)
flow_of (Adjust a q) ls = flowing (pos 0) q (pos 0) (pos 0)
flow_of (State a q) ls = flowing (pos 0) (pos 0) q (pos 0)
flow_of (Offer g gc k kc q) ls = flowing (pos 0) (pos 0) (pos 0) (pos 0)
flow_of (Accept k place) ls = flowing (pos 0) (pos 0) (pos 0) (pos 0)
flow_of (Fold b a) ls = flowing (pos 0) (pos 0) (pos 0) (pos 0)
flow_of (Settle a c) ls = flowing (pos 0) (pos 0) (pos 0) (cashed_out ls)
flow_of Close ls = flowing (pos 0) (pos 0) (pos 0) (pos 0)

abbrev pub flow : Entry → Flow
flow x = flow_of x.call x.lines

-- a figure of the entries, added up
abbrev pub sum_of : (Entry → ℤ) → List Entry → ℤ
sum_of f [] = pos 0
sum_of f (x ∷ xs) = f x +ℤ sum_of f xs

-- the tally after a list of performed calls
abbrev pub tallied : Tally → List Entry → Tally
tallied t [] = t
tallied t (x ∷ xs) = tallied (fed t x.call x.lines) xs

-- all bill lines that were written
abbrev pub lines_written : List Entry → List BillLine
lines_written [] = []
lines_written (x ∷ xs) = x.lines ++ lines_written xs

-- the cents of bill lines
abbrev pub cents_billed : List BillLine → ℤ
cents_billed [] = pos 0
cents_billed (b ∷ bs) = b.charge.cents.count +ℤ cents_billed bs

-- the amounts due after a list of events
abbrev pub amounts_due : Rules → Rules → Ledger → List Event → ℤ
amounts_due f s l [] = pos 0
amounts_due f s l (e ∷ es) =
    after (outcome f s l e).answer (due_by f s l e.call e.settling_card e.closing_card) (pos 0)
    +ℤ amounts_due f s (outcome f s l e).ledger es
