-- The ten calls on a ledger: what each comes to. Rows are tested from the top.
use Rattle.std.specs.Prelude.{ℕ, ◌+◌, Bool, true, false, not, ◌&&◌, ◌||◌, List, [], ◌∷◌, map, length, ℤ, pos, Some, None, Option, ◌==◌, nat_le, nat_lt, slice_set}
use Rattle.std.specs.List.{prefix_len}
use Rattle.tariff.specs.Faults.{no_account}
use Rattle.tariff.specs.Months.{days_in, following, preceding, same_month}
use Rattle.tariff.specs.declared.month.Month.{Month}
use Rattle.balancing.specs.Rules.{Rules}
use Rattle.cards.specs.declared.terms.Terms.{Terms}
use Rattle.records.specs.Components.{component_of}
use Rattle.records.specs.declared.lines.Trade.{Trade}
use Rattle.records.specs.Accounts.{kind_of, election_of}
use Rattle.page.specs.Adjusting.{adjusting_refusals, adjusted, stating_refusals, stated}
use Rattle.page.specs.Closing.{credits_of, all_lines, turned, behind, unsettled}
use Rattle.page.specs.Folding.{folding_refusals, joined, retired}
use Rattle.page.specs.Limits.{past, most_a_month}
use Rattle.page.specs.Pages.{started, is_open, is_used, is_core, elected}
use Rattle.page.specs.Posting.{posting_refusals, entered}
use Rattle.records.specs.Refusals.{Refusal, when, short, outside}
use Rattle.page.specs.Setting.{setting_refusals, with_monthly_quantity}
use Rattle.page.specs.Settling.{settling_refusals, settled_page, parts_of, tier_lines}
use Rattle.page.specs.Trading.{more_in, less_in, gained, lost}
use Rattle.page.specs.declared.page.Page.{Page}
use Rattle.ledger.specs.Ledgers.{page, with_page, offer_at, with_offer, Outcome, judged}
use Rattle.ledger.specs.declared.ledger.Ledger.{Ledger}
use Rattle.ledger.specs.declared.offer.Offer.{Offer}

-- there are 64 accounts and 128 places for offers
abbrev pub no_such_account : ℕ → Refusal
no_such_account a = when (nat_le 64 a) 1 no_account

-- opening the account a with a kind, an election and a monthly quantity
abbrev pub opening_refusals : Ledger → ℕ → ℕ → ℕ → ℕ → List Refusal
opening_refusals l a k e d =
    no_such_account a
    ∷ when (outside 1 2 k) 1 no_account
    ∷ when (outside 1 2 e) 1 no_account
    ∷ when (is_used (page l a)) 3 (Some a)
    ∷ when (nat_lt most_a_month d) 10 (Some a)
    ∷ []

abbrev pub opening : Ledger → ℕ → ℕ → ℕ → ℕ → Outcome
opening l a k e d = judged (opening_refusals l a k e d) None l (with_page l a (started (kind_of k) (election_of e) d)) [] []

-- setting the monthly quantity
abbrev pub setting : Ledger → ℕ → ℕ → Outcome
setting l a d = judged (no_such_account a ∷ setting_refusals (page l a) a d) None l (with_page l a (with_monthly_quantity (page l a) d)) [] []

-- posting a day, with the option that the account elects of the book's two
abbrev pub posting_table : Rules → Rules → Ledger → ℕ → ℕ → ℕ → ℕ → ℕ → List Refusal
posting_table f s l a d flag r u = no_such_account a ∷ posting_refusals (elected f s (page l a)) (page l a) (days_in l.month) a d flag r u

abbrev pub posting : Rules → Rules → Ledger → ℕ → ℕ → ℕ → ℕ → ℕ → Outcome
posting f s l a d flag r u = judged (posting_table f s l a d flag r u) None l (with_page l a (entered (elected f s (page l a)) (page l a) d flag r u)) [] []

-- adjusting
abbrev pub adjusting : Ledger → ℕ → ℤ → Outcome
adjusting l a q = judged (no_such_account a ∷ adjusting_refusals (page l a) a q) None l (with_page l a (adjusted (page l a) q)) [] []

-- stating
abbrev pub stating : Ledger → ℕ → ℤ → Outcome
stating l a q = judged (no_such_account a ∷ stating_refusals (page l a) a q) None l (with_page l a (stated (page l a) q)) [] []

-- the operating component of a noncore account
abbrev pub operating_on_noncore : ℕ → Page → Bool
operating_on_noncore c p = c == 2 && not (is_core p)

-- offering q from a component of the giver g to a component of the taker t
abbrev pub offering_refusals : Ledger → ℕ → ℕ → ℕ → ℕ → ℕ → List Refusal
offering_refusals l g gc t tc q =
    no_such_account g
    ∷ no_such_account t
    ∷ when (outside 1 2 gc) 1 no_account
    ∷ when (outside 1 2 tc) 1 no_account
    ∷ when (nat_lt q 1) 1 no_account
    ∷ when (not (is_open (page l g))) 2 (Some g)
    ∷ when (not (is_open (page l t))) 2 (Some t)
    ∷ when (operating_on_noncore gc (page l g) || g == t) 4 (Some g)
    ∷ when (operating_on_noncore tc (page l t)) 4 (Some t)
    ∷ when (page l g).settled 8 (Some g)
    ∷ when (page l t).settled 8 (Some t)
    ∷ when (past (pos q)) 10 (Some g)
    ∷ when (nat_le 128 l.offered) 11 no_account
    ∷ []

-- the offer is laid at the next place
abbrev pub offer_of : ℕ → ℕ → ℕ → ℕ → ℕ → Offer
offer_of g gc t tc q = record { giver = g; gives = component_of gc; taker = t; takes = component_of tc; quantity = q; stands = true }

abbrev pub offered_on : Ledger → Offer → Ledger
offered_on l o = record { month = l.month; pages = l.pages; offers = slice_set l.offers l.offered o; offered = l.offered + 1 }

-- it gives its place
abbrev pub offering : Ledger → ℕ → ℕ → ℕ → ℕ → ℕ → Outcome
offering l g gc t tc q = judged (offering_refusals l g gc t tc q) (Some l.offered) l (offered_on l (offer_of g gc t tc q)) [] []

-- the offer o at the place k is open, and made to t by another account
abbrev pub open_to : Ledger → Offer → ℕ → ℕ → Bool
open_to l o t k = nat_lt k l.offered && o.stands && o.taker == t && not (o.giver == t)

-- accepting the offer o at the place k by the taker t, with so much room for trade confirmations
abbrev pub accepting_refusals : Ledger → Offer → ℕ → ℕ → ℕ → List Refusal
accepting_refusals l o t k room =
    no_such_account t
    ∷ when (nat_le 128 k) 1 no_account
    ∷ when (not (is_open (page l t))) 2 (Some t)
    ∷ when (open_to l o t k && not (is_open (page l o.giver))) 2 (Some o.giver)
    ∷ when (not (open_to l o t k)) 5 (Some t)
    ∷ when (page l t).settled 8 (Some t)
    ∷ when (page l o.giver).settled 8 (Some o.giver)
    ∷ when (past (more_in o.takes (page l t) o.quantity)) 10 (Some t)
    ∷ when (past (less_in o.gives (page l o.giver) o.quantity)) 10 (Some o.giver)
    ∷ short (nat_lt room 1)
    ∷ []

-- the quantity leaves the giver's component and joins the taker's
abbrev pub traded : Ledger → Offer → ℕ → Ledger
traded l o t = with_page
    (with_page l o.giver (lost o.gives (page l o.giver) o.quantity))
    t (gained o.takes (page l t) o.quantity)

-- an offer that was accepted
abbrev pub spent : Offer → Offer
spent o = record { giver = o.giver; gives = o.gives; taker = o.taker; takes = o.takes; quantity = o.quantity; stands = false }

-- the statement month is the month before the running one
abbrev pub month_or : Month → Option Month → Month
month_or m None = m
month_or m (Some n) = n

abbrev pub statement_month : Ledger → Month
statement_month l = month_or l.month (preceding l.month)

-- the trade confirmation of an offer
abbrev pub confirmed : Ledger → Offer → Trade
confirmed l o = record { month = statement_month l; giver = o.giver; gives = o.gives; taker = o.taker; takes = o.takes; quantity = o.quantity }

abbrev pub accepting_offer : Ledger → Offer → ℕ → ℕ → ℕ → Outcome
accepting_offer l o t k room = judged (accepting_refusals l o t k room) None l (with_offer (traded l o t) k (spent o)) [] (confirmed l o ∷ [])

abbrev pub accepting : Ledger → ℕ → ℕ → ℕ → Outcome
accepting l t k room = accepting_offer l (offer_at l k) t k room

-- folding the member m into the agent a
abbrev pub folding_table : Ledger → ℕ → ℕ → List Refusal
folding_table l m a = no_such_account m ∷ no_such_account a ∷ folding_refusals m (page l m) a (page l a)

abbrev pub folded : Ledger → ℕ → ℕ → Ledger
folded l m a = with_page (with_page l m (retired (page l m))) a (joined (page l a) (page l m))

abbrev pub folding : Ledger → ℕ → ℕ → Outcome
folding l m a = judged (folding_table l m a) None l (folded l m a) [] []

-- settling the account a with a card and a clear flag, with so much room for bill lines
abbrev pub settling_table : Rules → Rules → Terms → Ledger → ℕ → ℕ → ℕ → List Refusal
settling_table f s t l a c room = no_such_account a ∷ settling_refusals (elected f s (page l a)) t (page l a) l.month a c room

abbrev pub settling : Rules → Rules → Terms → Ledger → ℕ → ℕ → ℕ → Outcome
settling f s t l a c room = judged (settling_table f s t l a c room) None l
    (with_page l a (settled_page (c == 1) (page l a) (parts_of (elected f s (page l a)) (page l a))))
    (tier_lines t a (parts_of (elected f s (page l a)) (page l a))) []

-- the lowest account whose page fits, and 64 of 64 where none does
abbrev pub lowest : (Page → Bool) → List Page → ℕ
lowest fits ps = prefix_len (λ p. not (fits p)) ps

abbrev pub no_month : Option Month → Bool
no_month None = true
no_month (Some m) = false

-- closing the running month with a card, with so much room for bill lines
abbrev pub closing_refusals : Rules → Rules → Terms → Ledger → ℕ → List Refusal
closing_refusals f s t l room =
    when (not (same_month t.month l.month)) 6 no_account
    ∷ when (no_month (following l.month)) 6 no_account
    ∷ when (nat_lt (lowest (behind (days_in l.month)) l.pages) 64) 7 (Some (lowest (behind (days_in l.month)) l.pages))
    ∷ when (nat_lt (lowest unsettled l.pages) 64) 8 (Some (lowest unsettled l.pages))
    ∷ short (nat_lt room (length (all_lines t (credits_of f s) 0 l.pages)))
    ∷ []

-- every page is turned, open offers are void and all places free, and the next month runs
abbrev pub turned_over : Ledger → Ledger
turned_over l = record { month = month_or l.month (following l.month); pages = map turned l.pages; offers = l.offers; offered = 0 }

abbrev pub closing : Rules → Rules → Terms → Ledger → ℕ → Outcome
closing f s t l room = judged (closing_refusals f s t l room) None l (turned_over l) (all_lines t (credits_of f s) 0 l.pages) []
