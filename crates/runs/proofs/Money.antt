-- Billed cents of all lines stay within half a cent for each line of the amounts due.
use Rattle.std.proofs.Common.{◌≡◌, ℕ, zero, suc, ◌+◌, ◌*◌, Bool, true, false, cond, List, [], ◌∷◌, ◌++◌, length, ℤ, pos, negsuc, ◌+ℤ◌, ◌*ℤ◌, sym, subst, arith}
use Rattle.std.proofs.lemmas.List.{length-append}
use Rattle.std.proofs.lemmas.Int.{ints}
use Rattle.tariff.specs.Bills.{amount_due, charge}
use Rattle.tariff.specs.Faults.{Answer, done, refused}
use Rattle.tariff.specs.Money.{Within}
use Rattle.tariff.specs.declared.bill.BillKind.{BillKind}
use Rattle.tariff.specs.declared.bill.BillKind.TheVariants.{TierOne, TierTwo, DailyExcess, AccumulatedExcess, Credit}
use Rattle.tariff.specs.declared.month.Month.{Month}
use Rattle.tariff.proofs.Rounding.{nearest_within, sum_within}
use Rattle.tariff.specs.Bills.{tier_line}
use Rattle.quote.specs.Quotes.{due}
use Rattle.balancing.specs.Rules.{Rules}
use Rattle.balancing.specs.declared.option.Parts.{Parts}
use Rattle.cards.specs.declared.terms.Terms.{Terms}
use Rattle.records.specs.declared.call.Call.{Call}
use Rattle.records.specs.declared.call.Call.TheVariants.{Open, Set, Post, Adjust, State, Offer, Accept, Fold, Settle, Close}
use Rattle.records.specs.declared.lines.BillLine.{BillLine}
use Rattle.page.specs.Closing.{closing_lines, all_lines, credits_of, credited}
use Rattle.dues.specs.Dues.{due_at_closing, all_due}
use Rattle.page.specs.Pages.{is_open, elected}
use Rattle.records.specs.Refusals.{after}
use Rattle.page.specs.Settling.{line_of, tier_lines, parts_of}
use Rattle.page.specs.declared.closing.Credits.{Credits}
use Rattle.page.specs.declared.page.Page.{Page}
use Rattle.ledger.specs.Dues.{due_by}
use Rattle.ledger.specs.Ledgers.{page, fresh}
use Rattle.ledger.specs.declared.ledger.Ledger.{Ledger}
use Rattle.runs.specs.Law.{HalfACentALine}
use Rattle.runs.specs.Runs.{Event, Entry, called, outcome, history, lines_written, cents_billed, amounts_due}

-- bill lines whose cents are near what is due: half a cent apart for each line, at most
abbrev pub Near : List BillLine → ℤ → Type 0
Near ls d = Within (length ls * 5000) (cents_billed ls *ℤ pos 10000) d

-- the cents of lines joined
pub cents_append : (xs ys : List BillLine) → cents_billed (xs ++ ys) ≡ cents_billed xs +ℤ cents_billed ys
cents_append [] ys = omega (arith, ints)
cents_append (x ∷ xs) ys = let e = cents_append xs ys in omega (arith, ints, e)

-- lines joined, and what is due on both
pub near_append : (xs ys : List BillLine) (d e : ℤ) → Near xs d → Near ys e → Near (xs ++ ys) (d +ℤ e)
near_append xs ys d e p q =
    let both = sum_within (cents_billed xs) d (cents_billed ys) e (length xs * 5000) (length ys * 5000) p q in
    let places : length xs * 5000 + length ys * 5000 ≡ length (xs ++ ys) * 5000 = omega (arith, length-append xs ys) in
    subst (λ (z : ℤ). Within (length (xs ++ ys) * 5000) (z *ℤ pos 10000) (d +ℤ e)) (sym (cents_append xs ys))
    (subst (λ (n : ℕ). Within n ((cents_billed xs +ℤ cents_billed ys) *ℤ pos 10000) (d +ℤ e)) places both)

-- no lines, and nothing due
pub near_none : Near [] (pos 0)
near_none = (omega (arith, ints), omega (arith, ints))

-- no gas, no money
no_gas_no_money : (k : BillKind) (p : ℕ) → Near [] (amount_due k (pos 0) p)
no_gas_no_money TierOne p = (omega (arith, ints), omega (arith, ints))
no_gas_no_money TierTwo p = (omega (arith, ints), omega (arith, ints))
no_gas_no_money DailyExcess p = (omega (arith, ints), omega (arith, ints))
no_gas_no_money AccumulatedExcess p = (omega (arith, ints), omega (arith, ints))
no_gas_no_money Credit p = (omega (arith, ints), omega (arith, ints))

-- one line
near_one : (a : ℕ) (m : Month) (k : BillKind) (q : ℤ) (p : ℕ) → Near (record { account = a; month = m; charge = charge k q p } ∷ []) (amount_due k q p)
near_one a m k q p = let w = nearest_within (amount_due k q p) in (omega (arith, ints, w), omega (arith, ints, w))

-- the line of a quantity, which is absent where the quantity is 0
near_line : (a : ℕ) (m : Month) (k : BillKind) (q : ℤ) (p : ℕ) → Near (line_of a m (tier_line k q p)) (amount_due k q p)
near_line a m k (pos zero) p = no_gas_no_money k p
near_line a m k (pos (suc n)) p = near_one a m k (pos (suc n)) p
near_line a m k (negsuc n) p = near_one a m k (negsuc n) p

-- a settling
pub near_settling : (t : Terms) (a : ℕ) (x : Parts) → Near (tier_lines t a x) (due t.tiers x)
near_settling t a x = near_append (line_of a t.month (tier_line TierOne x.tier_one _)) (line_of a t.month (tier_line TierTwo x.tier_two _)) _ _
    (near_line a t.month TierOne x.tier_one _) (near_line a t.month TierTwo x.tier_two _)

-- lines of an open page, and none of any other
near_if : (b : Bool) (ls : List BillLine) (d : ℤ) → Near ls d → Near (cond b ls []) (cond b d (pos 0))
near_if true ls d n = n
near_if false ls d n = near_none

-- both excesses and the credit of a page
near_page : (t : Terms) (k : Credits) (a : ℕ) (p : Page) → Near (closing_lines t k a p) (due_at_closing t k p)
near_page t k a p =
    let daily : ℤ = pos p.posted.daily_excess in
    let accumulated : ℤ = pos p.posted.accumulated_excess in
    let usage : ℤ = pos (credited k p) in
    let one = near_line a t.month DailyExcess daily t.noncompliance in
    let two = near_line a t.month AccumulatedExcess accumulated t.noncompliance in
    let three = near_line a t.month Credit usage t.credit in
    let rest = near_append (line_of a t.month (tier_line AccumulatedExcess accumulated t.noncompliance)) (line_of a t.month (tier_line Credit usage t.credit)) _ _ two three in
    near_if (is_open p) _ _ (near_append (line_of a t.month (tier_line DailyExcess daily t.noncompliance)) _ _ _ one rest)

-- all pages from an account on
pub near_closing : (t : Terms) (k : Credits) (a : ℕ) (ps : List Page) → Near (all_lines t k a ps) (all_due t k ps)
near_closing t k a [] = near_none
near_closing t k a (p ∷ ps) = near_append (closing_lines t k a p) (all_lines t k (suc a) ps) _ _ (near_page t k a p) (near_closing t k (suc a) ps)

-- a call, performed or refused
near_after : {V : Type 0} (w : Answer V) (ls : List BillLine) (d : ℤ) → Near ls d → Near (after w ls []) (after w d (pos 0))
near_after (done v) ls d n = n
near_after (refused r y a) ls d n = near_none

-- each of the ten calls
pub near_called : (f s : Rules) (l : Ledger) (c : Call) (t u : Terms) (m n : ℕ) → Near (called f s l c t u m n).bills (after (called f s l c t u m n).answer (due_by f s l c t u) (pos 0))
near_called f s l (Open a k e d) t u m n = near_after (called f s l (Open a k e d) t u m n).answer [] (pos 0) near_none
near_called f s l (Set a d) t u m n = near_after (called f s l (Set a d) t u m n).answer [] (pos 0) near_none
near_called f s l (Post a d o r q) t u m n = near_after (called f s l (Post a d o r q) t u m n).answer [] (pos 0) near_none
near_called f s l (Adjust a q) t u m n = near_after (called f s l (Adjust a q) t u m n).answer [] (pos 0) near_none
near_called f s l (State a q) t u m n = near_after (called f s l (State a q) t u m n).answer [] (pos 0) near_none
near_called f s l (Offer g gc k kc q) t u m n = near_after (called f s l (Offer g gc k kc q) t u m n).answer [] (pos 0) near_none
near_called f s l (Accept k place) t u m n = near_after (called f s l (Accept k place) t u m n).answer [] (pos 0) near_none
near_called f s l (Fold b a) t u m n = near_after (called f s l (Fold b a) t u m n).answer [] (pos 0) near_none
near_called f s l (Settle a c) t u m n = near_after (called f s l (Settle a c) t u m n).answer _ _ (near_settling t a (parts_of (elected f s (page l a)) (page l a)))
near_called f s l Close t u m n = near_after (called f s l Close t u m n).answer _ _ (near_closing u (credits_of f s) 0 l.pages)

-- what an event adds to the lines and to what is due
near_more : {V : Type 0} (w : Answer V) (x : Entry) (h : List Entry) (d e : ℤ) → Near x.lines (after w d (pos 0)) → Near (lines_written h) e → Near (lines_written (after w (x ∷ h) h)) (after w d (pos 0) +ℤ e)
near_more (done v) x h d e p q = near_append x.lines (lines_written h) d e p q
near_more (refused r y a) x h d e p q = near_append [] (lines_written h) (pos 0) e near_none q

-- all events, from any ledger
pub near_all : (f s : Rules) (l : Ledger) (es : List Event) → Near (lines_written (history f s l es)) (amounts_due f s l es)
near_all f s l [] = near_none
near_all f s l (e ∷ es) =
    near_more (outcome f s l e).answer (record { call = e.call; lines = (outcome f s l e).bills }) (history f s (outcome f s l e).ledger es) _ _
    (near_called f s l e.call e.settling_card e.closing_card e.bill_room e.trade_room)
    (near_all f s (outcome f s l e).ledger es)

-- the law, from the empty book
pub half_a_cent_a_line : (f s : Rules) (m : Month) → HalfACentALine f s m
half_a_cent_a_line f s m es = near_all f s (fresh m) es
