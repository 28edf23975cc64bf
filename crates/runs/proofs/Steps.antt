-- What each of the ten calls moves, if performed.
use Rattle.std.proofs.Common.{◌≡◌, ℕ, true, false, eqb, [], ◌∷◌, ℤ, pos, ◌-ℤ◌, refl, arith}
use Rattle.std.proofs.lemmas.Int.{ints}
use Rattle.std.proofs.lemmas.Bool.{leb-false, not-false}
use Rattle.balancing.specs.Rules.{Rules, Laws}
use Rattle.cards.specs.declared.terms.Terms.{Terms}
use Rattle.records.specs.declared.call.Call.{Call}
use Rattle.records.specs.declared.call.Call.TheVariants.{Open, Set, Post, Adjust, State, Offer, Accept, Fold, Settle, Close}
use Rattle.records.specs.Accounts.{kind_of, election_of}
use Rattle.page.specs.Adjusting.{adjusting_refusals, adjusted, stating_refusals, stated}
use Rattle.page.specs.Closing.{all_lines, credits_of}
use Rattle.page.specs.Pages.{started, open_status, used_status, elected}
use Rattle.page.specs.Posting.{entered}
use Rattle.records.specs.Refusals.{after}
use Rattle.page.specs.Setting.{setting_refusals, with_monthly_quantity}
use Rattle.page.specs.Settling.{parts_of, settled_page, tier_lines}
use Rattle.records.specs.declared.account.Status.{Status}
use Rattle.records.specs.declared.account.Status.TheVariants.{Unused, Open as InUse, Folded}
use Rattle.ledger.specs.Calls.{no_such_account, opening_refusals, posting_table, offer_of, offered_on, accepting_refusals, folding_table, settling_table, closing_refusals}
use Rattle.ledger.specs.Ledgers.{page, with_page, offer_at}
use Rattle.ledger.specs.declared.ledger.Ledger.{Ledger}
use Rattle.runs.specs.Runs.{called, flow_of}
use Rattle.runs.proofs.Closings.{close_moves}
use Rattle.runs.proofs.Folds.{fold_moves}
use Rattle.runs.proofs.Moves.{Good, Moved, Moves, set_page, neither, nothing_moved, moved_as, performed, worth, effect}
use Rattle.runs.proofs.Settlings.{settle_moves}
use Rattle.runs.proofs.Tables.{AllPassed, passed}
use Rattle.runs.proofs.Trades.{accepted, trade_moves}

-- a number that was never used is not open
pub unused_closed : (s : Status) → used_status s ≡ false → open_status s ≡ false
unused_closed Unused e = refl
unused_closed InUse e = e
unused_closed Folded e = refl

-- opening: the page had no gas, and has none
pub open_moves : (l : Ledger) (a k e d : ℕ) → Good l → AllPassed (opening_refusals l a k e d) → Moves l (with_page l a (started (kind_of k) (election_of e) d)) (Open a k e d) []
open_moves l a k e d g p =
    let i = g.idle a (unused_closed (page l a).status p.1.1.1.0) in
    nothing_moved l _ a (set_page l a (started (kind_of k) (election_of e) d) (pos 0) g (leb-false 64 a p.0) (neither true refl) (λ _. refl) (omega (arith, ints, i)))

-- setting a monthly quantity moves nothing
pub set_moves : (l : Ledger) (a d : ℕ) → Good l → AllPassed (no_such_account a ∷ setting_refusals (page l a) a d) → Moves l (with_page l a (with_monthly_quantity (page l a) d)) (Set a d) []
set_moves l a d g p =
    nothing_moved l _ a (set_page l a (with_monthly_quantity (page l a) d) (pos 0) g (leb-false 64 a p.0) (neither _ (not-false _ p.1.0)) (g.quiet a) (omega (arith, ints)))

-- posting: receipts less usage join the running imbalance
pub post_moves : (f s : Rules) (l : Ledger) (a d flag r u : ℕ) → Good l → AllPassed (posting_table f s l a d flag r u) → Moves l (with_page l a (entered (elected f s (page l a)) (page l a) d flag r u)) (Post a d flag r u) []
post_moves f s l a d flag r u g p =
    moved_as _ _ _ _ _ (omega (arith, ints))
    (set_page l a (entered (elected f s (page l a)) (page l a) d flag r u) (pos r -ℤ pos u) g (leb-false 64 a p.0) (neither _ (not-false _ p.1.1.1.0)) (g.quiet a) (omega (arith, ints)))

-- adjusting: the quantity joins the running imbalance
pub adjust_moves : (l : Ledger) (a : ℕ) (q : ℤ) → Good l → AllPassed (no_such_account a ∷ adjusting_refusals (page l a) a q) → Moves l (with_page l a (adjusted (page l a) q)) (Adjust a q) []
adjust_moves l a q g p =
    moved_as _ _ _ _ _ (omega (arith, ints))
    (set_page l a (adjusted (page l a) q) q g (leb-false 64 a p.0) (neither _ (not-false _ p.1.0)) (g.quiet a) (omega (arith, ints)))

-- stating: the quantity joins the operating imbalance
pub state_moves : (l : Ledger) (a : ℕ) (q : ℤ) → Good l → AllPassed (no_such_account a ∷ stating_refusals (page l a) a q) → Moves l (with_page l a (stated (page l a) q)) (State a q) []
state_moves l a q g p =
    moved_as _ _ _ _ _ (omega (arith, ints))
    (set_page l a (stated (page l a) q) q g (leb-false 64 a p.0) (neither _ (not-false _ p.1.0)) (g.quiet a) (omega (arith, ints)))

-- an offer that is laid moves nothing
pub offer_moves : (l : Ledger) (a ac k kc q : ℕ) → Good l → Moves l (offered_on l (offer_of a ac k kc q)) (Offer a ac k kc q) []
offer_moves l a ac k kc q g = record { good = record { full = g.full; idle = g.idle; quiet = g.quiet }; total = omega (arith, ints); each = λ n h. h }

-- settling: what the lines cash out leaves the page
pub tiers_move : (f s : Rules) → Laws f → Laws s → (t : Terms) (l : Ledger) (a c room : ℕ) → Good l → AllPassed (settling_table f s t l a c room)
    → Moves l (with_page l a (settled_page (eqb c 1) (page l a) (parts_of (elected f s (page l a)) (page l a)))) (Settle a c) (tier_lines t a (parts_of (elected f s (page l a)) (page l a)))
tiers_move f s lf ls t l a c room g p = moved_as _ _ _ _ _ (omega (arith, ints)) (settle_moves f s lf ls t l a c room g p _ refl)

-- a call moves what it moves if performed, else nothing
pub stepped : (f s : Rules) → Laws f → Laws s → (l : Ledger) → Good l → (c : Call) (t u : Terms) (m n : ℕ)
    → Moved l (called f s l c t u m n).ledger
    (after (called f s l c t u m n).answer (worth (flow_of c (called f s l c t u m n).bills)) (pos 0))
    (λ x. after (called f s l c t u m n).answer (effect l c (called f s l c t u m n).bills x) x)
stepped f s lf ls l g (Open a k e d) t u m n =
    performed (called f s l (Open a k e d) t u m n).answer l _ (Open a k e d) [] g (λ v q. open_moves l a k e d g (passed (opening_refusals l a k e d) _ v q))
stepped f s lf ls l g (Set a d) t u m n =
    performed (called f s l (Set a d) t u m n).answer l _ (Set a d) [] g (λ v q. set_moves l a d g (passed (no_such_account a ∷ setting_refusals (page l a) a d) _ v q))
stepped f s lf ls l g (Post a d o r x) t u m n =
    performed (called f s l (Post a d o r x) t u m n).answer l _ (Post a d o r x) [] g (λ v q. post_moves f s l a d o r x g (passed (posting_table f s l a d o r x) _ v q))
stepped f s lf ls l g (Adjust a z) t u m n =
    performed (called f s l (Adjust a z) t u m n).answer l _ (Adjust a z) [] g (λ v q. adjust_moves l a z g (passed (no_such_account a ∷ adjusting_refusals (page l a) a z) _ v q))
stepped f s lf ls l g (State a z) t u m n =
    performed (called f s l (State a z) t u m n).answer l _ (State a z) [] g (λ v q. state_moves l a z g (passed (no_such_account a ∷ stating_refusals (page l a) a z) _ v q))
stepped f s lf ls l g (Offer a ac k kc z) t u m n =
    performed (called f s l (Offer a ac k kc z) t u m n).answer l _ (Offer a ac k kc z) [] g (λ v q. offer_moves l a ac k kc z g)
stepped f s lf ls l g (Accept k place) t u m n =
    performed (called f s l (Accept k place) t u m n).answer l _ (Accept k place) [] g
    (λ v q. trade_moves l (offer_at l place) k place g (accepted l (offer_at l place) k place n (passed (accepting_refusals l (offer_at l place) k place n) _ v q)))
stepped f s lf ls l g (Fold b a) t u m n =
    performed (called f s l (Fold b a) t u m n).answer l _ (Fold b a) [] g (λ v q. fold_moves l b a g (passed (folding_table l b a) _ v q))
stepped f s lf ls l g (Settle a c) t u m n =
    performed (called f s l (Settle a c) t u m n).answer l _ (Settle a c) (tier_lines t a (parts_of (elected f s (page l a)) (page l a))) g
    (λ v q. tiers_move f s lf ls t l a c m g (passed (settling_table f s t l a c m) _ v q))
stepped f s lf ls l g Close t u m n =
    performed (called f s l Close t u m n).answer l _ Close (all_lines u (credits_of f s) 0 l.pages) g
    (λ v q. close_moves f s u l m g (passed (closing_refusals f s u l m) _ v q))
