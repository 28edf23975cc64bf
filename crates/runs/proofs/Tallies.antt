-- The tally follows the book: the same gas for each account, and the same offers at each place.
use Rattle.std.proofs.Common.{◌≡◌, ℕ, ◌+◌, ◌<◌, List, [], ◌∷◌, length, get_or, pos, sym, refl, ap, ◌∙◌, inl, inr, arith, length-set}
use Rattle.std.proofs.lemmas.List.{get_or-set_same, get_or-set_other, get_or_append_left, get_or_past, get_or_push, length_push}
use Rattle.std.proofs.lemmas.Bool.{leb-false, ltb-true, lt-ltb, le-ltb, cases_eq, cases_lt}
use Rattle.tariff.specs.Faults.{Answer, done, refused}
use Rattle.tariff.specs.declared.month.Month.{Month}
use Rattle.balancing.specs.Rules.{Rules, Laws}
use Rattle.cards.specs.declared.terms.Terms.{Terms}
use Rattle.records.specs.declared.call.Call.{Call}
use Rattle.records.specs.declared.call.Call.TheVariants.{Open, Set, Post, Adjust, State, Offer, Accept, Fold, Settle, Close}
use Rattle.records.specs.declared.lines.BillLine.{BillLine}
use Rattle.page.specs.Adjusting.{adjusting_refusals, stating_refusals}
use Rattle.page.specs.Closing.{all_lines, credits_of}
use Rattle.page.specs.Pages.{gas_on, elected}
use Rattle.records.specs.Refusals.{after}
use Rattle.page.specs.Setting.{setting_refusals}
use Rattle.page.specs.Settling.{parts_of, tier_lines}
use Rattle.ledger.specs.Calls.{no_such_account, opening_refusals, posting_table, offering_refusals, offer_of, offered_on, accepting_refusals, traded, spent, folding_table, settling_table, closing_refusals, turned_over}
use Rattle.ledger.specs.Ledgers.{fresh, page, no_offer, offer_at, with_offer}
use Rattle.ledger.specs.declared.ledger.Ledger.{Ledger}
use Rattle.ledger.specs.declared.offer.Offer as book
use Rattle.tally.specs.Tallies.{Laid, Tally, nothing_laid, empty, laid_at, fed, traded as exchanged}
use Rattle.runs.specs.Law.{GasOnEachPage, OffersStandAlike, standing}
use Rattle.runs.specs.Runs.{Event, Entry, called, outcome, run, history, tallied}
use Rattle.runs.proofs.Closings.{close_moves}
use Rattle.runs.proofs.Folds.{fold_moves}
use Rattle.runs.proofs.Moves.{Good, Moved, Moves, effect, all_blank, good_fresh}
use Rattle.runs.proofs.Steps.{open_moves, set_moves, post_moves, adjust_moves, state_moves, offer_moves, tiers_move}
use Rattle.runs.proofs.Tables.{passed}
use Rattle.runs.proofs.Trades.{AcceptingFound, accepted, trade_moves}

-- an offer of the book as the tally keeps it
abbrev pub laid_of : book.Offer → Laid
laid_of o = record { giver = o.giver; quantity = o.quantity; stands = o.stands }

-- the ledger and the tally speak of the same gas and the same offers
pub record Agrees (l : Ledger) (t : Tally) : Type 0 where
  pub good : Good l
  pub room : length l.offers ≡ 128
  pub each : (b : ℕ) → gas_on (page l b) ≡ t.number b
  pub count : length t.offers ≡ l.offered
  pub like : (k : ℕ) → k < l.offered → laid_of (offer_at l k) ≡ laid_at t k

-- a call that leaves the offers alone
pub agreed_moves : (l k : Ledger) (t : Tally) (c : Call) (ls : List BillLine) → Agrees l t → Moves l k c ls → k.offers ≡ l.offers → k.offered ≡ l.offered
    → Agrees k (record { number = effect l c ls t.number; offers = t.offers })
agreed_moves l k t c ls g m same count = record {
  good = m.good;
  room = ap length same ∙ g.room;
  each = m.each t.number g.each;
  count = g.count ∙ sym count;
  like = λ j h. ap (λ (os : List book.Offer). laid_of (get_or os j no_offer)) same ∙ g.like j (rw count at h);
}

-- an offer is laid at the next place of both
pub agreed_offer : (l : Ledger) (t : Tally) (a ac k kc q : ℕ) → Agrees l t → l.offered < 128 → Agrees (offered_on l (offer_of a ac k kc q)) (fed t (Offer a ac k kc q) [])
agreed_offer l t a ac k kc q g h =
    let w : l.offered < length l.offers = omega (arith, g.room) in
    let o = offer_of a ac k kc q in
    let new : Laid = laid_of o in
    record {
      good = (offer_moves l a ac k kc q g.good).good;
      room = length-set l.offers l.offered o ∙ g.room;
      each = g.each;
      count = length_push t.offers new ∙ ap (λ (n : ℕ). n + 1) g.count;
      like = λ j b. elim (cases_eq j l.offered) [
        | inl same ↦ rw same (ap laid_of (get_or-set_same l.offers l.offered o no_offer w) ∙ sym (get_or_push t.offers new nothing_laid l.offered g.count))
        | inr other ↦ ap laid_of (get_or-set_other l.offers l.offered j o no_offer other) ∙ g.like j (omega arith) ∙ sym (get_or_append_left t.offers (new ∷ []) nothing_laid j (omega (arith, g.count)))
      ];
    }

-- the offer at a place is accepted: both move its quantity, and it stands no more
pub agreed_trade : (l : Ledger) (t : Tally) (a k : ℕ) → Agrees l t → AcceptingFound l (offer_at l k) a k → Agrees (with_offer (traded l (offer_at l k) a) k (spent (offer_at l k))) (exchanged t (laid_of (offer_at l k)) a k)
agreed_trade l t a k g x =
    let m = trade_moves l (offer_at l k) a k g.good x in
    let here : k < length l.offers = omega (arith, g.room, x.place) in
    let i : k < l.offered = ltb-true k l.offered x.laid in
    let there : k < length t.offers = omega (arith, g.count, i) in
    let o = spent (offer_at l k) in
    rw x.stood (record {
      good = m.good;
      room = length-set l.offers k o ∙ g.room;
      each = m.each t.number g.each;
      count = length-set t.offers k (laid_of o) ∙ g.count;
      like = λ j h. elim (cases_eq j k) [
        | inl same ↦ rw same (ap laid_of (get_or-set_same l.offers k o no_offer here) ∙ sym (get_or-set_same t.offers k (laid_of o) nothing_laid there))
        | inr other ↦ ap laid_of (get_or-set_other l.offers k j o no_offer other) ∙ g.like j h ∙ sym (get_or-set_other t.offers k j (laid_of o) nothing_laid other)
      ];
    })

-- a closing voids the offers of both
pub agreed_close : (l : Ledger) (t : Tally) (ls : List BillLine) → Agrees l t → Moved l (turned_over l) (pos 0) (λ n. n) → Agrees (turned_over l) (fed t Close ls)
agreed_close l t ls g m = record { good = m.good; room = g.room; each = m.each t.number g.each; count = refl; like = λ j h. absurd (omega (arith, h)) }

-- a refused call changes neither
pub agreed_after : {V : Type 0} (w : Answer V) (l k : Ledger) (t : Tally) (c : Call) (ls : List BillLine) → Agrees l t → ((v : V) → w ≡ done v → Agrees k (fed t c ls))
    → Agrees (after w k l) (after w (fed t c (after w ls [])) t)
agreed_after (done v) l k t c ls g m = m v refl
agreed_after (refused r y a) l k t c ls g m = g

-- each of the ten calls, performed or refused
pub agreed : (f s : Rules) → Laws f → Laws s → (l : Ledger) (t : Tally) → Agrees l t → (c : Call) (i j : Terms) (m n : ℕ)
    → Agrees (called f s l c i j m n).ledger (after (called f s l c i j m n).answer (fed t c (called f s l c i j m n).bills) t)
agreed f s lf ls l t g (Open a k e d) i j m n =
    agreed_after (called f s l (Open a k e d) i j m n).answer l _ t (Open a k e d) [] g
    (λ v q. agreed_moves l _ t (Open a k e d) [] g (open_moves l a k e d g.good (passed (opening_refusals l a k e d) _ v q)) refl refl)
agreed f s lf ls l t g (Set a d) i j m n =
    agreed_after (called f s l (Set a d) i j m n).answer l _ t (Set a d) [] g
    (λ v q. agreed_moves l _ t (Set a d) [] g (set_moves l a d g.good (passed (no_such_account a ∷ setting_refusals (page l a) a d) _ v q)) refl refl)
agreed f s lf ls l t g (Post a d o r x) i j m n =
    agreed_after (called f s l (Post a d o r x) i j m n).answer l _ t (Post a d o r x) [] g
    (λ v q. agreed_moves l _ t (Post a d o r x) [] g (post_moves f s l a d o r x g.good (passed (posting_table f s l a d o r x) _ v q)) refl refl)
agreed f s lf ls l t g (Adjust a z) i j m n =
    agreed_after (called f s l (Adjust a z) i j m n).answer l _ t (Adjust a z) [] g
    (λ v q. agreed_moves l _ t (Adjust a z) [] g (adjust_moves l a z g.good (passed (no_such_account a ∷ adjusting_refusals (page l a) a z) _ v q)) refl refl)
agreed f s lf ls l t g (State a z) i j m n =
    agreed_after (called f s l (State a z) i j m n).answer l _ t (State a z) [] g
    (λ v q. agreed_moves l _ t (State a z) [] g (state_moves l a z g.good (passed (no_such_account a ∷ stating_refusals (page l a) a z) _ v q)) refl refl)
agreed f s lf ls l t g (Offer a ac k kc z) i j m n =
    agreed_after (called f s l (Offer a ac k kc z) i j m n).answer l _ t (Offer a ac k kc z) [] g
    (λ v q. let p = passed (offering_refusals l a ac k kc z) _ v q in agreed_offer l t a ac k kc z g (leb-false 128 l.offered p.1.1.1.1.1.1.1.1.1.1.1.1.0))
agreed f s lf ls l t g (Accept a k) i j m n =
    agreed_after (called f s l (Accept a k) i j m n).answer l _ t (Accept a k) [] g
    (λ v q. let x = accepted l (offer_at l k) a k n (passed (accepting_refusals l (offer_at l k) a k n) _ v q) in
    rw (sym (g.like k (ltb-true k l.offered x.laid))) (agreed_trade l t a k g x))
agreed f s lf ls l t g (Fold b a) i j m n =
    agreed_after (called f s l (Fold b a) i j m n).answer l _ t (Fold b a) [] g
    (λ v q. agreed_moves l _ t (Fold b a) [] g (fold_moves l b a g.good (passed (folding_table l b a) _ v q)) refl refl)
agreed f s lf ls l t g (Settle a c) i j m n =
    let lines = tier_lines i a (parts_of (elected f s (page l a)) (page l a)) in
    agreed_after (called f s l (Settle a c) i j m n).answer l _ t (Settle a c) lines g
    (λ v q. agreed_moves l _ t (Settle a c) lines g (tiers_move f s lf ls i l a c m g.good (passed (settling_table f s i l a c m) _ v q)) refl refl)
agreed f s lf ls l t g Close i j m n =
    let lines = all_lines j (credits_of f s) 0 l.pages in
    agreed_after (called f s l Close i j m n).answer l _ t Close lines g
    (λ v q. agreed_close l t lines g (close_moves f s j l m g.good (passed (closing_refusals f s j l m) _ v q)))

-- the tally is fed with performed calls only
pub fed_after : {V : Type 0} (w : Answer V) (t : Tally) (x : Entry) (h : List Entry) → tallied t (after w (x ∷ h) h) ≡ tallied (after w (fed t x.call x.lines) t) h
fed_after (done v) t x h = refl
fed_after (refused r y a) t x h = refl

-- all events, from any ledger and tally that agree
pub agreed_all : (f s : Rules) → Laws f → Laws s → (l : Ledger) (t : Tally) → Agrees l t → (es : List Event) → Agrees (run f s l es) (tallied t (history f s l es))
agreed_all f s lf ls l t g [] = g
agreed_all f s lf ls l t g (e ∷ es) =
    rw (fed_after (outcome f s l e).answer t (record { call = e.call; lines = (outcome f s l e).bills }) (history f s (outcome f s l e).ledger es))
    (agreed_all f s lf ls (outcome f s l e).ledger _ (agreed f s lf ls l t g e.call e.settling_card e.closing_card e.bill_room e.trade_room) es)

-- the empty ledger and the empty tally agree
pub agrees_fresh : (m : Month) → Agrees (fresh m) empty
agrees_fresh m = record
    { good = good_fresh m; room = refl; each = λ b. ap gas_on (all_blank b); count = refl; like = λ k h. absurd (omega (arith, h)) }

-- the gas on every page, open or not, is its account's number in the tally
pub gas_on_every_page : (f s : Rules) → Laws f → Laws s → (m : Month) (es : List Event) (a : ℕ) → gas_on (page (run f s (fresh m) es) a) ≡ (tallied empty (history f s (fresh m) es)).number a
gas_on_every_page f s lf ls m es = (agreed_all f s lf ls (fresh m) empty (agrees_fresh m) es).each

-- so it is on every open page
pub gas_on_each_page : (f s : Rules) → Laws f → Laws s → (m : Month) → GasOnEachPage f s m
gas_on_each_page f s lf ls m es a o = gas_on_every_page f s lf ls m es a

-- beyond the offers that were laid, none stands in either
pub stands_alike : (l : Ledger) (t : Tally) → Agrees l t → (k : ℕ) → standing l k ≡ (laid_at t k).stands
stands_alike l t g k = elim (cases_lt k l.offered) [
  | inl h ↦ rw (lt-ltb k l.offered h) (ap (λ (x : Laid). x.stands) (g.like k h))
  | inr h ↦ rw (le-ltb k l.offered h, get_or_past t.offers k nothing_laid (omega (arith, g.count, h))) refl
]

-- the law of the offers, from the empty book
pub offers_stand_alike : (f s : Rules) → Laws f → Laws s → (m : Month) → OffersStandAlike f s m
offers_stand_alike f s lf ls m es = stands_alike _ _ (agreed_all f s lf ls (fresh m) empty (agrees_fresh m) es)
