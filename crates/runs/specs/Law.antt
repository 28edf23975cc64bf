-- The law of the book: what holds after every list of events, performed or refused.
use Rattle.std.specs.Prelude.{◌≡◌, ℕ, ◌*◌, ◌<◌, Bool, true, false, ◌&&◌, List, length, pos, ◌+ℤ◌, ◌-ℤ◌, ◌*ℤ◌, nat_lt}
use Rattle.std.specs.List.{AllByRecursion}
use Rattle.tariff.specs.Money.{Within}
use Rattle.tariff.specs.declared.month.Month.{Month}
use Rattle.balancing.specs.Rules.{Rules}
use Rattle.page.specs.Pages.{is_open, gas_on}
use Rattle.ledger.specs.Ledgers.{fresh, page, offer_at, gas_on_all}
use Rattle.ledger.specs.declared.ledger.Ledger.{Ledger}
use Rattle.records.specs.declared.call.Call.TheVariants.{Open, Set, Post, Adjust, State, Offer, Accept, Fold, Settle, Close}
use Rattle.records.specs.declared.call.Call.{Call}
use Rattle.records.specs.declared.lines.BillLine.{BillLine}
use Rattle.tally.specs.Tallies.{Tally, empty, fed, laid_at}
use Rattle.runs.specs.Runs.{Event, run, Entry, history, flow, sum_of, tallied, lines_written, cents_billed, amounts_due}

-- the performed calls of a list of events on a book that starts empty in the month m, and the tally that they feed
abbrev pub done_since : Rules → Rules → Month → List Event → List Entry
done_since f s m es = history f s (fresh m) es

abbrev pub tally_since : Rules → Rules → Month → List Event → Tally
tally_since f s m es = tallied empty (done_since f s m es)

-- the gas on all pages is receipts less usage, with adjustments and operating quantities, less gas cashed out
abbrev pub GasOnAllPages : Rules → Rules → Month → Type 0
GasOnAllPages f s m = (es : List Event) →
    gas_on_all (run f s (fresh m) es).pages
    ≡ ((sum_of (λ x. (flow x).delivered) (done_since f s m es) +ℤ sum_of (λ x. (flow x).adjusted) (done_since f s m es))
    +ℤ sum_of (λ x. (flow x).stated) (done_since f s m es))
    -ℤ sum_of (λ x. (flow x).cashed) (done_since f s m es)

-- the gas on each open page is its account's number in the tally
abbrev pub GasOnEachPage : Rules → Rules → Month → Type 0
GasOnEachPage f s m = (es : List Event) (a : ℕ) →
    is_open (page (run f s (fresh m) es) a) ≡ true → gas_on (page (run f s (fresh m) es) a) ≡ (tally_since f s m es).number a

-- every call but a closing
abbrev pub before_closing : Call → Bool
before_closing (Open a k e d) = true
before_closing (Set a d) = true
before_closing (Post a d o r u) = true
before_closing (Adjust a q) = true
before_closing (State a q) = true
before_closing (Offer g gc k kc q) = true
before_closing (Accept k place) = true
before_closing (Fold m a) = true
before_closing (Settle a c) = true
before_closing Close = false

-- an offer counts at most once: once the offer laid at the place k is accepted, another accepting there before the next closing,
-- after whatever calls xs, changes nothing in the tally
abbrev pub OffersCountOnce : Type 0
OffersCountOnce = (t : Tally) (a b k : ℕ) (ls ms : List BillLine) (xs : List Entry)
    → k < length t.offers → AllByRecursion (λ x. before_closing x.call ≡ true) xs
    → fed (tallied (fed t (Accept a k) ls) xs) (Accept b k) ms ≡ tallied (fed t (Accept a k) ls) xs

-- the offers that stand in the tally are those that stand in the book, place by place
abbrev pub standing : Ledger → ℕ → Bool
standing l k = nat_lt k l.offered && (offer_at l k).stands

abbrev pub OffersStandAlike : Rules → Rules → Month → Type 0
OffersStandAlike f s m = (es : List Event) (k : ℕ) → standing (run f s (fresh m) es) k ≡ (laid_at (tally_since f s m es) k).stands

-- billed cents of all lines differ from the amounts due by at most half a cent for each line, in ten-thousandths of a cent
abbrev pub HalfACentALine : Rules → Rules → Month → Type 0
HalfACentALine f s m = (es : List Event) →
    Within (length (lines_written (done_since f s m es)) * 5000)
    (cents_billed (lines_written (done_since f s m es)) *ℤ pos 10000)
    (amounts_due f s (fresh m) es)
