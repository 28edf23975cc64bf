-- The gas on all pages, over every list of events.
use Rattle.std.proofs.Common.{◌≡◌, List, [], ◌∷◌, ℤ, pos, ◌+ℤ◌, ◌-ℤ◌, refl, ◌∙◌, arith}
use Rattle.std.proofs.lemmas.Int.{ints}
use Rattle.tariff.specs.Faults.{Answer, done, refused}
use Rattle.tariff.specs.declared.month.Month.{Month}
use Rattle.balancing.specs.Rules.{Rules, Laws}
use Rattle.records.specs.Refusals.{after}
use Rattle.ledger.specs.Ledgers.{fresh, gas_on_all}
use Rattle.ledger.specs.declared.ledger.Ledger.{Ledger}
use Rattle.runs.specs.Law.{GasOnAllPages}
use Rattle.runs.specs.Runs.{Event, Entry, outcome, run, history, flow, sum_of}
use Rattle.runs.proofs.Moves.{Good, good_fresh, worth}
use Rattle.runs.proofs.Steps.{stepped}

-- what entries bring to the gas on all pages
abbrev pub total_of : List Entry → ℤ
total_of h = ((sum_of (λ x. (flow x).delivered) h +ℤ sum_of (λ x. (flow x).adjusted) h) +ℤ sum_of (λ x. (flow x).stated) h) -ℤ sum_of (λ x. (flow x).cashed) h

-- a refused call brings nothing
pub total_after : {V : Type 0} (w : Answer V) (x : Entry) (h : List Entry) → total_of (after w (x ∷ h) h) ≡ after w (worth (flow x)) (pos 0) +ℤ total_of h
total_after (done v) x h = omega (arith, ints)
total_after (refused r y a) x h = omega (arith, ints)

-- all events, from any good ledger
pub gas_after : (f s : Rules) → Laws f → Laws s → (l : Ledger) → Good l → (es : List Event) → gas_on_all (run f s l es).pages ≡ gas_on_all l.pages +ℤ total_of (history f s l es)
gas_after f s lf ls l g [] = omega (arith, ints)
gas_after f s lf ls l g (e ∷ es) =
    let m = stepped f s lf ls l g e.call e.settling_card e.closing_card e.bill_room e.trade_room in
    let rest = gas_after f s lf ls (outcome f s l e).ledger m.good es in
    let t = total_after (outcome f s l e).answer (record { call = e.call; lines = (outcome f s l e).bills }) (history f s (outcome f s l e).ledger es) in
    omega (arith, ints, m.total, rest, t)

-- the law, from the empty book, which has no gas
pub gas_on_all_pages : (f s : Rules) → Laws f → Laws s → (m : Month) → GasOnAllPages f s m
gas_on_all_pages f s lf ls m es = gas_after f s lf ls (fresh m) (good_fresh m) es ∙ (let z : gas_on_all (fresh m).pages ≡ pos 0 = refl in omega (arith, ints, z))
