-- What holds of every tally.
use Rattle.std.specs.Prelude.{◌≡◌, ℕ, List}
use Rattle.records.specs.declared.call.Call.TheVariants.{Accept}
use Rattle.records.specs.declared.lines.BillLine.{BillLine}
use Rattle.tally.specs.Tallies.{Tally, fed}

-- once an offer is accepted, accepting it again, for whichever taker, changes nothing
abbrev pub AnOfferCountsOnce : Type 0
AnOfferCountsOnce =
    (t : Tally) (a b k : ℕ) (ls ls' : List BillLine) → fed (fed t (Accept a k) ls) (Accept b k) ls' ≡ fed t (Accept a k) ls
