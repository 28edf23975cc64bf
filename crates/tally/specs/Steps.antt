-- The steps that feeding is made of.
use Rattle.std.specs.Prelude.{◌≡◌, ℕ, false, cond, List, ℤ, pos, neg_ℤ, Result, ◌==◌, slice_set}
use Rattle.std.specs.Result.{MatchResult}
use Rattle.tally.specs.Tallies.{Laid, Tally, added, emptied, spent}
use Rattle.tally.specs.Limits.{Fits}
use Rattle.tally.specs.Meanings.{tally_of}
use Rattle.tally.specs.declared.offers.Laid.{Laid as KeptOffer}
use Rattle.tally.specs.declared.tally.Tally.{Tally as Running}
use Rattle.tally.specs.declared.uncounted.Uncounted.{Uncounted}

-- z for the account a, and the other numbers as they were
abbrev pub placed : ℕ → ℤ → (ℕ → ℤ) → ℕ → ℤ
placed a z n b = cond (b == a) z (n b)

-- an offer that no longer stands
abbrev pub struck : KeptOffer → KeptOffer
struck o = record { giver = o.giver; quantity = o.quantity; stands = false }

-- nothing left for the account a, and the offers as they were
abbrev pub cleared : ℕ → Tally → Tally
cleared a t = record { number = emptied a t.number; offers = t.offers }

-- the quantity of an offer moved to the taker, and the offer at the place spent
abbrev pub exchanged : Tally → Laid → ℕ → ℕ → Tally
exchanged t o taker k = record { number = added taker (pos o.quantity) (added o.giver (neg_ℤ (pos o.quantity)) t.number); offers = slice_set t.offers k (spent o) }

-- either the numbers are n after the step, or nothing changed, and no running tally has the numbers n
abbrev pub Moves : Running → Result Unit Uncounted → Running → (ℕ → ℤ) → Type 0
Moves before r after n = MatchResult r (λ _. tally_of after ≡ record { number = n; offers = (tally_of before).offers }) (λ _. (after ≡ before) × ((os : List Laid) → Fits (record { number = n; offers = os }) → ⊥))

-- either the tally is t once the account a is emptied, or nothing changed, and no running tally can be t
abbrev pub CountsBut : ℕ → Running → Result Unit Uncounted → Running → Tally → Type 0
CountsBut a before r after t = MatchResult r (λ _. cleared a (tally_of after) ≡ t) (λ _. (after ≡ before) × (Fits t → ⊥))
