-- What the running tally means, and what feeding it comes to.
use Rattle.std.specs.Prelude.{◌≡◌, ℕ, zero, suc, List, map, take, ℤ, pos, ◌+ℤ◌, Result, slice_index_or}
use Rattle.std.specs.Result.{MatchResult}
use Rattle.tally.specs.Tallies.{Laid, Tally}
use Rattle.tally.specs.Limits.{Fits}
use Rattle.tally.specs.declared.numbers.Numbers.{Numbers}
use Rattle.tally.specs.declared.offers.Laid.{Laid as KeptOffer}
use Rattle.tally.specs.declared.offers.Offers.{Offers}
use Rattle.tally.specs.declared.tally.Tally.{Tally as Running}
use Rattle.tally.specs.declared.uncounted.Uncounted.{Uncounted}

-- the number of an account; an account that has no place has 0
abbrev pub numbers_of : Numbers → ℕ → ℤ
numbers_of n a = slice_index_or n.held a (pos 0)

abbrev pub laid_of : KeptOffer → Laid
laid_of o = record { giver = o.giver; quantity = o.quantity; stands = o.stands }

-- the offers that were laid since the last closing; what lies past them means nothing
abbrev pub offers_of : Offers → List Laid
offers_of o = map laid_of (take o.count o.places)

abbrev pub tally_of : Running → Tally
tally_of t = record { number = numbers_of t.numbers; offers = offers_of t.offers }

-- the numbers of the accounts below k together
unfoldable pub together : ℕ → (ℕ → ℤ) → ℤ
together zero n = pos 0
together (suc k) n = together k n +ℤ n k

-- either the tally is t after the call, or nothing changed, and no running tally can be t
abbrev pub Counts : Running → Result Unit Uncounted → Running → Tally → Type 0
Counts before r after t = MatchResult r (λ _. tally_of after ≡ t) (λ _. (after ≡ before) × (Fits t → ⊥))
