-- What the tally counts: a number for each account, fed with performed calls and the bill lines that they wrote.
use Rattle.std.specs.Prelude.{ℕ, Bool, true, false, cond, List, [], ◌∷◌, ◌++◌, ℤ, pos, ◌+ℤ◌, ◌-ℤ◌, neg_ℤ, ◌==◌, nat_le, slice_index_or, slice_set}
use Rattle.tariff.specs.Bills.{kind_number}
use Rattle.tariff.specs.declared.bill.BillKind.{BillKind}
use Rattle.records.specs.declared.call.Call.{Call}
use Rattle.records.specs.declared.call.Call.TheVariants.{Open, Set, Post, Adjust, State, Offer, Accept, Fold, Settle, Close}
use Rattle.records.specs.declared.lines.BillLine.{BillLine}

-- an offer as the tally keeps it: who gives, how much, and whether it still stands
pub record Laid : Type 0 where
  pub giver : ℕ
  pub quantity : ℕ
  pub stands : Bool

-- a number for each account, and the offers by place
pub record Tally : Type 0 where
  pub number : ℕ → ℤ
  pub offers : List Laid

abbrev pub nothing_laid : Laid
nothing_laid = record { giver = 0; quantity = 0; stands = false }

abbrev pub empty : Tally
empty = record { number = λ a. pos 0; offers = [] }

-- z more for the account a
abbrev pub added : ℕ → ℤ → (ℕ → ℤ) → ℕ → ℤ
added a z n b = cond (b == a) (n b +ℤ z) (n b)

-- nothing left for the account a
abbrev pub emptied : ℕ → (ℕ → ℤ) → ℕ → ℤ
emptied a n b = cond (b == a) (pos 0) (n b)

-- whether a line of this kind cashes gas out: Tier I and Tier II do
abbrev pub cashes_out : BillKind → Bool
cashes_out k = nat_le (kind_number k) 2

-- gas cashed out by lines
abbrev pub cashed_out : List BillLine → ℤ
cashed_out [] = pos 0
cashed_out (l ∷ ls) = cond (cashes_out l.charge.kind) l.charge.quantity (pos 0) +ℤ cashed_out ls

-- z more for one account, and the offers as they were
abbrev pub counted : Tally → ℕ → ℤ → Tally
counted t a z = record { number = added a z t.number; offers = t.offers }

-- the offer at a place; where none was laid, nothing stands
abbrev pub laid_at : Tally → ℕ → Laid
laid_at t k = slice_index_or t.offers k nothing_laid

abbrev pub spent : Laid → Laid
spent o = record { giver = o.giver; quantity = o.quantity; stands = false }

-- the quantity goes from the giver's number to the taker's, once
abbrev pub traded : Tally → Laid → ℕ → ℕ → Tally
traded t o taker k = cond o.stands (record { number = added taker (pos o.quantity) (added o.giver (neg_ℤ (pos o.quantity)) t.number); offers = slice_set t.offers k (spent o) }) t

-- the tally after a performed call that wrote these bill lines
abbrev pub fed : Tally → Call → List BillLine → Tally
fed t (Open a k e q) ls = t
fed t (Set a q) ls = t
fed t (Post a d o r u) ls = counted t a (pos r -ℤ pos u)
fed t (Adjust a q) ls = counted t a q
fed t (State a q) ls = counted t a q
fed t (Offer g gc k kc q) ls = record { number = t.number; offers = t.offers ++ (record { giver = g; quantity = q; stands = true } ∷ []) }
fed t (Accept k place) ls = traded t (laid_at t place) k place
fed t (Fold m a) ls = record { number = emptied m (added a (t.number m) t.number); offers = t.offers }
fed t (Settle a c) ls = counted t a (neg_ℤ (cashed_out ls))
fed t Close ls = record { number = t.number; offers = [] }
