-- What a balancing option means, and the laws that every option keeps.
use Rattle.std.specs.Prelude.{◌≡◌, ℕ, suc, ◌+◌, ◌-◌, ◌≤◌, min, Bool, cond, ℤ, pos, negsuc, ◌+ℤ◌, neg_ℤ, ◌≤ℤ◌, None, Ok, Err, Result, ◌==◌, nat_lt, unsigned_abs}
use Rattle.balancing.specs.declared.option.Parts.{Parts}
use Rattle.balancing.specs.declared.option.Excess.{Excess}
use Rattle.balancing.specs.declared.option.FlowOrder.{FlowOrder}
use Rattle.balancing.specs.declared.option.FlowOrder.TheVariants.{Absent, InEffect}
use Rattle.tariff.specs.Faults.{by_book}
use Rattle.tariff.specs.declared.fault.Fault.{Fault}
use Rattle.tariff.specs.declared.fault.Row.TheVariants.{Field}

-- what an option means: its mark, whether its accounts earn the credit, and two functions.
-- `split` takes a statement's usage, monthly quantity and imbalance.
-- `excess` takes a day's receipts, usage and flow order, the monthly quantity and the imbalance accumulated by the day's end.
pub record Rules : Type 0 where
  pub mark : ℕ
  pub earns_credit : Bool
  pub split : ℕ → ℕ → ℤ → Parts
  pub excess : ℕ → ℕ → FlowOrder → ℕ → ℤ → Excess

-- z lies from 0 to s, on whichever side of 0 s is
pub record Part (z s : ℤ) : Type 0 where
  pub over : pos 0 ≤ℤ s → (pos 0 ≤ℤ z) × (z ≤ℤ s)
  pub under : s ≤ℤ pos 0 → (s ≤ℤ z) × (z ≤ℤ pos 0)

-- how far apart two numbers are
abbrev pub apart : ℕ → ℕ → ℕ
apart a b = (a - b) + (b - a)

-- the parts add up to the imbalance; each part lies from 0 to it;
-- the daily excess is at most the day's imbalance, and the accumulated excess at most the accumulated imbalance
pub record Laws (o : Rules) : Type 0 where
  pub parts_add_up : (u d : ℕ) (s : ℤ) → ((o.split u d s).kept +ℤ (o.split u d s).tier_one) +ℤ (o.split u d s).tier_two ≡ s
  pub kept_is_part : (u d : ℕ) (s : ℤ) → Part (o.split u d s).kept s
  pub tier_one_is_part : (u d : ℕ) (s : ℤ) → Part (o.split u d s).tier_one s
  pub tier_two_is_part : (u d : ℕ) (s : ℤ) → Part (o.split u d s).tier_two s
  pub daily_at_most : (r u : ℕ) (f : FlowOrder) (d : ℕ) (z : ℤ) → (o.excess r u f d z).daily ≤ apart r u
  pub accumulated_at_most : (r u : ℕ) (f : FlowOrder) (d : ℕ) (z : ℤ) → (o.excess r u f d z).accumulated ≤ unsigned_abs z

-- s held within b of 0: s itself where it is no further from 0 than b, else b on the same side of 0
abbrev pub held_within : ℕ → ℤ → ℤ
held_within b (pos n) = pos (min n b)
held_within b (negsuc n) = neg_ℤ (pos (min (suc n) b))

-- flag 1 is a flow order, 0 is none; any other number is refused before it is looked up
abbrev pub order_of : ℕ → FlowOrder
order_of n = cond (n == 1) InEffect Absent

-- the flow order with a flag, or the refusal of row 1
abbrev pub order_flagged : ℕ → Result FlowOrder Fault
order_flagged n = cond (nat_lt 1 n) (Err (by_book Field None)) (Ok (order_of n))
