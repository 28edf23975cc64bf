-- What is billed for a quantity of gas.
use Rattle.std.specs.Prelude.{◌≡◌, ℕ, zero, suc, Bool, true, false, cond, List, ℤ, pos, negsuc, neg_ℤ, Some, None, Option, Ok, Err, Result, codes}
use Rattle.tariff.specs.Money.{exact, nearest}
use Rattle.tariff.specs.declared.bill.BillKind.{BillKind}
use Rattle.tariff.specs.declared.bill.BillKind.TheVariants.{TierOne, TierTwo, DailyExcess, AccumulatedExcess, Credit}
use Rattle.tariff.specs.declared.bill.Charge.{Charge}
use Rattle.tariff.specs.declared.fault.NoSuch.{NoSuch}
use Rattle.tariff.specs.Months.{from_to}

-- the number of each kind
abbrev pub kind_number : BillKind → ℕ
kind_number TierOne = 1
kind_number TierTwo = 2
kind_number DailyExcess = 3
kind_number AccumulatedExcess = 4
kind_number Credit = 5

-- what a kind is called on a bill
abbrev pub kind_text : BillKind → List ℕ
kind_text TierOne = codes "Tier I"
kind_text TierTwo = codes "Tier II"
kind_text DailyExcess = codes "daily excess"
kind_text AccumulatedExcess = codes "accumulated excess"
kind_text Credit = codes "credit"

-- r is the kind that has the number n; no kind has a number but 1 to 5
pub record KindNumbered (n : ℕ) (r : Result BillKind NoSuch) : Type 0 where
  pub kind : (k : BillKind) → kind_number k ≡ n → r ≡ Ok k
  pub none : from_to 1 5 n ≡ false → r ≡ Err (record {})

-- what the agent owes, exactly: over-delivery that is cashed out and the credit are paid to it, excesses are charged
abbrev pub amount_due : BillKind → ℤ → ℕ → ℤ
amount_due TierOne q p = neg_ℤ (exact q p)
amount_due TierTwo q p = neg_ℤ (exact q p)
amount_due DailyExcess q p = exact q p
amount_due AccumulatedExcess q p = exact q p
amount_due Credit q p = neg_ℤ (exact q p)

-- a quantity billed at a price: the nearest whole cent of what is due
abbrev pub charge : BillKind → ℤ → ℕ → Charge
charge k q p = record { kind = k; quantity = q; price = p; cents = record { count = nearest (amount_due k q p) } }

-- whether a quantity is 0
abbrev pub no_gas : ℤ → Bool
no_gas (pos zero) = true
no_gas (pos (suc n)) = false
no_gas (negsuc n) = false

-- what is billed for a quantity at a price; where there is no gas, nothing
abbrev pub tier_line : BillKind → ℤ → ℕ → Option Charge
tier_line k q p = cond (no_gas q) None (Some (charge k q p))
