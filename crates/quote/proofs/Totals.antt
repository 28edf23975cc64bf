-- The total of a cashout stays within half a cent for each line of what is due.
use Rattle.std.proofs.Common.{◌≡◌, ℕ, zero, suc, ◌+◌, ◌*◌, ℤ, pos, negsuc, ◌+ℤ◌, ◌*ℤ◌, subst, arith}
use Rattle.std.proofs.lemmas.Int.{ints}
use Rattle.tariff.specs.Bills.{amount_due}
use Rattle.balancing.specs.Cashouts.{tier_price, cents_of, cashout}
use Rattle.tariff.specs.Bills.{tier_line}
use Rattle.tariff.specs.Money.{Within}
use Rattle.tariff.specs.declared.bill.BillKind.{BillKind}
use Rattle.tariff.specs.declared.bill.BillKind.TheVariants.{TierOne, TierTwo, DailyExcess, AccumulatedExcess, Credit}
use Rattle.balancing.specs.declared.cashout.TierPrices.{TierPrices}
use Rattle.balancing.specs.declared.option.Parts.{Parts}
use Rattle.tariff.proofs.Rounding.{nearest_within, sum_within}
use Rattle.quote.specs.Quotes.{due, line_count, HalfACentALine}

no_gas_no_money : (k : BillKind) (p : ℕ) → Within 0 (pos 0 *ℤ pos 10000) (amount_due k (pos 0) p)
no_gas_no_money TierOne p = (omega (arith, ints), omega (arith, ints))
no_gas_no_money TierTwo p = (omega (arith, ints), omega (arith, ints))
no_gas_no_money DailyExcess p = (omega (arith, ints), omega (arith, ints))
no_gas_no_money AccumulatedExcess p = (omega (arith, ints), omega (arith, ints))
no_gas_no_money Credit p = (omega (arith, ints), omega (arith, ints))

line_near : (k : BillKind) (q : ℤ) (p : ℕ) → Within (line_count (tier_line k q p) * 5000) (cents_of (tier_line k q p) *ℤ pos 10000) (amount_due k q p)
line_near k (pos zero) p = no_gas_no_money k p
line_near k (pos (suc n)) p = nearest_within (amount_due k (pos (suc n)) p)
line_near k (negsuc n) p = nearest_within (amount_due k (negsuc n) p)

pub total_near : (p : TierPrices) (x : Parts) → HalfACentALine p (record { parts = x; cashout = cashout p x })
total_near p x =
    let a = x.tier_one in
    let b = x.tier_two in
    let one = tier_line TierOne a (tier_price a p.one_over p.one_under) in
    let two = tier_line TierTwo b (tier_price b p.two_over p.two_under) in
    let all = sum_within (cents_of one) _ (cents_of two) _ (line_count one * 5000) (line_count two * 5000) (line_near TierOne a _) (line_near TierTwo b _) in
    let both : line_count one * 5000 + line_count two * 5000 ≡ (line_count one + line_count two) * 5000 = omega arith in
    subst (λ (n : ℕ). Within n ((cents_of one +ℤ cents_of two) *ℤ pos 10000) (due p x)) both all
