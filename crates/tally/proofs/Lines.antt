-- Bill lines one after another.
use Rattle.std.proofs.Common.{◌≡◌, ℕ, ◌+◌, ◌<◌, cond, List, length, get_or, drop, ℤ, pos, ◌+ℤ◌, sym, ap, ◌∙◌}
use Rattle.std.proofs.lemmas.List.{at_drop_more}
use Rattle.tariff.specs.declared.bill.BillKind.TheVariants.{TierOne}
use Rattle.records.specs.declared.lines.BillLine.{BillLine}
use Rattle.tally.specs.Tallies.{cashes_out, cashed_out}

abbrev no_line : BillLine
no_line = record { account = 0; month = record { index = 0 }; charge = record { kind = TierOne; quantity = pos 0; price = 0; cents = record { count = pos 0 } } }

-- the gas of the lines from one on: its own, and that of the lines past it
pub cashed_more : (ls : List BillLine) (i : ℕ) (z : ℤ) → i < length ls
    → z ≡ cond (cashes_out (get_or ls i no_line).charge.kind) (get_or ls i no_line).charge.quantity (pos 0)
    → cashed_out (drop i ls) ≡ z +ℤ cashed_out (drop (i + 1) ls)
cashed_more ls i z h e = at_drop_more cashed_out ls i no_line h ∙ ap (λ (x : ℤ). x +ℤ cashed_out (drop (i + 1) ls)) (sym e)
