use Rattle.std.proofs.Common.{◌≡◌, ℕ, ◌+◌, cond, List, ◌∷◌, Option, Some, None, length, sym, ◌∙◌, refl, arith, rules}
use Rattle.std.proofs.lemmas.List.Recursion.{is_count_by}
use Rattle.std.specs.List.{count_by, flat_map}
use Rattle.std.specs.Option.{is_some}
use Rattle.tariff.specs.declared.bill.Charge.{Charge}
use Rattle.tariff.specs.declared.month.Month.{Month}
use Rattle.page.specs.Settling.{line_of}
use Rattle.page.proofs.billing.line_count.Goals as goal

-- a charge that is there has one line
line_more : (a : ℕ) (m : Month) (c : Option Charge) (cs : List (Option Charge))
    → length (flat_map (line_of a m) (c ∷ cs)) ≡ cond (is_some c) (1 + length (flat_map (line_of a m) cs)) (length (flat_map (line_of a m) cs))
line_more a m None cs = refl
line_more a m (Some c) cs = omega arith

pub returns : goal.returns
returns c a m =
    let counted : c.count.result ≡ count_by is_some c.args.charges.now = search rules in
    counted ∙ sym (is_count_by (λ cs. length (flat_map (line_of a m) cs)) is_some refl (line_more a m) c.args.charges.now)
