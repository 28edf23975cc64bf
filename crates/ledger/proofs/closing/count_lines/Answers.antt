use Rattle.std.proofs.Common.{ℕ, ◌^◌, length, ◌∙◌, arith, rules, tests}
use Rattle.std.proofs.lemmas.Iterator.{YieldsList-from_slice, YieldsList-from_map}
use Rattle.std.proofs.lemmas.Iterator.Adapters.{fits_from_length, at_most_from_yields_List}
use Rattle.std.proofs.lemmas.Iterator.Consumers.{sum_by_from_yields_List}
use Rattle.page.specs.Closing.{closing_lines}
use Rattle.page.specs.declared.page.Page.{Page}
use Rattle.ledger.proofs.Lines.{all_counted}
use Rattle.ledger.proofs.closing.count_lines.Goals as goal

pub sum-requires-clause-fits : goal.sum-requires-clause-fits
sum-requires-clause-fits c =
    fits_from_length _ _ 64 (2 ^ 64) (at_most_from_yields_List (YieldsList-from_slice c.args.pages.now cc) (omega arith)) c.map.ensures.closure (omega arith) (λ x r q k. search rules)

pub returns : goal.returns
returns c = λ t.
    let k = c.args.credits.now in
    let lines : Page → ℕ = λ p. length (closing_lines t k 0 p) in
    sum_by_from_yields_List lines _ c.map.result _ c.sum.ensures.ran (YieldsList-from_map _ lines (YieldsList-from_slice c.args.pages.now cc) c.map.ensures.closure (λ x r q f. search (rules, tests)))
    ∙ all_counted t k 0 c.args.pages.now
