-- A settling takes both tiers off the page; its bill lines say how much that is.
use Rattle.std.proofs.Common.{◌≡◌, ℕ, zero, suc, Bool, true, false, eqb, List, [], ◌∷◌, ◌++◌, ℤ, pos, negsuc, ◌+ℤ◌, neg_ℤ, sym, refl, ap, ◌∙◌, arith}
use Rattle.std.proofs.lemmas.Int.{ints}
use Rattle.std.proofs.lemmas.Bool.{leb-false, not-false}
use Rattle.tariff.specs.declared.bill.BillKind.TheVariants.{TierOne, TierTwo}
use Rattle.tariff.specs.declared.month.Month.{Month}
use Rattle.balancing.specs.Cashouts.{tier_one_line, tier_two_line}
use Rattle.tariff.specs.Bills.{tier_line}
use Rattle.balancing.specs.Rules.{Rules, Laws}
use Rattle.balancing.specs.declared.option.Parts.{Parts}
use Rattle.cards.specs.declared.terms.Terms.{Terms}
use Rattle.records.specs.declared.lines.BillLine.{BillLine}
use Rattle.page.specs.Pages.{gas_on, elected, chosen}
use Rattle.page.specs.Settling.{line_of, tier_lines, parts_of, joined_carryover, twelfth, moved_on, left_over, settled_page}
use Rattle.records.specs.declared.account.Election.TheVariants.{First, Second}
use Rattle.page.specs.declared.page.Gas.{Gas}
use Rattle.page.specs.declared.page.Page.{Page}
use Rattle.ledger.specs.Calls.{settling_table}
use Rattle.ledger.specs.Ledgers.{page, with_page}
use Rattle.ledger.specs.declared.ledger.Ledger.{Ledger}
use Rattle.tally.specs.Tallies.{added, cashed_out}
use Rattle.runs.proofs.Moves.{Good, Moved, set_page, neither}
use Rattle.runs.proofs.Tables.{AllPassed}

-- gas cashed out by lines joined
pub cashed_append : (xs ys : List BillLine) → cashed_out (xs ++ ys) ≡ cashed_out xs +ℤ cashed_out ys
cashed_append [] ys = omega (arith, ints)
cashed_append (x ∷ xs) ys = let e = cashed_append xs ys in omega (arith, ints, e)

-- the line of a tier cashes out the tier's gas, and where there is no line, there is no gas
pub cashed_one : (a : ℕ) (m : Month) (q : ℤ) (p : ℕ) → cashed_out (line_of a m (tier_line TierOne q p)) ≡ q
cashed_one a m (pos zero) p = refl
cashed_one a m (pos (suc n)) p = omega (arith, ints)
cashed_one a m (negsuc n) p = omega (arith, ints)

-- the same of the second tier
pub cashed_two : (a : ℕ) (m : Month) (q : ℤ) (p : ℕ) → cashed_out (line_of a m (tier_line TierTwo q p)) ≡ q
cashed_two a m (pos zero) p = refl
cashed_two a m (pos (suc n)) p = omega (arith, ints)
cashed_two a m (negsuc n) p = omega (arith, ints)

-- the lines of a settling cash out both tiers
pub cashed_tiers : (t : Terms) (a : ℕ) (x : Parts) → cashed_out (tier_lines t a x) ≡ x.tier_one +ℤ x.tier_two
cashed_tiers t a x =
    cashed_append (line_of a t.month (tier_one_line t.tiers x)) (line_of a t.month (tier_two_line t.tiers x))
    ∙ ap (λ (z : ℤ). z +ℤ cashed_out (line_of a t.month (tier_two_line t.tiers x))) (cashed_one a t.month x.tier_one _)
    ∙ ap (λ (z : ℤ). x.tier_one +ℤ z) (cashed_two a t.month x.tier_two _)

-- what moves on and what is left are the carryover and the operating imbalance, with the clear flag or without
pub carryover_stays : (clear : Bool) (g : Gas) → left_over clear g +ℤ moved_on clear g ≡ g.carryover +ℤ g.operating
carryover_stays true g = omega (arith, ints)
carryover_stays false g = let z = twelfth (joined_carryover g) in omega (arith, ints)

-- the option that the page elects keeps the laws
pub elected_laws : (f s : Rules) → Laws f → Laws s → (p : Page) → Laws (elected f s p)
elected_laws f s lf ls p = elim p.election as (λ e. Laws (chosen e f s)) [ First ↦ lf | Second ↦ ls ]

-- the page has less gas by both tiers, since the parts add up to the statement's imbalance
pub gas_settled : (clear : Bool) (p : Page) (x : Parts) → (x.kept +ℤ x.tier_one) +ℤ x.tier_two ≡ p.gas.statement
    → gas_on (settled_page clear p x) ≡ gas_on p +ℤ neg_ℤ (x.tier_one +ℤ x.tier_two)
gas_settled clear p x adds =
    let stays = carryover_stays clear p.gas in
    let left = left_over clear p.gas in
    let on = moved_on clear p.gas in
    omega (arith, ints, stays, adds)

-- settling takes off the page what its lines cash out
pub settle_moves : (f s : Rules) → Laws f → Laws s → (t : Terms) (l : Ledger) (a c room : ℕ) → Good l → AllPassed (settling_table f s t l a c room)
    → (z : ℤ) → z ≡ neg_ℤ (cashed_out (tier_lines t a (parts_of (elected f s (page l a)) (page l a))))
    → Moved l (with_page l a (settled_page (eqb c 1) (page l a) (parts_of (elected f s (page l a)) (page l a)))) z (added a z)
settle_moves f s lf ls t l a c room g p z e =
    let x = parts_of (elected f s (page l a)) (page l a) in
    let adds = (elected_laws f s lf ls (page l a)).parts_add_up (page l a).statement.usage (page l a).statement.monthly_quantity (page l a).gas.statement in
    set_page l a (settled_page (eqb c 1) (page l a) x) z g (leb-false 64 a p.0)
    (neither _ (not-false _ p.1.1.0)) (λ _. refl)
    (gas_settled (eqb c 1) (page l a) x adds ∙ ap (λ (y : ℤ). gas_on (page l a) +ℤ y) (ap neg_ℤ (sym (cashed_tiers t a x)) ∙ sym e))
