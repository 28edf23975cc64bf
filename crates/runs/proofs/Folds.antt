-- A folding moves all gas of the member's page to the agent's.
use Rattle.std.proofs.Common.{◌≡◌, ℕ, ◌||◌, eqb, ◌≢◌, ℤ, pos, ◌+ℤ◌, neg_ℤ, sym, refl, ap, ◌∙◌, inl, inr, arith}
use Rattle.std.proofs.lemmas.List.{get_or-set_other}
use Rattle.std.proofs.lemmas.Int.{ints}
use Rattle.std.proofs.lemmas.Bool.{leb-false, eqb-false, eq-eqb, ne_eqb, not-false, or_parts, and_parts, cases_eq}
use Rattle.page.specs.Folding.{joined, retired, unlike}
use Rattle.page.specs.Pages.{blank, is_core, gas_on}
use Rattle.page.specs.declared.page.Page.{Page}
use Rattle.ledger.specs.Calls.{folding_table, folded}
use Rattle.ledger.specs.Ledgers.{page, with_page}
use Rattle.ledger.specs.declared.ledger.Ledger.{Ledger}
use Rattle.tally.specs.Tallies.{added, emptied}
use Rattle.runs.proofs.Moves.{Good, Moved, set_page, neither}
use Rattle.runs.proofs.Tables.{AllPassed}

-- the gas on both pages is on the agent's afterwards
pub gas_joined : (q p : Page) → gas_on (joined q p) ≡ gas_on q +ℤ gas_on p
gas_joined q p = omega (arith, ints)

-- what is taken from the member and added to the agent, as the tally counts it
pub fold_numbers : (m a : ℕ) (n : ℕ → ℤ) (z : ℤ) → z ≡ n m → m ≢ a → (b : ℕ) → added a z (added m (neg_ℤ z) n) b ≡ emptied m (added a (n m) n) b
fold_numbers m a n z e ne b = elim (cases_eq b m) [
  | inl same ↦ rw (same, ne_eqb m a ne, eq-eqb m m refl) (omega (arith, ints, e))
  | inr other ↦ rw (ne_eqb b m other, e) refl
]

-- the member's page is emptied, then the agent's takes the gas in
pub fold_moves : (l : Ledger) (m a : ℕ) → Good l → AllPassed (folding_table l m a) → Moved l (folded l m a) (pos 0) (λ n. emptied m (added a (n m) n))
fold_moves l m a g p =
    let ne : m ≢ a = eqb-false m a (or_parts (is_core (page l m) || unlike (page l m) (page l a)) (eqb m a) p.1.1.1.1.0).1 in
    let gas = gas_on (page l m) in
    let one = set_page l m (retired (page l m)) (neg_ℤ gas) g (leb-false 64 m p.0) (λ _. refl) (λ _. refl) (omega (arith, ints)) in
    let l1 = with_page l m (retired (page l m)) in
    let same : page l1 a ≡ page l a = get_or-set_other l.pages m a (retired (page l m)) blank (λ e. ne (sym e)) in
    let two = set_page l1 a (joined (page l a) (page l m)) gas one.good (leb-false 64 a p.1.0)
    (neither _ (not-false _ p.1.1.1.0))
    (λ s. let both = and_parts _ _ s in let x = g.quiet a both.0 in let y = g.quiet m both.1 in omega (arith, ints, x, y))
    (gas_joined (page l a) (page l m) ∙ ap (λ (y : Page). gas_on y +ℤ gas) (sym same)) in
    record {
      good = two.good;
      total = omega (arith, ints, one.total, two.total);
      each = λ n h b. two.each (added m (neg_ℤ gas) n) (one.each n h) b ∙ fold_numbers m a n gas (h m) ne b;
    }
