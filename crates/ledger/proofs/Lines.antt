-- The bill lines of all pages, counted.
use Rattle.std.proofs.Common.{◌≡◌, ℕ, suc, List, [], ◌∷◌, length, sum_by, Option, Some, None, inl, inr, refl, arith, length-append}
use Rattle.std.proofs.lemmas.Bool.{cases_Bool}
use Rattle.std.proofs.lemmas.List.Sums.{sum_by-cons}
use Rattle.tariff.specs.declared.bill.Charge.{Charge}
use Rattle.tariff.specs.declared.month.Month.{Month}
use Rattle.cards.specs.declared.terms.Terms.{Terms}
use Rattle.page.specs.Closing.{closing_lines, all_lines}
use Rattle.page.specs.Pages.{is_open}
use Rattle.page.specs.Settling.{line_of}
use Rattle.page.specs.declared.closing.Credits.{Credits}
use Rattle.page.specs.declared.page.Page.{Page}

-- a charge has as many lines for any account
charge_counted : (a : ℕ) (m : Month) (c : Option Charge) → length (line_of 0 m c) ≡ length (line_of a m c)
charge_counted a m None = refl
charge_counted a m (Some c) = refl

-- so has a page
page_counted : (t : Terms) (k : Credits) (a : ℕ) (p : Page) → length (closing_lines t k 0 p) ≡ length (closing_lines t k a p)
page_counted t k a p = elim (cases_Bool (is_open p))
    [ inl e ↦ rw e (simp (length-append, charge_counted a t.month)) | inr e ↦ rw e refl ]

-- the lines of all pages are those of each page together
pub all_counted : (t : Terms) (k : Credits) (a : ℕ) (ps : List Page) → sum_by (λ p. length (closing_lines t k 0 p)) ps ≡ length (all_lines t k a ps)
all_counted t k a [] = refl
all_counted t k a (p ∷ ps) =
    omega (arith, sum_by-cons (λ p. length (closing_lines t k 0 p)) p ps, page_counted t k a p, all_counted t k (suc a) ps, length-append (closing_lines t k a p) (all_lines t k (suc a) ps))
