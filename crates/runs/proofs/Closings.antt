-- A closing turns the pages, and moves no gas from page to page: every open page is settled, so its statement is empty.
use Rattle.std.proofs.Common.{◌≡◌, ℕ, zero, suc, ◌≤◌, Bool, true, false, List, [], ◌∷◌, map, length, get_or, pos, refl, ap, ◌∙◌, inl, inr, not-suc-le-zero, arith}
use Rattle.std.proofs.lemmas.List.{length-map}
use Rattle.std.proofs.lemmas.Int.{ints}
use Rattle.std.proofs.lemmas.Bool.{cases_Bool, not-false, ltb-false}
use Rattle.balancing.specs.Rules.{Rules}
use Rattle.cards.specs.declared.terms.Terms.{Terms}
use Rattle.page.specs.Closing.{turned, unsettled}
use Rattle.page.specs.Pages.{blank, is_open, gas_on}
use Rattle.page.specs.declared.page.Page.{Page}
use Rattle.ledger.specs.Calls.{lowest, closing_refusals, turned_over}
use Rattle.ledger.specs.Ledgers.{page, gas_on_all}
use Rattle.ledger.specs.declared.ledger.Ledger.{Ledger}
use Rattle.runs.proofs.Moves.{Good, Moved, neither}
use Rattle.runs.proofs.Tables.{AllPassed}

-- where the lowest page that fits is none of the pages, no page fits
pub none_fits : (fits : Page → Bool) → fits blank ≡ false → (ps : List Page) → length ps ≤ lowest fits ps → (k : ℕ) → fits (get_or ps k blank) ≡ false
none_fits fits b [] h k = b
none_fits fits b (x ∷ xs) h zero = elim (cases_Bool (fits x))
    [ inl t ↦ absurd (not-suc-le-zero (rw t at h)) | inr f ↦ f ]
none_fits fits b (x ∷ xs) h (suc k) = elim (cases_Bool (fits x)) [
  | inl t ↦ absurd (not-suc-le-zero (rw t at h))
  | inr f ↦ let r = rw f at h in none_fits fits b xs (omega (arith, r)) k
]

-- the page of an account afterwards is the turned page
pub turned_at : (ps : List Page) (b : ℕ) → get_or (map turned ps) b blank ≡ turned (get_or ps b blank)
turned_at [] b = refl
turned_at (x ∷ xs) zero = refl
turned_at (x ∷ xs) (suc b) = turned_at xs b

-- a page with no statement imbalance has as much gas when it is turned
pub turned_gas : (p : Page) → (p.settled ≡ true → p.gas.statement ≡ pos 0) → unsettled p ≡ false → gas_on (turned p) ≡ gas_on p
turned_gas p q u = elim (cases_Bool (is_open p)) [
  | inl t ↦ let s = q (not-false _ (rw t at u)) in rw t (omega (arith, ints, s))
  | inr f ↦ rw f refl
]

-- so have all pages together
pub gas_turned : (ps : List Page) → ((k : ℕ) → gas_on (turned (get_or ps k blank)) ≡ gas_on (get_or ps k blank)) → gas_on_all (map turned ps) ≡ gas_on_all ps
gas_turned [] h = refl
gas_turned (x ∷ xs) h =
    let a = h 0 in
    let r = gas_turned xs (λ k. h (suc k)) in
    omega (arith, ints, a, r)

-- a turned page that is not open was not open
pub turned_idle : (p : Page) → (is_open p ≡ false → gas_on p ≡ pos 0) → is_open (turned p) ≡ false → gas_on (turned p) ≡ pos 0
turned_idle p i q = elim (cases_Bool (is_open p)) [
  | inl t ↦ neither _ t (rw t at q)
  | inr f ↦ rw f (i f)
]

-- a turned page that is settled was not turned: it was not open
pub turned_quiet : (p : Page) → (p.settled ≡ true → p.gas.statement ≡ pos 0) → (turned p).settled ≡ true → (turned p).gas.statement ≡ pos 0
turned_quiet p s q = elim (cases_Bool (is_open p)) [
  | inl t ↦ neither _ (rw t at q) refl
  | inr f ↦ rw f (s (rw f at q))
]

-- closing turns every page, and moves no gas
pub close_moves : (f s : Rules) (t : Terms) (l : Ledger) (room : ℕ) → Good l → AllPassed (closing_refusals f s t l room) → Moved l (turned_over l) (pos 0) (λ n. n)
close_moves f s t l room g p =
    let none : 64 ≤ lowest unsettled l.pages = ltb-false (lowest unsettled l.pages) 64 p.1.1.1.0 in
    let all : (k : ℕ) → gas_on (turned (page l k)) ≡ gas_on (page l k) = λ k. turned_gas (page l k) (g.quiet k) (none_fits unsettled refl l.pages (omega (arith, g.full)) k) in
    record {
      good = record {
        full = length-map l.pages turned ∙ g.full;
        idle = λ b q. let i = turned_at l.pages b in rw i (turned_idle (page l b) (g.idle b) (rw i at q));
        quiet = λ b q. let i = turned_at l.pages b in rw i (turned_quiet (page l b) (g.quiet b) (rw i at q));
      };
      total = let e = gas_turned l.pages all in omega (arith, ints, e);
      each = λ n m b. ap gas_on (turned_at l.pages b) ∙ all b ∙ m b;
    }
