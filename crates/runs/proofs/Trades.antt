-- An accepted offer moves its quantity from the giver's page to the taker's.
use Rattle.std.proofs.Common.{◌≡◌, ℕ, ◌<◌, true, false, not, ◌&&◌, eqb, ltb, ◌≢◌, ℤ, pos, ◌+ℤ◌, ◌-ℤ◌, neg_ℤ, sym, ap, ◌∙◌, arith}
use Rattle.std.proofs.lemmas.List.{get_or-set_other}
use Rattle.std.proofs.lemmas.Int.{ints}
use Rattle.std.proofs.lemmas.Bool.{leb-false, eqb-false, not-true, not-false, and_parts}
use Rattle.records.specs.declared.component.Component.{Component}
use Rattle.records.specs.declared.component.Component.TheVariants.{Statement, Operating}
use Rattle.page.specs.Pages.{blank, is_open, gas_on, all_of, held_in, with_held}
use Rattle.page.specs.Trading.{gained, lost}
use Rattle.page.specs.declared.page.Gas.{Gas}
use Rattle.page.specs.declared.page.Page.{Page}
use Rattle.ledger.specs.Calls.{open_to, accepting_refusals, traded, spent}
use Rattle.ledger.specs.Ledgers.{page, with_page, with_offer}
use Rattle.ledger.specs.declared.ledger.Ledger.{Ledger}
use Rattle.ledger.specs.declared.offer.Offer.{Offer}
use Rattle.tally.specs.Tallies.{added}
use Rattle.runs.proofs.Moves.{Good, Moved, set_page, neither, open_below}
use Rattle.runs.proofs.Tables.{AllPassed}

-- one of the two components that are traded changes
pub gas_held : (c : Component) (g : Gas) (z : ℤ) → all_of (with_held c g z) ≡ all_of g +ℤ (z -ℤ held_in c g)
gas_held Statement g z = omega (arith, ints)
gas_held Operating g z = omega (arith, ints)

-- a page with q more in a component
pub gas_gained : (c : Component) (p : Page) (q : ℕ) → gas_on (gained c p q) ≡ gas_on p +ℤ pos q
gas_gained c p q = let e = gas_held c p.gas (held_in c p.gas +ℤ pos q) in omega (arith, ints, e)

-- a page with q less in a component
pub gas_lost : (c : Component) (p : Page) (q : ℕ) → gas_on (lost c p q) ≡ gas_on p +ℤ neg_ℤ (pos q)
gas_lost c p q = let e = gas_held c p.gas (held_in c p.gas -ℤ pos q) in omega (arith, ints, e)

-- what an accepting that was performed found
pub record AcceptingFound (l : Ledger) (o : Offer) (t k : ℕ) : Type 0 where
  pub below : t < 64
  pub place : k < 128
  pub laid : ltb k l.offered ≡ true
  pub stood : o.stands ≡ true
  pub apart : t ≢ o.giver
  pub taker_open : is_open (page l t) ≡ true
  pub giver_open : is_open (page l o.giver) ≡ true
  pub taker_unsettled : (page l t).settled ≡ false
  pub giver_unsettled : (page l o.giver).settled ≡ false

-- the table of an accepting, read as these facts
pub accepted : (l : Ledger) (o : Offer) (t k room : ℕ) → AllPassed (accepting_refusals l o t k room) → AcceptingFound l o t k
accepted l o t k room p =
    let stands-open : open_to l o t k ≡ true = not-false _ p.1.1.1.1.0 in
    let four = and_parts (ltb k l.offered && o.stands && eqb o.taker t) (not (eqb o.giver t)) stands-open in
    let three = and_parts (ltb k l.offered && o.stands) (eqb o.taker t) four.0 in
    let two = and_parts (ltb k l.offered) o.stands three.0 in
    record {
      below = leb-false 64 t p.0;
      place = leb-false 128 k p.1.0;
      laid = two.0;
      stood = two.1;
      apart = λ e. eqb-false o.giver t (not-true _ four.1) (sym e);
      taker_open = not-false _ p.1.1.0;
      giver_open = not-false _ (rw stands-open at p.1.1.1.0);
      taker_unsettled = p.1.1.1.1.1.0;
      giver_unsettled = p.1.1.1.1.1.1.0;
    }

-- the giver's page changes first, then the taker's, which is another page
pub trade_moves : (l : Ledger) (o : Offer) (t k : ℕ) → Good l → AcceptingFound l o t k
    → Moved l (with_offer (traded l o t) k (spent o)) (pos 0) (λ n. added t (pos o.quantity) (added o.giver (neg_ℤ (pos o.quantity)) n))
trade_moves l o t k g x =
    let less = lost o.gives (page l o.giver) o.quantity in
    let more = gained o.takes (page l t) o.quantity in
    let one = set_page l o.giver less (neg_ℤ (pos o.quantity)) g (open_below l o.giver g x.giver_open)
    (neither _ x.giver_open) (λ s. neither _ s x.giver_unsettled) (gas_lost o.gives (page l o.giver) o.quantity) in
    let same : page (with_page l o.giver less) t ≡ page l t = get_or-set_other l.pages o.giver t less blank x.apart in
    let two = set_page (with_page l o.giver less) t more (pos o.quantity) one.good x.below
    (neither _ x.taker_open) (λ s. neither _ s x.taker_unsettled)
    (gas_gained o.takes (page l t) o.quantity ∙ ap (λ (y : Page). gas_on y +ℤ pos o.quantity) (sym same)) in
    record {
      good = record { full = two.good.full; idle = two.good.idle; quiet = two.good.quiet };
      total = omega (arith, ints, one.total, two.total);
      each = λ n m. two.each (added o.giver (neg_ℤ (pos o.quantity)) n) (one.each n m);
    }
