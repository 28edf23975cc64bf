-- What a ledger holds: the running month, 64 pages, and the offers since the last closing.
use Rattle.std.specs.Prelude.{ℕ, false, not, List, [], ◌∷◌, replicate, ℤ, pos, ◌+ℤ◌, Some, Option, nat_le, slice_index_or, slice_set}
use Rattle.tariff.specs.Faults.{Answer, no_account}
use Rattle.tariff.specs.declared.month.Month.{Month}
use Rattle.records.specs.declared.component.Component.TheVariants.{Statement}
use Rattle.records.specs.declared.lines.BillLine.{BillLine}
use Rattle.records.specs.declared.lines.Trade.{Trade}
use Rattle.page.specs.Pages.{blank, is_open, gas_on}
use Rattle.records.specs.Refusals.{Refusal, when, first_of, after}
use Rattle.page.specs.declared.page.Page.{Page}
use Rattle.ledger.specs.declared.ledger.Ledger.{Ledger}
use Rattle.ledger.specs.declared.offer.Offer.{Offer}

-- a place where no offer was laid
abbrev pub no_offer : Offer
no_offer = record { giver = 0; gives = Statement; taker = 0; takes = Statement; quantity = 0; stands = false }

-- an empty ledger in the running month m
abbrev pub fresh : Month → Ledger
fresh m = record { month = m; pages = replicate 64 blank; offers = replicate 128 no_offer; offered = 0 }

-- the page of an account
abbrev pub page : Ledger → ℕ → Page
page l a = slice_index_or l.pages a blank

-- reading the page of an account: it must be open
abbrev pub reading : Ledger → ℕ → Answer Page
reading l a = first_of (when (nat_le 64 a) 1 no_account ∷ when (not (is_open (page l a))) 2 (Some a) ∷ []) (page l a)

-- the ledger with another page for an account
abbrev pub with_page : Ledger → ℕ → Page → Ledger
with_page l a p = record { month = l.month; pages = slice_set l.pages a p; offers = l.offers; offered = l.offered }

-- the offer at a place
abbrev pub offer_at : Ledger → ℕ → Offer
offer_at l k = slice_index_or l.offers k no_offer

-- the ledger with another offer at a place
abbrev pub with_offer : Ledger → ℕ → Offer → Ledger
with_offer l k o = record { month = l.month; pages = l.pages; offers = slice_set l.offers k o; offered = l.offered }

-- the gas on pages
abbrev pub gas_on_all : List Page → ℤ
gas_on_all [] = pos 0
gas_on_all (p ∷ ps) = gas_on p +ℤ gas_on_all ps

-- what a call comes to: its answer, the ledger after it, and the bill lines and trade confirmations that it writes
pub record Outcome : Type 0 where
  pub answer : Answer (Option ℕ)
  pub ledger : Ledger
  pub bills : List BillLine
  pub trades : List Trade

-- decided by a table: performed, it gives a value, leads to a new ledger and writes these records; refused, it changes and writes nothing
abbrev pub judged : List Refusal → Option ℕ → Ledger → Ledger → List BillLine → List Trade → Outcome
judged ts value old new bills trades = record {
  answer = first_of ts value;
  ledger = after (first_of ts value) new old;
  bills = after (first_of ts value) bills [];
  trades = after (first_of ts value) trades [];
}
