-- What a performed call does to the gas: on all pages together, and on each page.
use Rattle.std.proofs.Common.{◌≡◌, ℕ, ◌<◌, Bool, true, false, cond, eqb, List, [], length, get_or, set, replicate, ℤ, pos, ◌+ℤ◌, ◌-ℤ◌, neg_ℤ, sym, refl, ap, ◌∙◌, inl, inr, arith, length-set}
use Rattle.std.proofs.lemmas.List.{get_or-set_same, get_or-set_other, get_or-replicate, get_or_past}
use Rattle.std.proofs.lemmas.Int.{ints}
use Rattle.std.proofs.lemmas.Bool.{cases_eq, cases_lt, eq-eqb, ne_eqb, true≢false}
use Rattle.tariff.specs.Faults.{Answer, done, refused}
use Rattle.tariff.specs.declared.month.Month.{Month}
use Rattle.records.specs.declared.call.Call.{Call}
use Rattle.records.specs.declared.call.Call.TheVariants.{Open, Set, Post, Adjust, State, Offer, Accept, Fold, Settle, Close}
use Rattle.records.specs.declared.lines.BillLine.{BillLine}
use Rattle.page.specs.Pages.{blank, is_open, gas_on}
use Rattle.records.specs.Refusals.{after}
use Rattle.page.specs.declared.page.Page.{Page}
use Rattle.ledger.specs.Ledgers.{fresh, page, with_page, offer_at, gas_on_all}
use Rattle.ledger.specs.declared.ledger.Ledger.{Ledger}
use Rattle.tally.specs.Tallies.{added, emptied, cashed_out}
use Rattle.runs.specs.Runs.{Flow, flow_of}
use Rattle.runs.proofs.Gas.{gas_set}

-- a ledger of 64 pages, on which a page that is not open has no gas, and a settled page no statement imbalance
pub record Good (l : Ledger) : Type 0 where
  pub full : length l.pages ≡ 64
  pub idle : (b : ℕ) → is_open (page l b) ≡ false → gas_on (page l b) ≡ pos 0
  pub quiet : (b : ℕ) → (page l b).settled ≡ true → (page l b).gas.statement ≡ pos 0

-- the ledger k is good, its gas is that of l and z more, and numbers that tell the gas on each page of l,
-- moved by f, tell the gas on each page of k
pub record Moved (l k : Ledger) (z : ℤ) (f : (ℕ → ℤ) → ℕ → ℤ) : Type 0 where
  pub good : Good k
  pub total : gas_on_all k.pages ≡ gas_on_all l.pages +ℤ z
  pub each : (n : ℕ → ℤ) → ((b : ℕ) → gas_on (page l b) ≡ n b) → (b : ℕ) → gas_on (page k b) ≡ f n b

-- one page changes, and has z more gas
pub set_page : (l : Ledger) (a : ℕ) (new : Page) (z : ℤ) → Good l → a < 64
    → (is_open new ≡ false → gas_on new ≡ pos 0) → (new.settled ≡ true → new.gas.statement ≡ pos 0)
    → gas_on new ≡ gas_on (page l a) +ℤ z → Moved l (with_page l a new) z (added a z)
set_page l a new z g h idle quiet e =
    let w : a < length l.pages = omega (arith, g.full) in
    record {
      good = record {
        full = length-set l.pages a new ∙ g.full;
        idle = λ b q. elim (cases_eq b a) [
          | inl same ↦ let i : get_or (set l.pages a new) b blank ≡ new = rw same (get_or-set_same l.pages a new blank w) in rw i (idle (rw i at q))
          | inr other ↦ let i = get_or-set_other l.pages a b new blank other in rw i (g.idle b (rw i at q))
        ];
        quiet = λ b q. elim (cases_eq b a) [
          | inl same ↦ let i : get_or (set l.pages a new) b blank ≡ new = rw same (get_or-set_same l.pages a new blank w) in rw i (quiet (rw i at q))
          | inr other ↦ let i = get_or-set_other l.pages a b new blank other in rw i (g.quiet b (rw i at q))
        ];
      };
      total = let t = gas_set l.pages a new w in omega (arith, ints, t, e);
      each = λ n m b. elim (cases_eq b a) [
        | inl same ↦ rw (same, eq-eqb a a refl, get_or-set_same l.pages a new blank w) (e ∙ ap (λ (x : ℤ). x +ℤ z) (m a))
        | inr other ↦ rw (ne_eqb b a other, get_or-set_other l.pages a b new blank other) (m b)
      ];
    }

-- nothing is both: open and not open, settled and unsettled
pub neither : {X : Type 0} (b : Bool) → b ≡ true → b ≡ false → X
neither b t f = absurd (true≢false (sym t ∙ f))

-- nothing added to a number leaves all numbers as they were
pub nothing_added : (a : ℕ) (n : ℕ → ℤ) (b : ℕ) → added a (pos 0) n b ≡ n b
nothing_added a n b = elim (eqb b a) as (λ v. cond v (n b +ℤ pos 0) (n b) ≡ n b) [ true ↦ omega (arith, ints) | false ↦ refl ]

-- so a change of a page that leaves its gas as it was moves nothing
pub nothing_moved : (l k : Ledger) (a : ℕ) → Moved l k (pos 0) (added a (pos 0)) → Moved l k (pos 0) (λ n. n)
nothing_moved l k a m = record { good = m.good; total = m.total; each = λ n h b. m.each n h b ∙ nothing_added a n b }

-- the same move with the gas told in other words
pub moved_as : (l k : Ledger) (z y : ℤ) (f : (ℕ → ℤ) → ℕ → ℤ) → z ≡ y → Moved l k z f → Moved l k y f
moved_as l k z y f e m = rw (sym e) m

-- an open page is one of the 64
pub open_below : (l : Ledger) (a : ℕ) → Good l → is_open (page l a) ≡ true → a < 64
open_below l a g o = elim (cases_lt a 64) [
  | inl h ↦ h
  | inr h ↦ let i = get_or_past l.pages a blank (omega (arith, g.full)) in absurd (true≢false (sym o ∙ ap is_open i))
]

-- what a call brings to the gas on all pages
abbrev pub worth : Flow → ℤ
worth x = ((x.delivered +ℤ x.adjusted) +ℤ x.stated) -ℤ x.cashed

-- what a performed call does to the numbers of the accounts; an offer is looked up on the ledger
abbrev pub effect : Ledger → Call → List BillLine → (ℕ → ℤ) → ℕ → ℤ
effect l (Open a k e d) ls n = n
effect l (Set a d) ls n = n
effect l (Post a d o r u) ls n = added a (pos r -ℤ pos u) n
effect l (Adjust a q) ls n = added a q n
effect l (State a q) ls n = added a q n
effect l (Offer g gc k kc q) ls n = n
effect l (Accept k place) ls n = added k (pos (offer_at l place).quantity) (added (offer_at l place).giver (neg_ℤ (pos (offer_at l place).quantity)) n)
effect l (Fold m a) ls n = emptied m (added a (n m) n)
effect l (Settle a c) ls n = added a (neg_ℤ (cashed_out ls)) n
effect l Close ls n = n

-- a performed call that writes these lines leads from l to k
abbrev pub Moves : Ledger → Ledger → Call → List BillLine → Type 0
Moves l k c ls = Moved l k (worth (flow_of c ls)) (effect l c ls)

-- a refused call moves nothing
pub performed : {V : Type 0} (w : Answer V) (l k : Ledger) (c : Call) (ls : List BillLine) → Good l → ((v : V) → w ≡ done v → Moves l k c ls)
    → Moved l (after w k l) (after w (worth (flow_of c (after w ls []))) (pos 0)) (λ n. after w (effect l c (after w ls []) n) n)
performed (done v) l k c ls g m = m v refl
performed (refused r y a) l k c ls g m = record { good = g; total = omega (arith, ints); each = λ n e. e }

-- every page of the empty ledger is blank, also past the last
pub all_blank : (b : ℕ) → get_or (replicate 64 blank) b blank ≡ blank
all_blank b = elim (cases_lt b 64) [
  | inl h ↦ get_or-replicate 64 b blank blank h
  | inr h ↦ get_or_past (replicate 64 blank) b blank h
]

-- the empty ledger is good
pub good_fresh : (m : Month) → Good (fresh m)
good_fresh m = record { full = refl; idle = λ b q. ap gas_on (all_blank b); quiet = λ b q. ap (λ (x : Page). x.gas.statement) (all_blank b) }
