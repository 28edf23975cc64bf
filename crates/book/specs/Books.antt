-- A book: two options and a ledger.
use Rattle.std.specs.Prelude.{ℕ, cond, Some, None, Option}
use Rattle.tariff.specs.Faults.{Answer, done, refused, book_layer, no_account}
use Rattle.tariff.specs.Months.{named, preceding}
use Rattle.tariff.specs.declared.month.Month.{Month}
use Rattle.ledger.specs.Calls.{no_month}
use Rattle.ledger.specs.Ledgers.{fresh}
use Rattle.ledger.specs.declared.ledger.Ledger.{Ledger}
use Rattle.book.specs.declared.agents.Book.{Book}

-- a new book: empty, in a running month that has a month before it; any other month is refused under row 1
abbrev pub starting_in : {A B : Type 0} → A → B → Option Month → Answer (Book A B)
starting_in f s None = refused 1 book_layer no_account
starting_in f s (Some m) = cond (no_month (preceding m)) (refused 1 book_layer no_account) (done (record { first = f; second = s; ledger = fresh m }))

abbrev pub starting : {A B : Type 0} → A → B → ℕ → ℕ → Answer (Book A B)
starting f s year number = starting_in f s (named year number)

-- the book with another ledger and the same options
abbrev pub with_ledger : {A B : Type 0} → Book A B → Ledger → Book A B
with_ledger b l = record { first = b.first; second = b.second; ledger = l }
