-- The numbers of kinds and elections.
use Rattle.std.specs.Prelude.{ℕ, cond, List, codes, ◌==◌}
use Rattle.records.specs.declared.account.Kind.{Kind}
use Rattle.records.specs.declared.account.Kind.TheVariants.{Noncore, Core}
use Rattle.records.specs.declared.account.Election.{Election}
use Rattle.records.specs.declared.account.Election.TheVariants.{First, Second}

-- 1 is noncore, 2 a core group; any other number is refused before it is looked up
abbrev pub kind_number : Kind → ℕ
kind_number Noncore = 1
kind_number Core = 2

-- what a kind is called
abbrev pub kind_text : Kind → List ℕ
kind_text Noncore = codes "noncore"
kind_text Core = codes "core group"

abbrev pub kind_of : ℕ → Kind
kind_of n = cond (n == 2) Core Noncore

-- 1 is the book's first option, 2 its second; any other number is refused before it is looked up
abbrev pub election_number : Election → ℕ
election_number First = 1
election_number Second = 2

abbrev pub election_of : ℕ → Election
election_of n = cond (n == 2) Second First
