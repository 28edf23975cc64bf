-- A month's doubles as the card holds them.
use Rattle.std.specs.Prelude.{ℕ, List, take}
use Rattle.cards.specs.declared.index.points.Doubles.{Doubles}

-- the doubles of the month's days; what stands past them means nothing
abbrev pub doubles_in : Doubles → List ℕ
doubles_in d = take d.days d.places
