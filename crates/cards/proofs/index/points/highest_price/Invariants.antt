use Rattle.std.proofs.Common.{◌≡◌, ◌≤◌}
use Rattle.series.specs.Days.{daily}
use Rattle.cards.specs.Index.{highest}
use Rattle.cards.proofs.index.points.highest_price.Given as goal

-- the highest price of the days before
abbrev pub invariant-loop-day : goal.invariant-loop-day
invariant-loop-day l = (l.high ≡ highest (daily l.series) l.day) × (l.high ≤ 10000000)
