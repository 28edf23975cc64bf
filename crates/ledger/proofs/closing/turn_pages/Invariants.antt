use Rattle.std.proofs.Common.{◌≡◌, ◌++◌, map, take, drop}
use Rattle.page.specs.Closing.{turned}
use Rattle.ledger.proofs.closing.turn_pages.Given as goal

-- the pages up to this one are turned, the others are as they were
abbrev pub invariant-loop-page : goal.invariant-loop-page
invariant-loop-page l = l.pages ≡ map turned (take l.page-index l.initial.pages) ++ drop l.page-index l.initial.pages
