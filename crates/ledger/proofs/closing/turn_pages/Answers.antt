use Rattle.std.proofs.Common.{rules}
use Rattle.std.proofs.lemmas.List.Edits.{map_over_more}
use Rattle.page.specs.Closing.{turned}
use Rattle.ledger.proofs.closing.turn_pages.Goals as goal

pub loop-page-preserved : goal.loop-page-preserved
loop-page-preserved c = search (rules, map_over_more turned)
