use Rattle.std.proofs.Common.{◌≡◌, List, ◌++◌, drop}
use Rattle.page.specs.Closing.{all_lines}
use Rattle.records.specs.declared.lines.BillLine.{BillLine}
use Rattle.register.specs.Registers.{Wrote}
use Rattle.ledger.proofs.closing.bill_pages.Given as goal

-- some lines were written, and with those of the pages that are left they are all
abbrev pub invariant-loop-account : goal.invariant-loop-account
invariant-loop-account l = (ws : List BillLine)
    × Wrote l.initial.bills ws l.bills
    × (ws ++ all_lines l.terms l.credits l.account (drop l.account l.pages) ≡ all_lines l.terms l.credits 0 l.pages)
