use Rattle.std.proofs.Common.{take}
use Rattle.std.specs.List.{flat_map}
use Rattle.page.specs.Settling.{line_of}
use Rattle.register.specs.Registers.{Wrote}
use Rattle.page.proofs.billing.put_all.Given as goal

-- the lines of the charges so far were written
abbrev pub invariant-loop-charge : goal.invariant-loop-charge
invariant-loop-charge l = Wrote l.initial.bills (flat_map (line_of l.account l.month) (take l.charge-index l.charges)) l.bills
