use Rattle.std.proofs.Common.{◌≡◌, ◌*◌, ◌^◌, ◌≤◌, drop, ◌+ℤ◌, nat_abs}
use Rattle.dues.specs.Dues.{all_due}
use Rattle.dues.proofs.due_in.Given as goal

-- what was added up and what the pages that are left make due are all
abbrev pub invariant-loop-page : goal.invariant-loop-page
invariant-loop-page l =
    (nat_abs l.total ≤ 2 ^ 97 * l.page-index)
    × (l.total +ℤ all_due l.terms l.credits (drop l.page-index l.pages) ≡ all_due l.terms l.credits l.pages)
