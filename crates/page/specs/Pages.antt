-- What a page holds.
use Rattle.std.specs.Prelude.{ℕ, Bool, true, false, ℤ, pos, ◌+ℤ◌}
use Rattle.balancing.specs.Rules.{Rules}
use Rattle.records.specs.declared.component.Component.{Component}
use Rattle.records.specs.declared.component.Component.TheVariants.{Statement, Operating}
use Rattle.records.specs.declared.account.Kind.{Kind}
use Rattle.records.specs.declared.account.Kind.TheVariants.{Noncore, Core}
use Rattle.records.specs.declared.account.Election.{Election}
use Rattle.records.specs.declared.account.Election.TheVariants.{First, Second}
use Rattle.records.specs.declared.account.Status.{Status}
use Rattle.records.specs.declared.account.Status.TheVariants.{Unused, Open, Folded}
use Rattle.page.specs.declared.page.Gas.{Gas}
use Rattle.page.specs.declared.page.Basis.{Basis}
use Rattle.page.specs.declared.page.Posted.{Posted}
use Rattle.page.specs.declared.page.Page.{Page}

-- nothing held, measured or posted
abbrev pub no_gas_held : Gas
no_gas_held = record { running = pos 0; statement = pos 0; operating = pos 0; carryover = pos 0; carried = pos 0 }

abbrev pub basis : ℕ → ℕ → Basis
basis u d = record { usage = u; monthly_quantity = d }

abbrev pub nothing_posted : Posted
nothing_posted = record { day = 0; daily_excess = 0; accumulated_excess = 0 }

-- the page of a number that was never used
abbrev pub blank : Page
blank = record { status = Unused; kind = Noncore; election = First; settled = false; gas = no_gas_held; month = basis 0 0; posted = nothing_posted; statement = basis 0 0 }

-- a page as opening makes it: at zero, settled
abbrev pub started : Kind → Election → ℕ → Page
started k e d = record { status = Open; kind = k; election = e; settled = true; gas = no_gas_held; month = basis 0 d; posted = nothing_posted; statement = basis 0 0 }

-- open and not folded
abbrev pub open_status : Status → Bool
open_status Unused = false
open_status Open = true
open_status Folded = false

abbrev pub is_open : Page → Bool
is_open p = open_status p.status

-- a number that was used before: open, or folded
abbrev pub used_status : Status → Bool
used_status Unused = false
used_status Open = true
used_status Folded = true

abbrev pub is_used : Page → Bool
is_used p = used_status p.status

-- a core group
abbrev pub core_kind : Kind → Bool
core_kind Noncore = false
core_kind Core = true

abbrev pub is_core : Page → Bool
is_core p = core_kind p.kind

-- the meaning of the option that the page elects, of the book's two
abbrev pub chosen : Election → Rules → Rules → Rules
chosen First f s = f
chosen Second f s = s

abbrev pub elected : Rules → Rules → Page → Rules
elected f s p = chosen p.election f s

-- the gas on a page: its five quantities together
abbrev pub all_of : Gas → ℤ
all_of g = ((g.running +ℤ g.statement) +ℤ (g.operating +ℤ g.carryover)) +ℤ g.carried

abbrev pub gas_on : Page → ℤ
gas_on p = all_of p.gas

-- what a component that is traded holds
abbrev pub held_in : Component → Gas → ℤ
held_in Statement g = g.statement
held_in Operating g = g.operating

-- other gas on the page, all else as it was
abbrev pub with_gas : Page → Gas → Page
with_gas p g = record { status = p.status; kind = p.kind; election = p.election; settled = p.settled; gas = g; month = p.month; posted = p.posted; statement = p.statement }

-- one quantity of the five replaced
abbrev pub with_running : Gas → ℤ → Gas
with_running g z = record { running = z; statement = g.statement; operating = g.operating; carryover = g.carryover; carried = g.carried }

abbrev pub with_held : Component → Gas → ℤ → Gas
with_held Statement g z = record { running = g.running; statement = z; operating = g.operating; carryover = g.carryover; carried = g.carried }
with_held Operating g z = record { running = g.running; statement = g.statement; operating = z; carryover = g.carryover; carried = g.carried }
