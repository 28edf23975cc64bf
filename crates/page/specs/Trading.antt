-- Trading: a component of a page gains or loses a quantity.
use Rattle.std.specs.Prelude.{ℕ, cond, ℤ, pos, ◌+ℤ◌, ◌-ℤ◌, Some, None, Option}
use Rattle.records.specs.declared.component.Component.{Component}
use Rattle.page.specs.Limits.{past}
use Rattle.page.specs.Pages.{held_in, with_gas, with_held}
use Rattle.page.specs.declared.page.Page.{Page}

-- what a component holds with q more, and with q less
abbrev pub more_in : Component → Page → ℕ → ℤ
more_in c p q = held_in c p.gas +ℤ pos q

abbrev pub less_in : Component → Page → ℕ → ℤ
less_in c p q = held_in c p.gas -ℤ pos q

-- the page with q more, and with q less, in a component
abbrev pub gained : Component → Page → ℕ → Page
gained c p q = with_gas p (with_held c p.gas (more_in c p q))

abbrev pub lost : Component → Page → ℕ → Page
lost c p q = with_gas p (with_held c p.gas (less_in c p q))

-- the same where the limit is kept
abbrev pub gaining : Component → Page → ℕ → Option Page
gaining c p q = cond (past (more_in c p q)) None (Some (gained c p q))

abbrev pub losing : Component → Page → ℕ → Option Page
losing c p q = cond (past (less_in c p q)) None (Some (lost c p q))
