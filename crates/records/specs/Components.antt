-- The numbers of the components that are traded.
use Rattle.std.specs.Prelude.{ℕ, cond, List, codes, ◌==◌}
use Rattle.records.specs.declared.component.Component.{Component}
use Rattle.records.specs.declared.component.Component.TheVariants.{Statement, Operating}

-- the number of each component
abbrev pub component_number : Component → ℕ
component_number Statement = 1
component_number Operating = 2

-- what a component is called
abbrev pub component_text : Component → List ℕ
component_text Statement = codes "statement"
component_text Operating = codes "operating"

-- the component with a number; a number other than 1 and 2 is refused before it is looked up
abbrev pub component_of : ℕ → Component
component_of n = cond (n == 2) Operating Statement
