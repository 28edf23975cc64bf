-- What a register holds, and what writing adds to it.
use Rattle.std.specs.Prelude.{◌≡◌, ◌+◌, List, ◌++◌, length, take, drop}
use Rattle.register.specs.declared.Register.{Register}

-- the records written so far: what the places before the count hold
abbrev pub records : {R : Type 0} → Register R → List R
records g = take g.count g.places.now

-- what the free places hold, from the count on
abbrev pub free : {R : Type 0} → Register R → List R
free g = drop g.count g.places.now

-- `after` is the register `before` with `lines` written: the records gain them in order, the places that are still
-- free keep what they held, the count grows by the lines, and the places are those that were lent
pub record Wrote {R : Type 0} (before : Register R) (lines : List R) (after : Register R) : Type 0 where
  pub added : records after ≡ records before ++ lines
  pub left : free after ≡ drop (length lines) (free before)
  pub counted : after.count ≡ before.count + length lines
  pub same : after.places.ghost_name ≡ before.places.ghost_name
