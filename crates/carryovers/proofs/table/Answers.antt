use mathlib.Core.Path.{refl}
use Rattle.carryovers.proofs.table.Goals as goal

pub returns : goal.returns
returns c = record {
  a_twelfth_moves_on = λ r s k x. (refl, refl);
  small_rest_is_cleared = λ r s k x. (refl, refl, refl);
  large_rest_is_refused = λ o t n r s k e m d b a room h. rw h refl;
}
