use Rattle.std.proofs.Common.{None, arith}
use Rattle.std.proofs.lemmas.List.Folds.{length-flat_map-take}
use Rattle.page.specs.Settling.{line_of}
use Rattle.register.proofs.Wrotes.{wrote_room}
use Rattle.page.proofs.billing.put_all.Goals as goal

pub put-requires : goal.put-requires
put-requires c =
    let within = length-flat_map-take (line_of c.args.account c.args.month) c.args.charges.now c.loop-charge.charge-index None c.loop-charge-test.true in
    omega (arith, c.requires, within, wrote_room _ _ _ c.loop-charge.invariant)
