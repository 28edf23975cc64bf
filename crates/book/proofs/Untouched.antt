-- A register to which a call writes nothing.
use Rattle.std.proofs.Common.{[]}
use Rattle.tariff.specs.Faults.{Answer, done, refused}
use Rattle.records.specs.Refusals.{after}
use Rattle.register.proofs.Wrotes.{wrote_none}
use Rattle.register.specs.Registers.{Wrote}
use Rattle.register.specs.declared.Register.{Register}

-- it stays as it is, whether the call is performed or refused
pub unwritten : {V R : Type 0} (v : Answer V) (g : Register R) → Wrote g (after v [] []) g
unwritten (done v) g = wrote_none g
unwritten (refused n l a) g = wrote_none g
