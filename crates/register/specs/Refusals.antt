-- The refusal of a call for which a register has too few free places.
use Rattle.std.specs.Prelude.{ℕ}
use Rattle.tariff.specs.Faults.{Answer, layer_number, no_account, refused}
use Rattle.tariff.specs.declared.fault.Layer.TheVariants.{Register}

-- the layer of registers as refusals name it
abbrev pub register_layer : ℕ
register_layer = layer_number Register

-- row 12 of the layer of registers, over no account
abbrev pub no_place : {V : Type 0} → Answer V
no_place = refused 12 register_layer no_account
