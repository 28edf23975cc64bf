use Rattle.std.proofs.Common.{◌≡◌, ◌+◌, ◌^◌, ◌<◌, drop}
use Rattle.decimal.specs.Amounts.{read_on, all_digits}
use Rattle.decimal.proofs.Readings.{Rests, Tens}
use Rattle.decimal.proofs.read_number.Given as goal

-- What is left, read on from n, gives what all of it gives, read from where n began, and it is all digits just where the whole is.
-- `Rests` and `Tens` hold of any text. They stand here so that the search has them at each turn and at the return.
abbrev pub invariant-loop-b : goal.invariant-loop-b
invariant-loop-b l =
    (l.n < l.initial.n + 10 ^ l.b-index)
    × (read_on l.n (drop l.b-index l.digits) ≡ read_on l.initial.n l.digits)
    × (all_digits (drop l.b-index l.digits) ≡ all_digits l.digits)
    × Rests l.digits
    × Tens
