use Rattle.std.proofs.Common.{◌≡◌, Some, None}
use Rattle.std.specs.Prelude.{if◌then◌else◌}
use Rattle.decimal.specs.Amounts.{has_point, point_at}
use Rattle.decimal.proofs.Points.{found, whole_without}
use Rattle.decimal.proofs.point_in.Goals as goal

pub returns : goal.returns
returns c =
    let text = c.args.text.now in
    let value : c.first_point.result ≡ (if has_point text then Some (point_at text) else None) = rw (found text) at c.first_point.ensures in
    record { value = value; whole = whole_without text c.first_point.result value }
