use Rattle.std.proofs.Common.{rules}
use Rattle.page.proofs.billing.bill.Goals as goal

pub returns-in_err-room_for : goal.returns-in_err-room_for
returns-in_err-room_for c = let lines = c.line_count.ensures c.args.account c.args.month in search rules

pub put_all-requires : goal.put_all-requires
put_all-requires c = let lines = c.line_count.ensures c.args.account c.args.month in search rules

pub returns : goal.returns
returns c = let lines = c.line_count.ensures c.args.account c.args.month in search rules
