use Rattle.std.proofs.Common.{ℕ, ◌^◌, ◌<◌, IfSome, sym, subst}
use Rattle.bridge.proofs.Limits.{amount_below}
use Rattle.bridge.proofs.bounded_amount.Goals as goal

-- What `read_amount` ensures, and that no amount reaches 2 ^ 63.
pub returns : goal.returns
returns c = record {
  value = c.read_amount.ensures;
  bound = subst (λ r. IfSome r (λ n. n < 2 ^ 63)) (sym c.read_amount.ensures) (amount_below c.args.decimals c.args.text.now);
}
