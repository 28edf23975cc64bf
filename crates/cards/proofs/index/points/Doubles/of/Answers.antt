use Rattle.std.proofs.Common.{◌≡◌, ℕ, ◌+◌, ◌≤◌, map, take, ap, ◌∙◌, arith, rules}
use Rattle.std.specs.List.{range_with_len}
use Rattle.std.proofs.lemmas.List.FromFn.{take-map-range_with_len}
use Rattle.series.specs.Days.{daily}
use Rattle.cards.specs.Index.{doubled}
use Rattle.cards.proofs.Monthly.{doubled_is, given}
use Rattle.cards.proofs.index.points.Doubles.of.Goals as goal

pub invariant_of-result : goal.invariant_of-result
invariant_of-result c = record {
  many = (omega arith, omega arith);
  limited = λ k d h. let call = c.from_fn.ensures.items.at k d (omega (arith, c.from_fn.ensures.items.long)) in search rules;
}

pub returns : goal.returns
returns c =
    let p = daily c.args.a.now in
    let q = daily c.args.b.now in
    let f : ℕ → ℕ = λ k. p (k + 1) + q (k + 1) in
    let all : c.from_fn.result ≡ map f (range_with_len 0 31) = given c.from_fn.ensures.items f (λ i y r call. search rules) in
    let days : c.count_days.result ≤ 31 = c.count_days.ensures.bound.1 in
    ap (take c.count_days.result) all ∙ take-map-range_with_len f 0 31 c.count_days.result days ∙ doubled_is p q c.count_days.result ∙ ap (doubled p q) c.count_days.ensures.value
