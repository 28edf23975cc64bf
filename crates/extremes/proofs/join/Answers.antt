use Rattle.std.proofs.Common.{◌≡◌, ◌++◌, length, take, drop, ap, ◌∙◌, arith, length-append, length-drop, length-take}
use Rattle.extremes.proofs.Five.{one_more, none_left}
use Rattle.extremes.proofs.join.Goals as goal

pub returns-then-count-lt5 : goal.returns-then-count-lt5
returns-then-count-lt5 g c =
    let n = c.args.count in
    let p = c.place-last.new.held in
    let rest = drop n c.args.held.now in
    let len : length p ≡ n = simp length-take at c.place-last.auto.held ∙ omega arith in
    let whole : length (p ++ rest) ≡ 5 = simp (length-append, length-drop) (omega arith) in
    record {
      count = omega arith;
      held = one_more g.O.Order.upto c.place-last.result n p rest len c.if-count-lt5.true (omega (arith, whole)) ∙ ap (take 5) c.place-last.ensures;
    }

pub returns-else-count-lt5 : goal.returns-else-count-lt5
returns-else-count-lt5 g c =
    let n = c.args.count in
    let p = c.place-last.new.held in
    let rest = drop n c.args.held.now in
    let full : n ≡ 5 = omega arith in
    let len : length p ≡ 5 = simp length-take at c.place-last.auto.held ∙ omega arith in
    record {
      count = omega arith;
      held = ap (λ k. take k (p ++ rest)) full ∙ none_left g.O.Order.upto c.place-last.result p rest len ∙ ap (take 5) c.place-last.ensures;
    }
