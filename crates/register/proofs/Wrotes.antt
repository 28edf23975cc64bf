-- What follows of a register that lines were written to.
use Rattle.std.proofs.Common.{◌≡◌, ◌-◌, List, [], ◌++◌, length, drop, sym, refl, ap, ◌∙◌, append_assoc, append-nil, add-zero, arith, length-append, length-drop}
use Rattle.std.proofs.lemmas.List.{drop-drop}
use Rattle.register.specs.declared.Register.{Register}
use Rattle.register.specs.Registers.{Wrote, free, records}

-- a register that stays as it is was written nothing
pub wrote_none : {R : Type 0} (g : Register R) → Wrote g [] g
wrote_none g = record { added = sym (append-nil (records g)); left = refl; counted = sym (add-zero g.count); same = refl }

-- lines written after others
pub wrote_more : {R : Type 0} (a b c : Register R) (xs ys : List R) → Wrote a xs b → Wrote b ys c → Wrote a (xs ++ ys) c
wrote_more a b c xs ys p q = record {
  added = q.added ∙ ap (λ zs. zs ++ ys) p.added ∙ append_assoc (records a) xs ys;
  left = q.left ∙ ap (drop (length ys)) p.left ∙ drop-drop (length ys) (length xs) (free a) ∙ ap (λ n. drop n (free a)) (sym (length-append xs ys));
  counted = omega (arith, p.counted, q.counted, length-append xs ys);
  same = q.same ∙ p.same;
}

-- the free places fall by the lines written
pub wrote_room : {R : Type 0} (a b : Register R) (xs : List R) → Wrote a xs b → length (free b) ≡ length (free a) - length xs
wrote_room a b xs p = ap length p.left ∙ length-drop (length xs) (free a)
