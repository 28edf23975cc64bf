-- Numbers of accounts as functions: one account's number set, added to or emptied.
use Rattle.std.proofs.Common.{◌≡◌, ℕ, ℤ, pos, ◌+ℤ◌, neg_ℤ, sym, refl, ap, ◌∙◌, inl, inr, arith}
use Rattle.std.proofs.lemmas.Int.{ints}
use Rattle.std.proofs.lemmas.Bool.{cases_eq, eq-eqb, ne_eqb}
use Rattle.tally.specs.Tallies.{added, emptied}
use Rattle.tally.specs.Steps.{placed}

-- what stands at the account itself, and at any other
pub placed_here : (a : ℕ) (z : ℤ) (n : ℕ → ℤ) → placed a z n a ≡ z
placed_here a z n = rw (eq-eqb a a refl)

pub placed_other : (a b : ℕ) (z : ℤ) (n : ℕ → ℤ) → (b ≡ a → ⊥) → placed a z n b ≡ n b
placed_other a b z n ne = rw (ne_eqb b a ne)

pub added_here : (a : ℕ) (z : ℤ) (n : ℕ → ℤ) → added a z n a ≡ n a +ℤ z
added_here a z n = rw (eq-eqb a a refl)

pub added_other : (a b : ℕ) (z : ℤ) (n : ℕ → ℤ) → (b ≡ a → ⊥) → added a z n b ≡ n b
added_other a b z n ne = rw (ne_eqb b a ne)

-- two families that agree at a and elsewhere are one
pub same : (a : ℕ) (n m : ℕ → ℤ) → n a ≡ m a → ((b : ℕ) → (b ≡ a → ⊥) → n b ≡ m b) → n ≡ m
same a n m here other = λ i b. each b i where
  each : (b : ℕ) → n b ≡ m b
  each b = elim (cases_eq b a) [ inl e ↦ rw e here | inr ne ↦ other b ne ]

pub placed_idle : (a : ℕ) (z : ℤ) (n : ℕ → ℤ) → n a ≡ z → n ≡ placed a z n
placed_idle a z n e = same a n (placed a z n) (e ∙ sym (placed_here a z n)) (λ b ne. sym (placed_other a b z n ne))

pub placed_added : (a : ℕ) (z v : ℤ) (n : ℕ → ℤ) → v ≡ n a +ℤ z → placed a v n ≡ added a z n
placed_added a z v n e =
    same a (placed a v n) (added a z n)
    (placed_here a v n ∙ e ∙ sym (added_here a z n))
    (λ b ne. placed_other a b v n ne ∙ sym (added_other a b z n ne))

-- what is given and taken by one account moves nothing
pub added_back : (a : ℕ) (z : ℤ) (n : ℕ → ℤ) → n ≡ added a z (added a (neg_ℤ z) n)
added_back a z n =
    same a n (added a z (added a (neg_ℤ z) n))
    (rw (added_here a z (added a (neg_ℤ z) n), added_here a (neg_ℤ z) n) (omega (arith, ints)))
    (λ b ne. sym (added_other a b z (added a (neg_ℤ z) n) ne ∙ added_other a b (neg_ℤ z) n ne))

-- an account that is emptied may be added to before
pub emptied_added : (a : ℕ) (z : ℤ) (n : ℕ → ℤ) → emptied a n ≡ emptied a (added a z n)
emptied_added a z n =
    same a (emptied a n) (emptied a (added a z n))
    (placed_here a (pos 0) n ∙ sym (placed_here a (pos 0) (added a z n)))
    (λ b ne. placed_other a b (pos 0) n ne ∙ sym (placed_other a b (pos 0) (added a z n) ne ∙ added_other a b z n ne))

-- the agent's number after a fold
pub folded_here : (m a : ℕ) (z : ℤ) (n : ℕ → ℤ) → (m ≡ a → ⊥) → emptied m (added a z n) a ≡ n a +ℤ z
folded_here m a z n ne = placed_other m a (pos 0) (added a z n) (λ e. ne (sym e)) ∙ added_here a z n

-- the giver's number after a trade, the taker's, and both
pub given_here : (g k : ℕ) (z : ℤ) (n : ℕ → ℤ) → (g ≡ k → ⊥) → added k z (added g (neg_ℤ z) n) g ≡ n g +ℤ neg_ℤ z
given_here g k z n ne = added_other k g z (added g (neg_ℤ z) n) ne ∙ added_here g (neg_ℤ z) n

pub taken_here : (g k : ℕ) (z : ℤ) (n : ℕ → ℤ) → (g ≡ k → ⊥) → added k z (added g (neg_ℤ z) n) k ≡ n k +ℤ z
taken_here g k z n ne =
    added_here k z (added g (neg_ℤ z) n) ∙ ap (λ (x : ℤ). x +ℤ z) (added_other g k (neg_ℤ z) n (λ e. ne (sym e)))

pub placed_traded : (g k : ℕ) (z v w : ℤ) (n : ℕ → ℤ) → (g ≡ k → ⊥) → v ≡ n g +ℤ neg_ℤ z → w ≡ n k +ℤ z → placed k w (placed g v n) ≡ added k z (added g (neg_ℤ z) n)
placed_traded g k z v w n ne e f =
    let m = added g (neg_ℤ z) n in
    ap (placed k w) (placed_added g (neg_ℤ z) v n e)
    ∙ placed_added k z w m (f ∙ sym (taken_here g k z n ne) ∙ added_here k z m)
