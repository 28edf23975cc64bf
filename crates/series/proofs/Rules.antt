-- The rule for a day's price, from the latest entry.
use Rattle.std.proofs.Common.{◌≡◌, ℕ, zero, suc, ◌<◌, ◌≤◌, ◌⊎◌, Some, None, Option, refl, subst, inl, inr, ⊎_elim, arith}
use Rattle.std.proofs.lemmas.Bool.{cases_lt}
use Rattle.series.specs.Days.{latest, if_none, or_else}

abbrev pub Follows : ℕ → (ℕ → Option ℕ) → ℕ → ℕ → Type 0
Follows before entries day price =
    ((k : ℕ) × (k ≤ day) × (entries k ≡ Some price) × ((j : ℕ) → k < j → j ≤ day → entries j ≡ None))
    ⊎ (((j : ℕ) → j ≤ day → entries j ≡ None) × (price ≡ before))

-- what is empty beyond k and at suc d is so up to suc d
further : (entries : ℕ → Option ℕ) (d : ℕ) → entries (suc d) ≡ None → (P : ℕ → Type 0) → ((j : ℕ) → P j → j ≤ d → entries j ≡ None) → (j : ℕ) → P j → j ≤ suc d → entries j ≡ None
further entries d here P below j p h =
    ⊎_elim (λ lt. below j p (omega arith)) (λ ge. let e : j ≡ suc d = omega arith in rw e here) (cases_lt j (suc d))

step : (before : ℕ) (entries : ℕ → Option ℕ) (d : ℕ) (o : Option ℕ) → Follows before entries d (or_else (latest entries d) before) → entries (suc d) ≡ o → Follows before entries (suc d) (or_else (if_none o (latest entries d)) before)
step before entries d (Some p) earlier here = inl (suc d, omega arith, here, λ j lt le. absurd (omega arith))
step before entries d None earlier here =
    ⊎_elim
    (λ some. inl (some.0, omega (arith, some.1), some.2, further entries d here (λ j. some.0 < j) some.3))
    (λ none. inr ((λ j. further entries d here (λ i. Unit {0}) (λ i u. none.0 i) j tt), none.1))
    earlier

followed : (before : ℕ) (entries : ℕ → Option ℕ) (day : ℕ) → entries 0 ≡ None → Follows before entries day (or_else (latest entries day) before)
followed before entries zero start = inr ((λ j h. let e : j ≡ 0 = omega arith in rw e start), refl)
followed before entries (suc d) start = step before entries d (entries (suc d)) (followed before entries d start) refl

-- at what the latest entry is known to be
pub follows : (before : ℕ) (entries : ℕ → Option ℕ) (day : ℕ) (o : Option ℕ) → entries 0 ≡ None → latest entries day ≡ o → Follows before entries day (or_else o before)
follows before entries day o start e = subst (λ x. Follows before entries day (or_else x before)) e (followed before entries day start)
