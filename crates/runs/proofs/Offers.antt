-- An offer counts at most once in the tally.
use Rattle.std.proofs.Common.{◌≡◌, ℕ, ◌<◌, ◌≤◌, true, false, List, [], ◌∷◌, length, get_or, set, refl, ap, ◌∙◌, inl, inr, arith, length-set}
use Rattle.std.specs.List.{AllByRecursion}
use Rattle.std.proofs.lemmas.List.{get_or-set_same, get_or-set_other, get_or_append_left, get_or_past, length_push}
use Rattle.std.proofs.lemmas.Bool.{cases_Bool, cases_eq, cases_lt, false≢true}
use Rattle.records.specs.declared.call.Call.{Call}
use Rattle.records.specs.declared.call.Call.TheVariants.{Open, Set, Post, Adjust, State, Offer, Accept, Fold, Settle, Close}
use Rattle.records.specs.declared.lines.BillLine.{BillLine}
use Rattle.tally.specs.Tallies.{Laid, Tally, fed, laid_at, nothing_laid, spent, traded}
use Rattle.runs.specs.Law.{OffersCountOnce, before_closing}
use Rattle.runs.specs.Runs.{Entry, tallied}

-- once an offer was spent at a place, no offer stands there, whether or not the list reaches so far
pub spent_falls : (os : List Laid) (k : ℕ) (o : Laid) → (get_or (set os k (spent o)) k nothing_laid).stands ≡ false
spent_falls os k o = elim (cases_lt k (length os)) [
  | inl in_List ↦ ap (λ (x : Laid). x.stands) (get_or-set_same os k (spent o) nothing_laid in_List)
  | inr past ↦ let w : length (set os k (spent o)) ≤ k = simp length-set past in ap (λ (x : Laid). x.stands) (get_or_past (set os k (spent o)) k nothing_laid w)
]

-- an offer that does not stand moves nothing
pub nothing_moves : (t : Tally) (o : Laid) (a k : ℕ) → o.stands ≡ false → traded t o a k ≡ t
nothing_moves t o a k e = rw e refl

-- after an accepting at a place, no offer stands there in the tally
pub accepted_falls : (t : Tally) (a k : ℕ) → (laid_at (traded t (laid_at t k) a k) k).stands ≡ false
accepted_falls t a k = elim (cases_Bool (laid_at t k).stands) [
  | inl stood ↦ rw stood (spent_falls t.offers k (laid_at t k))
  | inr fell ↦ rw fell fell
]

-- an offer was laid at the place, and stands no more
pub record SpentAt (t : Tally) (k : ℕ) : Type 0 where
  pub laid : k < length t.offers
  pub fell : (laid_at t k).stands ≡ false

-- an accepting at any place leaves it so
still_spent : (t : Tally) (a j k : ℕ) → SpentAt t k → SpentAt (traded t (laid_at t j) a j) k
still_spent t a j k s = elim (cases_Bool (laid_at t j).stands) [
  | inl stood ↦ rw stood (record {
    laid = simp length-set s.laid;
    fell = elim (cases_eq k j) [
      | inl same ↦ rw same (spent_falls t.offers j (laid_at t j))
      | inr other ↦ ap (λ (x : Laid). x.stands) (get_or-set_other t.offers j k (spent (laid_at t j)) nothing_laid other) ∙ s.fell
    ];
  })
  | inr fell ↦ rw fell s
]

-- and so does every call but a closing
pub stays_spent : (t : Tally) (k : ℕ) (c : Call) (ls : List BillLine) → before_closing c ≡ true → SpentAt t k → SpentAt (fed t c ls) k
stays_spent t k (Open a i e d) ls h s = s
stays_spent t k (Set a d) ls h s = s
stays_spent t k (Post a d o r u) ls h s = record { laid = s.laid; fell = s.fell }
stays_spent t k (Adjust a q) ls h s = record { laid = s.laid; fell = s.fell }
stays_spent t k (State a q) ls h s = record { laid = s.laid; fell = s.fell }
stays_spent t k (Offer g gc i ic q) ls h s =
    let new : Laid = record { giver = g; quantity = q; stands = true } in
    record {
      laid = let e = length_push t.offers new in omega (arith, e, s.laid);
      fell = ap (λ (x : Laid). x.stands) (get_or_append_left t.offers (new ∷ []) nothing_laid k s.laid) ∙ s.fell;
    }
stays_spent t k (Accept a j) ls h s = still_spent t a j k s
stays_spent t k (Fold m a) ls h s = record { laid = s.laid; fell = s.fell }
stays_spent t k (Settle a c) ls h s = record { laid = s.laid; fell = s.fell }
stays_spent t k Close ls h s = absurd (false≢true h)

-- and every list of such calls
pub all_stay_spent : (t : Tally) (k : ℕ) (xs : List Entry) → AllByRecursion (λ x. before_closing x.call ≡ true) xs → SpentAt t k → SpentAt (tallied t xs) k
all_stay_spent t k [] h s = s
all_stay_spent t k (x ∷ xs) h s = all_stay_spent (fed t x.call x.lines) k xs h.1 (stays_spent t k x.call x.lines h.0 s)

-- the place is spent once an offer that was laid there is accepted
pub accepted_spends : (t : Tally) (a k : ℕ) → k < length t.offers → SpentAt (traded t (laid_at t k) a k) k
accepted_spends t a k h = record {
  laid = elim (cases_Bool (laid_at t k).stands) [ inl stood ↦ rw stood (simp length-set h) | inr fell ↦ rw fell h ];
  fell = accepted_falls t a k;
}

-- an accepting at a place where an offer was laid, calls other than closings, and another accepting at that place
pub offers_count_once : OffersCountOnce
offers_count_once t a b k ls ms xs laid h =
    let u = tallied (fed t (Accept a k) ls) xs in
    nothing_moves u (laid_at u k) b k (all_stay_spent (fed t (Accept a k) ls) k xs h (accepted_spends t a k laid)).fell
