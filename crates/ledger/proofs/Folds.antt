-- A folding, seen from the ledger.
use Rattle.std.proofs.Common.{◌≡◌, ℕ, ◌<◌, true, false, List, [], ◌∷◌, get_or, None, Result, Ok, Err, sym, refl, ap, ◌∙◌, arith, Option}
use lib.Seq.{set-get_or}
use Rattle.std.specs.Result.{IsErrAnd}
use Rattle.std.proofs.lemmas.Bool.{lt-leb}
use Rattle.tariff.specs.Faults.{Answer, done, refused, answer}
use Rattle.tariff.specs.declared.fault.Fault.{Fault}
use Rattle.page.specs.Folding.{folding_refusals, folding_answer, page_folded, joined, retired}
use Rattle.page.specs.Pages.{blank}
use Rattle.records.specs.Refusals.{Refusal, when, short, first_of, decided, said, after}
use Rattle.page.specs.declared.page.Page.{Page}
use Rattle.ledger.specs.Calls.{folding}
use Rattle.ledger.specs.Ledgers.{page, with_page}
use Rattle.ledger.specs.declared.ledger.Ledger.{Ledger}

abbrev value : {V : Type 0} → V → Answer V → V
value d (done v) = v
value d (refused n l a) = d

abbrev is_done : {V : Type 0} → Answer V → ℕ
is_done (done v) = 1
is_done (refused n l a) = 0

abbrev again : {V W : Type 0} → W → Answer V → Answer W
again w (done v) = done w
again w (refused n l a) = refused n l a

-- a call that is performed by a table gives the table's value, and is performed whatever the value
pub done_as : {V W : Type 0} (ts : List Refusal) (x v : V) (w : W) → done x ≡ first_of ts v → first_of ts w ≡ done w
done_as [] x v w e = refl
done_as (when true n a ∷ ts) x v w e = let z = ap is_done e in absurd (omega (arith, z))
done_as (when false n a ∷ ts) x v w e = done_as ts x v w e
done_as (short true ∷ ts) x v w e = let z = ap is_done e in absurd (omega (arith, z))
done_as (short false ∷ ts) x v w e = done_as ts x v w e

pub value_done : {V : Type 0} (ts : List Refusal) (x v : V) → done x ≡ first_of ts v → x ≡ v
value_done ts x v e = ap (value x) (e ∙ done_as ts x v v e)

-- a call that a table refuses is refused in the same way whatever the value
pub refused_as : {V W : Type 0} (ts : List Refusal) (n l : ℕ) (a : Option ℕ) (v : V) (w : W) → refused n l a ≡ first_of ts v → refused n l a ≡ first_of ts w
refused_as [] n l a v w e = let z = ap is_done e in absurd (omega (arith, z))
refused_as (when true m b ∷ ts) n l a v w e = ap (again w) e
refused_as (when false m b ∷ ts) n l a v w e = refused_as ts n l a v w e
refused_as (short true ∷ ts) n l a v w e = ap (again w) e
refused_as (short false ∷ ts) n l a v w e = refused_as ts n l a v w e

-- the page's folding is performed: so is the ledger's, with both pages replaced
pub fold_done : (l : Ledger) (m a i j : ℕ) (x y : Page) → (i ≡ m) × (m < 64) → (j ≡ a) × (a < 64)
    → done x ≡ folding_answer m (get_or l.pages i blank) a (get_or l.pages j blank) → y ≡ page_folded m (get_or l.pages i blank) a (get_or l.pages j blank)
    → (done None ≡ (folding l m a).answer) × (with_page (with_page l i y) j x ≡ (folding l m a).ledger)
fold_done l m a i j x y g h e p =
    let ts = folding_refusals m (page l m) a (page l a) in
    let e' : done x ≡ first_of ts (joined (page l a) (page l m)) = rw (g.0, h.0) at e in
    let p' : y ≡ page_folded m (page l m) a (page l a) = rw (g.0, h.0) at p in
    let d : decided ts ≡ done None = done_as ts x (joined (page l a) (page l m)) None e' in
    let n : x ≡ joined (page l a) (page l m) = value_done ts x (joined (page l a) (page l m)) e' in
    let o : y ≡ retired (page l m) = p' ∙ ap (λ v. after v (retired (page l m)) (page l m)) (sym e') in
    rw (lt-leb 64 m g.1, lt-leb 64 a h.1, d, g.0, h.0, n, o) (refl, refl)

-- the page's folding is refused: so is the ledger's, and nothing changes
pub fold_refused : (l : Ledger) (m a i j : ℕ) (f : Fault) (r : Result (Unit {0}) Fault) (y : Page) → (i ≡ m) × (m < 64) → (j ≡ a) × (a < 64)
    → IsErrAnd r (λ e. e ≡ f) → answer (λ x. x) (Err f) ≡ folding_answer m (get_or l.pages i blank) a (get_or l.pages j blank) → y ≡ page_folded m (get_or l.pages i blank) a (get_or l.pages j blank)
    → (said r ≡ (folding l m a).answer) × (with_page l i y ≡ (folding l m a).ledger)
fold_refused l m a i j f (Ok u) y g h k e p = absurd k
fold_refused l m a i j f (Err b) y g h k e p =
    let ts = folding_refusals m (page l m) a (page l a) in
    let e' : answer (λ x. x) (Err f) ≡ first_of ts (joined (page l a) (page l m)) = rw (g.0, h.0) at e in
    let d : said (Err f) ≡ decided ts = refused_as ts _ _ _ (joined (page l a) (page l m)) None e' in
    let o : y ≡ page l m = rw (g.0, h.0) at p ∙ ap (λ v. after v (retired (page l m)) (page l m)) (sym e') in
    rw (lt-leb 64 m g.1, lt-leb 64 a h.1, ← d, g.0, o, k) (refl, ap (λ ps. record { month = l.month; pages = ps; offers = l.offers; offered = l.offered }) (set-get_or l.pages m blank))
