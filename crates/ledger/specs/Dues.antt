-- What a call makes due, exactly.
use Rattle.std.specs.Prelude.{ℤ, pos}
use Rattle.quote.specs.Quotes.{due}
use Rattle.balancing.specs.Rules.{Rules}
use Rattle.cards.specs.declared.terms.Terms.{Terms}
use Rattle.records.specs.declared.call.Call.{Call}
use Rattle.records.specs.declared.call.Call.TheVariants.{Open, Set, Post, Adjust, State, Offer, Accept, Fold, Settle, Close}
use Rattle.page.specs.Closing.{credits_of}
use Rattle.dues.specs.Dues.{all_due}
use Rattle.page.specs.Pages.{elected}
use Rattle.page.specs.Settling.{parts_of}
use Rattle.ledger.specs.Ledgers.{page}
use Rattle.ledger.specs.declared.ledger.Ledger.{Ledger}

-- what a call, if performed, makes due at the prices of the card handed in: a settling the tiers of the page's statement,
-- a closing all excesses and credits. It looks at pages, options and cards, never at a bill line.
abbrev pub due_by : Rules → Rules → Ledger → Call → Terms → Terms → ℤ
due_by f s l (Open a k e d) t u = pos 0
due_by f s l (Set a d) t u = pos 0
due_by f s l (Post a d o r q) t u = pos 0
due_by f s l (Adjust a q) t u = pos 0
due_by f s l (State a q) t u = pos 0
due_by f s l (Offer g gc k kc q) t u = pos 0
due_by f s l (Accept k place) t u = pos 0
due_by f s l (Fold b a) t u = pos 0
due_by f s l (Settle a c) t u = due t.tiers (parts_of (elected f s (page l a)) (page l a))
due_by f s l Close t u = all_due u (credits_of f s) l.pages
