use Rattle.ledger.proofs.Folds.{fold_done, fold_refused}
use Rattle.ledger.proofs.ledger.Ledger.fold_page.Goals as goal

pub returns-in_err-joined : goal.returns-in_err-joined
returns-in_err-joined c =
    let h = fold_refused c.args.self.now c.args.member c.args.agent _ _ _ _ _ c.in_ok-member_place.ensures c.in_ok-agent_place.ensures c.from_residual-in_err-joined.ensures.1 c.in_err-joined.ensures.answer c.in_err-joined.ensures.page_after in
    record { answer = h.0; ledger_after = h.1 }

pub returns : goal.returns
returns c =
    let h = fold_done c.args.self.now c.args.member c.args.agent _ _ _ _ c.in_ok-member_place.ensures c.in_ok-agent_place.ensures c.in_ok-joined.ensures.answer c.in_ok-joined.ensures.page_after in
    record { answer = h.0; ledger_after = h.1 }
