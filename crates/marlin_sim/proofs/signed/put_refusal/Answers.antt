use Rattle.std.proofs.Common.{[], ◌∷◌, sym, ap, ◌∙◌}
use Rattle.marlin_sim.specs.Sim.{RepliesData, with_replies}
use Rattle.marlin_sim.proofs.Lost.{none_more, more_then, after_err, on_err}
use Rattle.marlin_sim.proofs.signed.put_refusal.Goals as goal

pub returns-in_err-put-clause-err : goal.returns-in_err-put-clause-err
returns-in_err-put-clause-err c = after_err c.from_residual.result (0, c.in_err-put.ensures.err ∙ sym (none_more c.args.replies.now))

pub returns-in_err-put-2-clause-err : goal.returns-in_err-put-2-clause-err
returns-in_err-put-2-clause-err c = after_err c.from_residual-in_err-put-2.result (1, c.in_err-put-2.ensures.err ∙ c.in_ok-put.ensures.ok)

pub returns-clause-err : goal.returns-clause-err
returns-clause-err c =
    let old = c.args.replies.now in
    let error = c.args.error.now in
    let resend = c.args.resend.now in
    on_err c.put-3.result
    (λ same. (2, same ∙ c.in_ok-put-2.ensures.ok ∙ ap (λ (r : RepliesData). with_replies r (resend ∷ [])) c.in_ok-put.ensures.ok ∙ more_then old (error ∷ []) (resend ∷ [])))
    c.put-3.ensures.err
