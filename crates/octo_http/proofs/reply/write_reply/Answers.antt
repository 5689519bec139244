use Rattle.std.proofs.Common.{◌∙◌, refl}
use Rattle.octo_http.specs.Reply.{with_fields}
use Rattle.octo_http.proofs.ReplyLemmas.{joined, in_two, replied, replied_head, replied_body, on_failed}
use Rattle.octo_http.proofs.reply.write_reply.Goals as goal

pub returns-in_err-send_all-clause-err : goal.returns-in_err-send_all-clause-err
returns-in_err-send_all-clause-err g c =
    on_failed _ _ (replied_head (with_fields c.args.more.now.items c.args.reply.now) _ _ _ _
    (in_two c.head_of-head.result.items c.sent_body-body.result.now _ _ _ (c.as_slice.ensures.value ∙ c.front_of-front.ensures) refl
    ∙ joined (with_fields c.args.more.now.items c.args.reply.now) _ _ _ c.sent_body-body.ensures refl c.head_of-head.ensures)
    c.in_err-send_all.ensures.err)

pub returns-in_err-send_all-2-clause-err : goal.returns-in_err-send_all-2-clause-err
returns-in_err-send_all-2-clause-err g c =
    on_failed _ _ (replied_body (with_fields c.args.more.now.items c.args.reply.now) _ _ _ _ c.after.result.now
    (in_two c.head_of-head.result.items c.sent_body-body.result.now _ _ _ (c.as_slice.ensures.value ∙ c.front_of-front.ensures) c.after.ensures
    ∙ joined (with_fields c.args.more.now.items c.args.reply.now) _ _ _ c.sent_body-body.ensures refl c.head_of-head.ensures)
    c.in_ok-send_all.ensures.ok c.in_err-send_all-2.ensures.err)

pub returns-clause-ok : goal.returns-clause-ok
returns-clause-ok g c =
    replied (with_fields c.args.more.now.items c.args.reply.now) _ _ _ _ c.after.result.now
    (in_two c.head_of-head.result.items c.sent_body-body.result.now _ _ _ (c.as_slice.ensures.value ∙ c.front_of-front.ensures) c.after.ensures
    ∙ joined (with_fields c.args.more.now.items c.args.reply.now) _ _ _ c.sent_body-body.ensures refl c.head_of-head.ensures)
    c.in_ok-send_all.ensures.ok c.in_ok-send_all-2.ensures.ok
