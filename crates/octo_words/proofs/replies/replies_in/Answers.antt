use Rattle.std.proofs.Common.{sym, ap, ◌∙◌, map}
use Rattle.octo_words.proofs.Listed.{replies_cut}
use Rattle.octo_words.proofs.replies.replies_in.Goals as goal

pub returns : goal.returns
returns c =
    replies_cut c.args.text.now _ c.listed_replies.result (sym c.eq.ensures ∙ c.if-eq.false)
    (ap (λ l. map (λ p. p.now) l) c.as_slice.ensures.value ∙ c.in_ok-pieces.ensures) c.listed_replies.ensures
