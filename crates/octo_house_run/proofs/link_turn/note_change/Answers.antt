use Rattle.std.proofs.Common.{◌≡◌, inl, inr, refl, sym, ap, ◌∙◌}
use Rattle.job_desk.specs.Data.{Data}
use Rattle.octo_session.specs.Data.{SessionData}
use Rattle.octo_house.specs.State.{session_of}
use Rattle.octo_house_run.proofs.link_turn.note_change.Goals as goal

pub returns-then-same-clause-notes : goal.returns-then-same-clause-notes
returns-then-same-clause-notes g c =
    let now_is : c.state-now.result ≡ (session_of c.args.house.now).desk.state =
    c.state-now.ensures.state ∙ ap (λ (d : Data). d.state) (c.desk.ensures ∙ ap (λ (s : SessionData). s.desk) c.session.ensures) in
    inl (sym now_is ∙ c.same.ensures.same c.if-same.true, refl)

pub returns-clause-notes : goal.returns-clause-notes
returns-clause-notes g c =
    let now_is : c.state-now.result ≡ (session_of c.args.house.now).desk.state =
    c.state-now.ensures.state ∙ ap (λ (d : Data). d.state) (c.desk.ensures ∙ ap (λ (s : SessionData). s.desk) c.session.ensures) in
    inr ((λ is. c.same.ensures.other c.if-same.false (now_is ∙ is)), (c.quiet_note.result, c.quiet_note.ensures, c.note.ensures.past))
