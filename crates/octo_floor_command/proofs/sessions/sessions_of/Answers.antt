use Rattle.std.proofs.Common.{rules, ◌≡◌, ◌∙◌, sym, ap, refl, List, [], ◌∷◌, ◌++◌, replicate, subst}
use Rattle.std.specs.Prelude.{All}
use Rattle.std.proofs.lemmas.List.{replicate_more}
use Rattle.std.proofs.lemmas.List.Elements.{All-push}
use Rattle.octo_session.specs.Data.{SessionData}
use Rattle.octo_floor_bay.specs.Bay.{IsNewSession}
use Rattle.send_window.specs.Data.{IsSound}
use Rattle.octo_settings.specs.Session.{session_by}
use Rattle.octo_floor_command.proofs.sessions.sessions_of.Goals as goal

pub loop-preserved : goal.loop-preserved
loop-preserved c =
    let one : SessionData = c.in_ok-session.field-0 in
    let e = c.in_ok-session.ensures in
    let is_new : IsNewSession one =
    subst (λ (x : SessionData). IsNewSession x) (sym e.session)
    (record { desk = refl; down = refl; sound = subst (λ (x : SessionData). IsSound x.sender) e.session e.sound })
    in
    let so_far : List SessionData = replicate c.loop.counter (session_by c.args.settings.now) in
    let pushed : c.push.new.self ≡ c.loop.sessions ++ one ∷ [] = search rules in
    record {
      same =
          pushed ∙ ap (λ (xs : List SessionData). xs ++ one ∷ []) c.loop.invariant.same
          ∙ ap (λ (x : SessionData). so_far ++ x ∷ []) c.in_ok-session.ensures.session
          ∙ replicate_more c.loop.counter (session_by c.args.settings.now);
      new =
          subst (λ (xs : List SessionData). All IsNewSession xs) (sym pushed)
          (All-push IsNewSession c.loop.sessions one c.loop.invariant.new is_new);
    }
