use Rattle.std.proofs.Common.{rules, ◌≡◌, ◌++◌, [], ◌∷◌, All, sym, subst}
use Rattle.std.proofs.lemmas.List.Elements.{All-push}
use Rattle.octo_floor_bay.specs.Bay.{IsNewSession}
use Rattle.test_makers.proofs.parts.with_session.Goals as goal

pub returns-clause-new : goal.returns-clause-new
returns-clause-new c =
    let one = c.in_ok-session_of.field-0 in
    let grown : c.push.new.self ≡ c.args.sessions ++ one ∷ [] = search rules in
    subst (All IsNewSession) (sym grown) (All-push IsNewSession c.args.sessions one c.requires c.in_ok-session_of.ensures.new)
