use Rattle.std.proofs.Common.{subst}
use Rattle.octo_access.specs.declared.policy.Policy.{Policy}
use Rattle.octo_session.specs.Data.{SessionData}
use Rattle.octo_house.specs.Beginning.{BeginsOn}
use Rattle.octo_settings.specs.Session.{session_by}
use Rattle.octo_serve_command.proofs.beginning.begin_by.Goals as goal

pub returns-in-Ok-begin-clause-begins : goal.returns-in-Ok-begin-clause-begins
returns-in-Ok-begin-clause-begins g c =
    let BegunBy : SessionData → Policy → Type 0 = λ session policy. BeginsOn session policy c.args.settings.ports c.args.settings.material
    (g.K.Keeper.state c.args.keeper.now).tables (g.S.Shelf.state c.args.shelf.now).files c.in-Ok-begin.house in
    subst (λ (policy : Policy). BegunBy (session_by c.args.settings) policy) c.new-policy.ensures
    (subst (λ (session : SessionData). BegunBy session c.new-policy.result) c.in-Ok.ensures.session c.in-Ok-begin.ensures.begins)
