use Rattle.std.proofs.Common.{ℕ, List, ◌∙◌, ap}
use Rattle.octo_floor_command.specs.Beginning.{floor_sessions}
use Rattle.octo_floor_command.proofs.Begun.{begun_of}
use Rattle.octo_floor_command.proofs.beginning.floor_of.Goals as goal

pub returns-clause-begun : goal.returns-clause-begun
returns-clause-begun c kept same =
    let q = c.from_entries-queue.ensures in
    begun_of c.args.settings c.args.tables c.in_ok-sessions.sessions c.from_entries-queue.result.rows c.new.result c.requires.tables
    (record { same = q.same; ordered = q.kept; lawful = q.lawful }) (c.in_ok-sessions.ensures.sessions ∙ ap (λ (ports : List (List ℕ)). floor_sessions c.args.settings.settings ports) c.as_slice.ensures)
    c.new.ensures.new c.new.ensures.kept kept same
