use Rattle.std.proofs.Common.{◌≡◌, replicate}
use Rattle.std.specs.Prelude.{All}
use Rattle.octo_floor_bay.specs.Bay.{IsNewSession}
use Rattle.octo_settings.specs.Session.{session_by}
use Rattle.octo_floor_command.proofs.sessions.sessions_of.Given as goal

-- the sessions so far
abbrev pub invariant-loop : goal.invariant-loop
invariant-loop l = record {
  same : l.sessions ≡ replicate l.counter (session_by l.settings);
  new : All IsNewSession l.sessions;
}
