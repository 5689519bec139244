-- The session of a printer by settings.
use Rattle.std.specs.Prelude.{false}
use Rattle.job_desk.specs.Data.{new_desk}
use Rattle.octo_session.specs.Data.{SessionData}
use Rattle.octo_settings.specs.declared.settings.Settings.{Settings}
use Rattle.send_window.specs.Data.{new_sender}

-- a session at which nothing was done yet, with the scripts, limits and times of the settings
abbrev pub session_by : Settings → SessionData
session_by s =
    record { desk = new_desk s.scripts s.limits s.poll_ms s.numbered_oks; sender = new_sender s.window s.numbered_oks s.limit_ms; up = false }
