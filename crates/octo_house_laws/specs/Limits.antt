-- Which temperatures the lines of a history ask for.
use Rattle.std.specs.Prelude.{Bool, ◌≡◌, ℕ, List, None, All}
use Rattle.temp_rules.specs.Hot.{hot_of}
use Rattle.temp_rules.specs.declared.limits.Limits.{Limits}
use Rattle.job_desk.specs.Data.{ScriptTexts, Line, texts_at, new_desk}
use Rattle.job_desk.specs.declared.state.Point.{Point}
use Rattle.octo_settings.specs.Sound.{IsSettings}
use Rattle.octo_settings.specs.declared.settings.Settings.{Settings}
use Rattle.octo_asks.specs.History.{History}
use Rattle.octo_house_rules.specs.Issued.{issued_in}
use Rattle.octo_house_rules.specs.Legal.{Standing, Legal}

-- a text that asks no heater for more than its limit
abbrev pub IsCool : Limits → List ℕ → Type 0
IsCool limits text = hot_of limits text ≡ None

-- no line of any script asks for more
abbrev pub AreCoolScripts : Limits → ScriptTexts → Type 0
AreCoolScripts limits scripts = (point : Point) → All (IsCool limits) (texts_at point scripts)

-- no issued line asks for more
abbrev pub IssuesCoolLines : Limits → History → Type 0
IssuesCoolLines limits history = All (λ (line : Line). IsCool limits line.text) (issued_in history)

-- the law, for a host that begins with a new desk and such scripts
abbrev pub EveryLineIsCool : Type 0
EveryLineIsCool =
    (scripts : ScriptTexts) (limits : Limits) (poll_ms : ℕ) (numbered : Bool) (history : History) (s : Standing)
    → s.known.desk ≡ new_desk scripts limits poll_ms numbered
    → AreCoolScripts limits scripts → Legal history s → IssuesCoolLines limits history

-- the same for settings as they are read
abbrev pub EveryLineOfSettingsIsCool : Type 0
EveryLineOfSettingsIsCool =
    (settings : Settings) (history : History) (s : Standing) → IsSettings settings
    → s.known.desk ≡ new_desk settings.scripts settings.limits settings.poll_ms settings.numbered_oks
    → Legal history s → IssuesCoolLines settings.limits history
