-- What a sender, a desk, a print and a floor may rely on, whichever settings were read.
use Rattle.std.specs.Prelude.{◌≡◌, ℕ, ◌≤◌, true, List, length, None, All}
use Rattle.byte_text.specs.Sendable.{IsSendable}
use Rattle.job_desk.specs.Data.{ScriptTexts, texts_at}
use Rattle.job_desk.specs.declared.state.Point.{Point}
use Rattle.temp_rules.specs.Hot.{hot_of}
use Rattle.temp_rules.specs.declared.limits.Limits.{Limits}
use Rattle.octo_access.specs.Names.{is_name}
use Rattle.octo_settings.specs.declared.floor.FloorSettings.{FloorSettings}
use Rattle.octo_settings.specs.declared.settings.Settings.{Settings}

-- a line of a script may be sent, and asks for no temperature above the limits
pub record IsScriptLine (limits : Limits) (text : List ℕ) : Type 0 where
  pub sendable : IsSendable text
  pub cool : hot_of limits text ≡ None

-- each line of each script is such
abbrev pub AreScripts : Limits → ScriptTexts → Type 0
AreScripts limits scripts = (point : Point) → All (IsScriptLine limits) (texts_at point scripts)

-- settings that a sender, a desk and a reader of messages can be made with
pub record IsSettings (settings : Settings) : Type 0 where
  pub open_window : 1 ≤ settings.window
  pub small_window : settings.window ≤ 16
  pub wide_window : settings.numbered_oks ≡ true → 2 ≤ settings.window
  pub some_limit : 1 ≤ settings.limit_ms
  pub some_poll : 1 ≤ settings.poll_ms
  pub patient : 1 ≤ settings.patience
  pub scripts : AreScripts settings.limits settings.scripts

-- 2 to 8 printers: a port and a material for each
pub record ArePrinters (ports materials : List (List ℕ)) : Type 0 where
  pub some : 2 ≤ length ports
  pub few : length ports ≤ 8
  pub paired : length materials ≡ length ports
  pub named : All (λ material. is_name material ≡ true) materials

-- settings that a floor can be made with
pub record IsFloorSettings (floor : FloorSettings) : Type 0 where
  pub settings : IsSettings floor.settings
  pub printers : ArePrinters floor.ports floor.materials
