use Rattle.std.proofs.Common.{◌≡◌, drop}
use Rattle.serde_json.specs.View.{view}
use Rattle.octo_api_commands.specs.Filled.{fill_on, filled}
use Rattle.octo_api_commands.proofs.commands.filled.Given as goal

-- what is left fills the command that is written so far
abbrev pub invariant-loop-byte : goal.invariant-loop-byte
invariant-loop-byte l =
    fill_on (view l.parameters) (drop l.byte-index l.text) l.written l.name l.brace ≡ filled (view l.parameters) l.text
