-- The settings of a command that prints or serves suit the link if those of its sessions do.
use Rattle.std.proofs.Common.{◌≡◌, ℕ, Bool, List, Option, None, Some, Ok, sym, subst}
use Rattle.std.proofs.lemmas.Option.{same_Some}
use Rattle.octo_outside.specs.Traits.{Files}
use Rattle.printer_link.specs.Suits.{SuitsAs}
use Rattle.printer_model.specs.declared.event.WorldEvent.{WorldEvent}
use Rattle.printer_model.specs.declared.oks.Oks.{Oks}
use Rattle.octo_settings.specs.declared.settings.Settings.{Settings}
use Rattle.octo_words.specs.declared.command.Command.{Command}
use Rattle.octo_words.specs.declared.command.Command.TheVariants as command
use Rattle.octo_files.specs.Settings.{HaveSettings}
use Rattle.octo_commands_print.specs.Printing.{UseSettings}
use Rattle.octo_commands.specs.Commands.{MakesBy, SessionsSuit, hosted_by}

-- those of a print, by the name of its settings
pub print_suits : (files : Option Files) (recorded : Option (List WorldEvent)) (oks : Oks) (asked : Command) (port file : List ℕ) (turns : ℕ)
    (settings name : Option (List ℕ)) (sure : Bool) → asked ≡ command.Print port file turns settings sure → name ≡ settings →
    SessionsSuit files recorded oks asked → (s : Settings) → UseSettings files name sure (Ok s) → SuitsAs s.numbered_oks recorded oks
print_suits files recorded oks asked port file turns settings name sure is named suit s used past recorded_is =
    let M : Command → Type 0 = λ c. MakesBy files c s in
    let N : Option (List ℕ) → Type 0 = λ n. UseSettings files n sure (Ok s) in
    suit past recorded_is s (subst M (sym is) (subst N named used))

-- and those of a host
host_makes : (files : Option Files) (asked : Command) (settings : List ℕ) (s : Settings) → hosted_by asked ≡ Some settings →
    HaveSettings files (Some settings) (Ok s) → MakesBy files asked s
host_makes files (command.Print port file turns by sure) settings s is have = absurd (cc)
host_makes files (command.Check file by) settings s is have = absurd (cc)
host_makes files (command.Demo seed commands lost) settings s is have = absurd (cc)
host_makes files (command.Measure file) settings s is have = absurd (cc)
host_makes files (command.Rest file from) settings s is have = absurd (cc)
host_makes files (command.Floor folder database by turns) settings s is have = absurd (cc)
host_makes files (command.Serve address folder database by) settings s is have =
    let H : List ℕ → Type 0 = λ name. HaveSettings files (Some name) (Ok s) in
    subst H (sym (same_Some by settings is)) have

pub host_suits : (files : Option Files) (recorded : Option (List WorldEvent)) (oks : Oks) (asked : Command) (settings : List ℕ) →
    hosted_by asked ≡ Some settings → SessionsSuit files recorded oks asked →
    (s : Settings) → HaveSettings files (Some settings) (Ok s) → SuitsAs s.numbered_oks recorded oks
host_suits files recorded oks asked settings is suit s have past recorded_is =
    suit past recorded_is s (host_makes files asked settings s is have)
