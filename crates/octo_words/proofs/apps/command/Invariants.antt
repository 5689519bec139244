use Rattle.std.proofs.Common.{◌≡◌, false, fold, take}
use Rattle.clap.specs.Words.{app_of, new_app}
use Rattle.clap.specs.declared.builder.command.Command.TheViews.{out-Command}
use Rattle.octo_words.specs.Apps.{with_argument}
use Rattle.octo_words.proofs.apps.command.Given as goal

-- the command with the arguments so far
abbrev pub invariant-loop-kind : goal.invariant-loop-kind
invariant-loop-kind l =
    (app_of l.command ≡ fold with_argument (new_app l.name) (take l.kind-index l.arguments))
    × ((out-Command l.command).has_globals ≡ false)
