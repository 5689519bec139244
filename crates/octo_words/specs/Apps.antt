-- The literal command line of the host: its commands, their operands and their options.
use Rattle.std.specs.Prelude.{List, [], ◌∷◌, fold, codes, true, Some}
use Rattle.std.specs.Borrow.{Bor}
use Rattle.clap.specs.Words.{App, Rule, Text, new_app, new_rule, with_rule, with_subcommand}
use Rattle.clap.specs.declared.builder.action.ArgAction.TheVariants.{Set, SetTrue}
use Rattle.octo_words.specs.declared.apps.Kind.{Kind}
use Rattle.octo_words.specs.declared.apps.Kind.TheVariants.{Operand, Optional, Needed, Flag}

-- an argument that has its place and must be given
abbrev pub operand : Text → Rule
operand id = record (new_rule id) { required = true; action = Some Set }

-- an option `--id VALUE`, which may be left out
abbrev pub option : Text → Rule
option id = record (new_rule id) { long = Some id; action = Some Set }

-- an option `--id VALUE` that must be given
abbrev pub needed_option : Text → Rule
needed_option id = record (new_rule id) { long = Some id; required = true; action = Some Set }

-- an option `--id` without a value, which may be left out
abbrev pub flag : Text → Rule
flag id = record (new_rule id) { long = Some id; action = Some SetTrue }

-- an argument that is given in this way
abbrev pub rule_of_kind : Kind → Text → Rule
rule_of_kind Operand id = operand id
rule_of_kind Optional id = option id
rule_of_kind Needed id = needed_option id
rule_of_kind Flag id = flag id

-- a command with one more argument
abbrev pub with_argument : App → Kind × Bor Text → App
with_argument app argument = with_rule app (rule_of_kind argument.0 argument.1.now)

-- a command of that name with those arguments
abbrev pub command_app : Text → List Rule → App
command_app name rules = fold with_rule (new_app name) rules

-- `print PORT FILE [--turns N] [--settings FILE] [--progress]`
abbrev pub print_app : App
print_app =
    command_app (codes "print")
    (operand (codes "port") ∷ operand (codes "file") ∷ option (codes "turns") ∷ option (codes "settings") ∷ flag (codes "progress") ∷ [])

-- `sure PORT FILE [--turns N] [--settings FILE]`
abbrev pub sure_app : App
sure_app =
    command_app (codes "sure") (operand (codes "port") ∷ operand (codes "file") ∷ option (codes "turns") ∷ option (codes "settings") ∷ [])

-- `check FILE [--settings FILE]`
abbrev pub check_app : App
check_app = command_app (codes "check") (operand (codes "file") ∷ option (codes "settings") ∷ [])

-- `demo SEED COMMANDS [--lost-replies LIST]`
abbrev pub demo_app : App
demo_app = command_app (codes "demo") (operand (codes "seed") ∷ operand (codes "commands") ∷ option (codes "lost-replies") ∷ [])

-- `measure FILE`
abbrev pub measure_app : App
measure_app = command_app (codes "measure") (operand (codes "file") ∷ [])

-- `rest FILE COMMAND`
abbrev pub rest_app : App
rest_app = command_app (codes "rest") (operand (codes "file") ∷ operand (codes "command") ∷ [])

-- `serve ADDRESS FOLDER DATABASE --settings FILE`
abbrev pub serve_app : App
serve_app =
    command_app (codes "serve")
    (operand (codes "address") ∷ operand (codes "folder") ∷ operand (codes "database") ∷ needed_option (codes "settings") ∷ [])

-- `floor FOLDER DATABASE --settings FILE [--turns N]`
abbrev pub floor_app : App
floor_app =
    command_app (codes "floor")
    (operand (codes "folder") ∷ operand (codes "database") ∷ needed_option (codes "settings") ∷ option (codes "turns") ∷ [])

-- the program without its commands: the arguments come without its name, one command is wanted, and none shows help
abbrev pub bare_app : App
bare_app = record (new_app (codes "octo")) {
  top = record (new_app (codes "octo")).top {
    no_binary_name = true;
    disable_help_flag = true;
    disable_help_subcommand = true;
    disable_version_flag = true;
    subcommand_required = true;
  };
}

-- the program without its commands, if it shows help and its version
abbrev pub helped_bare_app : App
helped_bare_app = record (new_app (codes "octo")) {
  top = record (new_app (codes "octo")).top {
    no_binary_name = true;
    has_version = true;
    subcommand_required = true;
  };
}

-- a program with more commands
abbrev pub with_commands : App → List App → App
with_commands app commands = fold (λ all command. with_subcommand all command.top) app commands

-- the commands that print and check, and those that work on files
abbrev pub printing_commands : List App
printing_commands = print_app ∷ sure_app ∷ check_app ∷ demo_app ∷ []

abbrev pub file_commands : List App
file_commands = measure_app ∷ rest_app ∷ serve_app ∷ floor_app ∷ []

-- a program with all of them
abbrev pub with_all_commands : App → App
with_all_commands app = with_commands (with_commands app printing_commands) file_commands

-- the program with all its commands, by which the arguments are read
abbrev pub octo_app : App
octo_app = with_all_commands bare_app

-- the same that shows help and its version, by which arguments that are no command are explained
abbrev pub helped_app : App
helped_app = with_all_commands helped_bare_app
