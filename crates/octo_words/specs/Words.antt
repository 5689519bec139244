-- Which command the arguments are.
use Rattle.std.specs.Prelude.{ℕ, Bool, true, false, ◌&&◌, ◌==◌, ◌≡◌, ◌≤◌, nat_le, nat_lt, if◌then◌else◌, List, [], ◌∷◌, length, codes, Option, Some, None, option_and_then, option_map, Result, MatchResult}
use Rattle.std.specs.List.{slice_split}
use Rattle.std.specs.Str.{bytes_eq}
use Rattle.clap.specs.Words.{Kinds, Row, Text, fault_of, first_of, subcommand_of, subcommand_rows_of}
use Rattle.clap.specs.declared.parser.matches.ArgMatches.{ArgMatches}
use Rattle.byte_text.specs.Number.{whole_number, in_range, number_in, only_if}
use Rattle.octo_words.specs.Apps.{octo_app}
use Rattle.octo_words.specs.declared.command.Command.{Command}
use Rattle.octo_words.specs.declared.command.Command.TheVariants.{Print, Check, Demo, Measure, Rest, Serve, Floor}
use Rattle.octo_words.specs.declared.command.WordsFault.{WordsFault}
use Rattle.octo_words.specs.declared.command.WordsFault.TheVariants.{BadWords}

-- what arguments say, unless they are faulty
abbrev pub unless : Kinds → Option (Text × List Row) → Option (Text × List Row)
unless [] rows = rows
unless (fault ∷ faults) rows = None

-- the command's name and its arguments by their ids, by the literal command line
unfoldable pub rows_named : List Text → Option (Text × List Row)
rows_named words = unless (fault_of octo_app words) (subcommand_of octo_app words)

-- whether a text may name a port, an address, a folder or a database: 1 to 100 bytes
abbrev pub is_name : Text → Bool
is_name text = nat_le 1 (length text) && nat_le (length text) 100

-- a text as a name
abbrev pub name_of : Text → Option Text
name_of text = if is_name text then Some text else None

-- a text of 1 to 13 digits as a number from least to most
abbrev pub number_of : (least most : ℕ) → Text → Option ℕ
number_of least most text = option_and_then (in_range least most) (whole_number text 13)

-- the turns of a print: 1,000,000,000 unless the option names them
abbrev pub turns_of : Option Text → Option ℕ
turns_of None = Some 1000000000
turns_of (Some text) = number_of 1 4000000000000 text

-- `print`, or `sure` that `ok`s have numbers, by its arguments
abbrev pub print_of : Bool → List Row → Option Command
print_of sure rows =
    option_and_then (λ port. option_and_then (λ file. option_map (λ turns.
    Print port file turns (first_of (codes "settings") rows) sure)
    (turns_of (first_of (codes "turns") rows)))
    (first_of (codes "file") rows))
    (option_and_then name_of (first_of (codes "port") rows))

-- `check`
abbrev pub check_of : List Row → Option Command
check_of rows = option_map (λ file. Check file (first_of (codes "settings") rows)) (first_of (codes "file") rows)

-- the number of a reply that a text is, if it is above this one
abbrev pub reply_above : ℕ → Text → Option ℕ
reply_above least text = only_if (λ n. nat_lt least n) (number_in text)

-- a number, and later ones that depend on it
abbrev pub with_reply : Option ℕ → (ℕ → Option (List ℕ)) → Option (List ℕ)
with_reply None later = None
with_reply (Some n) later = option_map (λ numbers. n ∷ numbers) (later n)

-- the numbers that texts are, each above the one before
abbrev pub replies_above : ℕ → List Text → Option (List ℕ)
replies_above least [] = Some []
replies_above least (piece ∷ pieces) = with_reply (reply_above least piece) (λ n. replies_above n pieces)

-- whether a byte is between two numbers
abbrev pub is_comma : ℕ → Bool
is_comma byte = byte == 44

-- the replies that a text lists, none for a dash
abbrev pub replies_in : Text → Option (List ℕ)
replies_in text = if bytes_eq text (codes "-") then Some [] else replies_above 0 (slice_split is_comma text)

-- the replies that a demo loses, if its option lists them
abbrev pub lost_of : Option Text → Option (Option (List ℕ))
lost_of None = Some None
lost_of (Some text) = option_map (λ replies. Some replies) (replies_in text)

-- `demo`
abbrev pub demo_of : List Row → Option Command
demo_of rows =
    option_and_then (λ seed. option_and_then (λ commands. option_map (λ lost. Demo seed commands lost)
    (lost_of (first_of (codes "lost-replies") rows)))
    (option_and_then (number_of 0 200000) (first_of (codes "commands") rows)))
    (option_and_then (number_of 0 2147483647) (first_of (codes "seed") rows))

-- `measure`
abbrev pub measure_of : List Row → Option Command
measure_of rows = option_map (λ file. Measure file) (first_of (codes "file") rows)

-- `rest`
abbrev pub rest_of : List Row → Option Command
rest_of rows =
    option_and_then (λ file. option_map (λ command. Rest file command)
    (option_and_then (number_of 0 9999999999999) (first_of (codes "command") rows)))
    (first_of (codes "file") rows)

-- `serve`
abbrev pub serve_of : List Row → Option Command
serve_of rows =
    option_and_then (λ address. option_and_then (λ folder. option_and_then (λ database. option_map (λ settings.
    Serve address folder database settings)
    (first_of (codes "settings") rows))
    (option_and_then name_of (first_of (codes "database") rows)))
    (option_and_then name_of (first_of (codes "folder") rows)))
    (option_and_then name_of (first_of (codes "address") rows))

-- `floor`
abbrev pub floor_of : List Row → Option Command
floor_of rows =
    option_and_then (λ folder. option_and_then (λ database. option_and_then (λ settings. option_map (λ turns.
    Floor folder database settings turns)
    (turns_of (first_of (codes "turns") rows)))
    (first_of (codes "settings") rows))
    (option_and_then name_of (first_of (codes "database") rows)))
    (option_and_then name_of (first_of (codes "folder") rows))

-- the command of that name
abbrev pub command_named : Text → List Row → Option Command
command_named name rows =
    if bytes_eq name (codes "print") then print_of false rows
    else if bytes_eq name (codes "sure") then print_of true rows
    else if bytes_eq name (codes "check") then check_of rows
    else if bytes_eq name (codes "demo") then demo_of rows
    else if bytes_eq name (codes "measure") then measure_of rows
    else if bytes_eq name (codes "rest") then rest_of rows
    else if bytes_eq name (codes "serve") then serve_of rows
    else if bytes_eq name (codes "floor") then floor_of rows
    else None

-- the command that arguments are, if they are one
unfoldable pub command_of : List Text → Option Command
command_of words = option_and_then (λ named. command_named named.0 named.1) (rows_named words)

-- whether a command's arguments have `--progress`
abbrev pub has_progress : List Row → Bool
has_progress rows = by (first_of (codes "progress") rows)
  where
    by : Option Text → Bool
    by None = false
    by (Some text) = bytes_eq text (codes "true")

-- whether arguments that are a command ask for the print's progress
unfoldable pub progress_of : List Text → Option Bool
progress_of words = option_map (λ named. has_progress named.1) (rows_named words)

-- the numbers of a demo are within its ranges
abbrev pub IsInRange : Command → Type 0
IsInRange (Demo seed commands lost) = (seed ≤ 2147483647) × (commands ≤ 200000)
IsInRange _ = Unit {0}

-- a reading of what is wanted: it is returned, and BadWords comes only if there is nothing such
abbrev pub Reads : {T : Type 0} → Option T → Result T WordsFault → Type 0
Reads wanted result = MatchResult result (λ value. wanted ≡ Some value) (λ fault. fault ≡ BadWords → wanted ≡ None)

-- a parse: it has the rows that are wanted, and BadWords comes only if there are none
abbrev pub Matches : Option (Text × List Row) → Result ArgMatches WordsFault → Type 0
Matches wanted result = MatchResult result (λ matches. wanted ≡ subcommand_rows_of matches) (λ fault. fault ≡ BadWords → wanted ≡ None)
