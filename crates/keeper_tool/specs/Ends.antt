-- The exit status and the text of each end.
use Rattle.std.specs.Prelude.{◌≡◌, ℕ, Bool, true, false, List, [], ◌++◌, Option, codes, decimal, IfSome}
use Rattle.octo_outside.specs.Recorded.{Adds, AddsPrefix}
use Rattle.octo_keeper.specs.declared.keeper.KeeperFault.{KeeperFault}
use Rattle.octo_keeper.specs.declared.keeper.KeeperFault.TheVariants as fault
use Rattle.octo_keeper.specs.declared.tables.Tables.{Tables}
use Rattle.keeper_tool.specs.declared.command.Task.{Task}
use Rattle.keeper_tool.specs.declared.command.Task.TheVariants.{Show, Add}
use Rattle.keeper_tool.specs.declared.end.ToolEnd.{ToolEnd}
use Rattle.keeper_tool.specs.declared.end.ToolEnd.TheVariants.{Shown, Added, BadArguments, NumbersUsed, KeeperFailed, OutputFailed, NotOpened, NoMemory}
use Rattle.keeper_tool.specs.Lines.{tables_text}

-- the exit status of each end
abbrev pub code_of : ToolEnd → ℕ
code_of Shown = 0
code_of (Added prints) = 0
code_of BadArguments = 2
code_of NumbersUsed = 3
code_of KeeperFailed = 4
code_of OutputFailed = 8
code_of NotOpened = 9
code_of NoMemory = 11

-- the tables are written before they count as shown
abbrev pub end_text : ToolEnd → List ℕ
end_text Shown = []
end_text (Added prints) = codes "added " ++ decimal prints ++ codes " prints\n"
end_text BadArguments = codes "usage: keeper_tool FILE [prints N]\n"
end_text NumbersUsed = codes "the numbers of prints are used up\n"
end_text KeeperFailed = codes "the database failed, or its rows don't fit\n"
end_text OutputFailed = []
end_text NotOpened = codes "not opened: no database, another schema, or in use\n"
end_text NoMemory = codes "no memory\n"

-- in front of the text of an end that is about the database: its path
abbrev pub path_text : List ℕ → ToolEnd → List ℕ
path_text path NumbersUsed = path ++ codes ": "
path_text path KeeperFailed = path ++ codes ": "
path_text path NotOpened = path ++ codes ": "
path_text path end = []

-- the end after a fault of the keeper
abbrev pub end_of : KeeperFault → ToolEnd
end_of fault.Failed = KeeperFailed
end_of fault.NoMemory = NoMemory

-- an end of showing the tables
abbrev pub is_showing : ToolEnd → Bool
is_showing Shown = true
is_showing KeeperFailed = true
is_showing OutputFailed = true
is_showing NoMemory = true
is_showing _ = false

-- an end of adding records
abbrev pub is_adding : ToolEnd → Bool
is_adding (Added prints) = true
is_adding NumbersUsed = true
is_adding KeeperFailed = true
is_adding NoMemory = true
is_adding _ = false

-- whether a task may end so
abbrev pub may_end : Task → ToolEnd → Bool
may_end Show end = is_showing end
may_end (Add prints) end = is_adding end

-- what is written before a task has ended so: the tables' text if they were shown, the beginning of it if the output failed
abbrev pub Wrote : Option Tables → ToolEnd → Option (List ℕ) → Option (List ℕ) → Type 0
Wrote tables Shown old new = IfSome tables (λ t. Adds old new (tables_text t))
Wrote tables OutputFailed old new = IfSome tables (λ t. AddsPrefix old new (tables_text t))
Wrote tables end old new = new ≡ old
