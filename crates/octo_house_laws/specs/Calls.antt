-- Who was denied in a history, and puts that were repeated.
use Rattle.std.specs.Prelude.{◌≡◌, ◌⊎◌, [], ◌∷◌}
use Rattle.octo_access.specs.declared.row.UserRow.{UserRow}
use Rattle.print_queue.specs.declared.entry.QueueEntry.{QueueEntry}
use Rattle.octo_asks.specs.History.{History}
use Rattle.octo_asks.specs.declared.answer.Answer.{Answer}
use Rattle.octo_asks.specs.declared.answer.Answer.TheVariants as answer
use Rattle.octo_asks.specs.declared.entry.Entry.{Entry}
use Rattle.octo_asks.specs.declared.entry.Entry.TheVariants as entry
use Rattle.octo_asks.specs.declared.request.Ask.{Ask}
use Rattle.octo_house_rules.specs.Access.{Accessed}
use Rattle.octo_house_rules.specs.Answers.{verdict}
use Rattle.octo_house_rules.specs.Isolation.{Repeats, IsRepeated}
use Rattle.octo_house_rules.specs.Legal.{Standing, after_entry, Legal}

-- an ask was answered as its caller's permissions say, or memory ran out
abbrev pub IsPermitted : Ask → Answer → Standing → Type 0
IsPermitted ask x s = (x ≡ answer.NoMemory) ⊎ Accessed ask (verdict ask s.files s.known) s.known x

-- an entry's ask, if it is a call
abbrev pub IsPermittedEntry : Entry → Standing → Type 0
IsPermittedEntry (entry.Call worker ask moment x) s = IsPermitted ask x s
IsPermittedEntry (entry.Note note) s = Unit {0}
IsPermittedEntry entry.Close s = Unit {0}

-- each call of a history, by what is known before it
abbrev pub ArePermitted : History → Standing → Type 0
ArePermitted [] s = Unit {0}
ArePermitted (e ∷ es) s = IsPermittedEntry e s × ArePermitted es (after_entry e s)

-- the law
abbrev pub EveryCallIsPermitted : Type 0
EveryCallIsPermitted = (history : History) (s : Standing) → Legal history s → ArePermitted history s

-- an ask to put an entry that its caller holds already changed nothing and showed the entry as it is held
abbrev pub IsMadeOnce : Ask → Answer → Standing → Type 0
IsMadeOnce ask x s =
    (user : UserRow) (kept : QueueEntry) → Repeats ask user kept s.known → IsRepeated (verdict ask s.files s.known) kept s.known x

-- if an entry is a call, that is so of its ask
abbrev pub IsEntryOnce : Entry → Standing → Type 0
IsEntryOnce (entry.Call worker ask moment x) s = IsMadeOnce ask x s
IsEntryOnce (entry.Note note) s = Unit {0}
IsEntryOnce entry.Close s = Unit {0}

-- that is so of each call of a history, by what is known before it
abbrev pub AreMadeOnce : History → Standing → Type 0
AreMadeOnce [] s = Unit {0}
AreMadeOnce (e ∷ es) s = IsEntryOnce e s × AreMadeOnce es (after_entry e s)

-- the law
abbrev pub EveryPutIsMadeOnce : Type 0
EveryPutIsMadeOnce = (history : History) (s : Standing) → Legal history s → AreMadeOnce history s
