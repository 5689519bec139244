-- What a caller without the permission ADMIN learns of queue and prints: what the caller's own rows determine.
use Rattle.std.specs.Prelude.{◌≡◌, ◌⊎◌, ℕ, true, false, List, [], ◌∷◌, filter, Some}
use Rattle.temp_rules.specs.declared.limits.Limits.{Limits}
use Rattle.job_desk.specs.Data.{new_desk}
use Rattle.job_desk.specs.Scripts.{no_scripts}
use Rattle.octo_access.specs.Rights.{has, caller}
use Rattle.octo_access.specs.declared.permission.Permission.TheVariants as permission
use Rattle.octo_access.specs.declared.policy.Policy.{Policy}
use Rattle.octo_access.specs.declared.row.UserRow.{UserRow}
use Rattle.print_queue.specs.Rows.{is_of}
use Rattle.print_queue.specs.declared.entry.QueueEntry.{QueueEntry}
use Rattle.print_queue.specs.declared.row.PrintRow.{PrintRow}
use Rattle.octo_asks.specs.History.{History}
use Rattle.octo_asks.specs.declared.answer.Answer.{Answer}
use Rattle.octo_asks.specs.declared.answer.Answer.TheVariants as answer
use Rattle.octo_asks.specs.declared.entry.Entry.{Entry}
use Rattle.octo_asks.specs.declared.entry.Entry.TheVariants as entry
use Rattle.octo_asks.specs.declared.request.Ask.{Ask}
use Rattle.octo_house_rules.specs.Answers.{verdict}
use Rattle.octo_house_rules.specs.Isolation.{is_private, IsSame}
use Rattle.octo_house_rules.specs.Known.{Known}
use Rattle.octo_house_rules.specs.Legal.{Standing, after_entry, Legal}
use Rattle.octo_house_rules.specs.Noted.{no_temps}
use Rattle.octo_house_rules.specs.Reads.{is_print_of}
use Rattle.octo_house_rules.specs.Verdict.{answer_in}

-- a user's view of a host: the groups and the admin, the user's own row, entries and prints, and the names of the files
pub record OwnView : Type 0 where
  pub policy : Policy
  pub user : UserRow
  pub queue : List QueueEntry
  pub prints : List PrintRow
  pub names : List (List ℕ)

-- what is a user's own of all that a host knows
abbrev pub view_of : UserRow → Known → OwnView
view_of user k = record {
  policy = k.policy;
  user = user;
  queue = filter (is_of (Some user.name)) k.queue;
  prints = filter (is_print_of (Some user.name)) k.prints;
  names = k.names;
}

-- no heater may be on
abbrev pub no_heat : Limits
no_heat = record { tool = 0; bed = 0 }

-- a host that knows nothing but a view
abbrev pub host_of : OwnView → Known
host_of v = record {
  policy = v.policy;
  ports = [];
  material = [];
  desk = new_desk no_scripts no_heat 1 false;
  temps = no_temps;
  users = v.user ∷ [];
  queue = v.queue;
  prints = v.prints;
  names = v.names;
}

-- the answer that a view determines
abbrev pub own_answer : Ask → OwnView → Answer
own_answer ask v = answer_in (verdict ask [] (host_of v))

-- an answer is that one, unless memory ran out, the keeper failed, or the numbers of arrival, which all users share, are used up
abbrev pub IsOwnAnswer : Answer → Answer → Type 0
IsOwnAnswer x own = (x ≡ answer.NoMemory) ⊎ ((x ≡ answer.KeeperFault) ⊎ IsSame x own)

-- a request for rows of one's own is answered so, if its caller hasn't the permission ADMIN
abbrev pub IsIsolated : Ask → Answer → Standing → Type 0
IsIsolated ask x s =
    (user : UserRow) → caller s.known.policy s.known.users ask.key ≡ Some user → has s.known.policy user permission.Admin ≡ false
    → is_private ask.request ≡ true → IsOwnAnswer x (own_answer ask (view_of user s.known))

-- if an entry is a call, that is so of its ask
abbrev pub IsEntryIsolated : Entry → Standing → Type 0
IsEntryIsolated (entry.Call worker ask moment x) s = IsIsolated ask x s
IsEntryIsolated (entry.Note note) s = Unit {0}
IsEntryIsolated entry.Close s = Unit {0}

-- that is so of each call of a history, by what is known before it
abbrev pub AreIsolated : History → Standing → Type 0
AreIsolated [] s = Unit {0}
AreIsolated (e ∷ es) s = IsEntryIsolated e s × AreIsolated es (after_entry e s)

-- the law
abbrev pub EveryCallerIsIsolated : Type 0
EveryCallerIsIsolated = (history : History) (s : Standing) → Legal history s → AreIsolated history s
