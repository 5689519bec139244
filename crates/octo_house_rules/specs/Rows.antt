-- The requests that change users and the queue.
use Rattle.std.specs.Prelude.{ℕ, Bool, true, not, min, max, List, [], if◌then◌else◌, Option, None, Some, option_map, unwrap_or, Result, Ok, Err}
use Rattle.arrayvec.specs.ArrayVec.{ArrayVec}
use Rattle.sha2.specs.Sha256.{sha256}
use Rattle.octo_access.specs.Changes.{put_refusal, change_refusal}
use Rattle.octo_access.specs.Rows.{row_named, with_row, replaced}
use Rattle.octo_access.specs.declared.row.UserRow.{UserRow}
use Rattle.print_queue.specs.Calls.{new_entry, put_answer}
use Rattle.print_queue.specs.Rows.{insert_row, without}
use Rattle.print_queue.specs.Rows as queue_rows
use Rattle.print_queue.specs.declared.entry.QueueEntry.{QueueEntry}
use Rattle.print_queue.specs.declared.refusal.Put.{Put}
use Rattle.print_queue.specs.declared.refusal.QueueRefusal.{QueueRefusal}
use Rattle.octo_asks.specs.Shown.{shown_user, shown_entry}
use Rattle.octo_asks.specs.declared.answer.Answer.TheVariants as answer
use Rattle.octo_house_rules.specs.Known.{Known, is_held}
use Rattle.octo_house_rules.specs.Verdict.{Verdict, Deed, gives, writes, at_desk}
use Rattle.octo_house_rules.specs.Refusals.{refused_if, if_users_allow, found_or, answer_of_queue_refusal}

-- no calls at the desk, and these users
abbrev pub with_users : List UserRow → Known → Deed
with_users users k = record (at_desk [] k) { users = users }

-- no calls at the desk, and this queue
abbrev pub with_queue : List QueueEntry → Known → Deed
with_queue queue k = record (at_desk [] k) { queue = queue }

-- a new user
abbrev pub new_user : List ℕ → List ℕ → ArrayVec (List ℕ) → Bool → UserRow
new_user name key groups active = record { name = name; digest = sha256 key; groups = groups; active = active }

-- a user is added
abbrev pub put_user_verdict : UserRow → Known → Verdict
put_user_verdict row k =
    if_users_allow (put_refusal k.policy row k.users) (writes (answer.User (shown_user row)) (with_users (with_row row k.users) k))

-- a user with what a request names; without a former one it has nothing else
abbrev pub changed_user : List ℕ → Option (List ℕ) → Option (ArrayVec (List ℕ)) → Option Bool → Option UserRow → UserRow
changed_user name key groups active None =
    record { name = name; digest = unwrap_or (option_map sha256 key) []; groups = unwrap_or groups (record { items = [] }); active = unwrap_or active true }
changed_user name key groups active (Some former) =
    record {
      name = name;
      digest = unwrap_or (option_map sha256 key) former.digest;
      groups = unwrap_or groups former.groups;
      active = unwrap_or active former.active;
    }

-- a user's row is replaced
abbrev pub replace_verdict : UserRow → Known → Verdict
replace_verdict row k =
    if_users_allow (change_refusal k.policy row k.users) (writes answer.Accepted (with_users (replaced row k.users) k))

-- a user is changed as the request names
abbrev pub change_user_verdict : List ℕ → Option (List ℕ) → Option (ArrayVec (List ℕ)) → Option Bool → Known → Verdict
change_user_verdict name key groups active k = replace_verdict (changed_user name key groups active (row_named name k.users)) k

-- the entry that is asked for; a priority above 100 counts as 100, and copies as the nearest number from 1 to 100
abbrev pub asked_entry : List ℕ → List ℕ → List ℕ → ℕ → ℕ → List ℕ → QueueEntry
asked_entry user name file priority copies material = new_entry user name file (min priority 100) (max 1 (min copies 100)) material

-- an entry that was added is written; one that was held already is shown as it is
abbrev pub put_by : Result Put QueueRefusal → Known → Verdict
put_by (Ok put) k =
    if put.fresh then writes (answer.OneEntry (shown_entry put.entry)) (with_queue (insert_row put.entry k.queue) k)
    else gives (answer.OneEntry (shown_entry put.entry))
put_by (Err refused) k = gives (answer_of_queue_refusal refused)

-- an entry is put in the queue, if its file is held
abbrev pub put_entry_verdict : QueueEntry → Known → Verdict
put_entry_verdict asked k = refused_if (not (is_held asked.file k)) answer.NoFile (put_by (put_answer k.queue asked) k)

-- a user's entry of a name is taken out
abbrev pub drop_verdict : List ℕ → List ℕ → Known → Verdict
drop_verdict user name k =
    found_or (queue_rows.users_entry user name k.queue) answer.NoEntry
    (λ entry. writes answer.Accepted (with_queue (without user name k.queue) k))
