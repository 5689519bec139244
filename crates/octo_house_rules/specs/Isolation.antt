-- What callers learn of each other, and a put that is repeated.
use Rattle.std.specs.Prelude.{◌≡◌, ◌⊎◌, ℕ, Bool, true, false, List, filter, Some}
use Rattle.octo_access.specs.Rights.{has, caller}
use Rattle.octo_access.specs.declared.permission.Permission.TheVariants as permission
use Rattle.octo_access.specs.declared.row.UserRow.{UserRow}
use Rattle.octo_keeper.specs.declared.shelf.ShelfFile.{ShelfFile}
use Rattle.print_queue.specs.Calls.{is_same}
use Rattle.print_queue.specs.Rows.{users_entry, is_of}
use Rattle.print_queue.specs.declared.entry.QueueEntry.{QueueEntry}
use Rattle.octo_asks.specs.Shown.{shown_entry}
use Rattle.octo_asks.specs.declared.answer.Answer.{Answer}
use Rattle.octo_asks.specs.declared.answer.Answer.TheVariants as answer
use Rattle.octo_asks.specs.declared.request.Ask.{Ask}
use Rattle.octo_asks.specs.declared.request.Request.{Request}
use Rattle.octo_asks.specs.declared.request.Request.TheVariants as request
use Rattle.octo_house_rules.specs.Known.{Known}
use Rattle.octo_house_rules.specs.Reads.{is_print_of}
use Rattle.octo_house_rules.specs.Rows.{asked_entry}
use Rattle.octo_house_rules.specs.Verdict.{Verdict, May, answer_in, after}
use Rattle.octo_house_rules.specs.Answers.{verdict}

-- the requests for rows of one's own
abbrev pub is_private : Request → Bool
is_private request.ListQueue = true
is_private (request.PutEntry name file priority copies material) = true
is_private (request.DropOwn name) = true
is_private request.ListPrints = true
is_private _ = false

-- two states are the same for a user: the key names the same row, and the user's own rows and the files' names are equal
pub record SameFor (key : List ℕ) (user : UserRow) (a b : Known) : Type 0 where
  pub policy : a.policy ≡ b.policy
  pub here : caller a.policy a.users key ≡ Some user
  pub there : caller b.policy b.users key ≡ Some user
  pub queue : filter (is_of (Some user.name)) a.queue ≡ filter (is_of (Some user.name)) b.queue
  pub prints : filter (is_print_of (Some user.name)) a.prints ≡ filter (is_print_of (Some user.name)) b.prints
  pub names : a.names ≡ b.names

-- the same answer, unless the numbers of arrival, which all users share, are used up
abbrev pub IsSame : Answer → Answer → Type 0
IsSame x y = (x ≡ y) ⊎ ((x ≡ answer.ArrivalsUsed) ⊎ (y ≡ answer.ArrivalsUsed))

-- the answer to a user without the permission ADMIN depends on the user's own rows alone
abbrev pub Isolation : Type 0
Isolation =
    (ask : Ask) (user : UserRow) (files other_files : List ShelfFile) (a b : Known) → is_private ask.request ≡ true → has a.policy user permission.Admin ≡ false
    → SameFor ask.key user a b → IsSame (answer_in (verdict ask files a)) (answer_in (verdict ask other_files b))

-- an ask to put an entry that its caller holds already
pub record Repeats (ask : Ask) (user : UserRow) (kept : QueueEntry) (k : Known) : Type 0 where
  pub name : List ℕ
  pub file : List ℕ
  pub priority : ℕ
  pub copies : ℕ
  pub material : List ℕ
  pub asks : ask.request ≡ request.PutEntry name file priority copies material
  pub asker : caller k.policy k.users ask.key ≡ Some user
  pub there : users_entry user.name name k.queue ≡ Some kept
  pub same : is_same kept (asked_entry user.name name file priority copies material) ≡ true

-- the answers to it: the entry as it is held, unless the caller may not ask so or the file is gone
abbrev pub ShowsKept : QueueEntry → Answer → Type 0
ShowsKept kept x = (x ≡ answer.OneEntry (shown_entry kept)) ⊎ ((x ≡ answer.NoFile) ⊎ (x ≡ answer.Denied (Some permission.FilesSelect)))

-- a put with this verdict changes nothing, and its answer is no fault
pub record IsRepeated (v : Verdict) (kept : QueueEntry) (k : Known) (x : Answer) : Type 0 where
  pub answers : (x ≡ answer.NoMemory) ⊎ (x ≡ answer_in v)
  pub shows : ShowsKept kept (answer_in v)
  pub stays : after v k x ≡ k

-- the law: a put that is repeated changes nothing and shows the entry as it is held
abbrev pub Once : Type 0
Once =
    (ask : Ask) (user : UserRow) (kept : QueueEntry) (files : List ShelfFile) (k : Known) (x : Answer) → Repeats ask user kept k
    → (x ≡ answer.NoMemory) ⊎ May (verdict ask files k) x → IsRepeated (verdict ask files k) kept k x
