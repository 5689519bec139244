-- Requests that leave the files as they are, and those that don't ask for them.
use Rattle.std.proofs.Common.{◌≡◌, ℕ, Bool, true, false, cond, not, find, codes, decimal, List, [], ◌∷◌, ◌++◌, Option, None, Some, Result, Ok, Err, refl, sym, ap, ◌∙◌, subst}
use Rattle.std.proofs.lemmas.Bool.{false≢true}
use Rattle.gcode_lines.specs.Commands.{job_of}
use Rattle.gcode_lines.specs.Job.{JobData}
use Rattle.gcode_lines.specs.declared.fault.FileFault.{FileFault}
use Rattle.temp_rules.specs.declared.limits.TooHot.{TooHot}
use Rattle.job_desk.specs.Data.{File, named_file}
use Rattle.job_desk.specs.Table.{connect_at, start_at, start_file, restart_at, pause_at, resume_at, toggle_at, cancel_at, manual_at, drop_file_step}
use Rattle.job_desk.specs.declared.state.Refusal.{Refusal}
use Rattle.octo_access.specs.declared.refusal.UserRefusal.{UserRefusal}
use Rattle.octo_access.specs.declared.row.UserRow.{UserRow}
use Rattle.octo_keeper.specs.Files.{bytes_of}
use Rattle.octo_keeper.specs.declared.shelf.ShelfFile.{ShelfFile}
use Rattle.octo_asks.specs.declared.answer.PrintRefusal.{PrintRefusal}
use Rattle.octo_asks.specs.declared.answer.Answer.{Answer}
use Rattle.octo_asks.specs.declared.answer.Answer.TheVariants as answer
use Rattle.octo_asks.specs.declared.request.Request.{Request}
use Rattle.octo_asks.specs.declared.request.Request.TheVariants as request
use Rattle.print_queue.specs.Rows.{fits}
use Rattle.print_queue.specs.Rows as queue_rows
use Rattle.print_queue.specs.declared.entry.QueueEntry.{QueueEntry}
use Rattle.print_queue.specs.declared.refusal.Put.{Put}
use Rattle.print_queue.specs.declared.refusal.QueueRefusal.{QueueRefusal}
use Rattle.octo_house_rules.specs.Answers.{request_verdict, free_verdict}
use Rattle.octo_house_rules.specs.Known.{Known, next_print_number, is_held}
use Rattle.octo_house_rules.specs.Prints.{port_for, commands_in, first_hot_text, manual_verdict, has_room}
use Rattle.octo_house_rules.specs.States.{may_select, may_show, may_shut_down, may_start}
use Rattle.octo_house_rules.specs.Uploads.{has_file_room, is_selected, is_printed, refusal_of, after_storing, read_file, print_verdict, select_by, store_verdict, take_verdict}
use Rattle.octo_house_rules.specs.Refusals.{refused_if, if_desk_allows, if_users_allow, unless_too_hot, found_or, read_as}
use Rattle.octo_access.specs.Changes.{put_refusal, change_refusal}
use Rattle.octo_access.specs.Rows.{row_named, with_row, replaced}
use Rattle.octo_house_rules.specs.Rows.{put_by, put_user_verdict, replace_verdict, with_users, new_user, changed_user}
use Rattle.octo_asks.specs.Shown.{shown_entry, shown_user}
use Rattle.job_desk.specs.Run.{Select}
use Rattle.octo_house_rules.specs.Verdict.{Verdict, at_desk, gives, makes, writes, reads, removes, stores, begins, is_fault, files_in, files_after}
use Rattle.octo_house.specs.Answered.{Shelves, asks_files}
use Rattle.octo_house.specs.Groups.{is_reading}
use Rattle.byte_text.proofs.BoolLaws.{same_if}

-- the shelf is asked what it holds, and stores or takes out, only if it may be
abbrev pub Within : Bool → Bool → Verdict → Type 0
Within asks changes (gives a) = Unit {0}
Within asks changes (makes a deed) = Unit {0}
Within asks changes (writes a deed) = Unit {0}
Within asks changes (reads v) = (asks ≡ true) × Within asks changes v
Within asks changes (removes name a deed) = changes ≡ true
Within asks changes (stores name bytes deed v) = (changes ≡ true) × Within asks changes v
Within asks changes (begins a deed name) = Unit {0}

left-in : (asks : Bool) (v : Verdict) (files : List ShelfFile) → Within asks false v → files_in v files ≡ files
left-in asks (gives a) files within = refl
left-in asks (makes a deed) files within = refl
left-in asks (writes a deed) files within = refl
left-in asks (reads v) files within = left-in asks v files within.1
left-in asks (removes name a deed) files within = absurd (false≢true within)
left-in asks (stores name bytes deed v) files within = absurd (false≢true within.0)
left-in asks (begins a deed name) files within = refl

pub left-after : (v : Verdict) (x : Answer) (files : List ShelfFile) → files_in v files ≡ files → files_after v x files ≡ files
left-after v x files left = ap (λ (fs : List ShelfFile). cond (is_fault x) files fs) left ∙ same_if (is_fault x) files

pub shelves-same : (was now : Option (List ShelfFile)) (v : List ShelfFile → Verdict) (x : Answer) → now ≡ was
    → ((files : List ShelfFile) → files_in (v files) files ≡ files) → Shelves was now v x
shelves-same was now v x same left = λ files at. same ∙ at ∙ ap (λ (fs : List ShelfFile). Some fs) (sym (left-after (v files) x files (left files)))

unasked-in : (changes : Bool) (v : Verdict) → Within false changes v → asks_files v ≡ false
unasked-in changes (gives a) within = refl
unasked-in changes (makes a deed) within = refl
unasked-in changes (writes a deed) within = refl
unasked-in changes (reads v) within = absurd (false≢true within.0)
unasked-in changes (removes name a deed) within = refl
unasked-in changes (stores name bytes deed v) within = refl
unasked-in changes (begins a deed name) within = refl

module _ (asks changes : Bool) where
  refused : (b : Bool) (a : Answer) (v : Verdict) → Within asks changes v → Within asks changes (refused_if b a v)
  refused true a v within = tt
  refused false a v within = within

  allowed : {A : Type 0} (r : Result A Refusal) (v : Verdict) → Within asks changes v → Within asks changes (if_desk_allows r v)
  allowed (Ok a) v within = within
  allowed (Err r) v within = tt

  user-allowed : (o : Option UserRefusal) (v : Verdict) → Within asks changes v → Within asks changes (if_users_allow o v)
  user-allowed None v within = within
  user-allowed (Some r) v within = tt

  cool : (o : Option TooHot) (v : Verdict) → Within asks changes v → Within asks changes (unless_too_hot o v)
  cool None v within = within
  cool (Some hot) v within = tt

  found : {A : Type 0} (o : Option A) (a : Answer) (next : A → Verdict) → ((x : A) → Within asks changes (next x)) → Within asks changes (found_or o a next)
  found None a next within = tt
  found (Some x) a next within = within x

  read : (r : Result JobData FileFault) (next : JobData → Verdict) → ((job : JobData) → Within asks changes (next job)) → Within asks changes (read_as r next)
  read (Ok job) next within = within job
  read (Err fault) next within = tt

  put-if : (put : Put) (k : Known) (b : Bool) → put.fresh ≡ b → Within asks changes (put_by (Ok put) k)
  put-if put k true is = rw is tt
  put-if put k false is = rw is tt

  put : (r : Result Put QueueRefusal) (k : Known) → Within asks changes (put_by r k)
  put (Ok one) k = put-if one k one.fresh refl
  put (Err r) k = tt

  -- the job of a file is read, and something is done with it
  file : asks ≡ true → (name : List ℕ) (files : List ShelfFile) (next : File → Verdict) → ((one : File) → Within asks changes (next one)) → Within asks changes (read_file name files next)
  file on name files next within = (on, found (bytes_of name files) answer.NoFile _ (λ bytes. read (job_of bytes) _ (λ job. within (named_file name job))))

  prints : (x : Answer) (user : List ℕ) (queue : List QueueEntry) (k : Known) (one : File) → Within asks changes (print_verdict x user queue k one)
  prints x user queue k one = allowed (start_file (Some one) (next_print_number k) k.desk).0 _ (refused (not (has_room k)) _ _ tt)

  selects : asks ≡ true → (print : Bool) (user name : List ℕ) (files : List ShelfFile) (k : Known) → Within asks changes (select_by print user name files k)
  selects on false user name files k = refused (not (may_select k.desk.state)) _ _ (file on name files (λ (one : File). makes answer.Accepted (at_desk (Select one ∷ []) k)) (λ one. tt))
  selects on true user name files k = refused (not (may_start k.desk.state)) _ _ (file on name files (λ (one : File). print_verdict answer.Accepted user k.queue k one)
      (λ one. prints answer.Accepted user k.queue k one))

  takes : asks ≡ true → (files : List ShelfFile) (k : Known) (entry : QueueEntry) → Within asks changes (take_verdict files k entry)
  takes on files k entry =
      let taken : Answer = answer.TakenEntry (shown_entry entry) in
      let left : List QueueEntry = queue_rows.without_copy entry.user entry.name k.queue in
      refused (not (is_held entry.file k)) _ _
      (file on entry.file files (λ (one : File). print_verdict taken entry.user left k one) (λ one. prints taken entry.user left k one))

  manuals : (texts : List (List ℕ)) (k : Known) → Within asks changes (manual_verdict texts k)
  manuals texts k = cool (first_hot_text k.desk.limits texts) _ (allowed (manual_at k.desk.state texts k.desk).0 _ tt)

  user-put : (row : UserRow) (k : Known) → Within asks changes (put_user_verdict row k)
  user-put row k =
      user-allowed (put_refusal k.policy row k.users) (writes (answer.User (shown_user row)) (with_users (with_row row k.users) k)) tt

  user-set : (row : UserRow) (k : Known) → Within asks changes (replace_verdict row k)
  user-set row k = user-allowed (change_refusal k.policy row k.users) (writes answer.Accepted (with_users (replaced row k.users) k)) tt

  storing : (select print : Bool) (why : Option PrintRefusal) (user : List ℕ) (one : File) (k : Known) → Within asks changes (after_storing select print why user one k)
  storing false print why user one k = tt
  storing true false why user one k = tt
  storing true true why user one k = tt

  stores-it : changes ≡ true → (user : UserRow) (bytes : List ℕ) (select print : Bool) (k : Known) (one : File)
      → Within asks changes (store_verdict user bytes select print k one)
  stores-it on user bytes select print k one =
      allowed (drop_file_step one.name k.desk).0 _ (refused (not (has_file_room one.name k)) _ _
      (on, storing (is_selected user select print k) (is_printed user print one k) (refusal_of user select print one k) user.name one _))

-- whether a request stores or deletes a file
abbrev pub is_storing : Request → Bool
is_storing (request.PutFile name bytes select print) = true
is_storing (request.DeleteFile name) = true
is_storing _ = false

request-within : (asked : Request) (user : UserRow) (files : List ShelfFile) (k : Known)
    → Within (is_reading asked) (is_storing asked) (request_verdict asked user files k)
request-within request.Version user files k = tt
request-within request.Caller user files k = tt
request-within request.GetConnection user files k = tt
request-within (request.Connect port) user files k = found false false (port_for port k.ports) answer.BadPort _ (λ p. allowed false false (connect_at k.desk.state p k.desk).0 _ tt)
request-within request.Disconnect user files k = tt
request-within request.GetPrinter user files k = refused false false (not (may_show k.desk.state)) _ _ tt
request-within request.GetLimits user files k = tt
request-within (request.HeatTool degrees) user files k = manuals false false ((codes "M104 S" ++ decimal degrees) ∷ []) k
request-within (request.HeatBed degrees) user files k = manuals false false ((codes "M140 S" ++ decimal degrees) ∷ []) k
request-within (request.Lines texts) user files k = found false false (commands_in texts) answer.BadCommand _ (λ commands. manuals false false commands k)
request-within (request.Move texts) user files k = refused false false k.desk.active _ _ (found false false (commands_in texts) answer.BadCommand _ (λ commands. manuals false false commands k))
request-within request.GetJob user files k = tt
request-within request.Start user files k = allowed false false (start_at k.desk.state (next_print_number k) k.desk).0 _ (refused false false (not (has_room k)) _ _ tt)
request-within request.Cancel user files k = allowed false false (cancel_at k.desk.state k.desk).0 _ tt
request-within request.Restart user files k = allowed false false (restart_at k.desk.state (next_print_number k) k.desk).0 _ (refused false false (not (has_room k)) _ _ tt)
request-within request.Pause user files k = allowed false false (pause_at k.desk.state k.desk).0 _ tt
request-within request.Resume user files k = allowed false false (resume_at k.desk.state k.desk).0 _ tt
request-within request.Toggle user files k = allowed false false (toggle_at k.desk.state k.desk).0 _ tt
request-within request.ListFiles user files k = (refl, tt)
request-within (request.GetFile name) user files k = refused true false (not (is_held name k)) _ _ (refl, found true false (bytes_of name files) answer.NoFile _ (λ bytes. tt))
request-within (request.PutFile name bytes select print) user files k = read false true (job_of bytes) _ (λ job. stores-it false true refl user bytes select print k (named_file name job))
request-within (request.SelectFile name print) user files k = refused true false (not (is_held name k)) _ _ (selects true false refl print user.name name files k)
request-within (request.DeleteFile name) user files k = refused false true (not (is_held name k)) _ _ (allowed false true (drop_file_step name k.desk).0 _ refl)
request-within (request.Download name) user files k = refused true false (not (is_held name k)) _ _ (refl, found true false (bytes_of name files) answer.NoFile _ (λ bytes. tt))
request-within request.ListUsers user files k = tt
request-within (request.PutUser name key groups active) user files k = user-put false false (new_user name key groups active) k
request-within (request.ChangeUser name key groups active) user files k =
    user-set false false (changed_user name key groups active (row_named name k.users)) k
request-within request.ListQueue user files k = tt
request-within (request.PutEntry name file priority copies material) user files k = refused false false (not (is_held file k)) _ _ (put false false _ k)
request-within (request.DropOwn name) user files k = found false false (queue_rows.users_entry user.name name k.queue) answer.NoEntry _ (λ entry. tt)
request-within (request.DropOther owner name) user files k = found false false (queue_rows.users_entry owner name k.queue) answer.NoEntry _ (λ entry. tt)
request-within request.NextEntry user files k = refused true false (not (may_start k.desk.state)) _ _ (found true false (find (fits k.material) k.queue) answer.NoEntry _
    (λ entry. takes true false refl files k entry))
request-within request.ListPrints user files k = tt
request-within request.Backup user files k = tt
request-within request.Shutdown user files k = refused false false (not (may_shut_down k.desk.state)) _ _ tt
request-within request.Leave user files k = tt
request-within request.AutoConnect user files k = tt

-- of a request that needs no permission
free-within : (key : List ℕ) (asked : Request) (k : Known) → Within false false (free_verdict key asked k)
free-within key request.AutoConnect k = found false false (port_for None k.ports) answer.BadPort _ (λ p. allowed false false (connect_at k.desk.state p k.desk).0 _ tt)
free-within key _ k = tt

-- the files stay
pub free-leaves : (key : List ℕ) (asked : Request) (files : List ShelfFile) (k : Known) → files_in (free_verdict key asked k) files ≡ files
free-leaves key asked files k = left-in false (free_verdict key asked k) files (free-within key asked k)

-- the files stay
pub request-leaves : (asked : Request) (user : UserRow) (files : List ShelfFile) (k : Known) → is_storing asked ≡ false
    → files_in (request_verdict asked user files k) files ≡ files
request-leaves asked user files k still =
    left-in (is_reading asked) (request_verdict asked user files k) files
    (subst (λ changes. Within (is_reading asked) changes (request_verdict asked user files k)) still (request-within asked user files k))

-- and the shelf isn't asked for them
pub request-unasked : (asked : Request) (user : UserRow) (files : List ShelfFile) (k : Known) → is_reading asked ≡ false
    → asks_files (request_verdict asked user files k) ≡ false
request-unasked asked user files k unread =
    unasked-in (is_storing asked) (request_verdict asked user files k)
    (subst (λ asks. Within asks (is_storing asked) (request_verdict asked user files k)) unread (request-within asked user files k))
