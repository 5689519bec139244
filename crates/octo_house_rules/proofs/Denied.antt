-- Who is denied.
use Rattle.std.proofs.Common.{◌≡◌, ◌⊎◌, inl, inr, ℕ, Bool, true, false, cond, codes, decimal, List, [], ◌∷◌, ◌++◌, Option, Some, None, Result, Ok, Err, refl, ◌∙◌, ap}
use Rattle.octo_access.specs.Rights.{caller}
use Rattle.octo_access.specs.declared.permission.Permission.{Permission}
use Rattle.octo_access.specs.declared.refusal.UserRefusal.{UserRefusal}
use Rattle.octo_access.specs.declared.refusal.UserRefusal.TheVariants as user_refusal
use Rattle.octo_access.specs.declared.row.UserRow.{UserRow}
use Rattle.octo_keeper.specs.Files.{bytes_of}
use Rattle.octo_keeper.specs.declared.shelf.ShelfFile.{ShelfFile}
use Rattle.gcode_lines.specs.Commands.{job_of}
use Rattle.gcode_lines.specs.Job.{JobData}
use Rattle.gcode_lines.specs.declared.fault.FileFault.{FileFault}
use Rattle.temp_rules.specs.declared.limits.TooHot.{TooHot}
use Rattle.job_desk.specs.Data.{File, named_file}
use Rattle.job_desk.specs.Run.{Connect, Select}
use Rattle.job_desk.specs.Table.{connect_at}
use Rattle.job_desk.specs.declared.state.Refusal.{Refusal}
use Rattle.job_desk.specs.declared.state.Refusal.TheVariants as desk_refusal
use Rattle.print_queue.specs.declared.entry.QueueEntry.{QueueEntry}
use Rattle.print_queue.specs.declared.refusal.Put.{Put}
use Rattle.print_queue.specs.declared.refusal.QueueRefusal.{QueueRefusal}
use Rattle.print_queue.specs.declared.refusal.QueueRefusal.TheVariants as queue_refusal
use Rattle.print_queue.specs.Rows.{without_copy}
use Rattle.octo_asks.specs.Rights.{needed}
use Rattle.octo_asks.specs.Shown.{shown_entry}
use Rattle.octo_asks.specs.declared.answer.PrintRefusal.{PrintRefusal}
use Rattle.octo_asks.specs.declared.answer.Answer.{Answer}
use Rattle.octo_asks.specs.declared.answer.Answer.TheVariants as answer
use Rattle.octo_asks.specs.declared.request.Ask.{Ask}
use Rattle.octo_asks.specs.declared.request.Request.{Request}
use Rattle.octo_asks.specs.declared.request.Request.TheVariants as request
use Rattle.octo_house_rules.specs.Known.{Known}
use Rattle.octo_house_rules.specs.Refusals.{answer_of_refusal, answer_of_user_refusal, answer_of_queue_refusal, refused_if, if_desk_allows, if_users_allow, unless_too_hot, found_or, read_as}
use Rattle.octo_house_rules.specs.Prints.{port_for, connect_verdict, manual_verdict}
use Rattle.octo_house_rules.specs.Reads.{caller_shown}
use Rattle.octo_house_rules.specs.Rows.{put_by}
use Rattle.octo_house_rules.specs.Uploads.{read_file, print_verdict, select_by, take_verdict, after_storing, store_verdict}
use Rattle.octo_house_rules.specs.Verdict.{Verdict, Deed, at_desk, gives, makes, writes, reads, removes, stores, begins, May, after, is_fault}
use Rattle.octo_house_rules.specs.Answers.{request_verdict, free_verdict, verdict_of_caller, unless_lacking, lacking, verdict_by}
use Rattle.octo_house_rules.specs.Access.{is_denied, IsDenied, Accessed, free, nobody, lacks, may, Access}

-- A verdict that denies nothing.
data Grants : Verdict → Type 0 where
  by-gives : (a : Answer) → is_denied a ≡ false → Grants (gives a)
  by-makes : (a : Answer) (d : Deed) → is_denied a ≡ false → Grants (makes a d)
  by-writes : (a : Answer) (d : Deed) → is_denied a ≡ false → Grants (writes a d)
  by-reads : (v : Verdict) → Grants v → Grants (reads v)
  by-removes : (name : List ℕ) (a : Answer) (d : Deed) → is_denied a ≡ false → Grants (removes name a d)
  by-stores : (name bytes : List ℕ) (d : Deed) (v : Verdict) → Grants v → Grants (stores name bytes d v)
  by-begins : (a : Answer) (d : Deed) (name : List ℕ) → is_denied a ≡ false → Grants (begins a d name)

is-so : {x a : Answer} → is_denied a ≡ false → x ≡ a → is_denied x ≡ false
is-so h e = ap (λ y. is_denied y) e ∙ h

either : {x a b : Answer} → is_denied a ≡ false → is_denied b ≡ false → (x ≡ a) ⊎ (x ≡ b) → is_denied x ≡ false
either h g (inl e) = is-so h e
either h g (inr e) = is-so g e

one-of : {x a b c : Answer} → is_denied a ≡ false → is_denied b ≡ false → is_denied c ≡ false → (x ≡ a) ⊎ ((x ≡ b) ⊎ (x ≡ c)) → is_denied x ≡ false
one-of h g f (inl e) = is-so h e
one-of h g f (inr (inl e)) = is-so g e
one-of h g f (inr (inr e)) = is-so f e

fault-or : {x : Answer} {B : Type 0} → (B → is_denied x ≡ false) → (x ≡ answer.ShelfFault) ⊎ B → is_denied x ≡ false
fault-or h (inl e) = is-so refl e
fault-or h (inr m) = h m

-- no answer that it allows denies
undenied : (v : Verdict) (x : Answer) → Grants v → May v x → is_denied x ≡ false
undenied _ x (by-gives a h) m = is-so h m
undenied _ x (by-makes a d h) m = is-so h m
undenied _ x (by-writes a d h) m = either h refl m
undenied _ x (by-reads v g) m = fault-or (λ n. undenied v x g n) m
undenied _ x (by-removes name a d h) m = either refl h m
undenied _ x (by-stores name bytes d v g) m = fault-or (λ n. undenied v x g n) m
undenied _ x (by-begins a d name h) m = one-of h refl refl m

by-test : (is : Bool) (a : Answer) (v : Verdict) → is_denied a ≡ false → Grants v → Grants (refused_if is a v)
by-test true a v h g = by-gives a h
by-test false a v h g = g

by-refused : (r : Refusal) → is_denied (answer_of_refusal r) ≡ false
by-refused (desk_refusal.WrongState state) = refl
by-refused desk_refusal.NoFile = refl
by-refused (desk_refusal.Full held) = refl
by-refused desk_refusal.FileBusy = refl
by-refused (desk_refusal.TooHotLine line asked limit) = refl

by-desk : {A : Type 0} (r : Result A Refusal) (v : Verdict) → Grants v → Grants (if_desk_allows r v)
by-desk (Ok a) v g = g
by-desk (Err r) v g = by-gives (answer_of_refusal r) (by-refused r)

by-user-refused : (r : UserRefusal) → is_denied (answer_of_user_refusal r) ≡ false
by-user-refused (user_refusal.BadGroup group) = refl
by-user-refused user_refusal.NoUser = refl
by-user-refused user_refusal.NameTaken = refl
by-user-refused (user_refusal.KeyTaken name) = refl
by-user-refused (user_refusal.Full count) = refl
by-user-refused user_refusal.NoMemory = refl

by-users : (o : Option UserRefusal) (v : Verdict) → Grants v → Grants (if_users_allow o v)
by-users None v g = g
by-users (Some r) v g = by-gives (answer_of_user_refusal r) (by-user-refused r)

by-heat : (o : Option TooHot) (v : Verdict) → Grants v → Grants (unless_too_hot o v)
by-heat None v g = g
by-heat (Some hot) v g = by-gives (answer.TooHot hot.asked hot.limit) refl

by-found : {A : Type 0} (o : Option A) (a : Answer) (next : A → Verdict) → is_denied a ≡ false → ((y : A) → Grants (next y)) → Grants (found_or o a next)
by-found None a next h g = by-gives a h
by-found (Some y) a next h g = g y

by-job : (r : Result JobData FileFault) (next : JobData → Verdict) → ((job : JobData) → Grants (next job)) → Grants (read_as r next)
by-job (Ok job) next g = g job
by-job (Err fault) next g = by-gives (answer.BadFile fault) refl

by-queue-refused : (r : QueueRefusal) → is_denied (answer_of_queue_refusal r) ≡ false
by-queue-refused (queue_refusal.NameTaken kept) = refl
by-queue-refused queue_refusal.NoEntry = refl
by-queue-refused (queue_refusal.Full count) = refl
by-queue-refused queue_refusal.ArrivalsUsed = refl
by-queue-refused queue_refusal.NoMemory = refl

by-fresh : (fresh : Bool) (a : Answer) (d : Deed) → is_denied a ≡ false → Grants (cond fresh (writes a d) (gives a))
by-fresh true a d h = by-writes a d h
by-fresh false a d h = by-gives a h

by-put : (r : Result Put QueueRefusal) (k : Known) → Grants (put_by r k)
by-put (Ok put) k = by-fresh put.fresh _ _ refl
by-put (Err r) k = by-gives (answer_of_queue_refusal r) (by-queue-refused r)

by-file : (name : List ℕ) (files : List ShelfFile) (next : File → Verdict) → ((file : File) → Grants (next file)) → Grants (read_file name files next)
by-file name files next g = by-reads _ (by-found (bytes_of name files) answer.NoFile _ refl (λ bytes. by-job (job_of bytes) _ (λ job. g (named_file name job))))

by-manual : (texts : List (List ℕ)) (k : Known) → Grants (manual_verdict texts k)
by-manual texts k = by-heat _ _ (by-desk _ _ (by-makes answer.Accepted _ refl))

by-print : (a : Answer) (user : List ℕ) (queue : List QueueEntry) (k : Known) (file : File) → is_denied a ≡ false → Grants (print_verdict a user queue k file)
by-print a user queue k file h = by-desk _ _ (by-test _ (answer.Full _) _ refl (by-writes a _ h))

by-select : (print : Bool) (user name : List ℕ) (files : List ShelfFile) (k : Known) → Grants (select_by print user name files k)
by-select false user name files k = by-test _ (answer.WrongState k.desk.state) _ refl (by-file name files _ (λ file. by-makes answer.Accepted (at_desk (Select file ∷ []) k) refl))
by-select true user name files k = by-test _ (answer.WrongState k.desk.state) _ refl (by-file name files _ (λ file. by-print answer.Accepted user k.queue k file refl))

by-storing : (select print : Bool) (why : Option PrintRefusal) (user : List ℕ) (file : File) (k : Known) → Grants (after_storing select print why user file k)
by-storing false print None user file k = by-gives (answer.Uploaded file.name false false) refl
by-storing false print (Some why) user file k = by-gives (answer.Unprinted file.name false why) refl
by-storing true false None user file k = by-gives (answer.Uploaded file.name true false) refl
by-storing true false (Some why) user file k = by-gives (answer.Unprinted file.name true why) refl
by-storing true true why user file k = by-begins (answer.Uploaded file.name true true) _ file.name refl

by-store : (user : UserRow) (bytes : List ℕ) (select print : Bool) (k : Known) (file : File) → Grants (store_verdict user bytes select print k file)
by-store user bytes select print k file = by-desk _ _ (by-test _ (answer.Full _) _ refl (by-stores file.name bytes _ _ (by-storing _ _ _ user.name file _)))

by-take : (files : List ShelfFile) (k : Known) (entry : QueueEntry) → Grants (take_verdict files k entry)
by-take files k entry = by-test _ answer.NoFile _ refl (by-file entry.file files _ (λ file. by-print (answer.TakenEntry (shown_entry entry)) entry.user (without_copy entry.user entry.name k.queue) k file refl))

by-connect : (port : Option (List ℕ)) (k : Known) → Grants (connect_verdict port k)
by-connect port k = by-found (port_for port k.ports) answer.BadPort _ refl (λ p. by-desk (connect_at k.desk.state p k.desk).0 _ (by-makes answer.Accepted (at_desk (Connect p ∷ []) k) refl))

-- no verdict of a request of its own denies it
granting : (asked : Request) (user : UserRow) (files : List ShelfFile) (k : Known) → Grants (request_verdict asked user files k)
granting request.Version user files k = by-gives answer.Version refl
granting request.Caller user files k = by-gives answer.Accepted refl
granting request.GetConnection user files k = by-gives (answer.Connection _ _ _) refl
granting (request.Connect port) user files k = by-connect port k
granting request.Disconnect user files k = by-makes answer.Accepted _ refl
granting request.GetPrinter user files k = by-test _ (answer.WrongState k.desk.state) _ refl (by-gives (answer.Printer _ _ _) refl)
granting request.GetLimits user files k = by-gives (answer.Limits _ _) refl
granting (request.HeatTool degrees) user files k = by-manual ((codes "M104 S" ++ decimal degrees) ∷ []) k
granting (request.HeatBed degrees) user files k = by-manual ((codes "M140 S" ++ decimal degrees) ∷ []) k
granting (request.Lines texts) user files k = by-found _ answer.BadCommand _ refl (λ commands. by-manual commands k)
granting (request.Move texts) user files k = by-test _ (answer.WrongState k.desk.state) _ refl (by-found _ answer.BadCommand _ refl (λ commands. by-manual commands k))
granting request.GetJob user files k = by-gives (answer.Job _ _ _) refl
granting request.Start user files k = by-desk _ _ (by-test _ (answer.Full _) _ refl (by-writes answer.Accepted _ refl))
granting request.Cancel user files k = by-desk _ _ (by-makes answer.Accepted _ refl)
granting request.Restart user files k = by-desk _ _ (by-test _ (answer.Full _) _ refl (by-writes answer.Accepted _ refl))
granting request.Pause user files k = by-desk _ _ (by-makes answer.Accepted _ refl)
granting request.Resume user files k = by-desk _ _ (by-makes answer.Accepted _ refl)
granting request.Toggle user files k = by-desk _ _ (by-makes answer.Accepted _ refl)
granting request.ListFiles user files k = by-reads _ (by-gives (answer.Files _) refl)
granting (request.GetFile name) user files k = by-test _ answer.NoFile _ refl (by-reads _ (by-found _ answer.NoFile _ refl (λ bytes. by-gives (answer.File _) refl)))
granting (request.PutFile name bytes select print) user files k = by-job _ _ (λ job. by-store user bytes select print k _)
granting (request.SelectFile name print) user files k = by-test _ answer.NoFile _ refl (by-select print user.name name files k)
granting (request.DeleteFile name) user files k = by-test _ answer.NoFile _ refl (by-desk _ _ (by-removes name answer.Accepted _ refl))
granting (request.Download name) user files k = by-test _ answer.NoFile _ refl (by-reads _ (by-found _ answer.NoFile _ refl (λ bytes. by-gives (answer.Download _) refl)))
granting request.ListUsers user files k = by-gives (answer.Users _) refl
granting (request.PutUser name key groups active) user files k = by-users _ _ (by-writes (answer.User _) _ refl)
granting (request.ChangeUser name key groups active) user files k = by-users _ _ (by-writes answer.Accepted _ refl)
granting request.ListQueue user files k = by-gives (answer.Entries _) refl
granting (request.PutEntry name file priority copies material) user files k = by-test _ answer.NoFile _ refl (by-put _ k)
granting (request.DropOwn name) user files k = by-found _ answer.NoEntry _ refl (λ entry. by-writes answer.Accepted _ refl)
granting (request.DropOther owner name) user files k = by-found _ answer.NoEntry _ refl (λ entry. by-writes answer.Accepted _ refl)
granting request.NextEntry user files k = by-test _ (answer.WrongState k.desk.state) _ refl (by-found _ answer.NoEntry _ refl (by-take files k))
granting request.ListPrints user files k = by-gives (answer.Prints _) refl
granting request.Backup user files k = by-writes answer.Accepted _ refl
granting request.Shutdown user files k = by-test _ (answer.WrongState k.desk.state) _ refl (by-gives answer.Accepted refl)
granting request.Leave user files k = by-gives answer.Accepted refl
granting request.AutoConnect user files k = by-gives answer.Accepted refl

-- nor does one of a request that needs no permission
by-caller : (o : Option UserRow) → Grants (gives (caller_shown o))
by-caller None = by-gives _ refl
by-caller (Some user) = by-gives _ refl

freeing : (key : List ℕ) (asked : Request) (k : Known) → Grants (free_verdict key asked k)
freeing key request.Caller k = by-caller (caller k.policy k.users key)
freeing key request.AutoConnect k = by-connect None k
freeing key _ k = by-gives answer.Accepted refl

-- so no answer to one denies it
pub free-undenied : (key : List ℕ) (asked : Request) (k : Known) (x : Answer) → May (free_verdict key asked k) x → is_denied x ≡ false
free-undenied key asked k x m = undenied _ x (freeing key asked k) m

pub stays-so : (fault : Bool) (k : Known) → ◌≡◌ {A = Known} (cond fault k k) k
stays-so true k = refl
stays-so false k = refl

denied-by : (p : Option Permission) (v : Verdict) (k : Known) (x : Answer) → v ≡ gives (answer.Denied p) → x ≡ answer.Denied p → IsDenied p v k x
denied-by p v k x is e = record { denied = e; stays = ap (λ w. after w k x) is ∙ stays-so (is_fault x) k }

module _ (ask : Ask) (files : List ShelfFile) (k : Known) (x : Answer) (ps : List Permission) (needs : needed ask.request ≡ ps) where
  abbrev next : UserRow → Verdict
  next u = request_verdict ask.request u files k

  allowed-by : (user : UserRow) (v : Verdict) (o : Option Permission) → caller k.policy k.users ask.key ≡ Some user → v ≡ unless_lacking (lacking k user ps) (next user) → lacking k user ps ≡ o → May (unless_lacking o (next user)) x → Accessed ask v k x
  allowed-by user v None asker is lack m = may user asker (ap (λ q. lacking k user q) needs ∙ lack) (undenied _ x (granting ask.request user files k) m)
  allowed-by user v (Some p) asker is lack m = lacks user p asker (ap (λ q. lacking k user q) needs ∙ lack) (denied-by (Some p) v k x (is ∙ ap (λ o. unless_lacking o (next user)) lack) m)

  permitted-by : (v : Verdict) (o : Option UserRow) → v ≡ verdict_of_caller (caller k.policy k.users ask.key) ps k next → caller k.policy k.users ask.key ≡ o → May (verdict_of_caller o ps k next) x → Accessed ask v k x
  permitted-by v None is asker m = nobody asker (denied-by None v k x (is ∙ ap (λ c. verdict_of_caller c ps k next) asker) m)
  permitted-by v (Some user) is asker m = allowed-by user v (lacking k user ps) asker (is ∙ ap (λ c. verdict_of_caller c ps k next) asker) refl m

accessed : (ask : Ask) (files : List ShelfFile) (k : Known) (x : Answer) (ps : List Permission) → needed ask.request ≡ ps → May (verdict_by ps ask.key ask.request files k) x → Accessed ask (verdict_by ps ask.key ask.request files k) k x
accessed ask files k x [] needs m = free needs (free-undenied ask.key ask.request k x m)
accessed ask files k x (p ∷ ps) needs m = permitted-by ask files k x (p ∷ ps) needs _ (caller k.policy k.users ask.key) refl refl m

pub access : Access
access ask files k x m = accessed ask files k x (needed ask.request) refl m
