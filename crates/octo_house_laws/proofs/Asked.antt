-- The deeds of every verdict bring cool texts to the desk.
use Rattle.std.proofs.Common.{◌≡◌, ℕ, Bool, true, false, cond, codes, decimal, List, [], ◌∷◌, ◌++◌, Option, None, Some, Result, Ok, Err, refl, sym, ◌∙◌, ap}
use Rattle.std.specs.List.{AllByRecursion}
use Rattle.gcode_lines.specs.Commands.{job_of}
use Rattle.gcode_lines.specs.Job.{JobData}
use Rattle.gcode_lines.specs.declared.fault.FileFault.{FileFault}
use Rattle.temp_rules.specs.declared.limits.Limits.{Limits}
use Rattle.temp_rules.specs.declared.limits.TooHot.{TooHot}
use Rattle.octo_access.specs.Rights.{caller}
use Rattle.octo_access.specs.declared.permission.Permission.{Permission}
use Rattle.octo_access.specs.declared.refusal.UserRefusal.{UserRefusal}
use Rattle.octo_access.specs.declared.row.UserRow.{UserRow}
use Rattle.octo_keeper.specs.Files.{bytes_of}
use Rattle.octo_keeper.specs.declared.shelf.ShelfFile.{ShelfFile}
use Rattle.print_queue.specs.Rows.{insert_row, without_copy}
use Rattle.print_queue.specs.declared.entry.QueueEntry.{QueueEntry}
use Rattle.print_queue.specs.declared.refusal.Put.{Put}
use Rattle.print_queue.specs.declared.refusal.QueueRefusal.{QueueRefusal}
use Rattle.job_desk.specs.Data.{File, named_file}
use Rattle.job_desk.specs.Run.{DeskCall, Connect, Disconnect, Select, Pause, Resume, Toggle, Cancel, Manually}
use Rattle.job_desk.specs.declared.state.Refusal.{Refusal}
use Rattle.octo_asks.specs.Shown.{shown_entry}
use Rattle.octo_asks.specs.declared.answer.PrintRefusal.{PrintRefusal}
use Rattle.octo_asks.specs.declared.answer.Answer.{Answer}
use Rattle.octo_asks.specs.declared.answer.Answer.TheVariants as answer
use Rattle.octo_asks.specs.declared.request.Request.{Request}
use Rattle.octo_asks.specs.declared.request.Request.TheVariants as request
use Rattle.octo_house_rules.specs.Known.{Known}
use Rattle.octo_house_rules.specs.Refusals.{answer_of_refusal, answer_of_user_refusal, answer_of_queue_refusal, refused_if, if_desk_allows, if_users_allow, unless_too_hot, found_or, read_as}
use Rattle.octo_house_rules.specs.Prints.{port_for, connect_verdict, commands_in, first_hot_text, manual_verdict, restart_deed}
use Rattle.octo_house_rules.specs.Rows.{with_queue, put_by}
use Rattle.octo_house_rules.specs.Uploads.{read_file, print_verdict, select_by, store_deed, after_storing, is_selected, is_printed, refusal_of, unprinted, store_verdict, take_verdict}
use Rattle.octo_house_rules.specs.Verdict.{Verdict, Deed, at_desk, gives, makes, writes, reads, removes, stores, begins, is_fault, is_stored, known_after, known_in, after}
use Rattle.octo_house_rules.specs.Answers.{request_verdict, free_verdict, unless_lacking, verdict_of_caller, lacking, verdict_by}
use Rattle.octo_house_laws.specs.Limits.{IsCool}
use Rattle.octo_house_laws.proofs.Texts.{texts_cool}
use Rattle.octo_house_laws.proofs.Desk.{Cool}
use Rattle.octo_house_laws.proofs.Pulls.{IsCoolCall, cool_after_all}

module _ (limits : Limits) where
  abbrev CoolDeed : Deed → Type 0
  CoolDeed deed = AllByRecursion (IsCoolCall limits) deed.calls

  -- All deeds of a verdict bring cool texts.
  pub data CoolVerdict : Verdict → Type 0 where
    gives-cool : (a : Answer) → CoolVerdict (gives a)
    makes-cool : (a : Answer) (deed : Deed) → CoolDeed deed → CoolVerdict (makes a deed)
    writes-cool : (a : Answer) (deed : Deed) → CoolDeed deed → CoolVerdict (writes a deed)
    reads-cool : (v : Verdict) → CoolVerdict v → CoolVerdict (reads v)
    removes-cool : (name : List ℕ) (a : Answer) (deed : Deed) → CoolDeed deed → CoolVerdict (removes name a deed)
    stores-cool : (name bytes : List ℕ) (deed : Deed) (v : Verdict) → CoolDeed deed → CoolVerdict v → CoolVerdict (stores name bytes deed v)
    begins-cool : (a : Answer) (deed : Deed) (name : List ℕ) → CoolDeed deed → CoolVerdict (begins a deed name)

  either_known : (b : Bool) (k l : Known) → Cool limits k.desk → Cool limits l.desk → Cool limits (cond b k l).desk
  either_known true k l hk hl = hk
  either_known false k l hk hl = hl

  cool_deed : (deed : Deed) (k : Known) → CoolDeed deed → Cool limits k.desk → Cool limits (known_after deed k).desk
  cool_deed deed k c h = cool_after_all limits deed.calls k.desk c h

  cool_in : (v : Verdict) (k : Known) (x : Answer) → CoolVerdict v → Cool limits k.desk → Cool limits (known_in v k x).desk
  cool_in _ k x (gives-cool a) h = h
  cool_in _ k x (makes-cool a deed c) h = cool_deed deed k c h
  cool_in _ k x (writes-cool a deed c) h = cool_deed deed k c h
  cool_in _ k x (reads-cool v c) h = cool_in v k x c h
  cool_in _ k x (removes-cool name a deed c) h = cool_deed deed k c h
  cool_in _ k x (stores-cool name bytes deed v c rest) h = cool_in v (known_after deed k) x rest (cool_deed deed k c h)
  cool_in _ k x (begins-cool a deed name c) h = either_known (is_stored x) k (known_after deed k) h (cool_deed deed k c h)

  -- what an answer leaves is cool
  pub cool_answer : (v : Verdict) (k : Known) (x : Answer) → CoolVerdict v → Cool limits k.desk → Cool limits (after v k x).desk
  cool_answer v k x c h = either_known (is_fault x) k (known_in v k x) h (cool_in v k x c h)

  by-test : (is : Bool) (a : Answer) (v : Verdict) → CoolVerdict v → CoolVerdict (refused_if is a v)
  by-test true a v p = gives-cool a
  by-test false a v p = p

  by-desk : {A : Type 0} (r : Result A Refusal) (v : Verdict) → CoolVerdict v → CoolVerdict (if_desk_allows r v)
  by-desk (Ok a) v p = p
  by-desk (Err r) v p = gives-cool (answer_of_refusal r)

  by-users : (o : Option UserRefusal) (v : Verdict) → CoolVerdict v → CoolVerdict (if_users_allow o v)
  by-users None v p = p
  by-users (Some r) v p = gives-cool (answer_of_user_refusal r)

  by-heat : (o : Option TooHot) (v : Verdict) → (o ≡ None → CoolVerdict v) → CoolVerdict (unless_too_hot o v)
  by-heat None v p = p refl
  by-heat (Some hot) v p = gives-cool (answer.TooHot hot.asked hot.limit)

  by-found : {A : Type 0} (o : Option A) (a : Answer) (next : A → Verdict) → ((y : A) → CoolVerdict (next y)) → CoolVerdict (found_or o a next)
  by-found None a next p = gives-cool a
  by-found (Some y) a next p = p y

  by-job : (r : Result JobData FileFault) (next : JobData → Verdict) → ((job : JobData) → CoolVerdict (next job)) → CoolVerdict (read_as r next)
  by-job (Ok job) next p = p job
  by-job (Err fault) next p = gives-cool (answer.BadFile fault)

  by-fresh : (fresh : Bool) (a : Answer) (d : Deed) → CoolDeed d → CoolVerdict (cond fresh (writes a d) (gives a))
  by-fresh true a d p = writes-cool a d p
  by-fresh false a d p = gives-cool a

  by-put : (r : Result Put QueueRefusal) (k : Known) → CoolVerdict (put_by r k)
  by-put (Ok put) k = by-fresh put.fresh (answer.OneEntry (shown_entry put.entry)) (with_queue (insert_row put.entry k.queue) k) tt
  by-put (Err r) k = gives-cool (answer_of_queue_refusal r)

  by-file : (name : List ℕ) (files : List ShelfFile) (next : File → Verdict) → ((file : File) → CoolVerdict (next file))
      → CoolVerdict (read_file name files next)
  by-file name files next p = reads-cool _ (by-found (bytes_of name files) answer.NoFile _ (λ bytes. by-job (job_of bytes) _ (λ job. p
      (named_file name job))))

  -- a user's lines are tested first
  by-manual : (texts : List (List ℕ)) (k : Known) → k.desk.limits ≡ limits → CoolVerdict (manual_verdict texts k)
  by-manual texts k is =
      by-heat (first_hot_text k.desk.limits texts) _ (λ none. (let cool : AllByRecursion (IsCool limits) texts = texts_cool limits texts (ap
      (λ l. first_hot_text l texts) (sym is) ∙ none) in
      by-desk _ _ (makes-cool answer.Accepted (at_desk (Manually texts ∷ []) k) (cool, tt))))

  by-print : (a : Answer) (user : List ℕ) (queue : List QueueEntry) (k : Known) (file : File) → CoolVerdict (print_verdict a user queue k file)
  by-print a user queue k file = by-desk _ _ (by-test _ _ _ (writes-cool a _ (tt, (tt, tt))))

  by-select : (print : Bool) (user name : List ℕ) (files : List ShelfFile) (k : Known) → CoolVerdict (select_by print user name files k)
  by-select false user name files k = by-test _ _ _ (by-file name files _ (λ file. makes-cool answer.Accepted (at_desk (Select file ∷ []) k)
      (tt, tt)))
  by-select true user name files k = by-test _ _ _ (by-file name files _ (λ file. by-print answer.Accepted user k.queue k file))

  stored_cool : (select : Bool) (file : File) (k : Known) → CoolDeed (store_deed select file k)
  stored_cool false file k = (tt, tt)
  stored_cool true file k = (tt, (tt, tt))

  by-storing : (select print : Bool) (why : Option PrintRefusal) (user : List ℕ) (file : File) (k : Known) → CoolVerdict (after_storing select print why user file k)
  by-storing false print why user file k = gives-cool (unprinted file.name false why)
  by-storing true false why user file k = gives-cool (unprinted file.name true why)
  by-storing true true why user file k = begins-cool (answer.Uploaded file.name true true) _ file.name (tt, tt)

  -- one call at the desk that brings no text
  by-call : (call : DeskCall) (k : Known) → IsCoolCall limits call → CoolVerdict (makes answer.Accepted (at_desk (call ∷ []) k))
  by-call call k c = makes-cool answer.Accepted (at_desk (call ∷ []) k) (c, tt)

  by-connect : (port : Option (List ℕ)) (k : Known) → CoolVerdict (connect_verdict port k)
  by-connect port k = by-found (port_for port k.ports) _ _ (λ p. by-desk _ _ (by-call (Connect p) k tt))

  -- the verdict of a request that needs no permission
  cool_free : (key : List ℕ) (asked : Request) (k : Known) → CoolVerdict (free_verdict key asked k)
  cool_free key request.AutoConnect k = by-connect None k
  cool_free key _ k = gives-cool _

  module _ (user : UserRow) (files : List ShelfFile) (k : Known) (is : k.desk.limits ≡ limits) where
    by-store : (bytes : List ℕ) (select print : Bool) (file : File) → CoolVerdict (store_verdict user bytes select print k file)
    by-store bytes select print file =
        by-desk _ _ (by-test _ _ _ (stores-cool file.name bytes (store_deed (is_selected user select print k) file k) _ (stored_cool
        (is_selected user select print k) file k)
        (by-storing (is_selected user select print k) (is_printed user print file k) (refusal_of user select print file k) user.name file (known_after (store_deed
        (is_selected user select print k) file k) k))))

    by-take : (entry : QueueEntry) → CoolVerdict (take_verdict files k entry)
    by-take entry = by-test _ _ _ (by-file entry.file files _ (λ file. by-print (answer.TakenEntry (shown_entry entry)) entry.user
        (without_copy entry.user entry.name k.queue) k file))

    -- every request's verdict
    cool_request : (asked : Request) → CoolVerdict (request_verdict asked user files k)
    cool_request request.Version = gives-cool _
    cool_request request.Caller = gives-cool _
    cool_request request.GetConnection = gives-cool _
    cool_request (request.Connect port) = by-connect port k
    cool_request request.Disconnect = by-call Disconnect k tt
    cool_request request.GetPrinter = by-test _ _ _ (gives-cool _)
    cool_request request.GetLimits = gives-cool _
    cool_request (request.HeatTool degrees) = by-manual ((codes "M104 S" ++ decimal degrees) ∷ []) k is
    cool_request (request.HeatBed degrees) = by-manual ((codes "M140 S" ++ decimal degrees) ∷ []) k is
    cool_request (request.Lines texts) = by-found (commands_in texts) _ _ (λ commands. by-manual commands k is)
    cool_request (request.Move texts) = by-test _ _ _ (by-found (commands_in texts) _ _ (λ commands. by-manual commands k is))
    cool_request request.GetJob = gives-cool _
    cool_request request.Start = by-desk _ _ (by-test _ _ _ (writes-cool answer.Accepted _ (tt, tt)))
    cool_request request.Cancel = by-desk _ _ (by-call Cancel k tt)
    cool_request request.Restart = by-desk _ _ (by-test _ _ _ (writes-cool answer.Accepted (restart_deed user.name k) (tt, tt)))
    cool_request request.Pause = by-desk _ _ (by-call Pause k tt)
    cool_request request.Resume = by-desk _ _ (by-call Resume k tt)
    cool_request request.Toggle = by-desk _ _ (by-call Toggle k tt)
    cool_request request.ListFiles = reads-cool _ (gives-cool _)
    cool_request (request.GetFile name) = by-test _ _ _ (reads-cool _ (by-found (bytes_of name files) _ _ (λ bytes. gives-cool _)))
    cool_request (request.PutFile name bytes select print) = by-job (job_of bytes) _ (λ job. by-store bytes select print (named_file name job))
    cool_request (request.SelectFile name print) = by-test _ _ _ (by-select print user.name name files k)
    cool_request (request.DeleteFile name) = by-test _ _ _ (by-desk _ _ (removes-cool name answer.Accepted _ (tt, tt)))
    cool_request (request.Download name) = by-test _ _ _ (reads-cool _ (by-found (bytes_of name files) _ _ (λ bytes. gives-cool _)))
    cool_request request.ListUsers = gives-cool _
    cool_request (request.PutUser name key groups active) = by-users _ _ (writes-cool _ _ tt)
    cool_request (request.ChangeUser name key groups active) = by-users _ _ (writes-cool _ _ tt)
    cool_request request.ListQueue = gives-cool _
    cool_request (request.PutEntry name file priority copies material) = by-test _ _ _ (by-put _ k)
    cool_request (request.DropOwn name) = by-found _ _ _ (λ entry. writes-cool answer.Accepted _ tt)
    cool_request (request.DropOther owner name) = by-found _ _ _ (λ entry. writes-cool answer.Accepted _ tt)
    cool_request request.NextEntry = by-test _ _ _ (by-found _ _ _ by-take)
    cool_request request.ListPrints = gives-cool _
    cool_request request.Backup = writes-cool answer.Accepted _ tt
    cool_request request.Shutdown = by-test _ _ _ (gives-cool _)
    cool_request request.Leave = gives-cool _
    cool_request request.AutoConnect = gives-cool _

  by-allowed : (o : Option Permission) (v : Verdict) → CoolVerdict v → CoolVerdict (unless_lacking o v)
  by-allowed None v p = p
  by-allowed (Some permission) v p = gives-cool _

  by-permitted : (o : Option UserRow) (ps : List Permission) (k : Known) (next : UserRow → Verdict) → ((user : UserRow) → CoolVerdict (next user))
      → CoolVerdict (verdict_of_caller o ps k next)
  by-permitted None ps k next p = gives-cool _
  by-permitted (Some user) ps k next p = by-allowed (lacking k user ps) (next user) (p user)

  -- every ask's verdict
  pub asks_cool : (ps : List Permission) (key : List ℕ) (asked : Request) (files : List ShelfFile) (k : Known) → k.desk.limits ≡ limits
      → CoolVerdict (verdict_by ps key asked files k)
  asks_cool [] key asked files k is = cool_free key asked k
  asks_cool (p ∷ ps) key asked files k is = by-permitted (caller k.policy k.users key) (p ∷ ps) k _ (λ user. cool_request user files k is asked)
