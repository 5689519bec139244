-- The deeds of every verdict keep the numbers of prints in order, and pull nothing.
use Rattle.std.proofs.Common.{◌≡◌, ℕ, Bool, true, false, cond, codes, decimal, List, [], ◌∷◌, ◌++◌, Option, None, Some, Result, Ok, Err, refl}
use Rattle.gcode_lines.specs.Commands.{job_of}
use Rattle.gcode_lines.specs.Job.{JobData}
use Rattle.gcode_lines.specs.declared.fault.FileFault.{FileFault}
use Rattle.temp_rules.specs.declared.limits.TooHot.{TooHot}
use Rattle.octo_access.specs.Rights.{caller}
use Rattle.octo_access.specs.declared.permission.Permission.{Permission}
use Rattle.octo_access.specs.declared.refusal.UserRefusal.{UserRefusal}
use Rattle.octo_access.specs.declared.row.UserRow.{UserRow}
use Rattle.octo_keeper.specs.Files.{bytes_of}
use Rattle.octo_keeper.specs.declared.shelf.ShelfFile.{ShelfFile}
use Rattle.print_queue.specs.declared.entry.QueueEntry.{QueueEntry}
use Rattle.print_queue.specs.declared.refusal.Put.{Put}
use Rattle.print_queue.specs.declared.refusal.QueueRefusal.{QueueRefusal}
use Rattle.job_desk.specs.Data.{File, named_file}
use Rattle.job_desk.specs.Run.{Connect, Disconnect, Select, DropFile, Pause, Resume, Toggle, Cancel, Manually}
use Rattle.job_desk.specs.Table.{connect_at, restart_at, drop_file_step, select_at}
use Rattle.job_desk.specs.declared.state.Refusal.{Refusal}
use Rattle.job_desk.proofs.Steady.{steady-connect, steady-disconnect, steady-select, steady-drop_file, steady-pause, steady-resume, steady-toggle, steady-cancel, steady-manual}
use Rattle.print_queue.specs.Rows.{insert_row, without_copy}
use Rattle.octo_asks.specs.Shown.{shown_entry}
use Rattle.octo_asks.specs.declared.answer.PrintRefusal.{PrintRefusal}
use Rattle.octo_asks.specs.declared.answer.Answer.{Answer}
use Rattle.octo_asks.specs.declared.answer.Answer.TheVariants as answer
use Rattle.octo_asks.specs.declared.request.Request.{Request}
use Rattle.octo_asks.specs.declared.request.Request.TheVariants as request
use Rattle.octo_house_rules.specs.Known.{Known, next_print_number}
use Rattle.octo_house_rules.specs.Refusals.{answer_of_refusal, answer_of_user_refusal, answer_of_queue_refusal, refused_if, if_desk_allows, if_users_allow, unless_too_hot, found_or, read_as}
use Rattle.octo_house_rules.specs.Prints.{port_for, connect_verdict, commands_in, manual_verdict, restart_deed}
use Rattle.octo_house_rules.specs.Rows.{with_queue, put_by}
use Rattle.octo_house_rules.specs.Uploads.{read_file, print_verdict, select_by, store_deed, after_storing, is_selected, is_printed, refusal_of, unprinted, store_verdict, take_verdict}
use Rattle.octo_house_rules.specs.Verdict.{Verdict, Deed, at_desk, gives, writes, known_after}
use Rattle.octo_house_rules.specs.Answers.{request_verdict, free_verdict, unless_lacking, verdict_of_caller, lacking, verdict_by}
use Rattle.octo_house_rules.proofs.Played.{IsNumbered, Played, Plays, gives-one, makes-one, writes-one, reads-one, removes-one, stores-one, begins-one, played_none, played_start, played_select_start, played_restart, played_call, stays_numbered}

module _ (k : Known) where
  by-test : (is : Bool) (a : Answer) (v : Verdict) → Plays v k → Plays (refused_if is a v) k
  by-test true a v p = gives-one a k
  by-test false a v p = p

  by-desk : {A : Type 0} (r : Result A Refusal) (v : Verdict) → Plays v k → Plays (if_desk_allows r v) k
  by-desk (Ok a) v p = p
  by-desk (Err r) v p = gives-one (answer_of_refusal r) k

  -- the same with what the desk answered
  by-answer : {A : Type 0} (r : Result A Refusal) (v : Verdict) → ((a : A) → r ≡ Ok a → Plays v k) → Plays (if_desk_allows r v) k
  by-answer (Ok a) v p = p a refl
  by-answer (Err r) v p = gives-one (answer_of_refusal r) k

  by-users : (o : Option UserRefusal) (v : Verdict) → Plays v k → Plays (if_users_allow o v) k
  by-users None v p = p
  by-users (Some r) v p = gives-one (answer_of_user_refusal r) k

  by-heat : (o : Option TooHot) (v : Verdict) → Plays v k → Plays (unless_too_hot o v) k
  by-heat None v p = p
  by-heat (Some hot) v p = gives-one (answer.TooHot hot.asked hot.limit) k

  by-found : {A : Type 0} (o : Option A) (a : Answer) (next : A → Verdict) → ((y : A) → Plays (next y) k) → Plays (found_or o a next) k
  by-found None a next p = gives-one a k
  by-found (Some y) a next p = p y

  by-job : (r : Result JobData FileFault) (next : JobData → Verdict) → ((job : JobData) → Plays (next job) k) → Plays (read_as r next) k
  by-job (Ok job) next p = p job
  by-job (Err fault) next p = gives-one (answer.BadFile fault) k

  by-fresh : (fresh : Bool) (a : Answer) (d : Deed) → Played d k → Plays (cond fresh (writes a d) (gives a)) k
  by-fresh true a d p = writes-one a d k p
  by-fresh false a d p = gives-one a k

  by-file : (name : List ℕ) (files : List ShelfFile) (next : File → Verdict) → ((file : File) → Plays (next file) k) → Plays (read_file name files next) k
  by-file name files next p = reads-one _ k (by-found (bytes_of name files) answer.NoFile _ (λ bytes. by-job (job_of bytes) _ (λ job. p (named_file name job))))

  module _ (n : IsNumbered k) where
    by-put : (r : Result Put QueueRefusal) → Plays (put_by r k) k
    by-put (Ok put) = by-fresh put.fresh (answer.OneEntry (shown_entry put.entry)) (with_queue (insert_row put.entry k.queue) k) (played_none _ k refl refl n)
    by-put (Err r) = gives-one (answer_of_queue_refusal r) k

    by-manual : (texts : List (List ℕ)) → Plays (manual_verdict texts k) k
    by-manual texts = by-heat _ _ (by-desk _ _ (makes-one answer.Accepted _ k (played_call (Manually texts) _ k refl refl refl (λ ends. refl) (tt, tt) (steady-manual k.desk.state texts k.desk) n)))

    by-print : (a : Answer) (user : List ℕ) (queue : List QueueEntry) (file : File) → Plays (print_verdict a user queue k file) k
    by-print a user queue file = by-desk _ _ (by-test _ _ _ (writes-one a _ k (played_select_start user file k n _ refl refl)))

    by-select : (print : Bool) (user name : List ℕ) (files : List ShelfFile) → Plays (select_by print user name files k) k
    by-select false user name files = by-test _ _ _ (by-file name files _ (λ file. makes-one answer.Accepted (at_desk (Select file ∷ []) k) k (played_call (Select file) (at_desk (Select file ∷ []) k) k refl refl refl (λ ends. refl) (tt, tt) (steady-select k.desk.state file k.desk) n)))
    by-select true user name files = by-test _ _ _ (by-file name files _ (λ file. by-print answer.Accepted user k.queue file))

    stored-played : (select : Bool) (file : File) → Played (store_deed select file k) k
    stored-played false file = played_call (DropFile file.name) _ k refl refl refl (λ ends. refl) (tt, tt) (steady-drop_file file.name k.desk) n
    stored-played true file = record {
      silent = refl;
      may = (tt, (tt, tt));
      numbered =
          let dropped = (drop_file_step file.name k.desk).1 in
          stays_numbered dropped (select_at dropped.state file dropped).1 k.prints (steady-select dropped.state file dropped) (stays_numbered k.desk dropped k.prints (steady-drop_file file.name k.desk) n);
      told = λ before ends t. t;
    }

-- the verdict of a connection
connects : (k : Known) → IsNumbered k → (port : Option (List ℕ)) → Plays (connect_verdict port k) k
connects k n port = by-found k (port_for port k.ports) _ _ (λ p. by-desk k (connect_at k.desk.state p k.desk).0 _ (makes-one answer.Accepted (at_desk (Connect p ∷ []) k) k (played_call (Connect p) (at_desk (Connect p ∷ []) k) k refl refl refl (λ ends. refl) (tt, tt) (steady-connect k.desk.state p k.desk) n)))

by-storing : (select print : Bool) (why : Option PrintRefusal) (user : List ℕ) (file : File) (k : Known) → IsNumbered k → Plays (after_storing select print why user file k) k
by-storing false print why user file k n = gives-one (unprinted file.name false why) k
by-storing true false why user file k n = gives-one (unprinted file.name true why) k
by-storing true true why user file k n = begins-one (answer.Uploaded file.name true true) _ file.name k (played_start user (Some file) k n)

module _ (user : UserRow) (files : List ShelfFile) (k : Known) (n : IsNumbered k) where
  by-store : (bytes : List ℕ) (select print : Bool) (file : File) → Plays (store_verdict user bytes select print k file) k
  by-store bytes select print file =
      let played = stored-played k n (is_selected user select print k) file in
      by-desk k _ _ (by-test k _ _ _ (stores-one file.name bytes (store_deed (is_selected user select print k) file k) _ k played (by-storing (is_selected user select print k) (is_printed user print file k) (refusal_of user select print file k) user.name file (known_after (store_deed (is_selected user select print k) file k) k) played.numbered)))

  by-take : (entry : QueueEntry) → Plays (take_verdict files k entry) k
  by-take entry = by-test k _ _ _ (by-file k entry.file files _ (λ file. by-print k n (answer.TakenEntry (shown_entry entry)) entry.user (without_copy entry.user entry.name k.queue) file))

  -- every request's verdict
  plays : (asked : Request) → Plays (request_verdict asked user files k) k
  plays request.Version = gives-one _ k
  plays request.Caller = gives-one _ k
  plays request.GetConnection = gives-one _ k
  plays (request.Connect port) = connects k n port
  plays request.Disconnect = makes-one answer.Accepted _ k (played_call Disconnect _ k refl refl refl (λ ends. refl) (tt, tt) (steady-disconnect k.desk.state k.desk) n)
  plays request.GetPrinter = by-test k _ _ _ (gives-one _ k)
  plays request.GetLimits = gives-one _ k
  plays (request.HeatTool degrees) = by-manual k n ((codes "M104 S" ++ decimal degrees) ∷ [])
  plays (request.HeatBed degrees) = by-manual k n ((codes "M140 S" ++ decimal degrees) ∷ [])
  plays (request.Lines texts) = by-found k (commands_in texts) _ _ (λ commands. by-manual k n commands)
  plays (request.Move texts) = by-test k _ _ _ (by-found k (commands_in texts) _ _ (λ commands. by-manual k n commands))
  plays request.GetJob = gives-one _ k
  plays request.Start = by-desk k _ _ (by-test k _ _ _ (writes-one answer.Accepted _ k (played_start user.name k.desk.file k n)))
  plays request.Cancel = by-desk k _ _ (makes-one answer.Accepted _ k (played_call Cancel _ k refl refl refl (λ ends. refl) (tt, tt) (steady-cancel k.desk.state k.desk) n))
  plays request.Restart = by-answer k (restart_at k.desk.state (next_print_number k) k.desk).0 _ (λ former allowed. by-test k _ _ _ (writes-one answer.Accepted (restart_deed user.name k) k (played_restart user.name former k n allowed)))
  plays request.Pause = by-desk k _ _ (makes-one answer.Accepted _ k (played_call Pause _ k refl refl refl (λ ends. refl) (tt, tt) (steady-pause k.desk.state k.desk) n))
  plays request.Resume = by-desk k _ _ (makes-one answer.Accepted _ k (played_call Resume _ k refl refl refl (λ ends. refl) (tt, tt) (steady-resume k.desk.state k.desk) n))
  plays request.Toggle = by-desk k _ _ (makes-one answer.Accepted _ k (played_call Toggle _ k refl refl refl (λ ends. refl) (tt, tt) (steady-toggle k.desk.state k.desk) n))
  plays request.ListFiles = reads-one _ k (gives-one _ k)
  plays (request.GetFile name) = by-test k _ _ _ (reads-one _ k (by-found k (bytes_of name files) _ _ (λ bytes. gives-one _ k)))
  plays (request.PutFile name bytes select print) = by-job k _ _ (λ job. by-store bytes select print (named_file name job))
  plays (request.SelectFile name print) = by-test k _ _ _ (by-select k n print user.name name files)
  plays (request.DeleteFile name) = by-test k _ _ _ (by-desk k _ _ (removes-one name answer.Accepted _ k (played_call (DropFile name) _ k refl refl refl (λ ends. refl) (tt, tt) (steady-drop_file name k.desk) n)))
  plays (request.Download name) = by-test k _ _ _ (reads-one _ k (by-found k (bytes_of name files) _ _ (λ bytes. gives-one _ k)))
  plays request.ListUsers = gives-one _ k
  plays (request.PutUser name key groups active) = by-users k _ _ (writes-one _ _ k (played_none _ k refl refl n))
  plays (request.ChangeUser name key groups active) = by-users k _ _ (writes-one _ _ k (played_none _ k refl refl n))
  plays request.ListQueue = gives-one _ k
  plays (request.PutEntry name file priority copies material) = by-test k _ _ _ (by-put k n _)
  plays (request.DropOwn name) = by-found k _ _ _ (λ entry. writes-one answer.Accepted _ k (played_none _ k refl refl n))
  plays (request.DropOther owner name) = by-found k _ _ _ (λ entry. writes-one answer.Accepted _ k (played_none _ k refl refl n))
  plays request.NextEntry = by-test k _ _ _ (by-found k _ _ _ by-take)
  plays request.ListPrints = gives-one _ k
  plays request.Backup = writes-one answer.Accepted _ k (played_none _ k refl refl n)
  plays request.Shutdown = by-test k _ _ _ (gives-one _ k)
  plays request.Leave = gives-one _ k
  plays request.AutoConnect = gives-one _ k

-- the verdict of a request that needs no permission
frees : (key : List ℕ) (asked : Request) (k : Known) → IsNumbered k → Plays (free_verdict key asked k) k
frees key request.AutoConnect k n = connects k n None
frees key _ k n = gives-one _ k

by-allowed : (o : Option Permission) (v : Verdict) (k : Known) → Plays v k → Plays (unless_lacking o v) k
by-allowed None v k p = p
by-allowed (Some permission) v k p = gives-one _ k

by-permitted : (o : Option UserRow) (ps : List Permission) (k : Known) (next : UserRow → Verdict) → ((user : UserRow) → Plays (next user) k) → Plays (verdict_of_caller o ps k next) k
by-permitted None ps k next p = gives-one _ k
by-permitted (Some user) ps k next p = by-allowed (lacking k user ps) (next user) k (p user)

-- every ask's verdict
pub asks_play : (ps : List Permission) (key : List ℕ) (asked : Request) (files : List ShelfFile) (k : Known) → IsNumbered k → Plays (verdict_by ps key asked files k) k
asks_play [] key asked files k n = frees key asked k n
asks_play (p ∷ ps) key asked files k n = by-permitted (caller k.policy k.users key) (p ∷ ps) k _ (λ user. plays user files k n asked)
