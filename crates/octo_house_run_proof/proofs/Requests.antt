-- The calls of every verdict are requests: none pulls a line or notes what the link found. Each file that they select is on the
-- shelf then, and a print begins only by the last of them.
use Rattle.std.proofs.Common.{◌≡◌, ◌⊎◌, inl, inr, ℕ, Bool, true, false, not, cond, codes, decimal, List, [], ◌∷◌, ◌++◌, take, drop, filter, find, Option, None, Some, option_map, Result, Ok, Err, refl, sym, ◌∙◌, ap}
use Rattle.std.specs.List.{prefix_len}
use Rattle.std.specs.Option.{option_or}
use Rattle.std.proofs.lemmas.List.{take-append-drop}
use Rattle.std.proofs.lemmas.List.Folds.{find-append}
use Rattle.std.proofs.lemmas.Slice.Eq.{bytes_eq-Decides}
use Rattle.gcode_lines.specs.Commands.{job_of}
use Rattle.gcode_lines.specs.Job.{JobData}
use Rattle.gcode_lines.specs.declared.fault.FileFault.{FileFault}
use Rattle.temp_rules.specs.declared.limits.TooHot.{TooHot}
use Rattle.octo_access.specs.Rights.{caller}
use Rattle.octo_access.specs.declared.permission.Permission.{Permission}
use Rattle.octo_access.specs.declared.refusal.UserRefusal.{UserRefusal}
use Rattle.octo_access.specs.declared.row.UserRow.{UserRow}
use Rattle.octo_keeper.specs.Files.{is_file, bytes_of, without_file, with_file}
use Rattle.octo_keeper.specs.declared.shelf.ShelfFile.{ShelfFile}
use Rattle.print_queue.specs.declared.entry.QueueEntry.{QueueEntry}
use Rattle.print_queue.specs.declared.refusal.Put.{Put}
use Rattle.print_queue.specs.declared.refusal.QueueRefusal.{QueueRefusal}
use Rattle.job_desk.specs.Data.{File, named_file}
use Rattle.job_desk.specs.Table.{connect_at, restart_at}
use Rattle.job_desk.specs.declared.state.Refusal.{Refusal}
use Rattle.print_queue.specs.Rows.{insert_row, without_copy}
use Rattle.octo_asks.specs.Shown.{shown_entry}
use Rattle.octo_asks.specs.declared.answer.PrintRefusal.{PrintRefusal}
use Rattle.octo_asks.specs.declared.answer.Answer.{Answer}
use Rattle.octo_asks.specs.declared.answer.Answer.TheVariants as answer
use Rattle.octo_asks.specs.declared.request.Request.{Request}
use Rattle.octo_asks.specs.declared.request.Request.TheVariants as request
use Rattle.octo_house_rules.specs.Known.{Known, next_print_number}
use Rattle.octo_house_rules.specs.Refusals.{answer_of_refusal, answer_of_user_refusal, answer_of_queue_refusal, refused_if, if_desk_allows, if_users_allow, unless_too_hot, found_or, read_as}
use Rattle.octo_house_rules.specs.Prints.{port_for, connect_verdict, commands_in, manual_verdict, restart_deed}
use Rattle.octo_house_rules.specs.Rows.{with_queue, put_by}
use Rattle.octo_house_rules.specs.Uploads.{read_file, print_verdict, select_by, store_deed, after_storing, is_selected, is_printed, refusal_of, unprinted, store_verdict, take_verdict}
use Rattle.octo_house_rules.specs.Verdict.{Verdict, Deed, at_desk, gives, makes, writes, reads, removes, stores, begins, known_after, is_fault, is_stored, calls_in, calls_after, files_in, files_after}
use Rattle.job_desk.specs.Run.{DeskCall, Connect, Select, Start, Restart}
use Rattle.octo_house_rules.specs.Selected.{IsOnShelf}
use Rattle.octo_house_run_proof.proofs.Marks.{IsRequest}
use Rattle.octo_house_rules.specs.Answers.{request_verdict, free_verdict, unless_lacking, verdict_of_caller, lacking, verdict_by}
use Rattle.octo_access.specs.Rows.{is_before}
use Rattle.byte_text.proofs.OptionLaws.{first-none}

-- calls that are requests
abbrev pub AreRequests : List DeskCall → Type 0
AreRequests [] = Unit {0}
AreRequests (call ∷ calls) = IsRequest call × AreRequests calls

-- whether a call begins a print
abbrev pub is_start : DeskCall → Bool
is_start (Start q) = true
is_start (Restart q) = true
is_start _ = false

-- a file that is selected is one of the shelf's
abbrev pub IsOfShelf : List ShelfFile → DeskCall → Type 0
IsOfShelf files (Select file) = IsOnShelf files file
IsOfShelf files _ = Unit {0}

-- calls of a verdict after which the shelf has these files
abbrev pub AreMade : List ShelfFile → List DeskCall → Type 0
AreMade files [] = Unit {0}
AreMade files (call ∷ calls) = (IsRequest call × IsOfShelf files call × ((is_start call ≡ false) ⊎ (calls ≡ []))) × AreMade files calls

-- none of them begins a print
abbrev AreNoStarts : List DeskCall → Type 0
AreNoStarts [] = Unit {0}
AreNoStarts (call ∷ calls) = (is_start call ≡ false) × AreNoStarts calls

made_append : (files : List ShelfFile) (calls more : List DeskCall) → AreNoStarts calls → AreMade files calls → AreMade files more → AreMade files (calls ++ more)
made_append files [] more none first second = second
made_append files (call ∷ calls) more none first second = ((first.0.0, first.0.1, inl none.0), made_append files calls more none.1 first.1 second)

-- the deeds of a verdict make only such calls
data Asks : List ShelfFile → Verdict → Type 0 where
  gives-one : {files : List ShelfFile} (a : Answer) → Asks files (gives a)
  makes-one : {files : List ShelfFile} (a : Answer) (deed : Deed) → AreMade files deed.calls → Asks files (makes a deed)
  writes-one : {files : List ShelfFile} (a : Answer) (deed : Deed) → AreMade files deed.calls → Asks files (writes a deed)
  reads-one : {files : List ShelfFile} (v : Verdict) → Asks files v → Asks files (reads v)
  removes-one : {files : List ShelfFile} (name : List ℕ) (a : Answer) (deed : Deed) → AreMade (without_file name files) deed.calls → Asks files (removes name a deed)
  stores-one : {files : List ShelfFile} (name bytes : List ℕ) (deed : Deed) (v : Verdict) → AreNoStarts deed.calls → AreMade (files_in v (with_file name bytes files)) deed.calls →
      Asks (with_file name bytes files) v → Asks files (stores name bytes deed v)
  begins-one : {files : List ShelfFile} (a : Answer) (deed : Deed) (name : List ℕ) → AreMade files deed.calls → Asks files (begins a deed name)

begun_made : (files : List ShelfFile) (stored : Bool) (calls : List DeskCall) → AreMade files calls → AreMade files (cond stored [] calls)
begun_made files true calls r = tt
begun_made files false calls r = r

made_in : (files : List ShelfFile) (v : Verdict) (x : Answer) → Asks files v → AreMade (files_in v files) (calls_in v x)
made_in files _ x (gives-one a) = tt
made_in files _ x (makes-one a deed r) = r
made_in files _ x (writes-one a deed r) = r
made_in files _ x (reads-one v p) = made_in files v x p
made_in files _ x (removes-one name a deed r) = r
made_in files _ x (stores-one name bytes deed v none r p) =
    made_append (files_in v (with_file name bytes files)) deed.calls (calls_in v x) none r (made_in (with_file name bytes files) v x p)
made_in files _ x (begins-one a deed name r) = begun_made files (is_stored x) deed.calls r

made_after : (fault : Bool) (v : Verdict) (x : Answer) (files : List ShelfFile) → Asks files v →
    AreMade (cond fault files (files_in v files)) (cond fault [] (calls_in v x))
made_after true v x files p = tt
made_after false v x files p = made_in files v x p

none_filtered : {X : Type 0} (p : X → Bool) (xs : List X) → find p (filter (λ x. not (p x)) xs) ≡ None
none_filtered p [] = refl
none_filtered p (x ∷ xs) = by (p x) refl (none_filtered p xs)
  where
    by : (b : Bool) → p x ≡ b → find p (filter (λ y. not (p y)) xs) ≡ None → find p (filter (λ y. not (p y)) (x ∷ xs)) ≡ None
    by true is rest = ap (λ b. find p (cond (not b) (x ∷ filter (λ y. not (p y)) xs) (filter (λ y. not (p y)) xs))) is ∙ rest
    by false is rest =
        ap (λ b. find p (cond (not b) (x ∷ filter (λ y. not (p y)) xs) (filter (λ y. not (p y)) xs))) is
        ∙ ap (λ b. cond b (Some x) (find p (filter (λ y. not (p y)) xs))) is ∙ rest

stored_bytes : (name bytes : List ℕ) (files : List ShelfFile) → bytes_of name (with_file name bytes files) ≡ Some bytes
stored_bytes name bytes files =
    let file : ShelfFile = record { name = name; bytes = bytes } in
    let others : List ShelfFile = without_file name files in
    let place : ℕ = prefix_len (λ (other : ShelfFile). is_before other.name name) others in
    let split : find (is_file name) (take place others ++ drop place others) ≡ None =
    ap (λ (fs : List ShelfFile). find (is_file name) fs) (take-append-drop place others) ∙ none_filtered (is_file name) files in
    let before : find (is_file name) (take place others) ≡ None =
    first-none _ (find (is_file name) (drop place others)) (sym (find-append (is_file name) (take place others) (drop place others)) ∙ split) in
    let own : is_file name file ≡ true = (bytes_eq-Decides name name).1 refl in
    ap (λ (o : Option ShelfFile). option_map (λ (f : ShelfFile). f.bytes) o)
    (find-append (is_file name) (take place others) (file ∷ drop place others)
    ∙ ap (λ (o : Option ShelfFile). option_or o (find (is_file name) (file ∷ drop place others))) before
    ∙ ap (λ b. cond b (Some file) (find (is_file name) (drop place others))) own)

module _ (files : List ShelfFile) (k : Known) where
  by-test : (is : Bool) (a : Answer) (v : Verdict) → Asks files v → Asks files (refused_if is a v)
  by-test true a v p = gives-one a
  by-test false a v p = p

  by-desk : {A : Type 0} (r : Result A Refusal) (v : Verdict) → Asks files v → Asks files (if_desk_allows r v)
  by-desk (Ok a) v p = p
  by-desk (Err r) v p = gives-one (answer_of_refusal r)

  -- the same with what the desk answered
  by-answer : {A : Type 0} (r : Result A Refusal) (v : Verdict) → ((a : A) → r ≡ Ok a → Asks files v) → Asks files (if_desk_allows r v)
  by-answer (Ok a) v p = p a refl
  by-answer (Err r) v p = gives-one (answer_of_refusal r)

  by-users : (o : Option UserRefusal) (v : Verdict) → Asks files v → Asks files (if_users_allow o v)
  by-users None v p = p
  by-users (Some r) v p = gives-one (answer_of_user_refusal r)

  by-heat : (o : Option TooHot) (v : Verdict) → Asks files v → Asks files (unless_too_hot o v)
  by-heat None v p = p
  by-heat (Some hot) v p = gives-one (answer.TooHot hot.asked hot.limit)

  by-found : {A : Type 0} (o : Option A) (a : Answer) (next : A → Verdict) → ((y : A) → Asks files (next y)) → Asks files (found_or o a next)
  by-found None a next p = gives-one a
  by-found (Some y) a next p = p y

  -- the same with what was found
  by-seen : {A : Type 0} (o : Option A) (a : Answer) (next : A → Verdict) → ((y : A) → o ≡ Some y → Asks files (next y)) → Asks files (found_or o a next)
  by-seen None a next p = gives-one a
  by-seen (Some y) a next p = p y refl

  by-job : (r : Result JobData FileFault) (next : JobData → Verdict) → ((job : JobData) → r ≡ Ok job → Asks files (next job)) → Asks files (read_as r next)
  by-job (Ok job) next p = p job refl
  by-job (Err fault) next p = gives-one (answer.BadFile fault)

  by-fresh : (fresh : Bool) (a : Answer) (d : Deed) → AreMade files d.calls → Asks files (cond fresh (writes a d) (gives a))
  by-fresh true a d p = writes-one a d p
  by-fresh false a d p = gives-one a

  by-file : (name : List ℕ) (next : File → Verdict) → ((file : File) → IsOnShelf files file → Asks files (next file)) → Asks files (read_file name files next)
  by-file name next p =
      reads-one _ (by-seen (bytes_of name files) answer.NoFile _ (λ bytes held. by-job (job_of bytes) _
      (λ job read. p (named_file name job) (record { bytes = bytes; held = held; read = read }))))

  by-put : (r : Result Put QueueRefusal) → Asks files (put_by r k)
  by-put (Ok put) = by-fresh put.fresh (answer.OneEntry (shown_entry put.entry)) (with_queue (insert_row put.entry k.queue) k) tt
  by-put (Err r) = gives-one (answer_of_queue_refusal r)

  by-manual : (texts : List (List ℕ)) → Asks files (manual_verdict texts k)
  by-manual texts = by-heat _ _ (by-desk _ _ (makes-one answer.Accepted _ ((tt, tt, inl refl), tt)))

  by-print : (a : Answer) (user : List ℕ) (queue : List QueueEntry) (file : File) → IsOnShelf files file → Asks files (print_verdict a user queue k file)
  by-print a user queue file on = by-desk _ _ (by-test _ _ _ (writes-one a _ ((tt, on, inl refl), ((tt, tt, inr refl), tt))))

  by-select : (print : Bool) (user name : List ℕ) → Asks files (select_by print user name files k)
  by-select false user name =
      by-test _ _ _ (by-file name _ (λ file on. makes-one answer.Accepted (at_desk (Select file ∷ []) k) ((tt, on, inl refl), tt)))
  by-select true user name = by-test _ _ _ (by-file name _ (λ file on. by-print answer.Accepted user k.queue file on))

  -- a file was stored, and is on the shelf
  stored-none : (select : Bool) (file : File) → AreNoStarts (store_deed select file k).calls
  stored-none false file = (refl, tt)
  stored-none true file = (refl, (refl, tt))

  stored-made : (select print : Bool) (why : Option PrintRefusal) (user : List ℕ) (file : File) (next : Known) → IsOnShelf files file →
      AreMade (files_in (after_storing select print why user file next) files) (store_deed select file k).calls
  stored-made false print why user file next on = ((tt, tt, inl refl), tt)
  stored-made true false why user file next on = ((tt, tt, inl refl), ((tt, on, inl refl), tt))
  stored-made true true why user file next on = ((tt, tt, inl refl), ((tt, on, inl refl), tt))

by-storing : (files : List ShelfFile) (select print : Bool) (why : Option PrintRefusal) (user : List ℕ) (file : File) (k : Known) → Asks files (after_storing select print why user file k)
by-storing files false print why user file k = gives-one (unprinted file.name false why)
by-storing files true false why user file k = gives-one (unprinted file.name true why)
by-storing files true true why user file k = begins-one (answer.Uploaded file.name true true) _ file.name ((tt, tt, inr refl), tt)

connects : (files : List ShelfFile) (k : Known) (port : Option (List ℕ)) → Asks files (connect_verdict port k)
connects files k port =
    by-found files k (port_for port k.ports) _ _
    (λ p. by-desk files k (connect_at k.desk.state p k.desk).0 _ (makes-one answer.Accepted (at_desk (Connect p ∷ []) k) ((tt, tt, inl refl), tt)))

module _ (user : UserRow) (files : List ShelfFile) (k : Known) where
  by-store : (bytes : List ℕ) (select print : Bool) (file : File) → job_of bytes ≡ Ok file.job → Asks files (store_verdict user bytes select print k file)
  by-store bytes select print file read =
      let selects : Bool = is_selected user select print k in
      let prints : Bool = is_printed user print file k in
      let next : Known = known_after (store_deed selects file k) k in
      let held : List ShelfFile = with_file file.name bytes files in
      let why : Option PrintRefusal = refusal_of user select print file k in
      by-desk files k _ _ (by-test files k _ _ _
      (stores-one file.name bytes (store_deed selects file k) _ (stored-none held k selects file)
      (stored-made held k selects prints why user.name file next (record { bytes = bytes; held = stored_bytes file.name bytes files; read = read }))
      (by-storing held selects prints why user.name file next)))

  by-take : (entry : QueueEntry) → Asks files (take_verdict files k entry)
  by-take entry = by-test files k _ _ _
      (by-file files k entry.file _ (λ file on. by-print files k (answer.TakenEntry (shown_entry entry)) entry.user
      (without_copy entry.user entry.name k.queue) file on))

  -- every request's verdict
  plays : (asked : Request) → Asks files (request_verdict asked user files k)
  plays request.Version = gives-one _
  plays request.GetConnection = gives-one _
  plays (request.Connect port) = connects files k port
  plays request.Disconnect = makes-one answer.Accepted _ ((tt, tt, inl refl), tt)
  plays request.GetPrinter = by-test files k _ _ _ (gives-one _)
  plays (request.HeatTool degrees) = by-manual files k ((codes "M104 S" ++ decimal degrees) ∷ [])
  plays (request.HeatBed degrees) = by-manual files k ((codes "M140 S" ++ decimal degrees) ∷ [])
  plays (request.Lines texts) = by-found files k (commands_in texts) _ _ (λ commands. by-manual files k commands)
  plays (request.Move texts) = by-test files k _ _ _ (by-found files k (commands_in texts) _ _ (λ commands. by-manual files k commands))
  plays request.GetJob = gives-one _
  plays request.Start = by-desk files k _ _ (by-test files k _ _ _ (writes-one answer.Accepted _ ((tt, tt, inr refl), tt)))
  plays request.Cancel = by-desk files k _ _ (makes-one answer.Accepted _ ((tt, tt, inl refl), tt))
  plays request.Restart =
      by-answer files k (restart_at k.desk.state (next_print_number k) k.desk).0 _
      (λ former allowed. by-test files k _ _ _ (writes-one answer.Accepted (restart_deed user.name k) ((tt, tt, inr refl), tt)))
  plays request.Pause = by-desk files k _ _ (makes-one answer.Accepted _ ((tt, tt, inl refl), tt))
  plays request.Resume = by-desk files k _ _ (makes-one answer.Accepted _ ((tt, tt, inl refl), tt))
  plays request.Toggle = by-desk files k _ _ (makes-one answer.Accepted _ ((tt, tt, inl refl), tt))
  plays request.ListFiles = reads-one _ (gives-one _)
  plays (request.GetFile name) = by-test files k _ _ _ (reads-one _ (by-found files k (bytes_of name files) _ _ (λ bytes. gives-one _)))
  plays (request.PutFile name bytes select print) = by-job files k _ _ (λ job read. by-store bytes select print (named_file name job) read)
  plays (request.SelectFile name print) = by-test files k _ _ _ (by-select files k print user.name name)
  plays (request.DeleteFile name) = by-test files k _ _ _ (by-desk files k _ _ (removes-one name answer.Accepted _ ((tt, tt, inl refl), tt)))
  plays (request.Download name) = by-test files k _ _ _ (reads-one _ (by-found files k (bytes_of name files) _ _ (λ bytes. gives-one _)))
  plays (request.PutUser name key groups active) = by-users files k _ _ (writes-one _ _ tt)
  plays (request.ChangeUser name key groups active) = by-users files k _ _ (writes-one _ _ tt)
  plays (request.PutEntry name file priority copies material) = by-test files k _ _ _ (by-put files k _)
  plays (request.DropOwn name) = by-found files k _ _ _ (λ entry. writes-one answer.Accepted _ tt)
  plays (request.DropOther owner name) = by-found files k _ _ _ (λ entry. writes-one answer.Accepted _ tt)
  plays request.NextEntry = by-test files k _ _ _ (by-found files k _ _ _ by-take)
  plays request.Backup = writes-one answer.Accepted _ tt
  plays request.Shutdown = by-test files k _ _ _ (gives-one _)
  plays _ = gives-one _

-- the verdict of a request that needs no permission
frees : (files : List ShelfFile) (key : List ℕ) (asked : Request) (k : Known) → Asks files (free_verdict key asked k)
frees files key request.AutoConnect k = connects files k None
frees files key _ k = gives-one _

by-allowed : (files : List ShelfFile) (o : Option Permission) (v : Verdict) → Asks files v → Asks files (unless_lacking o v)
by-allowed files None v p = p
by-allowed files (Some permission) v p = gives-one _

by-permitted : (files : List ShelfFile) (o : Option UserRow) (ps : List Permission) (k : Known) (next : UserRow → Verdict) →
    ((user : UserRow) → Asks files (next user)) → Asks files (verdict_of_caller o ps k next)
by-permitted files None ps k next p = gives-one _
by-permitted files (Some user) ps k next p = by-allowed files (lacking k user ps) (next user) (p user)

-- every ask's verdict
asks_requests : (ps : List Permission) (key : List ℕ) (asked : Request) (files : List ShelfFile) (k : Known) → Asks files (verdict_by ps key asked files k)
asks_requests [] key asked files k = frees files key asked k
asks_requests (p ∷ ps) key asked files k = by-permitted files (caller k.policy k.users key) (p ∷ ps) k _ (λ user. plays user files k asked)

-- what an answer records at the desk
pub calls_made : (ps : List Permission) (key : List ℕ) (asked : Request) (files : List ShelfFile) (k : Known) (x : Answer) →
    AreMade (files_after (verdict_by ps key asked files k) x files) (calls_after (verdict_by ps key asked files k) x)
calls_made ps key asked files k x = made_after (is_fault x) (verdict_by ps key asked files k) x files (asks_requests ps key asked files k)

requests_made : (files : List ShelfFile) (calls : List DeskCall) → AreMade files calls → AreRequests calls
requests_made files [] m = tt
requests_made files (call ∷ calls) m = (m.0.0, requests_made files calls m.1)

pub calls_requests : (ps : List Permission) (key : List ℕ) (asked : Request) (files : List ShelfFile) (k : Known) (x : Answer) →
    AreRequests (calls_after (verdict_by ps key asked files k) x)
calls_requests ps key asked files k x =
    requests_made (files_after (verdict_by ps key asked files k) x files) (calls_after (verdict_by ps key asked files k) x) (calls_made ps key asked files k x)
