-- Requests that read a file first: what was read leads to the answer, or why nothing was.
use Rattle.std.proofs.Common.{◌≡◌, ◌⊎◌, inl, inr, ℕ, Bool, true, false, not, cond, List, length, Option, None, Some, Result, Ok, Err, refl, sym, ap, ◌∙◌, subst, [], map}
use Rattle.std.proofs.lemmas.Bool.{false≢true}
use Rattle.gcode_lines.specs.Commands.{job_of}
use Rattle.gcode_lines.specs.Job.{JobData}
use Rattle.gcode_lines.specs.declared.fault.FileFault.{FileFault}
use Rattle.job_desk.specs.declared.state.State.{State}
use Rattle.job_desk.specs.declared.state.State.TheVariants.{Offline, Connecting, Operational, Printing, Pausing, Paused, Cancelling, Finishing, Closing, Fault}
use Rattle.octo_asks.specs.declared.answer.Answer.{Answer}
use Rattle.octo_keeper.specs.declared.shelf.ShelfFile.{ShelfFile}
use Rattle.std.specs.Prelude.{option_map}
use Rattle.octo_asks.specs.declared.answer.Answer.TheVariants as answer
use Rattle.octo_house_rules.specs.Known.{Known}
use Rattle.octo_house_rules.specs.Refusals.{refused_if, found_or, read_as}
use Rattle.octo_house_rules.specs.States.{may_start}
use Rattle.octo_house_rules.specs.Verdict.{Verdict, Deed, May, IsDone, gives, makes, reads, is_fault, known_after}
use Rattle.octo_house_tables.specs.Reading.{IsReadAs, found_bytes, found_size, job_in, job_or}
use Rattle.octo_house.specs.Answered.{asks_files}
use Rattle.byte_text.proofs.BoolLaws.{same_if}
use Rattle.octo_house_rules.specs.Reads.{file_shown, list_files_verdict}
use Rattle.octo_keeper.specs.Files.{sizes_of}
use Rattle.octo_house_tables.proofs.Contents.{some_sizes}

-- a refusal, or an answer that changes nothing
pub given : (a x : Answer) (k : Known) → x ≡ a → IsDone (gives a) x k k
given a x k is = record { may = inr is; leaves = sym (same_if (is_fault x) k) }

-- this is done at the desk
pub made : (a : Answer) (deed : Deed) (old new : Known) → is_fault a ≡ false → new ≡ known_after deed old → IsDone (makes a deed) a old new
made a deed old new plain is = record { may = inr refl; leaves = is ∙ sym (ap (λ b. cond b old (known_after deed old)) plain) }

-- a test that doesn't refuse, and one that does
pub passed : (refuses : Bool) (a : Answer) (v : Verdict) (x : Answer) (old new : Known) → refuses ≡ false → IsDone v x old new
    → IsDone (refused_if refuses a v) x old new
passed refuses a v x old new is done = rw is done

pub refused : (refuses : Bool) (a : Answer) (v : Verdict) (k : Known) → refuses ≡ true → IsDone (refused_if refuses a v) a k k
refused refuses a v k is = rw is (given a a k refl)

-- this is done if a premise holds, and also if the verdict doesn't ask the shelf
abbrev DoneOn : Type 0 → Verdict → Answer → Known → Known → Type 0
DoneOn recorded v x old new = recorded ⊎ (asks_files v ≡ false) → IsDone v x old new

pub passed-on : {recorded : Type 0} (refuses : Bool) (a : Answer) (v : Verdict) (x : Answer) (old new : Known) → refuses ≡ false
    → DoneOn recorded v x old new → DoneOn recorded (refused_if refuses a v) x old new
passed-on refuses a v x old new is done = rw is done

pub read-on : {recorded : Type 0} (v : Verdict) (x : Answer) (old new : Known) → (recorded → IsDone (reads v) x old new)
    → DoneOn recorded (reads v) x old new
read-on v x old new done (inl at) = done at
read-on v x old new done (inr unasked) = absurd (false≢true (sym unasked))

may-read : (v : Verdict) (x : Answer) → (x ≡ answer.NoMemory) ⊎ May v x → (x ≡ answer.NoMemory) ⊎ May (reads v) x
may-read v x (inl none) = inl none
may-read v x (inr may) = inr (inr may)

-- what is done once the shelf was asked
pub read-then : (v : Verdict) (x : Answer) (old new : Known) → IsDone v x old new → IsDone (reads v) x old new
read-then v x old new done = record { may = may-read v x done.may; leaves = done.leaves }

read-failed : (v : Verdict) (x : Answer) (k : Known) → x ≡ answer.ShelfFault → IsDone (reads v) x k k
read-failed v x k is = rw is (record { may = inr (inl refl); leaves = refl })

read-unmet : (v : Verdict) (x : Answer) (k : Known) → x ≡ answer.NoMemory → IsDone (reads v) x k k
read-unmet v x k is = rw is (record { may = inl refl; leaves = refl })

-- the bytes of a file were read
pub bytes-read : (held : Option (List ℕ)) (next : List ℕ → Verdict) (bytes : List ℕ) (x : Answer) (old new : Known)
    → IsReadAs (found_bytes held) (Ok bytes) → IsDone (next bytes) x old new → IsDone (reads (found_or held answer.NoFile next)) x old new
bytes-read None next bytes x old new (inl is) done = absurd (cc is)
bytes-read (Some kept) next bytes x old new (inl is) done =
    let same : bytes ≡ kept = cc in
    read-then (next kept) x old new (subst (λ (b : List ℕ). IsDone (next b) x old new) same done)
bytes-read held next bytes x old new (inr (inl is)) done = absurd (cc is)
bytes-read held next bytes x old new (inr (inr is)) done = absurd (cc is)

-- or not
pub bytes-missed : (held : Option (List ℕ)) (next : List ℕ → Verdict) (x : Answer) (k : Known) → IsReadAs {A = List ℕ} (found_bytes held) (Err x)
    → IsDone (reads (found_or held answer.NoFile next)) x k k
bytes-missed None next x k (inl is) = read-then (gives answer.NoFile) x k k (given answer.NoFile x k (cc))
bytes-missed (Some kept) next x k (inl is) = absurd (cc is)
bytes-missed held next x k (inr (inl is)) = read-failed (found_or held answer.NoFile next) x k (cc)
bytes-missed held next x k (inr (inr is)) = read-unmet (found_or held answer.NoFile next) x k (cc)

-- the size of a file was read
pub size-read : (held : Option ShelfFile) (next : ℕ → Verdict) (size : ℕ) (x : Answer) (old new : Known)
    → IsReadAs (found_size (option_map (λ (file : ShelfFile). length file.bytes) held)) (Ok size) → IsDone (next size) x old new
    → IsDone (reads (found_or (option_map (λ (file : ShelfFile). file.bytes) held) answer.NoFile (λ bytes. next (length bytes)))) x old new
size-read None next size x old new (inl is) done = absurd (cc is)
size-read (Some kept) next size x old new (inl is) done =
    let same : size ≡ length kept.bytes = cc in
    read-then (next (length kept.bytes)) x old new (subst (λ (n : ℕ). IsDone (next n) x old new) same done)
size-read held next size x old new (inr (inl is)) done = absurd (cc is)
size-read held next size x old new (inr (inr is)) done = absurd (cc is)

-- or not
pub size-missed : (held : Option ShelfFile) (next : ℕ → Verdict) (x : Answer) (k : Known)
    → IsReadAs {A = ℕ} (found_size (option_map (λ (file : ShelfFile). length file.bytes) held)) (Err x)
    → IsDone (reads (found_or (option_map (λ (file : ShelfFile). file.bytes) held) answer.NoFile (λ bytes. next (length bytes)))) x k k
size-missed None next x k (inl is) = read-then (gives answer.NoFile) x k k (given answer.NoFile x k (cc))
size-missed (Some kept) next x k (inl is) = absurd (cc is)
size-missed held next x k (inr (inl is)) =
    read-failed (found_or (option_map (λ (file : ShelfFile). file.bytes) held) answer.NoFile (λ bytes. next (length bytes))) x k (cc)
size-missed held next x k (inr (inr is)) =
    read-unmet (found_or (option_map (λ (file : ShelfFile). file.bytes) held) answer.NoFile (λ bytes. next (length bytes))) x k (cc)

job-given : (held : Result JobData FileFault) (next : JobData → Verdict) (job : JobData) (x : Answer) (old new : Known)
    → ◌≡◌ {A = Result JobData Answer} (Ok job) (job_or held) → IsDone (next job) x old new → IsDone (read_as held next) x old new
job-given (Ok kept) next job x old new is done =
    let same : job ≡ kept = cc in
    subst (λ (j : JobData). IsDone (next j) x old new) same done
job-given (Err fault) next job x old new is done = absurd (cc is)

job-refused : (held : Result JobData FileFault) (next : JobData → Verdict) (x : Answer) (k : Known)
    → ◌≡◌ {A = Result JobData Answer} (Err x) (job_or held) → IsDone (read_as held next) x k k
job-refused (Ok kept) next x k is = absurd (cc is)
job-refused (Err fault) next x k is = given (answer.BadFile fault) x k (cc)

-- the job of a file was read
pub job-read : (held : Option (List ℕ)) (next : JobData → Verdict) (job : JobData) (x : Answer) (old new : Known)
    → IsReadAs (job_in (found_bytes held)) (Ok job) → IsDone (next job) x old new
    → IsDone (reads (found_or held answer.NoFile (λ bytes. read_as (job_of bytes) next))) x old new
job-read None next job x old new (inl is) done = absurd (cc is)
job-read (Some kept) next job x old new (inl is) done =
    read-then (read_as (job_of kept) next) x old new (job-given (job_of kept) next job x old new is done)
job-read held next job x old new (inr (inl is)) done = absurd (cc is)
job-read held next job x old new (inr (inr is)) done = absurd (cc is)

-- or not
pub job-missed : (held : Option (List ℕ)) (next : JobData → Verdict) (x : Answer) (k : Known) → IsReadAs {A = JobData} (job_in (found_bytes held)) (Err x)
    → IsDone (reads (found_or held answer.NoFile (λ bytes. read_as (job_of bytes) next))) x k k
job-missed None next x k (inl is) = read-then (gives answer.NoFile) x k k (given answer.NoFile x k (cc))
job-missed (Some kept) next x k (inl is) = read-then (read_as (job_of kept) next) x k k (job-refused (job_of kept) next x k is)
job-missed held next x k (inr (inl is)) = read-failed (found_or held answer.NoFile (λ bytes. read_as (job_of bytes) next)) x k (cc)
job-missed held next x k (inr (inr is)) = read-unmet (found_or held answer.NoFile (λ bytes. read_as (job_of bytes) next)) x k (cc)

-- a print starts from one state alone
pub start-state : (s : State) → may_start s ≡ true → s ≡ Operational
start-state Offline is = absurd (cc is)
start-state Connecting is = absurd (cc is)
start-state Operational is = refl
start-state Printing is = absurd (cc is)
start-state Pausing is = absurd (cc is)
start-state Paused is = absurd (cc is)
start-state Cancelling is = absurd (cc is)
start-state Finishing is = absurd (cc is)
start-state Closing is = absurd (cc is)
start-state Fault is = absurd (cc is)

pub no-start : (s : State) → (s ≡ Operational → ⊥) → not (may_start s) ≡ true
no-start Offline other = refl
no-start Connecting other = refl
no-start Operational other = absurd (other refl)
no-start Printing other = refl
no-start Pausing other = refl
no-start Paused other = refl
no-start Cancelling other = refl
no-start Finishing other = refl
no-start Closing other = refl
no-start Fault other = refl

-- files were listed: some files have these names and sizes
pub list-read : (listed : List (List ℕ × ℕ)) (x : Answer) (k : Known) → x ≡ answer.Files (map (λ file. file_shown file.0 file.1) listed)
    → (files : List ShelfFile) × IsDone (list_files_verdict files) x k k
list-read listed x k is =
    let some = some_sizes listed in
    let all : Verdict = gives (answer.Files (map (λ file. file_shown file.0 file.1) (sizes_of some.0))) in
    (some.0, read-then all x k k (given _ x k (is ∙ ap (λ (l : List (List ℕ × ℕ)). answer.Files (map (λ file. file_shown file.0 file.1) l)) (sym some.1))))

-- a verdict that may ask the shelf is done by some files; another one whatever they are
pub some-by : (reads : Bool) (v : List ShelfFile → Verdict) (x : Answer) (old new : Known)
    → (reads ≡ true → (files : List ShelfFile) × IsDone (v files) x old new) → (reads ≡ false → IsDone (v []) x old new)
    → (files : List ShelfFile) × IsDone (v files) x old new
some-by true v x old new read unread = read refl
some-by false v x old new read unread = ([], unread refl)
