use Rattle.std.proofs.Common.{◌≡◌, ℕ, true, not, List, Ok, Err, ap, ◌∙◌, subst}
use Rattle.gcode_lines.specs.Job.{JobData}
use Rattle.octo_keeper.specs.Files.{bytes_of}
use Rattle.octo_asks.specs.Shown.{shown_entry}
use Rattle.octo_asks.specs.declared.answer.Answer.TheVariants as answer
use Rattle.print_queue.specs.Rows.{without_copy}
use Rattle.octo_house_rules.specs.Known.{is_held}
use Rattle.octo_house_rules.specs.Uploads.{print_verdict}
use Rattle.octo_house_rules.specs.Verdict.{Verdict, IsDone}
use Rattle.octo_house_tables.specs.Reading.{IsReadAs, job_at}
use Rattle.octo_house.specs.State.{known_of}
use Rattle.octo_house.proofs.ReadDone.{passed-on, read-on, job-read, job-missed, passed}
use Rattle.octo_house.proofs.house.House.print_entry.Goals as goal
use Rattle.job_desk.specs.Data.{named_file}

pub returns-in-Ok-clause-done : goal.returns-in-Ok-clause-done
returns-in-Ok-clause-done g c = λ files.
    let k = known_of c.args.self.now in
    let entry = c.args.entry in
    let job = c.in-Ok.job in
    let held : is_held entry.file k ≡ true = cc in
    let printed = λ (user name : List ℕ) (j : JobData). print_verdict (answer.TakenEntry (shown_entry entry)) user (without_copy entry.user entry.name k.queue) k (named_file name j) in
    passed-on (not (is_held entry.file k)) answer.NoFile _ _ k _ (ap not held)
    (read-on _ _ k _ (λ at. job-read (bytes_of entry.file files) (printed entry.user entry.file) job _ k _
    (subst (λ n. IsReadAs (job_at n files) (Ok job)) c.copy-file.ensures (c.in-Ok.ensures.read files at))
    (subst (λ (v : Verdict). IsDone v c.print_job.result k (known_of c.print_job.new.self)) (ap (λ u. printed u c.copy-file.result job) c.copy-user.ensures ∙ ap (λ n. printed entry.user n job) c.copy-file.ensures)
    c.print_job.ensures.done)))

pub returns-in-Err-clause-done : goal.returns-in-Err-clause-done
returns-in-Err-clause-done g c = λ files.
    let k = known_of c.args.self.now in
    let entry = c.args.entry in
    let held : is_held entry.file k ≡ true = cc in
    passed-on (not (is_held entry.file k)) answer.NoFile _ _ k k (ap not held)
    (read-on _ _ k k (λ at. job-missed (bytes_of entry.file files)
    (λ job. print_verdict (answer.TakenEntry (shown_entry entry)) entry.user (without_copy entry.user entry.name k.queue) k (named_file entry.file job))
    c.in-Err.answer k (subst (λ n. IsReadAs {A = JobData} (job_at n files) (Err c.in-Err.answer)) c.copy-file.ensures (c.in-Err.ensures.read files at))))

pub returns-in-Ok-clause-some : goal.returns-in-Ok-clause-some
returns-in-Ok-clause-some g c =
    let k = known_of c.args.self.now in
    let entry = c.args.entry in
    let job = c.in-Ok.job in
    let files = c.in-Ok.ensures.some.0 in
    let held : is_held entry.file k ≡ true = cc in
    let printed = λ (user name : List ℕ) (j : JobData). print_verdict (answer.TakenEntry (shown_entry entry)) user (without_copy entry.user entry.name k.queue) k (named_file name j) in (
      files,
      passed (not (is_held entry.file k)) answer.NoFile _ _ k _ (ap not held)
          (job-read (bytes_of entry.file files) (printed entry.user entry.file) job _ k _
          (subst (λ n. IsReadAs (job_at n files) (Ok job)) c.copy-file.ensures c.in-Ok.ensures.some.1)
          (subst (λ (v : Verdict). IsDone v c.print_job.result k (known_of c.print_job.new.self)) (ap (λ u. printed u c.copy-file.result job) c.copy-user.ensures ∙ ap (λ n. printed entry.user n job) c.copy-file.ensures)
          c.print_job.ensures.done)),
    )

pub returns-in-Err-clause-some : goal.returns-in-Err-clause-some
returns-in-Err-clause-some g c =
    let k = known_of c.args.self.now in
    let entry = c.args.entry in
    let files = c.in-Err.ensures.some.0 in
    let held : is_held entry.file k ≡ true = cc in (
      files,
      passed (not (is_held entry.file k)) answer.NoFile _ _ k k (ap not held)
          (job-missed (bytes_of entry.file files)
          (λ job. print_verdict (answer.TakenEntry (shown_entry entry)) entry.user (without_copy entry.user entry.name k.queue) k (named_file entry.file job))
          c.in-Err.answer k (subst (λ n. IsReadAs {A = JobData} (job_at n files) (Err c.in-Err.answer)) c.copy-file.ensures c.in-Err.ensures.some.1)),
    )
