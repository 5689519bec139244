use Rattle.std.proofs.Common.{◌≡◌, true, not, ap, rules}
use Rattle.octo_keeper.specs.Files.{bytes_of}
use Rattle.octo_asks.specs.declared.answer.Answer.TheVariants as answer
use Rattle.job_desk.specs.declared.state.State.TheVariants.{Operational}
use Rattle.octo_house_rules.specs.Known.{is_held}
use Rattle.octo_house_rules.specs.States.{may_start}
use Rattle.octo_house_rules.specs.Uploads.{print_verdict}
use Rattle.octo_house.specs.State.{known_of}
use Rattle.octo_house.proofs.ReadDone.{passed-on, read-on, job-read, job-missed, passed}
use Rattle.octo_house.proofs.house.House.print_named.Goals as goal
use Rattle.job_desk.specs.Data.{named_file}

pub returns-in-Ok-clause-done : goal.returns-in-Ok-clause-done
returns-in-Ok-clause-done g c = λ files.
    let k = known_of c.args.self.now in
    let name = c.args.name.now in
    let held : is_held name k ≡ true = cc in
    let on : k.desk.state ≡ Operational = search rules in
    passed-on (not (is_held name k)) answer.NoFile _ _ k _ (ap not held)
    (passed-on (not (may_start k.desk.state)) (answer.WrongState k.desk.state) _ _ k _ (ap (λ s. not (may_start s)) on)
    (read-on _ _ k _ (λ at. job-read (bytes_of name files) (λ job. print_verdict answer.Accepted c.args.user.now k.queue k (named_file name job)) c.in-Ok.job _ k _
    (c.in-Ok.ensures.read files at) c.print_job.ensures.done)))

pub returns-in-Err-clause-done : goal.returns-in-Err-clause-done
returns-in-Err-clause-done g c = λ files.
    let k = known_of c.args.self.now in
    let name = c.args.name.now in
    let held : is_held name k ≡ true = cc in
    let on : k.desk.state ≡ Operational = search rules in
    passed-on (not (is_held name k)) answer.NoFile _ _ k k (ap not held)
    (passed-on (not (may_start k.desk.state)) (answer.WrongState k.desk.state) _ _ k k (ap (λ s. not (may_start s)) on)
    (read-on _ _ k k (λ at. job-missed (bytes_of name files) (λ job. print_verdict answer.Accepted c.args.user.now k.queue k (named_file name job)) c.in-Err.answer k
    (c.in-Err.ensures.read files at))))

pub returns-in-Ok-clause-some : goal.returns-in-Ok-clause-some
returns-in-Ok-clause-some g c =
    let k = known_of c.args.self.now in
    let name = c.args.name.now in
    let files = c.in-Ok.ensures.some.0 in
    let held : is_held name k ≡ true = cc in
    let on : k.desk.state ≡ Operational = search rules in (
      files,
      passed (not (is_held name k)) answer.NoFile _ _ k _ (ap not held)
          (passed (not (may_start k.desk.state)) (answer.WrongState k.desk.state) _ _ k _ (ap (λ s. not (may_start s)) on)
          (job-read (bytes_of name files) (λ job. print_verdict answer.Accepted c.args.user.now k.queue k (named_file name job)) c.in-Ok.job _ k _
          c.in-Ok.ensures.some.1 c.print_job.ensures.done)),
    )

pub returns-in-Err-clause-some : goal.returns-in-Err-clause-some
returns-in-Err-clause-some g c =
    let k = known_of c.args.self.now in
    let name = c.args.name.now in
    let files = c.in-Err.ensures.some.0 in
    let held : is_held name k ≡ true = cc in
    let on : k.desk.state ≡ Operational = search rules in (
      files,
      passed (not (is_held name k)) answer.NoFile _ _ k k (ap not held)
          (passed (not (may_start k.desk.state)) (answer.WrongState k.desk.state) _ _ k k (ap (λ s. not (may_start s)) on)
          (job-missed (bytes_of name files) (λ job. print_verdict answer.Accepted c.args.user.now k.queue k (named_file name job)) c.in-Err.answer k
          c.in-Err.ensures.some.1)),
    )
