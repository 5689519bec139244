use Rattle.std.proofs.Common.{◌≡◌, true, not, [], ◌∷◌, refl, ap}
use Rattle.job_desk.specs.Run.{Select}
use Rattle.octo_keeper.specs.Files.{bytes_of}
use Rattle.octo_asks.specs.declared.answer.Answer.TheVariants as answer
use Rattle.octo_house_rules.specs.Known.{is_held}
use Rattle.octo_house_rules.specs.States.{may_select}
use Rattle.octo_house_rules.specs.Verdict.{makes, at_desk}
use Rattle.octo_session.specs.Data.{SessionData}
use Rattle.octo_house.specs.State.{known_of}
use Rattle.octo_house.proofs.ReadDone.{made, passed-on, read-on, job-read, job-missed, passed}
use Rattle.octo_house.proofs.house.House.select_named.Goals as goal
use Rattle.job_desk.specs.Data.{named_file}

pub returns-in-Ok-clause-done : goal.returns-in-Ok-clause-done
returns-in-Ok-clause-done g c = λ files.
    let k = known_of c.args.self.now in
    let name = c.args.name.now in
    let held : is_held name k ≡ true = cc in
    let may : may_select k.desk.state ≡ true = cc in
    passed-on (not (is_held name k)) answer.NoFile _ _ k _ (ap not held)
    (passed-on (not (may_select k.desk.state)) (answer.WrongState k.desk.state) _ _ k _ (ap not may)
    (read-on _ _ k _ (λ at. job-read (bytes_of name files) (λ job. makes answer.Accepted (at_desk (Select (named_file name job) ∷ []) k)) c.in-Ok.job _ k _ (c.in-Ok.ensures.read files at)
    (made answer.Accepted (at_desk (Select (named_file name c.in-Ok.job) ∷ []) k) k _ refl (ap (λ (s : SessionData). record k { desk = s.desk }) c.select.ensures.after)))))

pub returns-in-Err-clause-done : goal.returns-in-Err-clause-done
returns-in-Err-clause-done g c = λ files.
    let k = known_of c.args.self.now in
    let name = c.args.name.now in
    let held : is_held name k ≡ true = cc in
    let may : may_select k.desk.state ≡ true = cc in
    passed-on (not (is_held name k)) answer.NoFile _ _ k k (ap not held)
    (passed-on (not (may_select k.desk.state)) (answer.WrongState k.desk.state) _ _ k k (ap not may)
    (read-on _ _ k k (λ at. job-missed (bytes_of name files) (λ job. makes answer.Accepted (at_desk (Select (named_file name job) ∷ []) k)) c.in-Err.answer k
    (c.in-Err.ensures.read files at))))

pub returns-in-Ok-clause-some : goal.returns-in-Ok-clause-some
returns-in-Ok-clause-some g c =
    let k = known_of c.args.self.now in
    let name = c.args.name.now in
    let files = c.in-Ok.ensures.some.0 in
    let held : is_held name k ≡ true = cc in
    let may : may_select k.desk.state ≡ true = cc in (
      files,
      passed (not (is_held name k)) answer.NoFile _ _ k _ (ap not held)
          (passed (not (may_select k.desk.state)) (answer.WrongState k.desk.state) _ _ k _ (ap not may)
          (job-read (bytes_of name files) (λ job. makes answer.Accepted (at_desk (Select (named_file name job) ∷ []) k)) c.in-Ok.job _ k _ c.in-Ok.ensures.some.1
          (made answer.Accepted (at_desk (Select (named_file name c.in-Ok.job) ∷ []) k) k _ refl (ap (λ (s : SessionData). record k { desk = s.desk }) c.select.ensures.after)))),
    )

pub returns-in-Err-clause-some : goal.returns-in-Err-clause-some
returns-in-Err-clause-some g c =
    let k = known_of c.args.self.now in
    let name = c.args.name.now in
    let files = c.in-Err.ensures.some.0 in
    let held : is_held name k ≡ true = cc in
    let may : may_select k.desk.state ≡ true = cc in (
      files,
      passed (not (is_held name k)) answer.NoFile _ _ k k (ap not held)
          (passed (not (may_select k.desk.state)) (answer.WrongState k.desk.state) _ _ k k (ap not may)
          (job-missed (bytes_of name files) (λ job. makes answer.Accepted (at_desk (Select (named_file name job) ∷ []) k)) c.in-Err.answer k c.in-Err.ensures.some.1)),
    )
