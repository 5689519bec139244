use Rattle.std.proofs.Common.{◌≡◌, true, not, refl, ap}
use Rattle.octo_keeper.specs.Files.{bytes_of}
use Rattle.octo_asks.specs.declared.answer.Answer.TheVariants as answer
use Rattle.octo_house_rules.specs.Known.{is_held}
use Rattle.octo_house_rules.specs.Verdict.{gives}
use Rattle.octo_house.specs.State.{known_of}
use Rattle.octo_house.proofs.ReadDone.{given, passed-on, read-on, bytes-read, bytes-missed, passed}
use Rattle.octo_house.proofs.house.House.download.Goals as goal

pub returns-in-Ok-clause-done : goal.returns-in-Ok-clause-done
returns-in-Ok-clause-done g c = λ files.
    let k = known_of c.args.self.now in
    let held : is_held c.args.name.now k ≡ true = cc in
    passed-on (not (is_held c.args.name.now k)) answer.NoFile _ _ k k (ap not held)
    (read-on _ _ k k (λ at. bytes-read (bytes_of c.args.name.now files) (λ bytes. gives (answer.Download bytes)) c.in-Ok.bytes _ k k
    (c.in-Ok.ensures.read files at) (given _ _ k refl)))

pub returns-in-Err-clause-done : goal.returns-in-Err-clause-done
returns-in-Err-clause-done g c = λ files.
    let k = known_of c.args.self.now in
    let held : is_held c.args.name.now k ≡ true = cc in
    passed-on (not (is_held c.args.name.now k)) answer.NoFile _ _ k k (ap not held)
    (read-on _ _ k k (λ at. bytes-missed (bytes_of c.args.name.now files) (λ bytes. gives (answer.Download bytes)) c.in-Err.answer k (c.in-Err.ensures.read files at)))

pub returns-in-Ok-clause-some : goal.returns-in-Ok-clause-some
returns-in-Ok-clause-some g c =
    let k = known_of c.args.self.now in
    let files = c.in-Ok.ensures.some.0 in
    let held : is_held c.args.name.now k ≡ true = cc in (
      files,
      passed (not (is_held c.args.name.now k)) answer.NoFile _ _ k k (ap not held)
          (bytes-read (bytes_of c.args.name.now files) (λ bytes. gives (answer.Download bytes)) c.in-Ok.bytes _ k k c.in-Ok.ensures.some.1 (given _ _ k refl)),
    )

pub returns-in-Err-clause-some : goal.returns-in-Err-clause-some
returns-in-Err-clause-some g c =
    let k = known_of c.args.self.now in
    let files = c.in-Err.ensures.some.0 in
    let held : is_held c.args.name.now k ≡ true = cc in (
      files,
      passed (not (is_held c.args.name.now k)) answer.NoFile _ _ k k (ap not held)
          (bytes-missed (bytes_of c.args.name.now files) (λ bytes. gives (answer.Download bytes)) c.in-Err.answer k c.in-Err.ensures.some.1),
    )
