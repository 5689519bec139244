use Rattle.std.proofs.Common.{◌≡◌, ◌⊎◌, inr, false, List, [], Some, refl, sym, ap, ◌∙◌, subst}
use Rattle.std.proofs.lemmas.Bool.{false≢true}
use Rattle.octo_asks.specs.Rights.{needed}
use Rattle.octo_house_rules.specs.Access.{is_denied}
use Rattle.octo_house_rules.specs.Faults.{is_keepers, is_shelfs}
use Rattle.octo_house_tables.specs.Data.{TablesData}
use Rattle.octo_house_tables.specs.Kept.{IsKept}
use Rattle.octo_house_rules.specs.Answers.{verdict, request_verdict}
use Rattle.octo_house_rules.specs.Verdict.{Verdict, IsDone, files_after}
use Rattle.octo_keeper.specs.declared.shelf.ShelfFile.{ShelfFile}
use Rattle.octo_house.specs.Answered.{asks_files}
use Rattle.octo_house.specs.State.{known_of}
use Rattle.octo_house.proofs.Denying.{gives-denial, gives-done, gives-files, neither-denies, no-denial, answer-granted}
use Rattle.octo_house.proofs.Freed.{uncounted, free-granted, free-no-denial, free-done, free-files}
use Rattle.octo_house.proofs.Permitted.{lacks-none}
use Rattle.octo_house.specs.Groups.{is_reading}
use Rattle.octo_house.proofs.Fileless.{request-unasked}
use Rattle.octo_house.proofs.ReadDone.{some-by}
use Rattle.octo_house.proofs.house.House.ask.Goals as goal

pub returns-then-is_free-clause-denied : goal.returns-then-is_free-clause-denied
returns-then-is_free-clause-denied g c = λ files permission.
    let k = known_of c.args.self.now in
    let free = sym c.is_free.ensures ∙ c.if-is_free.true in
    neither-denies c.free.result (verdict c.args.ask files k) permission
    (free-granted c.args.ask k free c.free.result c.free.ensures.done.may) (free-no-denial c.args.ask k free files permission)

pub returns-then-is_free-clause-untouched : goal.returns-then-is_free-clause-untouched
returns-then-is_free-clause-untouched g c =
    let free = sym c.is_free.ensures ∙ c.if-is_free.true in
    let granted : is_denied c.free.result ≡ false =
    free-granted c.args.ask (known_of c.args.self.now) free c.free.result c.free.ensures.done.may in
    λ on. absurd (false≢true (sym granted ∙ on))

pub returns-then-is_free-clause-done : goal.returns-then-is_free-clause-done
returns-then-is_free-clause-done g c = λ files asked.
    let free = sym c.is_free.ensures ∙ c.if-is_free.true in
    free-done c.args.ask (known_of c.args.self.now) free files c.free.result (known_of c.free.new.self) c.free.ensures.done

pub returns-then-is_free-clause-files : goal.returns-then-is_free-clause-files
returns-then-is_free-clause-files g c = λ files at.
    let free = sym c.is_free.ensures ∙ c.if-is_free.true in
    at ∙ ap (λ (held : List ShelfFile). Some held) (free-files c.args.ask (known_of c.args.self.now) free files c.free.result)

pub returns-then-is_free-clause-rest : goal.returns-then-is_free-clause-rest
returns-then-is_free-clause-rest g c =
    let alone = c.free.ensures.alone in
    record {
      kept = λ begun is. subst (λ (t : TablesData). IsKept begun (g.K.Keeper.state c.args.keeper.now).tables t) (sym alone.tables) is;
      listed = λ held files at. alone.names ∙ held files at;
      apart = alone.apart;
      keeper = uncounted (is_keepers c.free.result) (g.K.Keeper.state c.args.keeper.now).faults c.free.ensures.plain.keeper;
      shelf = uncounted (is_shelfs c.free.result) (g.S.Shelf.state c.args.shelf.now).faults c.free.ensures.plain.shelf;
    }

pub returns-in-Err-clause-denied : goal.returns-in-Err-clause-denied
returns-in-Err-clause-denied g c = λ files permission.
    gives-denial c.in-Err.answer (verdict c.args.ask files (known_of c.args.self.now)) permission (c.in-Err.ensures.gave files)

pub returns-in-Err-clause-untouched : goal.returns-in-Err-clause-untouched
returns-in-Err-clause-untouched g c = λ on. record { keeper = refl; shelf = refl; known = refl; session = refl; tables = refl }

pub returns-in-Err-clause-done : goal.returns-in-Err-clause-done
returns-in-Err-clause-done g c = λ files asked.
    let k = known_of c.args.self.now in
    gives-done c.in-Err.answer (verdict c.args.ask files k) k (c.in-Err.ensures.gave files)

pub returns-in-Err-clause-files : goal.returns-in-Err-clause-files
returns-in-Err-clause-files g c = λ files at.
    at ∙ ap (λ (held : List ShelfFile). Some held)
    (gives-files c.in-Err.answer (verdict c.args.ask files (known_of c.args.self.now)) files (c.in-Err.ensures.gave files))

pub returns-in-Ok-clause-denied : goal.returns-in-Ok-clause-denied
returns-in-Ok-clause-denied g c = λ files permission.
    let k = known_of c.args.self.now in
    let user = c.in-Ok.user in
    let may = c.in-Ok.ensures in
    neither-denies c.answer.result (verdict c.args.ask files k) permission
    (answer-granted c.args.ask k user may.known may.all c.answer.result
    (lacks-none c.args.ask.key c.args.ask.request [] k (needed c.args.ask.request) user may.some may.known may.all)
    c.answer.ensures.granted (λ unasked. (c.answer.ensures.done [] (inr unasked)).may))
    (no-denial c.args.ask k user may.known may.all files permission)

pub returns-in-Ok-clause-untouched : goal.returns-in-Ok-clause-untouched
returns-in-Ok-clause-untouched g c =
    let k = known_of c.args.self.now in
    let user = c.in-Ok.user in
    let may = c.in-Ok.ensures in
    let granted : is_denied c.answer.result ≡ false =
    answer-granted c.args.ask k user may.known may.all c.answer.result
    (lacks-none c.args.ask.key c.args.ask.request [] k (needed c.args.ask.request) user may.some may.known may.all)
    c.answer.ensures.granted (λ unasked. (c.answer.ensures.done [] (inr unasked)).may) in
    λ on. absurd (false≢true (sym granted ∙ on))

pub returns-in-Ok-clause-done : goal.returns-in-Ok-clause-done
returns-in-Ok-clause-done g c = λ files.
    let k = known_of c.args.self.now in
    let may = c.in-Ok.ensures in
    subst (λ (v : Verdict). ((g.S.Shelf.state c.args.shelf.now).files ≡ Some files) ⊎ (asks_files v ≡ false) → IsDone v c.answer.result k (known_of c.answer.new.self))
    (sym (lacks-none c.args.ask.key c.args.ask.request files k (needed c.args.ask.request) c.in-Ok.user may.some may.known may.all)) (c.answer.ensures.done files)

pub returns-in-Ok-clause-files : goal.returns-in-Ok-clause-files
returns-in-Ok-clause-files g c = λ files at.
    let k = known_of c.args.self.now in
    let may = c.in-Ok.ensures in
    subst (λ (v : Verdict). (g.S.Shelf.state c.answer.new.shelf).files ≡ Some (files_after v c.answer.result files))
    (sym (lacks-none c.args.ask.key c.args.ask.request files k (needed c.args.ask.request) c.in-Ok.user may.some may.known may.all)) (c.answer.ensures.files files at)

pub returns-then-is_free-clause-some : goal.returns-then-is_free-clause-some
returns-then-is_free-clause-some g c =
    let free = sym c.is_free.ensures ∙ c.if-is_free.true in
    ([], free-done c.args.ask (known_of c.args.self.now) free [] c.free.result (known_of c.free.new.self) c.free.ensures.done)

pub returns-in-Err-clause-some : goal.returns-in-Err-clause-some
returns-in-Err-clause-some g c =
    let k = known_of c.args.self.now in
    ([], gives-done c.in-Err.answer (verdict c.args.ask [] k) k (c.in-Err.ensures.gave []))

pub returns-in-Ok-clause-some : goal.returns-in-Ok-clause-some
returns-in-Ok-clause-some g c =
    let k = known_of c.args.self.now in
    let k' = known_of c.answer.new.self in
    let user = c.in-Ok.user in
    let asked = c.args.ask.request in
    let may = c.in-Ok.ensures in
    let told = some-by (is_reading asked) (λ files. request_verdict asked user files k) c.answer.result k k' c.answer.ensures.some
    (λ unread. c.answer.ensures.done [] (inr (request-unasked asked user [] k unread))) in (
      told.0,
      subst (λ (v : Verdict). IsDone v c.answer.result k k')
          (sym (lacks-none c.args.ask.key asked told.0 k (needed asked) user may.some may.known may.all)) told.1,
    )
