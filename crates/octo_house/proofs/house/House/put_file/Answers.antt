use Rattle.std.proofs.Common.{◌≡◌, ℕ, true, false, List, option_map, refl, sym, ap, ◌∙◌, rules, arith}
use Rattle.std.proofs.lemmas.Bool.{not-true, not-false}
use Rattle.octo_asks.specs.declared.answer.Answer.TheVariants as answer
use Rattle.octo_keeper.specs.Files.{with_file}
use Rattle.octo_house_rules.specs.Uploads.{is_selected, is_printed, unprinted}
use Rattle.octo_house_tables.proofs.Keeping.{keeps-same}
use Rattle.octo_session.specs.Data.{SessionData}
use Rattle.octo_house.specs.State.{known_of}
use Rattle.octo_house.proofs.Selecting.{same-greatest, same-active}
use Rattle.octo_house.proofs.Startable.{startable, has-it}
use Rattle.octo_house.proofs.Stored.{job-is, keeps-over, not-stored, not-shelved, done-alone, done-selected, done-printed, plain-unprinted, shelved}
use Rattle.octo_house.proofs.house.House.put_file.Goals as goal
use Rattle.job_desk.specs.Data.{named_file}

pub invariant_of-self : goal.invariant_of-self
invariant_of-self g c =
    let held = c.store.new.self.desk.session.desk in
    let file = named_file c.args.name.now c.in-Ok.job in
    let numbers : c.select.new.self.desk.greatest ≡ held.greatest =
    ap (λ (s : SessionData). s.desk.greatest) c.select.ensures.after ∙ same-greatest held.state file held in
    let prints : c.select.new.self.desk.active ≡ held.active =
    ap (λ (s : SessionData). s.desk.active) c.select.ensures.after ∙ same-active held.state file held in
    record {
      numbered = omega (arith, numbers, c.store.new.self.numbered);
      rested = λ due. prints ∙ c.store.new.self.rested due;
    }

pub returns-in-Err-store-clause-done : goal.returns-in-Err-store-clause-done
returns-in-Err-store-clause-done g c =
    not-stored c.args.user.now c.args.name.now c.args.file c.args.asked.select c.args.asked.print (known_of c.args.self.now) c.in-Ok.job
    (job-is _ c.in-Ok.job c.in-Ok.ensures.exact) c.in-Err-store.answer (known_of c.store.new.self) c.in-Err-store.ensures.stored.why
    c.in-Err-store.ensures.stored.known

pub returns-in-Err-store-clause-files : goal.returns-in-Err-store-clause-files
returns-in-Err-store-clause-files g c =
    not-shelved c.args.user.now c.args.name.now c.args.file c.args.asked.select c.args.asked.print (known_of c.args.self.now) c.in-Ok.job
    (job-is _ c.in-Ok.job c.in-Ok.ensures.exact) c.in-Err-store.answer _ _ c.in-Err-store.ensures.stored.why c.in-Err-store.ensures.same

pub returns-in-Err-store-clause-rest : goal.returns-in-Err-store-clause-rest
returns-in-Err-store-clause-rest g c = record {
  kept = keeps-same _ _ _ _ refl c.in-Err-store.ensures.rows.tables;
  listed = search rules;
  apart = search rules;
  keeper = search rules;
  shelf = search rules;
}

pub returns-then-not-wanted-clause-done : goal.returns-then-not-wanted-clause-done
returns-then-not-wanted-clause-done g c =
    let m = known_of c.store.new.self in
    let off : is_selected c.args.user.now c.args.asked.select c.args.asked.print m ≡ false = sym c.wanted-wanted.ensures.select ∙ not-true c.wanted-wanted.result.select c.if-not-wanted.true in
    done-alone c.args.user.now c.args.name.now c.args.file c.args.asked.select c.args.asked.print (known_of c.args.self.now) c.in-Ok.job
    (job-is _ c.in-Ok.job c.in-Ok.ensures.exact) _ m c.in_default.ensures.stored.allowed c.in_default.ensures.stored.known off
    (c.unprinted.ensures ∙ ap (unprinted c.args.name.now false) (c.refusal_of-refusal.ensures c.args.name.now c.wanted-wanted.ensures.select (c.wanted-wanted.ensures.print c.args.name.now)))

pub returns-then-not-wanted-clause-files : goal.returns-then-not-wanted-clause-files
returns-then-not-wanted-clause-files g c =
    shelved c.args.user.now c.args.name.now c.args.file c.args.asked.select c.args.asked.print (known_of c.args.self.now) c.in-Ok.job
    (job-is _ c.in-Ok.job c.in-Ok.ensures.exact) c.unprinted.result _ _ c.in_default.ensures.stored.allowed (plain-unprinted _ _ _ _ c.unprinted.ensures)
    (c.in_default.ensures.files ∙ ap (λ (bytes : List ℕ). option_map (with_file c.args.name.now bytes) (g.S.Shelf.state c.args.shelf.now).files) c.in-Ok.ensures.bytes)

pub returns-then-not-wanted-clause-rest : goal.returns-then-not-wanted-clause-rest
returns-then-not-wanted-clause-rest g c = record {
  kept = keeps-same _ _ _ _ refl c.in_default.ensures.rows.tables;
  listed = search rules;
  apart = search rules;
  keeper = search rules;
  shelf = search rules;
}

pub returns-then-not-wanted-2-clause-done : goal.returns-then-not-wanted-2-clause-done
returns-then-not-wanted-2-clause-done g c =
    let m = known_of c.store.new.self in
    let name = c.args.name.now in
    let on : is_selected c.args.user.now c.args.asked.select c.args.asked.print m ≡ true = sym c.wanted-wanted.ensures.select ∙ not-false c.wanted-wanted.result.select c.if-not-wanted.false in
    let off : is_printed c.args.user.now c.args.asked.print (named_file name c.in-Ok.job) m ≡ false =
    sym (c.wanted-wanted.ensures.print name) ∙ not-true c.wanted-wanted.result.print c.if-not-wanted-2.true in
    done-selected c.args.user.now name c.args.file c.args.asked.select c.args.asked.print (known_of c.args.self.now) c.in-Ok.job
    (job-is _ c.in-Ok.job c.in-Ok.ensures.exact) _ m _ c.in_default.ensures.stored.allowed c.in_default.ensures.stored.known on off
    (ap (λ (s : SessionData). record m { desk = s.desk }) c.select.ensures.after) (c.unprinted-then-not-wanted-2.ensures ∙ ap (unprinted name true) (c.refusal_of-refusal.ensures name c.wanted-wanted.ensures.select (c.wanted-wanted.ensures.print name)))

pub returns-then-not-wanted-2-clause-files : goal.returns-then-not-wanted-2-clause-files
returns-then-not-wanted-2-clause-files g c =
    shelved c.args.user.now c.args.name.now c.args.file c.args.asked.select c.args.asked.print (known_of c.args.self.now) c.in-Ok.job
    (job-is _ c.in-Ok.job c.in-Ok.ensures.exact) c.unprinted-then-not-wanted-2.result _ _ c.in_default.ensures.stored.allowed (plain-unprinted _ _ _ _ c.unprinted-then-not-wanted-2.ensures)
    (c.in_default.ensures.files ∙ ap (λ (bytes : List ℕ). option_map (with_file c.args.name.now bytes) (g.S.Shelf.state c.args.shelf.now).files) c.in-Ok.ensures.bytes)

pub returns-then-not-wanted-2-clause-rest : goal.returns-then-not-wanted-2-clause-rest
returns-then-not-wanted-2-clause-rest g c = record {
  kept = keeps-same _ _ _ _ refl c.in_default.ensures.rows.tables;
  listed = search rules;
  apart = search rules;
  keeper = search rules;
  shelf = search rules;
}

pub print_stored-requires : goal.print_stored-requires
print_stored-requires g c =
    let m = known_of c.store.new.self in
    let name = c.args.name.now in
    let on : is_printed c.args.user.now c.args.asked.print (named_file name c.in-Ok.job) m ≡ true =
    sym (c.wanted-wanted.ensures.print name) ∙ not-false c.wanted-wanted.result.print c.if-not-wanted-2.false in
    record {
      start = startable c.args.user.now c.args.asked.print name c.in-Ok.job m _ on
          (ap (λ (s : SessionData). record m { desk = s.desk }) c.select.ensures.after) c.count-commands.result c.count-commands.ensures.value;
      few = c.count-commands.ensures.few;
    }

pub returns-clause-done : goal.returns-clause-done
returns-clause-done g c =
    let m = known_of c.store.new.self in
    let name = c.args.name.now in
    let mid = record m { desk = c.select.new.self.desk } in
    let on : is_selected c.args.user.now c.args.asked.select c.args.asked.print m ≡ true = sym c.wanted-wanted.ensures.select ∙ not-false c.wanted-wanted.result.select c.if-not-wanted.false in
    let starting : is_printed c.args.user.now c.args.asked.print (named_file name c.in-Ok.job) m ≡ true =
    sym (c.wanted-wanted.ensures.print name) ∙ not-false c.wanted-wanted.result.print c.if-not-wanted-2.false in
    let after = ap (λ (s : SessionData). record m { desk = s.desk }) c.select.ensures.after in
    done-printed c.args.user.now name c.args.file c.args.asked.select c.args.asked.print (known_of c.args.self.now) c.in-Ok.job
    (job-is _ c.in-Ok.job c.in-Ok.ensures.exact) m mid (known_of c.print_stored.new.self) c.print_stored.result
    c.in_default.ensures.stored.allowed c.in_default.ensures.stored.known on starting after
    (has-it c.args.user.now c.args.asked.print name c.in-Ok.job m mid starting after) c.print_stored.ensures.plain c.print_stored.ensures.done

pub returns-clause-files : goal.returns-clause-files
returns-clause-files g c =
    shelved c.args.user.now c.args.name.now c.args.file c.args.asked.select c.args.asked.print (known_of c.args.self.now) c.in-Ok.job
    (job-is _ c.in-Ok.job c.in-Ok.ensures.exact) c.print_stored.result _ _ c.in_default.ensures.stored.allowed c.print_stored.ensures.plain
    (c.in_default.ensures.files ∙ ap (λ (bytes : List ℕ). option_map (with_file c.args.name.now bytes) (g.S.Shelf.state c.args.shelf.now).files) c.in-Ok.ensures.bytes)

pub returns-clause-rest : goal.returns-clause-rest
returns-clause-rest g c = record {
  kept = keeps-over _ _ _ _ _ c.in_default.ensures.rows.tables c.print_stored.ensures.rest.kept;
  listed = search rules;
  apart = search rules;
  keeper = search rules;
  shelf = search rules;
}
