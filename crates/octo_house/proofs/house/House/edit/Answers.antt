use Rattle.std.proofs.Common.{◌≡◌, true, false, rules, arith, refl, ap, sym, ◌∙◌}
use Rattle.std.proofs.lemmas.Bool.{false≢true}
use Rattle.octo_house_rules.specs.Answers.{request_verdict}
use Rattle.octo_house_tables.proofs.Keeping.{keeps-same}
use Rattle.octo_house.specs.Groups.{is_reading}
use Rattle.octo_house.specs.State.{known_of}
use Rattle.octo_house.proofs.Fileless.{shelves-same, request-leaves, is_storing}
use Rattle.octo_house.proofs.house.House.edit.Goals as goal

pub returns-in-SelectFile-default-true-clause-files : goal.returns-in-SelectFile-default-true-clause-files
returns-in-SelectFile-default-true-clause-files g c =
    shelves-same _ _ (λ files. request_verdict c.args.request.now c.args.user.now files (known_of c.args.self.now)) _ c.print_named.ensures.rest.stays
    (λ files. request-leaves c.args.request.now c.args.user.now files (known_of c.args.self.now) (ap is_storing c.in-SelectFile-default-true.is))

pub returns-in-SelectFile-default-false-clause-files : goal.returns-in-SelectFile-default-false-clause-files
returns-in-SelectFile-default-false-clause-files g c =
    shelves-same _ _ (λ files. request_verdict c.args.request.now c.args.user.now files (known_of c.args.self.now)) _ c.select_named.ensures.rest.stays
    (λ files. request-leaves c.args.request.now c.args.user.now files (known_of c.args.self.now) (ap is_storing c.in-SelectFile-default-false.is))

pub returns-in-SelectFile-default-false-clause-rest : goal.returns-in-SelectFile-default-false-clause-rest
returns-in-SelectFile-default-false-clause-rest g c = record {
  kept = keeps-same _ _ _ _ refl c.select_named.ensures.alone.tables;
  listed = search rules;
  apart = search rules;
  keeper = search rules;
  shelf = search rules;
}

pub returns-in-DeleteFile-clause-rest : goal.returns-in-DeleteFile-clause-rest
returns-in-DeleteFile-clause-rest g c = record {
  kept = keeps-same _ _ _ _ refl c.delete_file.ensures.rows.tables;
  listed = c.delete_file.ensures.listed;
  apart = c.delete_file.ensures.rows.apart;
  keeper = search rules;
  shelf = c.delete_file.ensures.shelf;
}

pub returns-in-NextEntry-clause-files : goal.returns-in-NextEntry-clause-files
returns-in-NextEntry-clause-files g c =
    shelves-same _ _ (λ files. request_verdict c.args.request.now c.args.user.now files (known_of c.args.self.now)) _ c.print_next.ensures.rest.stays
    (λ files. request-leaves c.args.request.now c.args.user.now files (known_of c.args.self.now) (ap is_storing c.in-NextEntry.is))

pub returns-in-DropOwn-clause-done : goal.returns-in-DropOwn-clause-done
returns-in-DropOwn-clause-done g c = rw c.in-DropOwn.is (λ files at. c.drop_entry.ensures.done (known_of c.args.self.now))

pub returns-in-DropOther-clause-done : goal.returns-in-DropOther-clause-done
returns-in-DropOther-clause-done g c = rw c.in-DropOther.is (λ files at. c.drop_entry-in-DropOther.ensures.done (known_of c.args.self.now))

pub returns-in_default : goal.returns-in_default
returns-in_default g c =
    let still : is_storing c.args.request.now ≡ false = search rules in
    let unread : is_reading c.args.request.now ≡ false = search rules in
    record {
      done = λ files at. c.put_row.ensures.done files;
      some = λ reads. absurd (false≢true (sym unread ∙ reads));
      granted = search rules;
      files = shelves-same _ _ (λ files. request_verdict c.args.request.now c.args.user.now files (known_of c.args.self.now)) _ refl
          (λ files. request-leaves c.args.request.now c.args.user.now files (known_of c.args.self.now) still);
      rest = record {
        kept = c.put_row.ensures.rest.kept;
        listed = λ listed files at. c.put_row.ensures.rest.names ∙ listed files at;
        apart = c.put_row.ensures.rest.apart;
        keeper = c.put_row.ensures.rest.keeper;
        shelf = record { later = omega arith; rose = λ failed. absurd (false≢true (sym c.put_row.ensures.rest.shelf ∙ failed)) };
      };
    }
