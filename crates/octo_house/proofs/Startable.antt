-- When the print of a stored and selected file may begin.
use Rattle.std.proofs.Common.{◌≡◌, ℕ, Bool, true, ◌&&◌, is_none, length, List, Option, None, Some, refl, sym, ap, ◌∙◌, subst}
use Rattle.std.proofs.lemmas.Bool.{and_parts}
use Rattle.gcode_lines.specs.Job.{JobData}
use Rattle.temp_rules.specs.Hot.{first_hot_of}
use Rattle.job_desk.specs.Table.{select_at}
use Rattle.job_desk.specs.declared.state.State.{State}
use Rattle.job_desk.specs.declared.state.State.TheVariants.{Operational}
use Rattle.octo_access.specs.Rights.{has}
use Rattle.octo_access.specs.declared.permission.Permission.TheVariants as permission
use Rattle.octo_access.specs.declared.row.UserRow.{UserRow}
use Rattle.octo_house_rules.specs.Known.{Known}
use Rattle.octo_house_rules.specs.Prints.{has_room}
use Rattle.octo_house_rules.specs.States.{may_start}
use Rattle.octo_house_rules.specs.Uploads.{is_printed}
use Rattle.octo_house.specs.Storing.{IsStartable}
use Rattle.octo_house.proofs.ReadDone.{start-state}
use Rattle.job_desk.specs.Data.{named_file}

none-if : {A : Type 0} (o : Option A) → is_none o ≡ true → o ≡ None
none-if None is = refl
none-if (Some a) is = absurd (cc is)

module _ (user : UserRow) (print : Bool) (name : List ℕ) (job : JobData) (k new : Known) (on : is_printed user print (named_file name job) k ≡ true)
    (after : new ≡ record k { desk = (select_at k.desk.state (named_file name job) k.desk).1 }) where
  abbrev cool : Bool
  cool = is_none (first_hot_of k.desk.limits job.commands)

  abbrev asked : Bool
  asked = print && (has k.policy user permission.Print && may_start k.desk.state)

  state-is : k.desk.state ≡ Operational
  state-is =
      let both = and_parts asked (cool && has_room k) on in
      let mays = and_parts print (has k.policy user permission.Print && may_start k.desk.state) both.0 in
      start-state k.desk.state (and_parts (has k.policy user permission.Print) (may_start k.desk.state) mays.1).1

  abbrev selected : Known
  selected = record k { desk = record k.desk { file = Some (named_file name job) } }

  pub selects-it : new ≡ selected
  selects-it = after ∙ ap (λ (s : State). record k { desk = (select_at s (named_file name job) k.desk).1 }) state-is

  pub startable : (commands : ℕ) → commands ≡ length job.commands → IsStartable name commands new
  startable commands counted =
      let both = and_parts asked (cool && has_room k) on in
      let last = and_parts cool (has_room k) both.1 in
      subst (λ (n : Known). IsStartable name commands n) (sym selects-it) (record {
        state = state-is;
        file = named_file name job;
        selected = refl;
        named = refl;
        counted = sym counted;
        cool = none-if (first_hot_of k.desk.limits job.commands) last.0;
        room = last.1;
      })

  pub has-it : new.desk.file ≡ Some (named_file name job)
  has-it = ap (λ (n : Known). n.desk.file) selects-it
