use Rattle.std.proofs.Common.{◌≡◌, inr, true, false, Option, Err, refl, sym, ap, subst}
use Rattle.std.proofs.lemmas.Bool.{false≢true}
use Rattle.octo_keeper.specs.declared.keeper.KeeperFault.{KeeperFault}
use Rattle.octo_keeper.specs.declared.keeper.KeeperFault.TheVariants as fault
use Rattle.octo_keeper.specs.declared.tables.Tables.{Tables}
use Rattle.octo_house_rules.specs.Faults.{is_keepers, is_shelfs}
use Rattle.octo_house_tables.specs.Faults.{answer_of_keeper_fault}
use Rattle.octo_house_tables.specs.Kept.{IsKept}
use Rattle.octo_house.proofs.house.House.backup.Goals as goal

failed-alone : (x : KeeperFault) → is_keepers (answer_of_keeper_fault x) ≡ true → x ≡ fault.Failed
failed-alone fault.Failed is = refl
failed-alone fault.NoMemory is = absurd (false≢true is)

no-shelfs : (x : KeeperFault) → is_shelfs (answer_of_keeper_fault x) ≡ false
no-shelfs fault.Failed = refl
no-shelfs fault.NoMemory = refl

pub returns-in-Ok-clause-rest : goal.returns-in-Ok-clause-rest
returns-in-Ok-clause-rest g c =
    let ensured = c.in-Ok.ensures in
    record {
      kept = λ begun is. subst (λ (t : Option Tables). IsKept begun t c.args.self.now.tables) (sym ensured.stays) is;
      names = refl;
      apart = record { sender = refl; up = refl; unwritten = inr refl };
      keeper = record { later = ensured.counts.later; rose = λ is. absurd (false≢true is) };
      shelf = refl;
    }

pub returns-in-Err-clause-rest : goal.returns-in-Err-clause-rest
returns-in-Err-clause-rest g c =
    let ensured = c.in-Err.ensures in
    rw c.answer_of_keeper_fault.ensures (record {
      kept = λ begun is. subst (λ (t : Option Tables). IsKept begun t c.args.self.now.tables) (sym ensured.stays) is;
      names = refl;
      apart = record { sender = refl; up = refl; unwritten = inr refl };
      keeper = record { later = ensured.counts.later; rose = λ is. ensured.counts.rose (ap (λ (x : KeeperFault). Err x) (failed-alone c.in-Err.fault is)) };
      shelf = no-shelfs c.in-Err.fault;
    })
