-- A put entry, once the keeper has written it or not.
use Rattle.std.proofs.Common.{◌≡◌, ◌⊎◌, Bool, true, false, cond, Option, option_map, Ok, refl, sym, ap, ◌∙◌, subst}
use Rattle.octo_asks.specs.Shown.{shown_entry}
use Rattle.octo_asks.specs.declared.answer.Answer.{Answer}
use Rattle.octo_asks.specs.declared.answer.Answer.TheVariants as answer
use Rattle.std.proofs.lemmas.Bool.{false≢true}
use Rattle.octo_keeper.specs.declared.keeper.KeeperFault.{KeeperFault}
use Rattle.octo_keeper.specs.declared.keeper.KeeperFault.TheVariants as keeper_fault
use Rattle.octo_house_tables.specs.Faults.{answer_of_keeper_fault}
use Rattle.octo_keeper.specs.Tables.{changed}
use Rattle.octo_keeper.specs.declared.tables.Tables.{Tables}
use Rattle.octo_keeper.specs.declared.tables.Change.TheVariants as change
use Rattle.print_queue.specs.Calls.{put_answer}
use Rattle.print_queue.specs.Rows.{insert_row, without}
use Rattle.print_queue.specs.declared.entry.QueueEntry.{QueueEntry}
use Rattle.print_queue.specs.declared.refusal.Put.{Put}
use Rattle.octo_house_rules.specs.Known.{Known}
use Rattle.octo_house_rules.specs.Rows.{put_by, with_queue}
use Rattle.octo_house_rules.specs.Verdict.{Verdict, IsDone, gives, writes, is_fault, after}
use Rattle.octo_house_tables.specs.Data.{TablesData, over}
use Rattle.octo_house_tables.specs.Kept.{KeepsRows}
use Rattle.octo_house_tables.proofs.QueueEntries.{fresh-put}
use Rattle.octo_house_tables.proofs.Keeping.{keeps-same, keeps-changed, kept-entry}

-- what became of an entry that a put added, by the answer
pub record IsWritten (entry : QueueEntry) (x : Answer) (was now : Option Tables) (mid new : TablesData) : Type 0 where
  pub answer : (x ≡ answer.NoMemory) ⊎ ((x ≡ answer.OneEntry (shown_entry entry)) ⊎ (x ≡ answer.KeeperFault))
  pub ok : is_fault x ≡ false → (new ≡ mid) × (now ≡ option_map (changed (change.PutEntry entry)) was)
  pub err : is_fault x ≡ true → (now ≡ was) × (new ≡ record mid { queue = without entry.user entry.name mid.queue })

module _ (old mid new : TablesData) (asked : QueueEntry) (put : Put) (x : Answer) (was now : Option Tables)
    (is : put_answer old.queue asked ≡ Ok put) (fresh : put.fresh ≡ true) (added : mid ≡ record old { queue = insert_row put.entry old.queue })
    (written : IsWritten put.entry x was now mid new) where
  undone : without put.entry.user put.entry.name mid.queue ≡ old.queue
  undone = ap (λ (t : TablesData). without put.entry.user put.entry.name t.queue) added
      ∙ (fresh-put old.queue asked put.entry (is ∙ ap (λ b. Ok (record { entry = put.entry; fresh = b })) fresh)).undone

  left : is_fault x ≡ true → new ≡ old
  left failed =
      (written.err failed).1
      ∙ ap (λ rows. record mid { queue = rows }) undone
      ∙ ap (λ (t : TablesData). record t { queue = old.queue }) added

  abbrev writing : Known → Verdict
  writing k = writes (answer.OneEntry (shown_entry put.entry)) (with_queue (insert_row put.entry old.queue) (over k old))

  leaves : (k : Known) (b : Bool) → is_fault x ≡ b → over k new ≡ after (writing k) (over k old) x
  leaves k true failed = rw failed (ap (over k) (left failed))
  leaves k false fine = rw fine (ap (over k) ((written.ok fine).0 ∙ added))

  verdict-is : (k : Known) → put_by (put_answer old.queue asked) (over k old) ≡ writing k
  verdict-is k =
      ap (λ r. put_by r (over k old)) is
      ∙ ap (λ b. cond b (writing k) (gives (answer.OneEntry (shown_entry put.entry)))) fresh

  pub put-done : (k : Known) → IsDone (put_by (put_answer old.queue asked) (over k old)) x (over k old) (over k new)
  put-done k = subst (λ v. IsDone v x (over k old) (over k new)) (sym (verdict-is k)) (record { may = written.answer; leaves = leaves k (is_fault x) refl })

  keeps : (b : Bool) → is_fault x ≡ b → KeepsRows was now old new
  keeps true failed = keeps-same was now old new (written.err failed).0 (left failed)
  keeps false fine = keeps-changed (change.PutEntry put.entry) was now old new (written.ok fine).1 (kept-entry put.entry old new ((written.ok fine).0 ∙ added))

  pub put-keeps : KeepsRows was now old new
  put-keeps = keeps (is_fault x) refl

fault-is : (fault : KeeperFault) → is_fault (answer_of_keeper_fault fault) ≡ true
fault-is keeper_fault.Failed = refl
fault-is keeper_fault.NoMemory = refl

-- the keeper's fault is a fault
pub fault-not : (fault : KeeperFault) (x : Answer) → x ≡ answer_of_keeper_fault fault → is_fault x ≡ false → ⊥
fault-not fault x is fine = false≢true (sym fine ∙ ap is_fault is ∙ fault-is fault)
