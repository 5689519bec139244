-- Uploads: the verdict of one that is stored, and of one that isn't.
use Rattle.std.proofs.Common.{◌≡◌, ◌⊎◌, inl, inr, ℕ, Bool, true, false, cond, not, length, List, [], ◌∷◌, Option, None, Some, option_map, Result, Ok, Err, refl, sym, ap, ◌∙◌, subst}
use Rattle.gcode_lines.specs.Commands.{job_of}
use Rattle.gcode_lines.specs.Job.{JobData}
use Rattle.gcode_lines.specs.declared.fault.FileFault.{FileFault}
use Rattle.gcode_lines.specs.declared.fault.FileFault.TheVariants as file_fault
use Rattle.job_desk.specs.Data.{File, named_file}
use Rattle.job_desk.specs.Run.{Start}
use Rattle.job_desk.specs.Table.{drop_file_step, select_at}
use Rattle.job_desk.specs.declared.state.Refusal.{Refusal}
use Rattle.octo_access.specs.declared.row.UserRow.{UserRow}
use Rattle.octo_keeper.specs.Files.{with_file}
use Rattle.octo_keeper.specs.declared.shelf.ShelfFile.{ShelfFile}
use Rattle.octo_keeper.specs.declared.tables.Tables.{Tables}
use Rattle.octo_asks.specs.declared.answer.Answer.{Answer}
use Rattle.octo_asks.specs.declared.answer.Answer.TheVariants as answer
use Rattle.octo_asks.specs.declared.answer.PrintRefusal.{PrintRefusal}
use Rattle.octo_house_rules.specs.Known.{Known, next_print_number, shown_count}
use Rattle.octo_house_rules.specs.Prints.{start_deed}
use Rattle.octo_house_rules.specs.Refusals.{refused_if, if_desk_allows, read_as, answer_of_refusal}
use Rattle.octo_house_rules.specs.Uploads.{has_file_room, is_selected, is_printed, refusal_of, unprinted, store_deed, after_storing, store_verdict, put_file_verdict}
use Rattle.octo_house_rules.specs.Verdict.{Verdict, Deed, May, IsDone, gives, stores, begins, is_fault, is_stored, after, known_after, files_in, files_after}
use Rattle.octo_house_tables.specs.Data.{TablesData}
use Rattle.octo_house_tables.specs.Kept.{KeepsRows}
use Rattle.octo_house.specs.Answered.{Shelves}
use Rattle.octo_house.specs.Storing.{refused_or, full_unless, store_refusal, with_stored}
use Rattle.octo_house.proofs.ReadDone.{given}
use Rattle.octo_house.proofs.Dropping.{same-selected, same-printed, same-refusal}
use Rattle.byte_text.proofs.BoolLaws.{same_if}

-- a file is stored unless the desk or the number of files refuses it
abbrev pub store_if : Result (Unit {0}) Refusal → Bool → List ℕ → List ℕ → Deed → Verdict → Known → Verdict
store_if allowed room name bytes deed v k = if_desk_allows allowed (refused_if (not room) (answer.Full (shown_count (length k.names))) (stores name bytes deed v))

-- what is answered once it is stored
abbrev pub stored_then : Bool → Bool → Option PrintRefusal → UserRow → List ℕ → Known → File → Verdict
stored_then select print why user bytes k file =
    stores file.name bytes (store_deed select file k) (after_storing select print why user.name file (known_after (store_deed select file k) k))

-- why it isn't stored: the refusal is the verdict's, or a fault came
abbrev pub NotStored : Result (Unit {0}) Refusal → Bool → Known → Answer → Type 0
NotStored allowed room k x = (refused_or allowed (full_unless room k) ≡ Some x)
    ⊎ ((x ≡ answer.NoMemory) ⊎ ((x ≡ answer.ShelfFault) × (refused_or allowed (full_unless room k) ≡ None)))

-- a file that was read is what its bytes are read as
pub job-is : (held : Result JobData FileFault) (job : JobData) → (Ok job ≡ Err file_fault.NoMemory) ⊎ (Ok job ≡ held) → held ≡ Ok job
job-is held job (inl is) = absurd (cc is)
job-is held job (inr is) = sym is

-- nothing was written before a change
pub keeps-over : (was now : Option Tables) (old mid new : TablesData) → mid ≡ old → KeepsRows was now mid new → KeepsRows was now old new
keeps-over was now old mid new is kept = subst (λ (t : TablesData). KeepsRows was now t new) is kept

-- an upload that isn't printed is no fault
pub plain-unprinted : (name : List ℕ) (select : Bool) (why : Option PrintRefusal) (x : Answer) → x ≡ unprinted name select why → is_fault x ≡ false
plain-unprinted name select None x is = ap is_fault is
plain-unprinted name select (Some why) x is = ap is_fault is

no-memory : (v : Verdict) (x : Answer) (k : Known) → x ≡ answer.NoMemory → IsDone v x k k
no-memory v x k is = rw is (record { may = inl refl; leaves = refl })

stores-failed : (name bytes : List ℕ) (deed : Deed) (v : Verdict) (x : Answer) (k : Known) → x ≡ answer.ShelfFault → IsDone (stores name bytes deed v) x k k
stores-failed name bytes deed v x k is = rw is (record { may = inr (inl refl); leaves = refl })

unstored : (allowed : Result (Unit {0}) Refusal) (room : Bool) (name bytes : List ℕ) (deed : Deed) (v : Verdict) (k : Known) (x : Answer)
    → NotStored allowed room k x → IsDone (store_if allowed room name bytes deed v k) x k k
unstored (Err refusal) room name bytes deed v k x (inl is) = given (answer_of_refusal refusal) x k (cc)
unstored (Err refusal) room name bytes deed v k x (inr (inl is)) = no-memory (gives (answer_of_refusal refusal)) x k is
unstored (Err refusal) room name bytes deed v k x (inr (inr is)) = absurd (cc is.1)
unstored (Ok done) true name bytes deed v k x (inl is) = absurd (cc is)
unstored (Ok done) true name bytes deed v k x (inr (inl is)) = no-memory (stores name bytes deed v) x k is
unstored (Ok done) true name bytes deed v k x (inr (inr is)) = stores-failed name bytes deed v x k is.0
unstored (Ok done) false name bytes deed v k x (inl is) = given (answer.Full (shown_count (length k.names))) x k (cc)
unstored (Ok done) false name bytes deed v k x (inr (inl is)) = no-memory (gives (answer.Full (shown_count (length k.names)))) x k is
unstored (Ok done) false name bytes deed v k x (inr (inr is)) = absurd (cc is.1)

fault-files : (v : Verdict) (x : Answer) (files : List ShelfFile) → is_fault x ≡ true → files_after v x files ≡ files
fault-files v x files is = ap (λ b. cond b files (files_in v files)) is

unstored-files : (allowed : Result (Unit {0}) Refusal) (room : Bool) (name bytes : List ℕ) (deed : Deed) (v : Verdict) (k : Known) (x : Answer)
    (files : List ShelfFile) → NotStored allowed room k x → files_after (store_if allowed room name bytes deed v k) x files ≡ files
unstored-files (Err refusal) room name bytes deed v k x files why = same_if (is_fault x) files
unstored-files (Ok done) true name bytes deed v k x files (inl is) = absurd (cc is)
unstored-files (Ok done) true name bytes deed v k x files (inr (inl is)) = fault-files (stores name bytes deed v) x files (ap is_fault is)
unstored-files (Ok done) true name bytes deed v k x files (inr (inr is)) = fault-files (stores name bytes deed v) x files (ap is_fault is.0)
unstored-files (Ok done) false name bytes deed v k x files why = same_if (is_fault x) files

module _ (user : UserRow) (name bytes : List ℕ) (select print : Bool) (k : Known) (job : JobData) (read : job_of bytes ≡ Ok job) where
  abbrev file : File
  file = named_file name job

  abbrev selects : Bool
  selects = is_selected user select print k

  abbrev starts : Bool
  starts = is_printed user print file k

  abbrev refuses : Option PrintRefusal
  refuses = refusal_of user select print file k

  abbrev whole : Verdict
  whole = put_file_verdict user name bytes select print k

  read-verdict : whole ≡ store_verdict user bytes select print k file
  read-verdict = ap (λ (r : Result JobData FileFault). read_as r (λ j. store_verdict user bytes select print k (named_file name j))) read

  -- an upload that isn't stored changes nothing
  pub not-stored : (x : Answer) (new : Known) → NotStored (drop_file_step name k.desk).0 (has_file_room name k) k x → new ≡ k → IsDone whole x k new
  not-stored x new why same =
      subst (λ (v : Verdict). IsDone v x k new) (sym read-verdict)
      (subst (λ (n : Known). IsDone (store_verdict user bytes select print k file) x k n) (sym same)
      (unstored (drop_file_step name k.desk).0 (has_file_room name k) name bytes (store_deed selects file k)
      (after_storing selects starts refuses user.name file (known_after (store_deed selects file k) k)) k x why))

  pub not-shelved : (x : Answer) (was now : Option (List ShelfFile)) → NotStored (drop_file_step name k.desk).0 (has_file_room name k) k x → now ≡ was
      → Shelves was now (λ files. whole) x
  not-shelved x was now why same = λ files at.
      same ∙ at ∙ ap (λ (fs : List ShelfFile). Some fs)
      (sym (ap (λ (v : Verdict). files_after v x files) read-verdict
      ∙ unstored-files (drop_file_step name k.desk).0 (has_file_room name k) name bytes (store_deed selects file k)
      (after_storing selects starts refuses user.name file (known_after (store_deed selects file k) k)) k x files why))

  allowed-by : (allowed : Result (Unit {0}) Refusal) (room : Bool) (v : Verdict) → refused_or allowed (full_unless room k) ≡ None
      → if_desk_allows allowed (refused_if (not room) (answer.Full (shown_count (length k.names))) v) ≡ v
  allowed-by (Ok done) true v none = refl
  allowed-by (Ok done) false v none = absurd (cc none)
  allowed-by (Err refusal) room v none = absurd (cc none)

  -- the verdict of one that may be stored
  stored-verdict : store_refusal name k ≡ None → whole ≡ stored_then selects starts refuses user bytes k file
  stored-verdict none =
      read-verdict ∙ allowed-by (drop_file_step name k.desk).0 (has_file_room name k) (stored_then selects starts refuses user bytes k file) none

  selected-by : (m : Known) (b : Bool) → m ≡ with_stored name k → is_selected user select print m ≡ b → selects ≡ b
  selected-by m b is found = sym (same-selected user select print name k) ∙ sym (ap (is_selected user select print) is) ∙ found

  printed-by : (m : Known) (b : Bool) → m ≡ with_stored name k → is_printed user print file m ≡ b → starts ≡ b
  printed-by m b is found = sym (same-printed user print file name k) ∙ sym (ap (is_printed user print file) is) ∙ found

  refused-by : (m : Known) → m ≡ with_stored name k → refusal_of user select print file m ≡ refuses
  refused-by m is = ap (refusal_of user select print file) is ∙ same-refusal user select print file name k

  -- what is known once the file is also selected
  with-selected : (m new : Known) → m ≡ with_stored name k → new ≡ record m { desk = (select_at m.desk.state file m.desk).1 }
      → new ≡ known_after (store_deed true file k) k
  with-selected m new is moved = moved ∙ ap (λ (n : Known). record n { desk = (select_at n.desk.state file n.desk).1 }) is

  leaves-alone : (starting : Bool) (why : Option PrintRefusal)
      → after (stored_then false starting why user bytes k file) k (unprinted name false why) ≡ with_stored name k
  leaves-alone starting None = refl
  leaves-alone starting (Some why) = refl

  leaves-selected : (why : Option PrintRefusal)
      → after (stored_then true false why user bytes k file) k (unprinted name true why) ≡ known_after (store_deed true file k) k
  leaves-selected None = refl
  leaves-selected (Some why) = refl

  -- stored alone
  pub done-alone : (x : Answer) (m : Known) → store_refusal name k ≡ None → m ≡ with_stored name k → is_selected user select print m ≡ false
      → x ≡ unprinted name false (refusal_of user select print file m) → IsDone whole x k m
  done-alone x m none is off says =
      subst (λ (y : Answer). IsDone whole y k m) (sym (says ∙ ap (unprinted name false) (refused-by m is)))
      (subst (λ (v : Verdict). IsDone v (unprinted name false refuses) k m)
      (sym (stored-verdict none ∙ ap (λ b. stored_then b starts refuses user bytes k file) (selected-by m false is off)))
      (record { may = inr (inr refl); leaves = is ∙ sym (leaves-alone starts refuses) }))

  -- and selected
  pub done-selected : (x : Answer) (m new : Known) → store_refusal name k ≡ None → m ≡ with_stored name k → is_selected user select print m ≡ true
      → is_printed user print file m ≡ false → new ≡ record m { desk = (select_at m.desk.state file m.desk).1 }
      → x ≡ unprinted name true (refusal_of user select print file m) → IsDone whole x k new
  done-selected x m new none is on off moved says =
      subst (λ (y : Answer). IsDone whole y k new) (sym (says ∙ ap (unprinted name true) (refused-by m is)))
      (subst (λ (v : Verdict). IsDone v (unprinted name true refuses) k new)
      (sym (stored-verdict none ∙ ap (λ b. stored_then b starts refuses user bytes k file) (selected-by m true is on)
      ∙ ap (λ b. stored_then true b refuses user bytes k file) (printed-by m false is off)))
      (record { may = inr (inr refl); leaves = with-selected m new is moved ∙ sym (leaves-selected refuses) }))

  may-begin : (a : Answer) (deed other : Deed) (x : Answer) → (x ≡ answer.NoMemory) ⊎ May (begins a deed name) x
      → (x ≡ answer.NoMemory) ⊎ May (stores name bytes other (begins a deed name)) x
  may-begin a deed other x (inl none) = inl none
  may-begin a deed other x (inr may) = inr (inr may)

  -- and its print begun, or not for a fault
  pub done-printed : (m mid new : Known) (x : Answer) → store_refusal name k ≡ None → m ≡ with_stored name k → is_selected user select print m ≡ true
      → is_printed user print file m ≡ true → mid ≡ record m { desk = (select_at m.desk.state file m.desk).1 } → mid.desk.file ≡ Some file
      → is_fault x ≡ false
      → IsDone (begins (answer.Uploaded name true true) (start_deed user.name mid.desk.file (Start (next_print_number mid) ∷ []) mid) name) x mid new
      → IsDone whole x k new
  done-printed m mid new x none is on starting moved there plain done =
      let deed : Option File → Known → Deed = λ one n. start_deed user.name one (Start (next_print_number n) ∷ []) n in
      let last : Known = known_after (store_deed true file k) k in
      let left : Option File → Known → Known = λ one n. cond (is_stored x) n (known_after (deed one n) n) in
      subst (λ (v : Verdict). IsDone v x k new)
      (sym (stored-verdict none ∙ ap (λ b. stored_then b starts refuses user bytes k file) (selected-by m true is on)
      ∙ ap (λ b. stored_then true b refuses user bytes k file) (printed-by m true is starting)))
      (record {
        may = may-begin (answer.Uploaded name true true) (deed (Some file) last) (store_deed true file k) x done.may;
        leaves = done.leaves ∙ ap (λ b. cond b mid (left mid.desk.file mid)) plain ∙ ap (λ one. left one mid) there
            ∙ ap (left (Some file)) (with-selected m mid is moved) ∙ ap (λ b. cond b k (left (Some file) last)) (sym plain);
      })

  left-after : (select print : Bool) (why : Option PrintRefusal) (owner : List ℕ) (n : Known) (files : List ShelfFile)
      → files_in (after_storing select print why owner file n) files ≡ files
  left-after false print why owner n files = refl
  left-after true false why owner n files = refl
  left-after true true why owner n files = refl

  -- the shelf has it then
  pub shelved : (x : Answer) (was now : Option (List ShelfFile)) → store_refusal name k ≡ None → is_fault x ≡ false
      → now ≡ option_map (with_file name bytes) was → Shelves was now (λ files. whole) x
  shelved x was now none plain is = λ files at.
      let last : Verdict = after_storing selects starts refuses user.name file (known_after (store_deed selects file k) k) in
      is ∙ ap (option_map (with_file name bytes)) at ∙ ap (λ (fs : List ShelfFile). Some fs)
      (sym (ap (λ (v : Verdict). files_after v x files) (stored-verdict none)
      ∙ ap (λ b. cond b files (files_in last (with_file name bytes files))) plain
      ∙ left-after selects starts refuses user.name (known_after (store_deed selects file k) k) (with_file name bytes files)))
