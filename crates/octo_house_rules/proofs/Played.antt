-- What the calls of a deed do at the desk: they pull nothing, may be made, and leave the numbers of prints in order.
use Rattle.std.proofs.Common.{◌≡◌, ℕ, ◌+◌, ◌<◌, ◌≤◌, Bool, true, false, cond, List, [], ◌∷◌, ◌++◌, length, Option, None, Some, refl, sym, ◌∙◌, ap, subst, arith, length-append}
use Rattle.std.proofs.Common.{Ok}
use Rattle.std.proofs.lemmas.List.{length-map}
use Rattle.temp_rules.specs.Hot.{first_hot_of}
use Rattle.temp_rules.specs.declared.job.HotLine.{HotLine}
use Rattle.job_desk.specs.Data.{Data, File}
use Rattle.job_desk.specs.Run.{Fate, Left, DeskCall, Select, Start}
use Rattle.job_desk.specs.Table.{start_checked, start_file, start_at, restart_at}
use Rattle.job_desk.specs.declared.state.State.{State}
use Rattle.job_desk.specs.declared.state.State.TheVariants.{Operational, Paused}
use Rattle.job_desk.proofs.Steady.{Steady, steady-select}
use Rattle.octo_keeper.specs.Tables.{ended_row, with_end}
use Rattle.print_queue.specs.declared.ending.Ending.{Ending}
use Rattle.print_queue.specs.declared.ending.Outcome.TheVariants as outcome
use Rattle.print_queue.specs.declared.row.PrintRow.{PrintRow}
use Rattle.octo_asks.specs.declared.answer.Answer.{Answer}
use Rattle.octo_house_rules.specs.Desk.{desk_after, desk_after_all, lines_pulled}
use Rattle.octo_house_rules.specs.Known.{Known, next_print_number}
use Rattle.octo_house_rules.specs.Prints.{restart_deed, new_row, with_print, start_deed}
use Rattle.octo_house_rules.specs.Verdict.{Verdict, Deed, gives, makes, writes, reads, removes, stores, begins, known_after, known_in, calls_in, is_stored}
use Rattle.octo_house_rules.proofs.Fates.{left_by, ends_all, ends_append, Tells, tells_begin, tells_end, restart_leaves}
use Rattle.octo_house_rules.proofs.Runs.{MayAll, may_append, desk_append, lines_append}

-- no print has a number above the number of records
abbrev pub IsNumbered : Known → Type 0
IsNumbered k = k.desk.greatest ≤ length k.prints

pub record Played (deed : Deed) (k : Known) : Type 0 where
  pub silent : lines_pulled deed.calls k.desk ≡ []
  pub may : MayAll deed.calls k.desk
  pub numbered : IsNumbered (known_after deed k)
  -- the records keep up with the ends of prints
  pub told : (before : ℕ) (ends : List (ℕ × Fate)) → Tells before ends k.prints → Tells before (ends_all deed.calls k.desk ends) deed.prints

-- All deeds of a verdict are played, each from where the one before it leads.
pub data Plays : Verdict → Known → Type 0 where
  gives-one : (a : Answer) (k : Known) → Plays (gives a) k
  makes-one : (a : Answer) (deed : Deed) (k : Known) → Played deed k → Plays (makes a deed) k
  writes-one : (a : Answer) (deed : Deed) (k : Known) → Played deed k → Plays (writes a deed) k
  reads-one : (v : Verdict) (k : Known) → Plays v k → Plays (reads v) k
  removes-one : (name : List ℕ) (a : Answer) (deed : Deed) (k : Known) → Played deed k → Plays (removes name a deed) k
  stores-one : (name bytes : List ℕ) (deed : Deed) (v : Verdict) (k : Known) → Played deed k → Plays v (known_after deed k) → Plays (stores name bytes deed v) k
  begins-one : (a : Answer) (deed : Deed) (name : List ℕ) (k : Known) → Played deed k → Plays (begins a deed name) k

-- a deed without calls
pub played_none : (deed : Deed) (k : Known) → deed.calls ≡ [] → deed.prints ≡ k.prints → IsNumbered k → Played deed k
played_none deed k none same n = record {
  silent = ap (λ calls. lines_pulled calls k.desk) none;
  may = subst (λ calls. MayAll calls k.desk) (sym none) tt;
  numbered = subst (λ calls. (desk_after_all calls k.desk).greatest ≤ length deed.prints) (sym none) (subst (λ (rows : List PrintRow). k.desk.greatest ≤ length rows) (sym same) n);
  told = λ before ends t. (subst (λ calls. Tells before (ends_all calls k.desk ends) deed.prints) (sym none) (subst (λ (rows : List PrintRow). Tells before ends rows) (sym same) t));
}

-- numbers stay in order if a steady call is made and no record is added
pub stays_numbered : (d e : Data) (rows : List PrintRow) → Steady d e → d.greatest ≤ length rows → e.greatest ≤ length rows
stays_numbered d e rows s n = subst (λ g. g ≤ length rows) (sym s.greatest) n

-- after a start the greatest number is at most its own
start_hot : (hot : Option HotLine) (print m : ℕ) (d : Data) → print ≡ m + 1 → d.greatest ≤ m → (start_checked hot print d).1.greatest ≤ m + 1
start_hot None print m d is n = omega arith
start_hot (Some hot) print m d is n = omega arith

start_of : (file : Option File) (print m : ℕ) (d : Data) → print ≡ m + 1 → d.greatest ≤ m → (start_file file print d).1.greatest ≤ m + 1
start_of None print m d is n = omega arith
start_of (Some file) print m d is n = start_hot (first_hot_of d.limits file.job.commands) print m d is n

start_grows : (s : State) (print m : ℕ) (d : Data) → print ≡ m + 1 → d.greatest ≤ m → (start_at s print d).1.greatest ≤ m + 1
start_grows Operational print m d is n = start_of d.file print m d is n
start_grows _ print m d is n = omega arith

restart_grows : (s : State) (print m : ℕ) (d : Data) → print ≡ m + 1 → d.greatest ≤ m → (restart_at s print d).1.greatest ≤ m + 1
restart_grows Paused print m d is n = omega arith
restart_grows _ print m d is n = omega arith

one_more : (print : ℕ) (user : List ℕ) (file : Option File) (rows : List PrintRow) → length (with_print print user file rows) ≡ length rows + 1
one_more print user file rows = length-append rows (new_row print user file ∷ [])

may_start : (m g : ℕ) → g ≤ m → g < m + 1
may_start m g n = omega arith

pub played_start : (user : List ℕ) (file : Option File) (k : Known) → IsNumbered k → Played (start_deed user file (Start (next_print_number k) ∷ []) k) k
played_start user file k n = record {
  silent = refl;
  may = (may_start (length k.prints) k.desk.greatest n, tt);
  numbered = subst (λ (count : ℕ). (start_at k.desk.state (next_print_number k) k.desk).1.greatest ≤ count) (sym (one_more (next_print_number k) user file k.prints)) (start_grows k.desk.state (next_print_number k) (length k.prints) k.desk refl n);
  told = λ before ends t. (tells_begin before ends k.prints (new_row (next_print_number k) user file) refl refl t);
}

module _ (user : List ℕ) (file : File) (k : Known) (n : IsNumbered k) where
  abbrev selected : Data
  selected = desk_after (Select file) k.desk

  selected_numbered : selected.greatest ≤ length k.prints
  selected_numbered = stays_numbered k.desk selected k.prints (steady-select k.desk.state file k.desk) n

  pub played_select_start : (deed : Deed) → deed.calls ≡ Select file ∷ Start (next_print_number k) ∷ [] → deed.prints ≡ with_print (next_print_number k) user (Some file) k.prints → Played deed k
  played_select_start deed calls prints = record {
    silent = ap (λ c. lines_pulled c k.desk) calls;
    may = subst (λ c. MayAll c k.desk) (sym calls) (tt, (may_start (length k.prints) selected.greatest selected_numbered, tt));
    numbered =
        subst (λ c. (desk_after_all c k.desk).greatest ≤ length deed.prints) (sym calls)
        (subst (λ (rows : List PrintRow). (desk_after (Start (next_print_number k)) selected).greatest ≤ length rows) (sym prints)
        (subst (λ (count : ℕ). (desk_after (Start (next_print_number k)) selected).greatest ≤ count) (sym (one_more (next_print_number k) user (Some file) k.prints))
        (start_grows selected.state (next_print_number k) (length k.prints) selected refl selected_numbered)));
    told = λ before ends t. (
        subst (λ c. Tells before (ends_all c k.desk ends) deed.prints) (sym calls)
        (subst (λ (rows : List PrintRow). Tells before ends rows) (sym prints) (tells_begin before ends k.prints (new_row (next_print_number k) user (Some file)) refl refl t))
        );
  }

pub played_restart : (user : List ℕ) (former : ℕ) (k : Known) → IsNumbered k → (restart_at k.desk.state (next_print_number k) k.desk).0 ≡ Ok former → Played (restart_deed user k) k
played_restart user former k n allowed =
    let ending : Ending = record { print = k.desk.greatest; outcome = outcome.Cancelled } in
    let many : length (with_end ending k.prints) ≡ length k.prints = length-map k.prints (ended_row ending) in
    record {
      silent = refl;
      may = (may_start (length k.prints) k.desk.greatest n, tt);
      numbered =
          subst (λ (count : ℕ). (restart_at k.desk.state (next_print_number k) k.desk).1.greatest ≤ count) (sym (one_more (next_print_number k) user k.desk.file (with_end ending k.prints) ∙ ap (λ (count : ℕ). count + 1) many))
          (restart_grows k.desk.state (next_print_number k) (length k.prints) k.desk refl n);
      told = λ before ends t. (
          let print : former ≡ k.desk.greatest = restart_leaves k.desk.state (next_print_number k) former k.desk allowed in
          let left : Tells before (ends ++ (k.desk.greatest, Left) ∷ []) (with_end ending k.prints) = tells_end before ends ending Left k.prints refl n t in
          subst (λ r. Tells before (left_by r ends) (with_print (next_print_number k) user k.desk.file (with_end ending k.prints))) (sym (allowed ∙ ap (λ p. Ok p) print))
          (tells_begin before (ends ++ (k.desk.greatest, Left) ∷ []) (with_end ending k.prints) (new_row (next_print_number k) user k.desk.file) (ap (λ (count : ℕ). count + 1) (sym many)) refl left)
          );
    }

-- one steady call
pub played_call : (call : DeskCall) (deed : Deed) (k : Known) → deed.calls ≡ call ∷ [] → deed.prints ≡ k.prints → lines_pulled (call ∷ []) k.desk ≡ [] → ((ends : List (ℕ × Fate)) → ends_all (call ∷ []) k.desk ends ≡ ends) → MayAll (call ∷ []) k.desk → Steady k.desk (desk_after call k.desk) → IsNumbered k → Played deed k
played_call call deed k calls prints silent still may steady n = record {
  silent = ap (λ c. lines_pulled c k.desk) calls ∙ silent;
  may = subst (λ c. MayAll c k.desk) (sym calls) may;
  numbered =
      subst (λ c. (desk_after_all c k.desk).greatest ≤ length deed.prints) (sym calls)
      (subst (λ (rows : List PrintRow). (desk_after call k.desk).greatest ≤ length rows) (sym prints) (stays_numbered k.desk (desk_after call k.desk) k.prints steady n));
  told = λ before ends t. (
      subst (λ c. Tells before (ends_all c k.desk ends) deed.prints) (sym calls)
      (subst (λ e. Tells before e deed.prints) (sym (still ends)) (subst (λ (rows : List PrintRow). Tells before ends rows) (sym prints) t))
      );
}

-- what holds of an answer that is no fault
pub record Led (v : Verdict) (k : Known) (x : Answer) : Type 0 where
  pub desk : (known_in v k x).desk ≡ desk_after_all (calls_in v x) k.desk
  pub silent : lines_pulled (calls_in v x) k.desk ≡ []
  pub may : MayAll (calls_in v x) k.desk
  pub numbered : IsNumbered (known_in v k x)
  pub told : (before : ℕ) (ends : List (ℕ × Fate)) → Tells before ends k.prints → Tells before (ends_all (calls_in v x) k.desk ends) (known_in v k x).prints

led_begin : (stored : Bool) (deed : Deed) (k : Known) → IsNumbered k → Played deed k → ((cond stored k (known_after deed k)).desk ≡ desk_after_all (cond stored [] deed.calls) k.desk) × (lines_pulled (cond stored [] deed.calls) k.desk ≡ []) × MayAll (cond stored [] deed.calls) k.desk × IsNumbered (cond stored k (known_after deed k)) × ((before : ℕ) (ends : List (ℕ × Fate)) → Tells before ends k.prints → Tells before (ends_all (cond stored [] deed.calls) k.desk ends) (cond stored k (known_after deed k)).prints)
led_begin true deed k n p = (refl, refl, tt, n, λ before ends t. t)
led_begin false deed k n p = (refl, p.silent, p.may, p.numbered, p.told)

pub led : (v : Verdict) (k : Known) (x : Answer) → IsNumbered k → Plays v k → Led v k x
led _ _ x n (gives-one a k) = record { desk = refl; silent = refl; may = tt; numbered = n; told = λ before ends t. t }
led _ _ x n (makes-one a deed k p) = record { desk = refl; silent = p.silent; may = p.may; numbered = p.numbered; told = p.told }
led _ _ x n (writes-one a deed k p) = record { desk = refl; silent = p.silent; may = p.may; numbered = p.numbered; told = p.told }
led _ _ x n (reads-one v k p) = let l = led v k x n p in record { desk = l.desk; silent = l.silent; may = l.may; numbered = l.numbered; told = l.told }
led _ _ x n (removes-one name a deed k p) = record { desk = refl; silent = p.silent; may = p.may; numbered = p.numbered; told = p.told }
led _ _ x n (stores-one name bytes deed v k p q) =
    let l = led v (known_after deed k) x p.numbered q in
    record {
      desk = l.desk ∙ sym (desk_append deed.calls (calls_in v x) k.desk);
      silent = lines_append deed.calls (calls_in v x) k.desk ∙ ap (λ lines. lines ++ lines_pulled (calls_in v x) (desk_after_all deed.calls k.desk)) p.silent ∙ l.silent;
      may = may_append deed.calls (calls_in v x) k.desk p.may l.may;
      numbered = l.numbered;
      told = λ before ends t. (
          subst (λ e. Tells before e (known_in v (known_after deed k) x).prints) (sym (ends_append deed.calls (calls_in v x) k.desk ends)) (l.told before (ends_all deed.calls k.desk ends) (p.told before ends t))
          );
    }
led _ _ x n (begins-one a deed name k p) =
    let l = led_begin (is_stored x) deed k n p in record { desk = l.0; silent = l.1; may = l.2; numbered = l.3; told = l.4 }
