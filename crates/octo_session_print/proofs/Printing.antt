-- What a print has made of a history, by its plan and its end.
use Rattle.std.proofs.Common.{◌≡◌, ◌≢◌, ◌⊎◌, inl, inr, ℕ, zero, suc, ◌≤◌, Bool, false, List, [], ◌∷◌, ◌++◌, length, take, refl, sym, ◌∙◌, ap, subst, arith}
use Rattle.std.specs.Prelude.{◌<◌, Option, Some, None}
use Rattle.printer_model.specs.Executed.{opens, executed}
use Rattle.printer_model.specs.World.{apply, world_from}
use Rattle.printer_model.specs.declared.event.WorldEvent.{WorldEvent}
use Rattle.printer_model.specs.declared.event.WorldEvent.TheVariants.{Opened}
use Rattle.printer_link.specs.Link.{LinkKind, world_in}
use Rattle.octo_session.specs.Plan.{Weave, empty, planned, polled, probed, WeavesPart}
use Rattle.octo_session.specs.Data.{SessionData}
use Rattle.octo_session_print.specs.Plan.{PrintData}
use Rattle.octo_session_print.proofs.Rests.{longer_weaves}
use Rattle.octo_session_print.proofs.Weaves.{part_of}
use Rattle.octo_session_line_proof.specs.AllSent.{AreAllSent}
use Rattle.octo_session_line_proof.specs.History.{IsMade}
use Rattle.octo_session_line_proof.specs.Linked.{start_of, opened as by_opened}
use Rattle.octo_session_line_proof.proofs.Fitting.{fits_holds}
use Rattle.octo_session_line_proof.proofs.Turned.{sound_of}
use Rattle.octo_session.specs.Tied.{HasIssued}
use Rattle.send_window.specs.Patience.{IsUnanswered, IsMissing}
use Rattle.octo_session_print.specs.Printed.{HasPrinted}
use Rattle.octo_session_print.specs.declared.end.PrintEnd.{PrintEnd}
use Rattle.octo_session_print.specs.declared.end.PrintEnd.TheVariants as end
use Rattle.std.specs.Prelude.{◌*◌}
use Rattle.send_window.specs.Data.{IsSound, most_lines}
use Rattle.send_window.specs.Session.{HoldsIssued}
use Rattle.send_window.specs.Hearing.{later}
use Rattle.send_window.specs.declared.session_end.SessionEnd.{SessionEnd}
use Rattle.send_window.specs.declared.session_end.SessionEnd.TheVariants.{NoAnswer, AskedBack, AskedAhead, Counts, Restarted, LostOk, NumbersUsed}
use Rattle.octo_session_print.specs.Waiting.{HasWaited}
use Rattle.std.proofs.lemmas.List.{take_all, take-take}

-- nothing was issued
pub part_none : (numbered : Bool) (plan : List (List ℕ)) → WeavesPart numbered [] plan
part_none numbered plan = record { part = []; is_part = record { rest = plan; joined = refl }; woven = empty }

-- a text of the plan in front
part_planned : (n : Bool) (text : List ℕ) (list plan : List (List ℕ)) → WeavesPart n list plan → WeavesPart n (text ∷ list) (text ∷ plan)
part_planned n text list plan w = record {
  part = text ∷ w.part;
  is_part = record { rest = w.is_part.rest; joined = ap (λ (l : List (List ℕ)). text ∷ l) w.is_part.joined };
  woven = planned text list w.part w.woven;
}

-- the first texts of a weave weave a first part of its plan
part_first : (n : Bool) (k : ℕ) (list plan : List (List ℕ)) → Weave n list plan → WeavesPart n (take k list) plan
part_first n zero list plan w = part_none n plan
part_first n (suc k) _ _ empty = part_none n []
part_first n (suc k) _ _ (planned text list plan w) = part_planned n text (take k list) plan (part_first n k list plan w)
part_first n (suc k) _ _ (polled list plan w) =
    let first = part_first n k list plan w in
    record { part = first.part; is_part = first.is_part; woven = polled (take k list) first.part first.woven }
part_first n (suc k) _ _ (probed list plan on w) =
    let first = part_first n k list plan w in
    record { part = first.part; is_part = first.is_part; woven = probed (take k list) first.part on first.woven }

-- and so do those of a weave of such a part
part_taken : (n : Bool) (k : ℕ) (list plan : List (List ℕ)) → WeavesPart n list plan → WeavesPart n (take k list) plan
part_taken n k list plan w =
    let first = part_first n k list w.part w.woven in
    record { part = first.part; is_part = part_of first.part w.part plan first.is_part w.is_part; woven = first.woven }

-- what was issued, by the plan
pub printed_of : (numbered : Bool) (kind : LinkKind) (plan : List (List ℕ)) (how : PrintEnd) (issued : List (List ℕ)) (acked : ℕ) (past added : List WorldEvent) →
    WeavesPart numbered issued plan →
    (how ≡ end.Done → Weave numbered issued plan × Weave numbered (take acked issued) plan × (numbered ≡ false → acked ≡ length issued)) →
    ((count : ℕ) → how ≡ end.Ended (NoAnswer count) → (count ≡ 5) × ((issued ≡ []) ⊎ (acked < length issued))) →
    ((count : ℕ) → how ≡ end.Ended (LostOk count) → (count ≡ 20) × (acked < length issued)) →
    ((all : ℕ) → how ≡ end.Ended (NumbersUsed all) → (all ≡ most_lines) × (acked ≡ most_lines)) →
    (how ≢ end.LinkFailed → AreAllSent issued acked added) → (opens added ≡ 1 → (world_in kind (past ++ added)).linked ≡ false) →
    ((why : SessionEnd) → how ≡ end.Ended why → opens added ≡ 1) →
    HasIssued numbered kind issued acked past added → HasPrinted numbered kind plan how acked past added
printed_of numbered kind plan how issued acked past added part all unanswered missing all_used sent shut opened h =
    let count : ℕ = length (executed kind.slots kind.oks (past ++ added) (suc (opens past))) in
    record {
      issued = issued;
      of_plan = part;
      history = h;
      executed_of_plan = part_taken numbered count issued plan part;
      done = λ is. (let whole = all is in record {
        ran = take count issued;
        all_executed = h.tied.executed_first;
        woven = longer_weaves numbered issued plan acked count h.tied.acked_run whole.1 whole.0;
        all_acked = subst (λ (l : List (List ℕ)). Weave numbered l plan) (sym (take-take acked count issued h.tied.acked_run)) whole.1;
        all_issued = λ plain. (take_all count issued (omega (arith, whole.2 plain, h.tied.acked_run)), whole.2 plain);
      });
      unanswered = unanswered;
      missing = missing;
      all_used = all_used;
      sent = sent;
      shut = shut;
      opened = opened;
    }

-- what a sender that counts as a print does has issued
pub by_plan : (kind : LinkKind) (p : PrintData) (issued : List (List ℕ)) (x : SessionData) (past added : List WorldEvent) → x.sender.numbered ≡ p.numbered →
    HasIssued x.sender.numbered kind issued x.sender.acked past added → HasIssued p.numbered kind issued x.sender.acked past added
by_plan kind p issued x past added same = subst (λ (n : Bool). HasIssued n kind issued x.sender.acked past added) same

-- the sender of a print is sound, and holds what was issued
made_sound : (kind : LinkKind) (issued : List (List ℕ)) (x : SessionData) (past added : List WorldEvent) → IsMade kind issued x past added → IsSound x.sender
made_sound kind issued x past added made = sound_of kind issued x (past ++ added) (by_opened made.opened)

made_holds : (kind : LinkKind) (issued : List (List ℕ)) (x : SessionData) (past added : List WorldEvent) → IsMade kind issued x past added →
    HoldsIssued issued x.sender
made_holds kind issued x past added made =
    let o = made.opened in
    fits_holds (start_of kind o.front x.sender.numbered o.rest) issued x.sender (world_from (apply (world_in kind o.front) (Opened o.last)) o.rest) o.traced.meets

-- a sender that waits for an answer issued nothing, or not all is acknowledged
pub unanswered_of : (kind : LinkKind) (issued : List (List ℕ)) (x : SessionData) (past added : List WorldEvent) → IsMade kind issued x past added →
    IsUnanswered x.sender → (issued ≡ []) ⊎ (x.sender.acked < length issued)
unanswered_of kind [] x past added made (inl unready) = inl refl
unanswered_of kind (text ∷ issued) x past added made (inl unready) =
    let sound : IsSound x.sender = made_sound kind (text ∷ issued) x past added made in
    inr (omega (arith, sound.none_acked unready))
unanswered_of kind issued x past added made (inr above) =
    let holds : HoldsIssued issued x.sender = made_holds kind issued x past added made in
    inr (omega (arith, above, holds.count))

-- and one of which an `ok` is missing not all of them
pub missing_of : (kind : LinkKind) (issued : List (List ℕ)) (x : SessionData) (past added : List WorldEvent) → IsMade kind issued x past added →
    IsMissing x.sender → x.sender.acked < length issued
missing_of kind issued x past added made missing =
    let holds : HoldsIssued issued x.sender = made_holds kind issued x past added made in
    omega (arith, missing.1, holds.count)

-- the moment of the turn that ended the print
pub waited_by : (how : PrintEnd) (began now : Option ℕ) (limit : ℕ) →
    ((count start at : ℕ) → how ≡ end.Ended (NoAnswer count) → began ≡ Some start → now ≡ Some at → later start (5 * limit) ≤ at) →
    ((count start at : ℕ) → how ≡ end.Ended (LostOk count) → began ≡ Some start → now ≡ Some at → later start (20 * limit) ≤ at) →
    HasWaited how began limit now
waited_by (end.Ended (NoAnswer count)) (Some start) (Some at) limit so told = so count start at refl refl refl
waited_by (end.Ended (NoAnswer count)) (Some start) None limit so told = tt
waited_by (end.Ended (NoAnswer count)) None now limit so told = tt
waited_by (end.Ended (LostOk count)) (Some start) (Some at) limit so told = told count start at refl refl refl
waited_by (end.Ended (LostOk count)) (Some start) None limit so told = tt
waited_by (end.Ended (LostOk count)) None now limit so told = tt
waited_by (end.Ended (AskedBack number acknowledged)) began now limit so told = tt
waited_by (end.Ended (AskedAhead number all)) began now limit so told = tt
waited_by (end.Ended (Counts number expected)) began now limit so told = tt
waited_by (end.Ended Restarted) began now limit so told = tt
waited_by (end.Ended (NumbersUsed all)) began now limit so told = tt
waited_by end.Done began now limit so told = tt
waited_by (end.TooHot line asked most) began now limit so told = tt
waited_by end.NoPort began now limit so told = tt
waited_by end.LinkFailed began now limit so told = tt
waited_by (end.TurnsUsed turns) began now limit so told = tt
