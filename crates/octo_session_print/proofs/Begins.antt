-- Where a print begins.
use Rattle.std.proofs.Common.{◌≡◌, ℕ, Bool, false, List, [], Option, Some, None, refl, sym, ◌∙◌, ap, subst, arith}
use Rattle.std.proofs.lemmas.Option.{same_Some}
use Rattle.job_desk.specs.Data.{Data, File, new_desk}
use Rattle.printer_model.specs.declared.event.WorldEvent.{WorldEvent}
use Rattle.printer_link.specs.Link.{LinkKind}
use Rattle.printer_link.proofs.Grown.{recorded_same}
use Rattle.send_window.specs.Data.{SenderData, IsSound}
use Rattle.octo_session.specs.Data.{SessionData, doing, port_of}
use Rattle.temp_rules.specs.Hot.{first_hot_of}
use Rattle.octo_session_print.specs.Underway.{IsUnderway}
use Rattle.octo_session_print.proofs.Calls.{select-underway}
use Rattle.octo_session_print.specs.Ends.{IsNew, print_of}
use Rattle.octo_session_line_proof.specs.Patience.{IsOnTime}
use Rattle.send_window.specs.Patience.{IsPatient}
use Rattle.octo_session_print.specs.Printed.{HasPrinted, IsOver}
use Rattle.octo_session_print.specs.BetweenTurns.{IsDialling}
use Rattle.octo_session_print.specs.declared.end.PrintEnd.{PrintEnd}
use Rattle.octo_session_print.specs.declared.end.PrintEnd.TheVariants as end
use Rattle.octo_session_line_proof.proofs.AllSent.{none_unsent}
use Rattle.octo_session_line_proof.proofs.Histories.{none_printed}
use Rattle.octo_session_print.proofs.Printing.{printed_of, part_none}
use Rattle.octo_session_print.specs.Progress.{after_select}

new_acked : (x : SessionData) → IsNew x → x.sender.acked ≡ 0
new_acked x new = ap (λ (s : SenderData). s.acked) new.its_sender

-- a desk that was after_select is about to dial
pub begins : (port : List ℕ) (file : File) (past : Option (List WorldEvent)) (x y : SessionData) → IsNew x →
    first_hot_of x.desk.limits file.job.commands ≡ None → y.desk ≡ after_select port file x.desk → y.sender ≡ x.sender → y.up ≡ false →
    IsDialling (print_of x.desk file) (port_of y.desk) past past y
begins port file past x y new cool desk sender up =
    let d0 : Data = new_desk x.desk.scripts x.desk.limits x.desk.poll_ms x.desk.numbered in
    let ready : y.desk ≡ after_select port file d0 = desk ∙ ap (after_select port file) new.its_desk in
    let S : SenderData → Type 0 = λ s. IsSound s in
    let D : Data → Type 0 = λ d. IsUnderway (print_of x.desk file) d [] in
    record {
      dials = ap (λ (d : Data). doing (record y { desk = d })) ready ∙ ap (λ (b : Bool). doing (record y { desk = after_select port file d0; up = b })) up;
      its_port = refl;
      nothing = refl;
      none_acked = ap (λ (s : SenderData). s.acked) sender ∙ new_acked x new;
      on = record {
        course = subst D (sym desk) (select-underway x.desk port file new.its_desk);
        cool = cool;
        its_kind = ap (λ (s : SenderData). s.numbered) sender ∙ sym new.kind;
        sound = subst S (sym sender) new.sound;
      };
      unstarted = ap (λ (d : Data). d.greatest) ready;
    }

-- a print that is refused
pub refused : (numbered : Bool) (kind : LinkKind) (plan : List (List ℕ)) (past : Option (List WorldEvent)) (x : SessionData) (line asked limit : ℕ) → IsNew x →
    IsOver numbered kind plan (end.TooHot line asked limit) past past x
refused numbered kind plan past x line asked limit new =
    let how : PrintEnd = end.TooHot line asked limit in
    let A : ℕ → Type 0 = λ n. (before : List WorldEvent) → HasPrinted numbered kind plan how n before [] in
    record {
      printed = recorded_same past (HasPrinted numbered kind plan how x.sender.acked)
          (subst A (sym (new_acked x new)) (λ before. printed_of numbered kind plan how [] 0 before [] (part_none numbered plan) (λ is. absurd (cc)) (λ count is. absurd (cc))
          (λ count is. absurd (cc)) (λ all is. absurd (cc)) (λ whole. none_unsent 0 []) (λ one. absurd (cc)) (λ why is. absurd (cc)) (none_printed numbered kind before [] refl)));
      ended = λ why is. absurd (cc);
      unsent = λ none. refl;
    }

-- nothing was waited for yet
pub begins_on_time : (began : Option ℕ) (x y : SessionData) → IsNew x → y.sender ≡ x.sender → IsOnTime began began 0 y.sender.limit y.sender
begins_on_time began x y new sender =
    let patient : (start : ℕ) → IsPatient start y.sender.limit y.sender = λ start.
    (let S : SenderData → Type 0 = λ s. IsSound s in
    let unset : y.sender.deadline ≡ None = ap (λ (s : SenderData). s.deadline) (sender ∙ new.its_sender) in
    record {
      sound = subst S (sym sender) new.sound;
      its_limit = refl;
      waits = record {
        long_enough = λ wanted running is. (let no : None ≡ Some wanted = sym unset ∙ is in absurd (cc));
        told_enough = λ wanted running is. (let no : None ≡ Some wanted = sym unset ∙ is in absurd (cc));
      };
    })
    in
    record {
      patient = patient 0;
      since = λ start at is_began is_now. patient start;
      later = λ start at is_began is_now. omega (arith, same_Some start at (sym is_began ∙ is_now));
      shown = λ at is_now. omega arith;
    }
