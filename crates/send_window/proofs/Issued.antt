-- The lines that a sender holds are the issued ones above acked.
use Rattle.std.proofs.Common.{◌≡◌, ℕ, ◌+◌, ◌-◌, ◌<◌, ◌≤◌, Bool, false, true, List, [], ◌∷◌, ◌++◌, drop, arith, refl, sym, ◌∙◌, ap, subst, append_assoc}
use Rattle.std.specs.Prelude.{Option, None, Some}
use Rattle.std.proofs.lemmas.Grind.{common_steps}
use Rattle.std.proofs.lemmas.List.{drop-drop, drop-append-le, append-nil, length-append}
use Rattle.marlin_reply.specs.declared.reply.Reply.{Reply}
use Rattle.marlin_reply.specs.declared.reply.Reply.TheVariants as reply
use Rattle.marlin_frame.specs.Numbering.{place_of}
use Rattle.send_window.specs.declared.session_end.SessionEnd.{SessionEnd}
use Rattle.send_window.specs.Data.{SenderData, sender_after_dial}
use Rattle.send_window.specs.Hearing.{tick_step, heard_reply, heard_ok, acknowledged_to, place_ok, ok_named, ok_in, unless_ended}
use Rattle.send_window.specs.Sending.{push_step}
use Rattle.send_window.specs.Session.{Step, hears, ticks, issues, gives, after_step, after_steps, texts_issued, HoldsIssued}

counted_holds : (number : Option ℕ) (moment : ℕ) (s : SenderData) (texts : List (List ℕ)) → HoldsIssued texts s → HoldsIssued texts (heard_ok s.swallow s.ready number moment s)
counted_holds number moment s texts holds =
    let without_first : drop 1 s.held ≡ drop (s.acked + 1) texts = ap (drop 1) holds.rest ∙ drop-drop 1 s.acked texts in
    grind (arith, common_steps, without_first)

-- an `ok` of an issued line above acked
through_holds : (place moment : ℕ) (s : SenderData) (texts : List (List ℕ)) → s.acked < place → place ≤ s.issued → HoldsIssued texts s →
    HoldsIssued texts (acknowledged_to place moment s)
through_holds place moment s texts above within holds = record {
  count = holds.count;
  rest = ap (drop (place - s.acked)) holds.rest ∙ drop-drop (place - s.acked) s.acked texts ∙ ap (λ n. drop n texts) (omega (arith, above));
  acked_issued = omega (arith, within, holds.count);
}

place_holds : (number moment : ℕ) (s : SenderData) (texts : List (List ℕ)) → HoldsIssued texts s → HoldsIssued texts (place_ok number moment s)
place_holds number moment s texts holds =
    let through : s.acked < place_of number → place_of number ≤ s.issued → HoldsIssued texts (acknowledged_to (place_of number) moment s) =
    λ above within. through_holds (place_of number) moment s texts above within holds in
    grind (arith, common_steps, through)

named_holds : (ready : Bool) (number : Option ℕ) (moment : ℕ) (s : SenderData) (texts : List (List ℕ)) → HoldsIssued texts s → HoldsIssued texts (ok_named ready number moment s)
named_holds ready None moment s texts holds = record { count = holds.count; rest = holds.rest; acked_issued = holds.acked_issued }
named_holds false (Some number) moment s texts holds = grind (arith, common_steps)
named_holds true (Some number) moment s texts holds = place_holds number moment s texts holds

ok_holds : (by_number : Bool) (number : Option ℕ) (moment : ℕ) (s : SenderData) (texts : List (List ℕ)) → HoldsIssued texts s → HoldsIssued texts (ok_in by_number number moment s)
ok_holds false number moment s texts holds = counted_holds number moment s texts holds
ok_holds true number moment s texts holds = named_holds s.ready number moment s texts holds

reply_holds : (heard_line : Reply) (moment : ℕ) (s : SenderData) (texts : List (List ℕ)) → HoldsIssued texts s → HoldsIssued texts (heard_reply heard_line moment s)
reply_holds (reply.Ok number _ _ _) moment s texts holds = ok_holds s.numbered number moment s texts holds
reply_holds (reply.Resend number) moment s texts holds = grind (arith, common_steps)
reply_holds reply.Start moment s texts holds = grind (arith, common_steps)
reply_holds reply.Busy moment s texts holds = grind (arith, common_steps)
reply_holds (reply.Temps _) moment s texts holds = grind (arith, common_steps)
reply_holds reply.Error moment s texts holds = grind (arith, common_steps)
reply_holds reply.Other moment s texts holds = grind (arith, common_steps)

unless_ended_holds : (ended : Option SessionEnd) (after s : SenderData) (texts : List (List ℕ)) → HoldsIssued texts after → HoldsIssued texts s → HoldsIssued texts (unless_ended ended after s)
unless_ended_holds None after s texts then_holds holds = then_holds
unless_ended_holds (Some why) after s texts then_holds holds = holds

ticks_hold : (moment : ℕ) (s : SenderData) (texts : List (List ℕ)) → HoldsIssued texts s → HoldsIssued texts (tick_step moment s)
ticks_hold moment s texts holds = grind (arith, common_steps)

gives_hold : (moment : ℕ) (s : SenderData) (texts : List (List ℕ)) → HoldsIssued texts s → HoldsIssued texts (after_step (gives moment) s)
gives_hold moment s texts holds = grind (arith, common_steps)

issues_hold : (text : List ℕ) (s : SenderData) (texts : List (List ℕ)) → HoldsIssued texts s → HoldsIssued (texts ++ text ∷ []) (push_step text s)
issues_hold text s texts holds = record {
  count = ap (λ n. n + 1) holds.count ∙ sym (length-append texts (text ∷ []));
  rest = ap (λ lines. lines ++ text ∷ []) holds.rest ∙ sym (drop-append-le s.acked texts (text ∷ []) holds.acked_issued);
  acked_issued = omega (arith, length-append texts (text ∷ []), holds.acked_issued);
}

none_added : (s : SenderData) (texts : List (List ℕ)) → HoldsIssued texts s → HoldsIssued (texts ++ []) s
none_added s texts holds = rw (append-nil texts) holds

pub step_holds : (step : Step) (s : SenderData) (texts : List (List ℕ)) → HoldsIssued texts s → HoldsIssued (texts ++ texts_issued (step ∷ [])) (after_step step s)
step_holds (hears heard_line moment) s texts holds =
    none_added _ texts (unless_ended_holds s.ended (heard_reply heard_line moment s) s texts (reply_holds heard_line moment s texts holds) holds)
step_holds (ticks moment) s texts holds = none_added _ texts (ticks_hold moment s texts holds)
step_holds (issues text) s texts holds = issues_hold text s texts holds
step_holds (gives moment) s texts holds = none_added _ texts (gives_hold moment s texts holds)

texts_first : (step : Step) (steps : List Step) → texts_issued (step ∷ steps) ≡ texts_issued (step ∷ []) ++ texts_issued steps
texts_first (hears heard_line moment) steps = refl
texts_first (ticks moment) steps = refl
texts_first (issues text) steps = refl
texts_first (gives moment) steps = refl

-- more steps add what they issue
pub steps_hold : (steps : List Step) (s : SenderData) (texts : List (List ℕ)) → HoldsIssued texts s → HoldsIssued (texts ++ texts_issued steps) (after_steps steps s)
steps_hold [] s texts holds = none_added s texts holds
steps_hold (step ∷ steps) s texts holds =
    let P : List (List ℕ) → Type 0 = λ all. HoldsIssued all (after_steps steps (after_step step s)) in
    let one_by_one : (texts ++ texts_issued (step ∷ [])) ++ texts_issued steps ≡ texts ++ texts_issued (step ∷ steps) =
    append_assoc texts (texts_issued (step ∷ [])) (texts_issued steps) ∙ sym (ap (λ (more : List (List ℕ)). texts ++ more) (texts_first step steps)) in
    subst P one_by_one (steps_hold steps (after_step step s) (texts ++ texts_issued (step ∷ [])) (step_holds step s texts holds))

pub session_holds : (steps : List Step) (s : SenderData) → HoldsIssued (texts_issued steps) (after_steps steps (sender_after_dial s))
session_holds steps s = steps_hold steps (sender_after_dial s) [] (record { count = refl; rest = refl; acked_issued = omega arith })
