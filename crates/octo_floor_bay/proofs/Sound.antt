-- What holds of a bay beside what its link recorded.
use Rattle.std.proofs.Common.{◌≡◌, List, [], ◌++◌, Some, refl, sym, ◌∙◌, ap, subst}
use Rattle.std.proofs.lemmas.Option.{same_Some}
use Rattle.printer_model.specs.declared.event.WorldEvent.{WorldEvent}
use Rattle.printer_link.specs.Link.{LinkKind}
use Rattle.octo_asks.specs.History.{History}
use Rattle.octo_house_rules.specs.Timeline.{past_after}
use Rattle.octo_house_run_proof.specs.InStep.{AreInStep, TiedSoFar}
use Rattle.octo_floor_bay.specs.LossyPrints.{IsPrinterRun}
use Rattle.octo_floor_bay.proofs.Between.{tied_at_last}
use Rattle.octo_floor_bay.proofs.Sent.{prints_sound}
use Rattle.octo_floor_bay.specs.Bay.{BayData, IsBay, first_desk}
use Rattle.octo_floor_bay.specs.Deeds.{desk_entries, history_in}
use Rattle.octo_floor_bay.specs.Prints.{IsInStep, IsSoundOver}

-- the bay is in step with what its link recorded
in_step_since : (kind : LinkKind) (front past : List WorldEvent) (b : BayData) → IsInStep kind (Some front) (Some past) b →
    AreInStep b.session.sender.numbered kind front (history_in b.deeds) past b.session
in_step_since kind front past b step =
    let g = step (history_in b.deeds) refl past refl in
    let none : [] ≡ g.old = same_Some [] g.old g.was in
    let events : front ≡ g.old_events = same_Some front g.old_events g.was_link in
    let added : g.added ≡ history_in b.deeds = ap (λ (h : History). h ++ g.added) none ∙ sym g.grew in
    subst (λ (es : List WorldEvent). AreInStep b.session.sender.numbered kind es (history_in b.deeds) past b.session) (sym events)
    (subst (λ (h : History). AreInStep b.session.sender.numbered kind g.old_events h past b.session) added g.so)

pub sound_over : (kind : LinkKind) (front past : List WorldEvent) (b : BayData) → IsBay b → IsInStep kind (Some front) (Some past) b →
    IsSoundOver kind front past b
sound_over kind front past b bay step =
    let i = in_step_since kind front past b step in
    let so : TiedSoFar b.session.sender.numbered kind front (history_in b.deeds) past = i.so_far in
    let till_last : List WorldEvent = past_after front so.timeline in
    let tied = tied_at_last b.session.sender.numbered kind front (history_in b.deeds) past so in
    let run : IsPrinterRun b.session.sender.numbered kind front (first_desk b.session) (desk_entries b.deeds) till_last =
    record { new = refl; entered = bay.entered; tied = tied }
    in
    record {
      till_last = till_last;
      since = so.rest;
      past_is = so.past_is;
      tied = tied;
      prints = prints_sound b.session.sender.numbered kind front (first_desk b.session) (desk_entries b.deeds) till_last run;
    }
