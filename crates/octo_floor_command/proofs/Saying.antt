-- The lines of events, one event more each time.
use Rattle.std.proofs.Common.{◌≡◌, ℕ, suc, ◌+◌, ◌-◌, ◌<◌, List, ◌∷◌, ◌++◌, length, take, drop, sym, ◌∙◌, ap, append_assoc, arith}
use Rattle.std.specs.Prelude.{get_or}
use Rattle.std.proofs.Math.Seq.{drop-cons}
use Rattle.std.proofs.lemmas.List.{take_all, length-drop}
use Rattle.job_desk.specs.declared.link_fact.LinkFact.{LinkFact}
use Rattle.octo_floor_bay.specs.Events.{FloorHistory}
use Rattle.octo_floor_bay.specs.declared.event.FloorEvent.{FloorEvent}
use Rattle.octo_floor_command.specs.Lines.{event_lines, found_after, lines_of}

-- the events after one, as a part of all
pub others_all : (events : FloorHistory) (i : ℕ) → take (length events - (i + 1)) (drop (i + 1) events) ≡ drop (i + 1) events
others_all events i =
    let long = length-drop (i + 1) events in
    take_all (length events - (i + 1)) (drop (i + 1) events) (omega (arith, long))

-- what is still to be said, after one event more
pub said_next : (ports : List (List ℕ)) (all front : List ℕ) (found found' : LinkFact) (events : FloorHistory) (i : ℕ) (event : FloorEvent) →
    i < length events → event ≡ get_or events i event → found' ≡ found_after found event → all ≡ front ++ lines_of ports found (drop i events) →
    all ≡ (front ++ event_lines ports found event (drop (i + 1) events)) ++ lines_of ports found' (drop (i + 1) events)
said_next ports all front found found' events i event within is after said =
    said ∙ ap (λ (lines : List ℕ). front ++ lines) next
    ∙ sym (append_assoc front (event_lines ports found event (drop (i + 1) events)) (lines_of ports found' (drop (i + 1) events)))
  where
    step : suc i ≡ i + 1
    step = omega arith

    next : lines_of ports found (drop i events) ≡ event_lines ports found event (drop (i + 1) events) ++ lines_of ports found' (drop (i + 1) events)
    next =
        ap (λ (es : FloorHistory). lines_of ports found es)
        (drop-cons events i event within ∙ ap (λ (j : ℕ). get_or events i event ∷ drop j events) step)
        ∙ ap (λ (e : FloorEvent). event_lines ports found e (drop (i + 1) events) ++ lines_of ports (found_after found e) (drop (i + 1) events)) (sym is)
        ∙ ap (λ (f : LinkFact). event_lines ports found event (drop (i + 1) events) ++ lines_of ports f (drop (i + 1) events)) (sym after)
