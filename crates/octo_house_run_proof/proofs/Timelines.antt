-- Timelines in two parts, and with an entry more.
use Rattle.std.proofs.Common.{◌≡◌, List, [], ◌∷◌, ◌++◌, refl, sym, ◌∙◌, ap, append_assoc}
use Rattle.printer_model.specs.declared.event.WorldEvent.{WorldEvent}
use Rattle.octo_asks.specs.History.{History}
use Rattle.octo_asks.specs.declared.entry.Entry.{Entry}
use Rattle.octo_house_rules.specs.Timeline.{Entered, Timeline, history_of, events_of, past_after}

pub history_of-append : (first later : Timeline) → history_of (first ++ later) ≡ history_of first ++ history_of later
history_of-append [] later = refl
history_of-append (e ∷ first) later = ap (λ (h : History). e.entry ∷ h) (history_of-append first later)

pub events_of-append : (first later : Timeline) → events_of (first ++ later) ≡ events_of first ++ events_of later
events_of-append [] later = refl
events_of-append (e ∷ first) later =
    ap (λ (es : List WorldEvent). e.meanwhile ++ es) (events_of-append first later) ∙ sym (append_assoc e.meanwhile (events_of first) (events_of later))

-- the link's history in two parts
pub past_after-append : (front : List WorldEvent) (first later : Timeline) → past_after front (first ++ later) ≡ past_after front first ++ events_of later
past_after-append front first later =
    ap (λ (es : List WorldEvent). front ++ es) (events_of-append first later) ∙ sym (append_assoc front (events_of first) (events_of later))

-- the same if the link has recorded more since the last entry
pub past_rest : (front : List WorldEvent) (first later : Timeline) (rest : List WorldEvent) →
    past_after front (first ++ later) ++ rest ≡ past_after front first ++ (events_of later ++ rest)
past_rest front first later rest =
    ap (λ (es : List WorldEvent). es ++ rest) (past_after-append front first later) ∙ append_assoc (past_after front first) (events_of later) rest

-- the place of a timeline's last entry if the timeline is taken in two
pub data Split (t : Timeline) (e : Entered) (first later : Timeline) : Type 0 where
  whole : first ≡ t ++ e ∷ [] → later ≡ [] → Split t e first later
  within : (rest : Timeline) → t ≡ first ++ rest → later ≡ rest ++ e ∷ [] → Split t e first later

pub split : (t : Timeline) (e : Entered) (first later : Timeline) → t ++ e ∷ [] ≡ first ++ later → Split t e first later
split t e [] later is = within t refl (sym is)
split [] e (f ∷ first) later is = by first later (cc)
  where
    by : (first later : Timeline) → e ∷ [] ≡ f ∷ (first ++ later) → Split [] e (f ∷ first) later
    by [] [] is = (let same : f ≡ e = cc in whole (ap (λ (g : Entered). g ∷ []) same) refl)
    by [] (g ∷ later) is = absurd (cc)
    by (g ∷ first) later is = absurd (cc)
split (f ∷ t) e (g ∷ first) later is = by (split t e first later (cc)) (cc)
  where
    by : Split t e first later → f ≡ g → Split (f ∷ t) e (g ∷ first) later
    by (whole all none) same = whole (ap (λ (es : Timeline). g ∷ es) all ∙ ap (λ (k : Entered). k ∷ (t ++ e ∷ [])) (sym same)) none
    by (within rest front behind) same = within rest (ap (λ (es : Timeline). f ∷ es) front ∙ ap (λ (k : Entered). k ∷ (first ++ rest)) same) behind

-- a timeline in two, if its history is
pub record IsIn (t : Timeline) (first later : History) : Type 0 where
  pub front : Timeline
  pub after : Timeline
  pub is : t ≡ front ++ after
  pub first_is : history_of front ≡ first
  pub later_is : history_of after ≡ later

pub taken_in : (t : Timeline) (first later : History) → history_of t ≡ first ++ later → IsIn t first later
taken_in t [] later is = record { front = []; after = t; is = refl; first_is = refl; later_is = is }
taken_in [] (e ∷ first) later is = absurd (cc is)
taken_in (x ∷ t) (e ∷ first) later is =
    let same : x.entry ≡ e = cc is in
    let more : history_of t ≡ first ++ later = cc is in
    let i = taken_in t first later more in
    record {
      front = x ∷ i.front;
      after = i.after;
      is = ap (λ (es : Timeline). x ∷ es) i.is;
      first_is = ap (λ (h : History). x.entry ∷ h) i.first_is ∙ ap (λ (k : Entry). k ∷ first) same;
      later_is = i.later_is;
    }
