-- No line of an ended print is sent any more.
use Rattle.std.proofs.Common.{◌≡◌, ◌⊎◌, inl, inr, ℕ, zero, suc, ◌+◌, ◌-◌, ◌<◌, ◌≤◌, Bool, true, false, cond, List, [], ◌∷◌, ◌++◌, length, drop, slice_get, Some, refl, sym, ◌∙◌, ap, subst, arith}
use Rattle.std.specs.List.{list_any}
use Rattle.marlin_frame.specs.Frame.{frame_of}
use Rattle.marlin_frame.specs.Numbering.{wire_number}
use Rattle.job_desk.specs.Data.{ScriptTexts, Line}
use Rattle.job_desk.specs.Run.{Fate, Finished, Stopped, Left, Unplugged, Broken, is_of, print_lines, of_print}
use Rattle.octo_session.specs.Turn.{texts_in}
use Rattle.printer_model.specs.World.{is_send}
use Rattle.printer_model.specs.Executed.{opens, till}
use Rattle.printer_model.specs.Exchanged.{events_of_session}
use Rattle.printer_model.specs.declared.event.WorldEvent.{WorldEvent}
use Rattle.printer_model.specs.declared.event.WorldEvent.TheVariants.{Send}
use Rattle.printer_link.specs.Link.{LinkKind}
use Rattle.octo_asks.specs.History.{History}
use Rattle.octo_house_rules.specs.Issued.{issued_of}
use Rattle.octo_house_rules.specs.Legal.{Standing}
use Rattle.octo_house_rules.specs.Scripts.{run_in}
use Rattle.octo_session.specs.Sends.{IsLineAbove}
use Rattle.octo_house_rules.specs.Sessions.{sessions, session_texts, acked_in, is_open}
use Rattle.octo_house_rules.specs.Timeline.{Timeline, history_of, events_of, past_after}
use Rattle.octo_house_run_proof.specs.Tied.{IsAbove, AreAbove}
use Rattle.octo_house_rules.specs.Tied.{Tied, WasTied}
use Rattle.octo_house_run_proof.proofs.Grown.{shut_after}
use Rattle.octo_house_run_proof.proofs.Later.{later_above, issued_above}
use Rattle.octo_house_run_proof.proofs.Timelines.{history_of-append}
use Rattle.octo_house_run_proof.specs.Laws.{IsRun}
use Rattle.octo_house_rules.specs.PrintLaws.{IsLineOfOther, IsSentOther, AreSentOther, IsSentNoMore, EachEndedIsSentNoMore, EachEndIsTrue}
use Rattle.octo_house_run_proof.specs.Prints.{IsEnded, Lives}
use Rattle.octo_house_rules.specs.Lives.{LivesIn, LeavesSo}
use Rattle.octo_house_run_proof.proofs.Entries.{Place, earlier, here, later, place}
use Rattle.octo_house_run_proof.proofs.Executed.{run_then}
use Rattle.octo_house_run_proof.proofs.Histories.{lives_in, stays_in}
use Rattle.octo_house_run_proof.proofs.Lists.{none_dropped, none_past}
use Rattle.byte_text.proofs.ListLaws.{head_same}
use Rattle.std.proofs.lemmas.Bool.{or_parts}

-- a line past a place after which none is the print's
other_past : (p a : ℕ) (lines : List Line) (i : ℕ) (line : Line) → a ≤ i → slice_get lines i ≡ Some line → print_lines p (drop a lines) ≡ []
    → is_of p line.tag ≡ false
other_past p a [] i line past found none = absurd (cc found)
other_past p zero (first ∷ lines) zero line past found none =
    let same : first ≡ line = cc in
    subst (λ (l : Line). is_of p l.tag ≡ false) same (by (is_of p first.tag) refl none)
  where
    by : (b : Bool) → is_of p first.tag ≡ b → print_lines p (first ∷ lines) ≡ [] → is_of p first.tag ≡ false
    by false is none = is
    by true is none =
        absurd (let no : first ∷ print_lines p lines ≡ [] = sym (ap (λ (b : Bool). cond b (first ∷ print_lines p lines) (print_lines p lines)) is) ∙ none in cc no)
other_past p zero (first ∷ lines) (suc i) line past found none = other_past p zero lines i line (omega arith) found (rest (is_of p first.tag) refl none)
  where
    rest : (b : Bool) → is_of p first.tag ≡ b → print_lines p (first ∷ lines) ≡ [] → print_lines p lines ≡ []
    rest false is none = sym (ap (λ (b : Bool). cond b (first ∷ print_lines p lines) (print_lines p lines)) is) ∙ none
    rest true is none =
        absurd (let no : first ∷ print_lines p lines ≡ [] = sym (ap (λ (b : Bool). cond b (first ∷ print_lines p lines) (print_lines p lines)) is) ∙ none in cc no)
other_past p (suc a) (first ∷ lines) zero line past found none = absurd (omega (arith, past))
other_past p (suc a) (first ∷ lines) (suc i) line past found none = other_past p a lines i line (omega (arith, past)) found none

-- a text of some lines is the text of one of them
record IsTextAt (lines : List Line) (i : ℕ) (text : List ℕ) : Type 0 where
  line : Line
  its : slice_get lines i ≡ Some line
  text_is : line.text ≡ text

text_at : (lines : List Line) (i : ℕ) (text : List ℕ) → slice_get (texts_in lines) i ≡ Some text → IsTextAt lines i text
text_at [] i text found = absurd (cc found)
text_at (first ∷ lines) zero text found = record { line = first; its = refl; text_is = (let same : first.text ≡ text = cc in same) }
text_at (first ∷ lines) (suc i) text found = (let rest = text_at lines i text found in record { line = rest.line; its = rest.its; text_is = rest.text_is })

module _ (numbered : Bool) (p a : ℕ) (lines : List Line) (none : print_lines p (drop a lines) ≡ []) where
  line_other : (bytes : List ℕ) → IsLineAbove (texts_in lines) a bytes → IsLineOfOther p lines bytes
  line_other bytes l =
      let at : IsTextAt lines (l.place - 1) l.text = text_at lines (l.place - 1) l.text l.its.found in
      let same : l.place ≡ (l.place - 1) + 1 = omega (arith, l.its.counted) in
      record {
        place = l.place - 1;
        line = at.line;
        its = at.its;
        framed = l.framed ∙ ap (λ (n : ℕ). frame_of (wire_number n) l.text) same
            ∙ ap (λ (t : List ℕ). frame_of (wire_number ((l.place - 1) + 1)) t) (sym at.text_is);
        other = other_past p a lines (l.place - 1) at.line (omega (arith, l.above)) at.its none;
      }

  event_other : (event : WorldEvent) → IsAbove numbered (texts_in lines) a event → IsSentOther numbered p lines event
  event_other (Send line) (inl hello) = inl hello
  event_other (Send line) (inr (inl l)) = inr (inl (line_other line.items l))
  event_other (Send line) (inr (inr failing)) = inr (inr failing)
  event_other _ is = tt

  events_other : (events : List WorldEvent) → AreAbove numbered (texts_in lines) a events → AreSentOther numbered p lines events
  events_other [] are = tt
  events_other (event ∷ events) are = (event_other event are.0, events_other events are.1)

-- if nothing is sent
event_unsent : (numbered : Bool) (p : ℕ) (lines : List Line) (event : WorldEvent) → is_send event ≡ false → IsSentOther numbered p lines event
event_unsent numbered p lines (Send line) none = absurd (cc none)
event_unsent numbered p lines _ none = tt

events_unsent : (numbered : Bool) (p : ℕ) (lines : List Line) (events : List WorldEvent) → list_any is_send events ≡ false → AreSentOther numbered p lines events
events_unsent numbered p lines [] none = tt
events_unsent numbered p lines (event ∷ events) none =
    let parts = or_parts (is_send event) (list_any is_send events) none in
    (event_unsent numbered p lines event parts.0, events_unsent numbered p lines events parts.1)

-- how far a print's lines go in the session that it lives in
pub record IsPast (p : ℕ) (first : History) (home : ℕ) : Type 0 where
  pub reach : ℕ
  pub none : print_lines p (drop reach (issued_of home first)) ≡ []
  pub how : ((reach ≡ acked_in home first)) ⊎ ((home < sessions first) ⊎ (is_open first ≡ false))

pub past_of : (p : ℕ) (first : History) (f : Fate) (home : ℕ) → LeavesSo p f home first → IsPast p first home
past_of p first Finished home l = record { reach = acked_in home first; none = l; how = inl refl }
past_of p first Stopped home l = record { reach = acked_in home first; none = l; how = inl refl }
past_of p first Left home l = record { reach = acked_in home first; none = l; how = inl refl }
past_of p first Unplugged home l =
    record { reach = length (issued_of home first); none = none_past p (length (issued_of home first)) (issued_of home first) (omega arith); how = inr l }
past_of p first Broken home l =
    record { reach = length (issued_of home first); none = none_past p (length (issued_of home first)) (issued_of home first) (omega arith); how = inr l }

pub ended_of : (p : ℕ) (h : History) (fates : List Fate) (f : Fate) → fates ≡ f ∷ [] → Lives p h fates → IsEnded p h fates
ended_of p h fates f is (inl u) = absurd (let no : f ∷ [] ≡ [] = sym is ∙ u.no_fate in cc no)
ended_of p h fates f is (inr o) = o

-- what was sent since a timeline had come so far
module _ (numbered : Bool) (kind : LinkKind) (front : List WorldEvent) (p : ℕ) (first more : Timeline) (was : WasTied numbered kind front first (events_of more))
    (tied : Tied numbered kind front (history_of first ++ history_of more) (past_after front first ++ events_of more)) where
  abbrev now : History
  now = history_of first

  abbrev whole : History
  whole = now ++ history_of more

  abbrev so_far : List WorldEvent
  so_far = past_after front first

  abbrev since : List WorldEvent
  since = events_of more

  -- a session that isn't open
  shut : (n : ℕ) → is_open now ≡ false → AreSentOther numbered p (issued_of n whole) (till 0 since)
  shut n closed = events_unsent numbered p (issued_of n whole) (till 0 since) (was.unsent closed)

  -- the last session, if none of its lines after those acknowledged is the print's
  last : (n : ℕ) → sessions now ≡ n → print_lines p (drop (acked_in n now) (issued_of n whole)) ≡ [] → AreSentOther numbered p (issued_of n whole) (till 0 since)
  last zero is none = shut zero (shut_after now is)
  last (suc n) is none =
      let above : AreAbove numbered (session_texts (sessions now) whole) (acked_in (sessions now) now) (till 0 since) =
      later_above numbered kind front now (history_of more) so_far since (omega (arith, is)) tied was.tied
      in
      let there : AreAbove numbered (texts_in (issued_of (suc n) whole)) (acked_in (suc n) now) (till 0 since) =
      subst (λ (k : ℕ). AreAbove numbered (session_texts k whole) (acked_in k now) (till 0 since)) is above
      in
      events_other numbered p (acked_in (suc n) now) (issued_of (suc n) whole) none (till 0 since) there

  by : (home : ℕ) → Place home (sessions now) → home ≤ sessions now → LivesIn p whole home → (so : IsPast p now home) →
      print_lines p (drop so.reach (issued_of home whole)) ≡ [] → AreSentOther numbered p (issued_of (sessions now) whole) (till 0 since)
  by home (earlier below) within l so none =
      last (sessions now) refl
      (none_dropped p (acked_in (sessions now) now) (issued_of (sessions now) whole) (l.alone (sessions now) (λ same. absurd (omega (arith, same, below)))))
  by home (later above) within l so none = absurd (omega (arith, above, within))
  by home (here same) within l so none = subst (λ (n : ℕ). AreSentOther numbered p (issued_of n whole) (till 0 since)) same (how so.how)
    where
      how : ((so.reach ≡ acked_in home now)) ⊎ ((home < sessions now) ⊎ (is_open now ≡ false)) → AreSentOther numbered p (issued_of home whole) (till 0 since)
      how (inl acked) = last home (sym same) (subst (λ (b : ℕ). print_lines p (drop b (issued_of home whole)) ≡ []) acked none)
      how (inr (inl below)) = absurd (omega (arith, below, same))
      how (inr (inr closed)) = shut home closed

  -- a session of which no line is the print's
  later_session : (n : ℕ) → 1 ≤ n → n ≤ sessions whole → print_lines p (issued_of n whole) ≡ [] →
      AreSentOther numbered p (issued_of n whole) (events_of_session (opens front + n) (so_far ++ since))
  later_session n some most none =
      events_other numbered p 0 (issued_of n whole) none (events_of_session (opens front + n) (so_far ++ since))
      (issued_above numbered kind (session_texts n whole) (acked_in n whole) (so_far ++ since) (opens front + n) (tied.each n some most))

  -- none of a print's lines, if it had ended then, and none was issued after
  pub ended_unsent : (fate : Fate) (fates : List Fate) → fates ≡ fate ∷ [] → (o : IsEnded p now fates) → (so : IsPast p now o.home) → LivesIn p whole o.home →
      print_lines p (drop so.reach (issued_of o.home whole)) ≡ [] → IsSentNoMore numbered kind front p fate now whole so_far since
  ended_unsent fate fates ends o so stays none = record {
    home = o.home;
    within = o.within;
    lives = stays;
    leaves = subst (λ (f : Fate). LeavesSo p f o.home now) (head_same o.fate fate (sym o.is ∙ ends)) o.leaves;
    down = λ some closed. was.tied.open_as (omega (arith, some, o.within)) ∙ closed;
    none = by o.home (place o.home (sessions now)) o.within stays so none;
    never = λ n over most. later_session n (omega (arith, over)) most (stays.alone n (λ same. absurd (omega (arith, over, o.within, same))));
  }

pub sent_no_more : (numbered : Bool) (kind : LinkKind) (front : List WorldEvent) (s : Standing) (h : History) (past : List WorldEvent) (run : IsRun numbered kind front s h past) →
    EachEndedIsSentNoMore numbered kind front s run.tied.timeline
sent_no_more numbered kind front s h past run first more is p some fate ends =
    let t = run_then numbered kind front s h past run first more is in
    let now : History = history_of first in
    let scripts : ScriptTexts = s.known.desk.scripts in
    let o : IsEnded p now (of_print p (run_in now s).ends) =
    ended_of p now _ fate ends (lives_in scripts s.known.desk.limits s.known.desk.poll_ms s.known.desk.numbered p some s run.begins.new now t.legal t.short)
    in
    let so : IsPast p now o.home = past_of p now o.fate o.home o.leaves in
    let stays = stays_in scripts s.known.desk.limits s.known.desk.poll_ms s.known.desk.numbered p some s run.begins.new now (history_of more) t.legal_all t.short_all
    o.fate o.home so.reach o.within o.is o.lives so.none
    in
    subst (λ (x : History). IsSentNoMore numbered kind front p fate now x (past_after front first) (events_of more)) (sym (ap history_of is ∙ history_of-append first more))
    (ended_unsent numbered kind front p first more t.was t.tied_all fate _ ends o so stays.0 stays.1)

pub true_end : (numbered : Bool) (kind : LinkKind) (front : List WorldEvent) (s : Standing) (h : History) (past : List WorldEvent) (run : IsRun numbered kind front s h past) →
    EachEndIsTrue numbered kind front run.tied.timeline
true_end numbered kind front s h past run first more is end ends = (run.tied.throughout first more is).caused end ends
