-- A host in step with its histories is tied; entries that issue and acknowledge nothing.
use Rattle.std.proofs.Common.{Some, None, length, ◌≡◌, ◌⊎◌, inl, inr, ℕ, zero, suc, ◌+◌, ◌<◌, ◌≤◌, Bool, false, List, [], ◌∷◌, ◌++◌, refl, sym, ◌∙◌, ap, subst, append_assoc, append-nil, arith}
use Rattle.std.specs.List.{list_any}
use Rattle.printer_model.specs.World.{is_send}
use Rattle.printer_model.specs.Executed.{opens, till}
use Rattle.printer_model.specs.declared.event.WorldEvent.{WorldEvent}
use Rattle.printer_model.proofs.Sessions.{opens-append}
use Rattle.printer_link.specs.Link.{LinkKind, world_in}
use Rattle.send_window.specs.Data.{SenderData, IsSound}
use Rattle.send_window.specs.declared.session_end.SessionEnd.{SessionEnd}
use Rattle.octo_session.specs.Data.{SessionData}
use Rattle.octo_session.specs.Turn.{texts_in}
use Rattle.octo_asks.specs.History.{History}
use Rattle.octo_asks.specs.declared.entry.Entry.{Entry}
use Rattle.octo_house_rules.specs.Issued.{is_opened, lines_at}
use Rattle.octo_session.specs.Tied.{IsTied}
use Rattle.octo_session.specs.Causes.{IsEndCaused}
use Rattle.octo_session_line_proof.proofs.Tying.{opened_tied}
use Rattle.octo_house_rules.specs.Sessions.{sessions, session_texts, most_in, acked_at, acked_in, open_at, open_after, is_open, end_at, end_after}
use Rattle.octo_house_rules.specs.Timeline.{Entered, Timeline, history_of, events_of, past_after}
use Rattle.octo_house_rules.specs.Tied.{Tied, WasTied, AreTied}
use Rattle.octo_house_run_proof.specs.InStep.{IsCurrent, TiedSoFar, AreInStep}
use Rattle.octo_house_run_proof.proofs.LineEntries.{sessions-append, open_after-append, end_after-append}
use Rattle.octo_house_run_proof.proofs.Timelines.{history_of-append, events_of-append, past_after-append, past_rest, Split, whole, within, split}
use Rattle.octo_house_run_proof.proofs.Earlier.{tied_of, unsent_more}
use Rattle.octo_house_run_proof.proofs.Grown.{below_or, few_other, texts-before, acked-before, sessions-other, texts-last, acked-last, open-after, shut_after}
use Rattle.octo_house_run_proof.proofs.Turns.{Leaves}
use Rattle.octo_session_line_proof.proofs.Promised.{same_opened}

-- the sessions of a history and its link, as they are in step
pub leaves_of : (numbered : Bool) (kind : LinkKind) (front : List WorldEvent) (h : History) (past : List WorldEvent) (x : SessionData) →
    AreInStep numbered kind front h past x →
    Leaves numbered kind front (sessions h) (λ s. session_texts s h) (λ s. acked_in s h) (session_texts (sessions h) h) (acked_in (sessions h) h) past x
leaves_of numbered kind front h past x i = record { counted = i.counted; former = i.former; current = i.current; few = i.few (sessions h) (omega arith) }

-- the link is up exactly if the current session is
pub current_open : (numbered : Bool) (kind : LinkKind) (n : ℕ) (texts : List (List ℕ)) (acked : ℕ) (past : List WorldEvent) (x : SessionData) → 1 ≤ n →
    IsCurrent numbered kind n texts acked past x → (world_in kind past).linked ≡ x.up
current_open numbered kind zero texts acked past x some u = absurd (omega (arith, some))
current_open numbered kind (suc n) texts acked past x some c = c.0.open_as

-- then they are tied
pub tied_by : (numbered : Bool) (kind : LinkKind) (front : List WorldEvent) (h : History) (past : List WorldEvent) (x : SessionData) →
    opens past ≡ opens front + sessions h →
    ((s : ℕ) → 1 ≤ s → s < sessions h → IsTied numbered kind (session_texts s h) (acked_in s h) past (opens front + s)) →
    ((s : ℕ) → s ≤ sessions h → length (session_texts s h) ≤ most_in s) → IsCurrent numbered kind (sessions h) (session_texts (sessions h) h) (acked_in (sessions h) h) past x →
    is_open h ≡ x.up → Tied numbered kind front h past
tied_by numbered kind front h past x counted former few current open_now =
    record {
      counted = counted;
      each = λ s some most. each s some (below_or s (sessions h) (omega (arith, most)));
      few = few;
      open_as = λ some. current_open numbered kind (sessions h) (session_texts (sessions h) h) (acked_in (sessions h) h) past x some current ∙ sym open_now;
    }
  where
    last : (n : ℕ) (texts : List (List ℕ)) (acked : ℕ) → 1 ≤ n → opens past ≡ opens front + n → IsCurrent numbered kind n texts acked past x →
        IsTied numbered kind texts acked past (opens front + n)
    last zero texts acked some count c = absurd (omega arith)
    last (suc n) texts acked some count c =
        tied_of numbered kind texts x.sender acked past (opens front + suc n) c.1 c.2
        (subst (λ (k : ℕ). IsTied x.sender.numbered kind texts x.sender.acked past k) count (opened_tied kind texts x past c.0))

    each : (s : ℕ) → 1 ≤ s → (s < sessions h) ⊎ (s ≡ sessions h) → IsTied numbered kind (session_texts s h) (acked_in s h) past (opens front + s)
    each s some (inl below) = former s some below
    each s some (inr same) =
        subst (λ (k : ℕ). IsTied numbered kind (session_texts k h) (acked_in k h) past (opens front + k)) (sym same)
        (last (sessions h) (session_texts (sessions h) h) (acked_in (sessions h) h) (omega (arith, same, some)) counted current)

pub tied_now : (numbered : Bool) (kind : LinkKind) (front : List WorldEvent) (h : History) (past : List WorldEvent) (x : SessionData) →
    AreInStep numbered kind front h past x
    → Tied numbered kind front h past
tied_now numbered kind front h past x i = tied_by numbered kind front h past x i.counted i.former i.few i.current i.open_as

-- more events, of which none is a sending if no session is open
pub longer_so_far : (numbered : Bool) (kind : LinkKind) (front : List WorldEvent) (h : History) (past added : List WorldEvent) →
    opens past ≡ opens front + sessions h →
    (is_open h ≡ false → list_any is_send (till 0 added) ≡ false) → TiedSoFar numbered kind front h past → TiedSoFar numbered kind front h (past ++ added)
longer_so_far numbered kind front h past added counted quiet t = record {
  timeline = t.timeline;
  rest = t.rest ++ added;
  history_is = t.history_is;
  past_is = ap (λ (es : List WorldEvent). es ++ added) t.past_is ∙ append_assoc (past_after front t.timeline) t.rest added;
  throughout = λ first later is. by first later is (t.throughout first later is);
}
  where
    still_shut : (first later : Timeline) → t.timeline ≡ first ++ later → WasTied numbered kind front first (events_of later ++ t.rest) →
        is_open (history_of first) ≡ false → opens (events_of later ++ t.rest) ≡ 0 → is_open h ≡ false
    still_shut first later is w shut none =
        let both : h ≡ history_of first ++ history_of later = t.history_is ∙ ap history_of is ∙ history_of-append first later in
        let all : past ≡ past_after front first ++ (events_of later ++ t.rest) =
        t.past_is ∙ ap (λ (l : Timeline). past_after front l ++ t.rest) is ∙ past_rest front first later t.rest
        in
        let few : sessions (history_of later) ≡ 0 =
        omega (
          arith,
          ap sessions both,
          sessions-append (history_of first) (history_of later),
          ap opens all,
          opens-append (past_after front first) (events_of later ++ t.rest),
          w.tied.counted,
          counted,
          none,
        )
        in
        ap is_open both ∙ open_after-append (history_of first) (history_of later) false ∙ ap (λ (b : Bool). open_after (history_of later) b) shut
        ∙ shut_after (history_of later) few

    by : (first later : Timeline) → t.timeline ≡ first ++ later → WasTied numbered kind front first (events_of later ++ t.rest) →
        WasTied numbered kind front first (events_of later ++ (t.rest ++ added))
    by first later is w = record {
      tied = w.tied;
      caused = w.caused;
      unsent = λ shut.
          subst (λ (es : List WorldEvent). list_any is_send (till 0 es) ≡ false) (append_assoc (events_of later) t.rest added)
          (unsent_more (events_of later ++ t.rest) added (w.unsent shut) (λ none. quiet (still_shut first later is w shut none)));
    }

-- an entry more, after which the two are tied
pub entry_tied : (numbered : Bool) (kind : LinkKind) (front : List WorldEvent) (h : History) (e : Entry) (past : List WorldEvent) →
    Tied numbered kind front (h ++ e ∷ []) past →
    ((end : SessionEnd) → end_at e ≡ Some end → IsEndCaused numbered kind end past) → TiedSoFar numbered kind front h past → AreTied numbered kind front (h ++ e ∷ []) past
entry_tied numbered kind front h e past tied caused t = record {
  now = tied;
  timeline = longer;
  history_is = entries;
  past_is = events;
  throughout = λ first later is. by first later (split t.timeline new first later is);
}
  where
    new : Entered
    new = record { meanwhile = t.rest; entry = e }

    longer : Timeline
    longer = t.timeline ++ new ∷ []

    entries : h ++ e ∷ [] ≡ history_of longer
    entries = ap (λ (x : History). x ++ e ∷ []) t.history_is ∙ sym (history_of-append t.timeline (new ∷ []))

    events : past ≡ past_after front longer
    events =
        t.past_is ∙ ap (λ (es : List WorldEvent). past_after front t.timeline ++ es) (sym (append-nil t.rest))
        ∙ sym (past_after-append front t.timeline (new ∷ []))

    last : WasTied numbered kind front longer []
    last = record {
      tied = subst (λ (x : History). Tied numbered kind front x (past_after front longer)) entries
          (subst (λ (es : List WorldEvent). Tied numbered kind front (h ++ e ∷ []) es) events tied);
      caused = λ end ends.
          subst (λ (es : List WorldEvent). IsEndCaused numbered kind end es) events
          (caused end (sym (ap (λ (x : History). end_after x None) (sym entries) ∙ end_after-append h e None) ∙ ends));
      unsent = λ shut. refl;
    }

    by : (first later : Timeline) → Split t.timeline new first later → WasTied numbered kind front first (events_of later)
    by first later (whole same none) =
        subst (λ (l : Timeline). WasTied numbered kind front l (events_of later)) (sym same)
        (subst (λ (l : Timeline). WasTied numbered kind front longer (events_of l)) (sym none) last)
    by first later (within rest at behind) =
        let same : events_of later ≡ events_of rest ++ t.rest =
        ap events_of behind ∙ events_of-append rest (new ∷ []) ∙ ap (λ (es : List WorldEvent). events_of rest ++ es) (append-nil t.rest)
        in
        subst (λ (es : List WorldEvent). WasTied numbered kind front first es) (sym same) (t.throughout first rest at)

-- if nothing has happened on the link since the last entry
pub so_far_of : (numbered : Bool) (kind : LinkKind) (front : List WorldEvent) (h : History) (past : List WorldEvent) → AreTied numbered kind front h past →
    TiedSoFar numbered kind front h past
so_far_of numbered kind front h past t = record {
  timeline = t.timeline;
  rest = [];
  history_is = t.history_is;
  past_is = t.past_is ∙ sym (append-nil (past_after front t.timeline));
  throughout = λ first later is.
      subst (λ (es : List WorldEvent). WasTied numbered kind front first es) (sym (append-nil (events_of later))) (t.throughout first later is);
}

-- the sessions before the last one stay tied, if an entry more is noted
pub earlier_tied : (numbered : Bool) (kind : LinkKind) (front : List WorldEvent) (h : History) (e : Entry) (past : List WorldEvent) (s : ℕ) → s < sessions h →
    IsTied numbered kind (session_texts s h) (acked_in s h) past (opens front + s) →
    IsTied numbered kind (session_texts s (h ++ e ∷ [])) (acked_in s (h ++ e ∷ [])) past (opens front + s)
earlier_tied numbered kind front h e past s below tied =
    subst (λ (l : List (List ℕ)). IsTied numbered kind l (acked_in s (h ++ e ∷ [])) past (opens front + s)) (sym (texts-before h e (e ∷ []) s below))
    (subst (λ (a : ℕ). IsTied numbered kind (session_texts s h) a past (opens front + s)) (sym (acked-before h e (e ∷ []) s below)) tied)

-- an entry more keeps a host in step, if its sessions are as they should be then
pub in_step_by : (numbered : Bool) (kind : LinkKind) (front : List WorldEvent) (h : History) (e : Entry) (past : List WorldEvent) (y : SessionData) →
    opens past ≡ opens front + sessions (h ++ e ∷ []) →
    ((s : ℕ) → 1 ≤ s → s < sessions (h ++ e ∷ []) → IsTied numbered kind (session_texts s (h ++ e ∷ [])) (acked_in s (h ++ e ∷ [])) past (opens front + s)) →
    ((s : ℕ) → s ≤ sessions (h ++ e ∷ []) → length (session_texts s (h ++ e ∷ [])) ≤ most_in s) →
    IsCurrent numbered kind (sessions (h ++ e ∷ [])) (session_texts (sessions (h ++ e ∷ [])) (h ++ e ∷ [])) (acked_in (sessions (h ++ e ∷ [])) (h ++ e ∷ [])) past y →
    is_open (h ++ e ∷ []) ≡ y.up → ((end : SessionEnd) → end_at e ≡ Some end → IsEndCaused numbered kind end past) → TiedSoFar numbered kind front h past →
    AreInStep numbered kind front (h ++ e ∷ []) past y
in_step_by numbered kind front h e past y counted former few current open_now caused so_far = record {
  counted = counted;
  former = former;
  few = few;
  current = current;
  open_as = open_now;
  so_far = so_far_of numbered kind front (h ++ e ∷ []) past
      (entry_tied numbered kind front h e past (tied_by numbered kind front (h ++ e ∷ []) past y counted former few current open_now) caused so_far);
}

-- the session with another desk
pub same_current : (numbered : Bool) (kind : LinkKind) (n : ℕ) (texts : List (List ℕ)) (acked : ℕ) (past : List WorldEvent) (x y : SessionData) →
    y.sender ≡ x.sender
    → y.up ≡ x.up →
    IsCurrent numbered kind n texts acked past x → IsCurrent numbered kind n texts acked past y
same_current numbered kind zero texts acked past x y sender up u =
    record {
      down = up ∙ u.down;
      sound = subst (λ (s : SenderData). IsSound s) (sym sender) u.sound;
      numbered_is = ap (λ (s : SenderData). s.numbered) sender ∙ u.numbered_is;
      suits = u.suits;
    }
same_current numbered kind (suc n) texts acked past x y sender up c =
    (same_opened kind texts x y past sender up c.0, ap (λ (s : SenderData). s.acked) sender ∙ c.1, ap (λ (s : SenderData). s.numbered) sender ∙ c.2)

-- the current session with other words for what it issued and has acknowledged
pub current_as : (numbered : Bool) (kind : LinkKind) (n m : ℕ) (texts other : List (List ℕ)) (acked other_acked : ℕ) (past : List WorldEvent) (x : SessionData) →
    n ≡ m → texts ≡ other → acked ≡ other_acked → IsCurrent numbered kind n texts acked past x → IsCurrent numbered kind m other other_acked past x
current_as numbered kind n m texts other acked other_acked past x same_n same_texts same_acked c =
    subst (λ (k : ℕ). IsCurrent numbered kind k other other_acked past x) same_n
    (subst (λ (l : List (List ℕ)). IsCurrent numbered kind n l other_acked past x) same_texts
    (subst (λ (a : ℕ). IsCurrent numbered kind n texts a past x) same_acked c))

module _ (numbered : Bool) (kind : LinkKind) (front : List WorldEvent) (h : History) (past : List WorldEvent) (x y : SessionData) where
  -- an entry that issues and acknowledges nothing: a call, or a note that only the desk has changed
  pub still_step : (e : Entry) → is_opened e ≡ false → end_at e ≡ None → lines_at e ≡ [] → ((was : ℕ) → x.sender.acked ≡ was → acked_at e was ≡ was) →
      ((was : Bool) → open_at e was ≡ was) → y.sender ≡ x.sender → y.up ≡ x.up → AreInStep numbered kind front h past x → AreInStep numbered kind front (h ++ e ∷ []) past y
  still_step e other endless silent same_acked same_open sender up i =
      let n : sessions (h ++ e ∷ []) ≡ sessions h = sessions-other h e other in
      let texts : session_texts (sessions h) (h ++ e ∷ []) ≡ session_texts (sessions h) h =
      texts-last h e other ∙ ap (λ (l : List (List ℕ)). session_texts (sessions h) h ++ l) (ap texts_in silent) ∙ append-nil (session_texts (sessions h) h)
      in
      let counted : opens past ≡ opens front + sessions (h ++ e ∷ []) = omega (arith, i.counted, n) in
      let former = λ (s : ℕ) (some : 1 ≤ s) (below : s < sessions (h ++ e ∷ [])).
      earlier_tied numbered kind front h e past s (omega (arith, below, n)) (i.former s some (omega (arith, below, n)))
      in
      let few = few_other h e other i.few (subst (λ (l : List (List ℕ)). length l ≤ most_in (sessions h)) (sym texts) (i.few (sessions h) (omega arith))) in
      let current = now (sessions h) (sessions (h ++ e ∷ [])) (sym n) (session_texts (sessions h) h) (acked_in (sessions h) h) texts
      (acked-last h e other) i.current in
      let open_now : is_open (h ++ e ∷ []) ≡ y.up = open-after h e ∙ same_open (is_open h) ∙ i.open_as ∙ sym up in
      in_step_by numbered kind front h e past y counted former few current open_now
      (λ end ends. absurd (let no : None ≡ Some end = sym endless ∙ ends in cc no)) i.so_far
    where
      acked_same : (n : ℕ) (texts : List (List ℕ)) (acked : ℕ) → IsCurrent numbered kind n texts acked past x → 1 ≤ n → acked_at e acked ≡ acked
      acked_same zero texts acked c some = absurd (omega arith)
      acked_same (suc n) texts acked c some = same_acked acked c.1

      now : (n m : ℕ) → n ≡ m → (texts : List (List ℕ)) (acked : ℕ) → session_texts n (h ++ e ∷ []) ≡ texts → acked_in n (h ++ e ∷ []) ≡ acked_at e acked →
          IsCurrent numbered kind n texts acked past x → IsCurrent numbered kind m (session_texts m (h ++ e ∷ [])) (acked_in m (h ++ e ∷ [])) past y
      now zero m same texts acked texts_are acked_is c =
          subst (λ (k : ℕ). IsCurrent numbered kind k (session_texts k (h ++ e ∷ [])) (acked_in k (h ++ e ∷ [])) past y) same
          (same_current numbered kind zero texts acked past x y sender up c)
      now (suc n) m same texts acked texts_are acked_is c =
          subst (λ (k : ℕ). IsCurrent numbered kind k (session_texts k (h ++ e ∷ [])) (acked_in k (h ++ e ∷ [])) past y) same
          (current_as numbered kind (suc n) (suc n) texts (session_texts (suc n) (h ++ e ∷ [])) acked (acked_in (suc n) (h ++ e ∷ [])) past y refl (sym texts_are)
          (sym (acked_is ∙ same_acked acked c.1))
          (same_current numbered kind (suc n) texts acked past x y sender up c))
