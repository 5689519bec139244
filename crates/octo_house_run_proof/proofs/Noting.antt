-- A turn keeps a host in step.
use Rattle.std.proofs.Common.{Some, length, ◌≡◌, ◌⊎◌, inl, inr, ℕ, zero, suc, ◌+◌, ◌<◌, ◌≤◌, Bool, true, false, List, [], ◌∷◌, ◌++◌, refl, sym, ◌∙◌, ap, subst, append-nil, arith}
use Rattle.std.specs.List.{list_any}
use Rattle.job_desk.specs.declared.issued.Note.{Note}
use Rattle.job_desk.specs.declared.link_fact.LinkFact.{LinkFact}
use Rattle.job_desk.specs.declared.link_fact.LinkFact.TheVariants as fact
use Rattle.printer_model.specs.World.{is_send}
use Rattle.printer_model.specs.Executed.{opens, till}
use Rattle.printer_model.specs.declared.event.WorldEvent.{WorldEvent}
use Rattle.printer_link.specs.Link.{LinkKind, world_in}
use Rattle.send_window.specs.declared.session_end.SessionEnd.{SessionEnd}
use Rattle.octo_session.specs.Data.{SessionData, doing}
use Rattle.octo_session.specs.Found.{Got, can_find}
use Rattle.octo_session.specs.Found as found
use Rattle.octo_session.specs.Turn.{texts_in}
use Rattle.octo_session.specs.declared.found.Doing.{Doing}
use Rattle.octo_session.specs.declared.found.Doing.TheVariants.{Dialling, HangingUp, UsingLink, Resting}
use Rattle.octo_asks.specs.History.{History}
use Rattle.octo_asks.specs.declared.entry.Entry.{Entry}
use Rattle.octo_asks.specs.declared.entry.Entry.TheVariants as entry
use Rattle.octo_house_rules.specs.Issued.{is_opening}
use Rattle.octo_house_rules.specs.Legal.{up_after}
use Rattle.octo_house_rules.specs.Noted.{lines_in}
use Rattle.octo_session_line_proof.specs.Linked.{opened}
use Rattle.octo_session.specs.Tied.{IsTied}
use Rattle.octo_session.specs.Causes.{IsEndCaused}
use Rattle.octo_session_line_proof.proofs.Promised.{turn_caused, ends_talking}
use Rattle.octo_session_line_proof.proofs.Turned.{IsTurned, talks_up}
use Rattle.octo_house_rules.specs.Sessions.{sessions, session_texts, most_in, acked_in, is_open, end_of}
use Rattle.octo_house_run_proof.specs.InStep.{IsCurrent, TiedSoFar, AreInStep}
use Rattle.octo_house_run_proof.proofs.Grown.{below_or, few_other, few_open, texts-before, acked-before, sessions-other, texts-last, acked-last, sessions-opened, texts-ended, acked-ended, texts-new, acked-new, open-after}
use Rattle.octo_house_run_proof.proofs.Turns.{turn_stays, turn_opens, turn_shut}
use Rattle.octo_house_run_proof.proofs.Standing.{leaves_of, longer_so_far, earlier_tied, in_step_by, current_as}

-- whether a session is open after a turn, as the history says it
open_turn : (d : Doing) (f : LinkFact) (was : Bool) → can_find d f ≡ true → (d ≡ UsingLink → was ≡ true) → up_after f was ≡ found.up_after f was
open_turn UsingLink fact.Ready was can up = up refl
open_turn Dialling fact.Ready was can up = absurd (cc)
open_turn HangingUp fact.Ready was can up = absurd (cc)
open_turn Resting fact.Ready was can up = absurd (cc)
open_turn d _ was can up = refl

is_fact : (f : LinkFact) → (is_opening f ≡ true) ⊎ (is_opening f ≡ false)
is_fact fact.Opened = inl refl
is_fact _ = inr refl

opened_fact : (f : LinkFact) → is_opening f ≡ true → f ≡ fact.Opened
opened_fact fact.Opened is = refl
opened_fact _ is = absurd (cc)

-- a fact that is an end
end_is : (f : LinkFact) (end : SessionEnd) → end_of f ≡ Some end → f ≡ fact.Ended end
end_is (fact.Ended why) end is = (let same : why ≡ end = cc in ap fact.Ended same)
end_is _ end is = absurd (cc is)

other_fact : (f : LinkFact) → is_opening f ≡ false → f ≡ fact.Opened → ⊥
other_fact f is same = (let no : true ≡ false = ap is_opening (sym same) ∙ is in absurd (cc))

module _ (moment : ℕ) (numbered : Bool) (kind : LinkKind) (x y : SessionData) (got : Got) (f : LinkFact) (texts : List (List ℕ)) (front : List WorldEvent) (h : History)
    (past added : List WorldEvent) (t : IsTurned moment kind x y got f texts (world_in kind past) added) (i : AreInStep numbered kind front h past x) where
  -- nothing is sent in a turn over no link, until one is made
  quiet_turn : is_open h ≡ false → list_any is_send (till 0 added) ≡ false
  quiet_turn shut = turn_shut moment numbered kind x y got f texts past added (sym i.open_as ∙ shut) t

  along : TiedSoFar numbered kind front h (past ++ added)
  along = longer_so_far numbered kind front h past added i.counted quiet_turn i.so_far

  -- an end has its cause
  caused_turn : (end : SessionEnd) → f ≡ fact.Ended end → IsEndCaused numbered kind end (past ++ added)
  caused_turn end is = by (sessions h) (session_texts (sessions h) h) (acked_in (sessions h) h) i.current
    where
      by : (n : ℕ) (issued : List (List ℕ)) (acked : ℕ) → IsCurrent numbered kind n issued acked past x → IsEndCaused numbered kind end (past ++ added)
      by zero issued acked u =
          let talks : doing x ≡ UsingLink = ends_talking end (doing x) (subst (λ (g : LinkFact). can_find (doing x) g ≡ true) is t.can) in
          let no : true ≡ false = sym (talks_up x talks) ∙ u.down in
          absurd (cc no)
      by (suc n) issued acked c =
          subst (λ (b : Bool). IsEndCaused b kind end (past ++ added)) c.2 (turn_caused moment kind x y got f texts issued past added end is t (opened c.0))

  open_then : (was : Bool) → was ≡ x.up → up_after f was ≡ y.up
  open_then was is = ap (λ (b : Bool). up_after f b) is ∙ open_turn (doing x) f x.up t.can (λ talks. talks_up x talks) ∙ sym t.up

  module _ (note : Note) (its_fact : note.fact ≡ f) (its_texts : texts_in (lines_in note) ≡ texts) (its_acked : y.sender.acked ≡ note.acked) where
    abbrev e : Entry
    e = entry.Note note

    open_now : is_open (h ++ e ∷ []) ≡ y.up
    open_now = open-after h e ∙ ap (λ (g : LinkFact). up_after g (is_open h)) its_fact ∙ open_then (is_open h) i.open_as

    caused_now : (end : SessionEnd) → end_of note.fact ≡ Some end → IsEndCaused numbered kind end (past ++ added)
    caused_now end ends = caused_turn end (sym its_fact ∙ end_is note.fact end ends)

    -- a note of a turn that makes no link
    noted_other : is_opening note.fact ≡ false → AreInStep numbered kind front (h ++ e ∷ []) (past ++ added) y
    noted_other other =
        let n : sessions (h ++ e ∷ []) ≡ sessions h = sessions-other h e other in
        let l = turn_stays moment numbered kind x y got f texts front past added (sessions h) (λ s. session_texts s h) (λ s. acked_in s h) note.acked
        (λ is. other_fact note.fact other (its_fact ∙ is)) t its_acked (leaves_of numbered kind front h past x i)
        in
        let counted : opens (past ++ added) ≡ opens front + sessions (h ++ e ∷ []) = omega (arith, l.counted, n) in
        let former = λ (s : ℕ) (some : 1 ≤ s) (below : s < sessions (h ++ e ∷ [])).
        earlier_tied numbered kind front h e (past ++ added) s (omega (arith, below, n)) (l.former s some (omega (arith, below, n)))
        in
        let texts_now : session_texts (sessions h) (h ++ e ∷ []) ≡ session_texts (sessions h) h ++ texts =
        texts-last h e other ∙ ap (λ (l : List (List ℕ)). session_texts (sessions h) h ++ l) its_texts
        in
        let few = few_other h e other i.few (subst (λ (l : List (List ℕ)). length l ≤ most_in (sessions h)) (sym texts_now) l.few) in
        let current : IsCurrent numbered kind (sessions (h ++ e ∷ [])) (session_texts (sessions (h ++ e ∷ [])) (h ++ e ∷ []))
        (acked_in (sessions (h ++ e ∷ [])) (h ++ e ∷ [])) (past ++ added) y =
        subst (λ (k : ℕ). IsCurrent numbered kind k (session_texts k (h ++ e ∷ [])) (acked_in k (h ++ e ∷ [])) (past ++ added) y) (sym n)
        (current_as numbered kind (sessions h) (sessions h) (session_texts (sessions h) h ++ texts) (session_texts (sessions h) (h ++ e ∷ [])) note.acked
        (acked_in (sessions h) (h ++ e ∷ []))
        (past ++ added) y refl (sym (texts-last h e other ∙ ap (λ (l : List (List ℕ)). session_texts (sessions h) h ++ l) its_texts))
        (sym (acked-last h e other)) l.current)
        in
        in_step_by numbered kind front h e (past ++ added) y counted former few current open_now caused_now along

    -- a note of one that does
    noted_opened : (note.acked ≡ 0) → is_opening note.fact ≡ true → AreInStep numbered kind front (h ++ e ∷ []) (past ++ added) y
    noted_opened none_acked opens_now =
        let n : sessions (h ++ e ∷ []) ≡ suc (sessions h) = sessions-opened h e opens_now in
        let l = turn_opens moment numbered kind x y got f texts front past added (sessions h) (λ s. session_texts s h) (λ s. acked_in s h) note.acked
        (sym its_fact ∙ opened_fact note.fact opens_now) t its_acked (leaves_of numbered kind front h past x i)
        in
        let counted : opens (past ++ added) ≡ opens front + sessions (h ++ e ∷ []) = omega (arith, l.counted, n) in
        let former = λ (s : ℕ) (some : 1 ≤ s) (below : s < sessions (h ++ e ∷ [])).
        earlier s some (below_or s (sessions h) (omega (arith, below, n))) (l.former s some (omega (arith, below, n)))
        in
        let few = few_open h e opens_now i.few in
        let current : IsCurrent numbered kind (sessions (h ++ e ∷ [])) (session_texts (sessions (h ++ e ∷ [])) (h ++ e ∷ []))
        (acked_in (sessions (h ++ e ∷ [])) (h ++ e ∷ [])) (past ++ added) y =
        subst (λ (k : ℕ). IsCurrent numbered kind k (session_texts k (h ++ e ∷ [])) (acked_in k (h ++ e ∷ [])) (past ++ added) y) (sym n)
        (current_as numbered kind (suc (sessions h)) (suc (sessions h)) [] (session_texts (suc (sessions h)) (h ++ e ∷ [])) note.acked
        (acked_in (suc (sessions h)) (h ++ e ∷ []))
        (past ++ added) y refl (sym (texts-new h e opens_now)) (none_acked ∙ sym (acked-new h e opens_now)) l.current)
        in
        in_step_by numbered kind front h e (past ++ added) y counted former few current open_now caused_now along
      where
        texts_now : (s : ℕ) → (s < sessions h) ⊎ (s ≡ sessions h) → session_texts s (h ++ e ∷ []) ≡ session_texts s h
        texts_now s (inl below) = texts-before h e (e ∷ []) s below
        texts_now s (inr same) = subst (λ (k : ℕ). session_texts k (h ++ e ∷ []) ≡ session_texts k h) (sym same) (texts-ended h e opens_now)

        acked_now : (s : ℕ) → (s < sessions h) ⊎ (s ≡ sessions h) → acked_in s (h ++ e ∷ []) ≡ acked_in s h
        acked_now s (inl below) = acked-before h e (e ∷ []) s below
        acked_now s (inr same) = subst (λ (k : ℕ). acked_in k (h ++ e ∷ []) ≡ acked_in k h) (sym same) (acked-ended h e opens_now)

        earlier : (s : ℕ) → 1 ≤ s → (s < sessions h) ⊎ (s ≡ sessions h) →
            IsTied numbered kind (session_texts s h) (acked_in s h) (past ++ added) (opens front + s) →
            IsTied numbered kind (session_texts s (h ++ e ∷ [])) (acked_in s (h ++ e ∷ [])) (past ++ added) (opens front + s)
        earlier s some at tied =
            subst (λ (l : List (List ℕ)). IsTied numbered kind l (acked_in s (h ++ e ∷ [])) (past ++ added) (opens front + s)) (sym (texts_now s at))
            (subst (λ (a : ℕ). IsTied numbered kind (session_texts s h) a (past ++ added) (opens front + s)) (sym (acked_now s at)) tied)

    -- a turn with this note
    pub noted_step : (note.fact ≡ fact.Opened → note.acked ≡ 0) → AreInStep numbered kind front (h ++ e ∷ []) (past ++ added) y
    noted_step none_acked = by (is_fact note.fact)
      where
        by : (is_opening note.fact ≡ true) ⊎ (is_opening note.fact ≡ false) → AreInStep numbered kind front (h ++ e ∷ []) (past ++ added) y
        by (inl opens_now) = noted_opened (none_acked (opened_fact note.fact opens_now)) opens_now
        by (inr other) = noted_other other

  -- a turn without a note
  pub silent_step : f ≡ fact.Quiet → texts ≡ [] → y.sender.acked ≡ x.sender.acked → AreInStep numbered kind front h (past ++ added) y
  silent_step quiet none same = stays (sessions h) refl i.current
    where
      other : f ≡ fact.Opened → ⊥
      other is = (let no : fact.Quiet ≡ fact.Opened = sym quiet ∙ is in absurd (cc))

      stays : (n : ℕ) → sessions h ≡ n → IsCurrent numbered kind n (session_texts n h) (acked_in n h) past x → AreInStep numbered kind front h (past ++ added) y
      stays n is c =
          let l = turn_stays moment numbered kind x y got f texts front past added (sessions h) (λ s. session_texts s h) (λ s. acked_in s h) y.sender.acked other t refl
          (leaves_of numbered kind front h past x i)
          in
          record {
            counted = l.counted;
            former = l.former;
            few = i.few;
            current = last (sessions h) i.current l.current;
            open_as = sym (ap (λ (g : LinkFact). up_after g (is_open h)) quiet) ∙ open_then (is_open h) i.open_as;
            so_far = along;
          }
        where
          last : (n : ℕ) → IsCurrent numbered kind n (session_texts n h) (acked_in n h) past x →
              IsCurrent numbered kind n (session_texts n h ++ texts) y.sender.acked (past ++ added) y →
              IsCurrent numbered kind n (session_texts n h) (acked_in n h) (past ++ added) y
          last zero c d = d
          last (suc n) c d =
              current_as numbered kind (suc n) (suc n) (session_texts (suc n) h ++ texts) (session_texts (suc n) h) y.sender.acked (acked_in (suc n) h) (past ++ added) y refl
              (ap (λ (l : List (List ℕ)). session_texts (suc n) h ++ l) none ∙ append-nil (session_texts (suc n) h)) (same ∙ c.1) d
