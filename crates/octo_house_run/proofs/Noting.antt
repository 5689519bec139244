-- A turn of the link leads a host on.
use Rattle.std.proofs.Common.{◌≡◌, ◌⊎◌, inl, inr, ℕ, ◌≤◌, true, false, List, [], ◌∷◌, Option, Some, None, refl, sym, ap, subst, ◌∙◌}
use Rattle.std.specs.Prelude.{IfSome}
use Rattle.octo_outside.specs.Recorded.{Became, Adds}
use Rattle.octo_outside.proofs.Recorded.{became_so, became_same}
use Rattle.job_desk.specs.declared.state.State.{State}
use Rattle.octo_keeper.specs.declared.shelf.ShelfFile.{ShelfFile}
use Rattle.octo_keeper.specs.Tables.{with_due_end}
use Rattle.print_queue.specs.declared.ending.Ending.{Ending}
use Rattle.printer_link.specs.Link.{LinkKind}
use Rattle.printer_model.specs.declared.event.WorldEvent.{WorldEvent}
use Rattle.job_desk.specs.declared.issued.Note.{Note}
use Rattle.job_desk.specs.declared.link_fact.LinkFact.{LinkFact}
use Rattle.job_desk.specs.declared.link_fact.LinkFact.TheVariants as fact
use Rattle.octo_asks.specs.History.{History}
use Rattle.octo_asks.specs.declared.entry.Entry.TheVariants as entry
use Rattle.octo_session.specs.Data.{SessionData, IsSession, doing}
use Rattle.octo_session.specs.DeskTurn.{IsQuietTurn}
use Rattle.octo_session.specs.Found.{can_find, up_after, ready_after}
use Rattle.octo_session.specs.Turn.{IsTurn, IsNoteOn, IsSpent, fact_of}
use Rattle.octo_session.specs.declared.found.Turned.{Turned}
use Rattle.octo_house_rules.specs.Known.{Known}
use Rattle.octo_house_rules.specs.Legal.{Standing}
use Rattle.octo_house_rules.specs.Noted.{known_after_note}
use Rattle.octo_house_rules.specs.Stands.{StandsAt}
use Rattle.octo_house_rules.specs.Walks.{Walks}
use Rattle.octo_house_run_proof.proofs.Quiet.{TookQuiet, quiet_stays, quiet_leads}
use Rattle.octo_house_run_proof.proofs.Taking.{took_turn, took_quiet}
use Rattle.octo_house_run_proof.proofs.Turned.{TookTurn, note_legal, note_leads}
use Rattle.octo_house_run_proof.proofs.Walking.{walks_none, walks_one}
use Rattle.octo_house_run.specs.Turns.{NotesChange, Notes}
use Rattle.octo_house_run.specs.Tallies.{AreOf}
use Rattle.octo_house_run.proofs.Tallying.{none_counts, note_counts}

-- what is known after a turn with this note, or without one
abbrev pub Knows : ℕ → Option Note → Option Ending → SessionData → SessionData → Known → Known → Type 0
Knows moment None ending x y known known' =
    IsQuietTurn (doing x) moment x.desk ending y.desk × (known' ≡ record known { desk = y.desk; prints = with_due_end ending known.prints })
Knows moment (Some note) ending x y known known' = known' ≡ known_after_note note known

-- what a turn of a host promises of its session
pub record HasTurned (moment : ℕ) (kind : LinkKind) (past past' : Option (List WorldEvent)) (calls calls' : Option ℕ) (x y : SessionData) (turned : Turned)
    : Type 0 where
  pub turn : IsTurn moment kind past past' calls calls' x y turned
  pub before : IsSession x
  pub joined : IsSession y
  pub can : can_find (doing x) (fact_of turned.note) ≡ true
  pub up : y.up ≡ up_after (fact_of turned.note) x.up
  pub ready_is : y.sender.ready ≡ ready_after (fact_of turned.note) x.sender.ready
  pub unready : fact_of turned.note ≡ fact.Ready → x.sender.ready ≡ false
  pub spent : y.up ≡ true → fact_of turned.note ≡ fact.Quiet → IsSpent moment x.desk y.desk y.sender
  pub not_fallen : (fact_of turned.note ≡ fact.Opened) ⊎ (x.sender.acked ≤ y.sender.acked)
  pub within : y.sender.acked ≤ x.sender.issued
  pub none_acked : fact_of turned.note ≡ fact.Opened → y.sender.acked ≡ 0
  pub told : IfSome turned.note (λ note. IsNoteOn moment y.sender.acked x.desk y.desk turned.ending note)

module _ (moment : ℕ) (kind : LinkKind) (link link' : Option (List WorldEvent)) (calls calls' : Option ℕ) (x y : SessionData) (turned : Turned)
    (known known' : Known) (t : HasTurned moment kind link link' calls calls' x y turned) (desk : known'.desk ≡ y.desk)
    (past past' : Option History) (files : Option (List ShelfFile)) where
  -- how far the host is after it
  abbrev After : List ShelfFile → Standing → Type 0
  After held s = StandsAt s known' y held moment false

  -- a turn with this note
  took : (note : Note) → turned.note ≡ Some note → (s : Standing) (held : List ShelfFile) (before : ℕ) → StandsAt s known x held before false
      → TookTurn moment x y turned.ending note
  took note is s held before at =
      let fact_is : fact_of turned.note ≡ note.fact = ap fact_of is in
      let Can : LinkFact → Type 0 = λ f. can_find (doing x) f ≡ true in
      let Kept : LinkFact → Type 0 = λ f. (f ≡ fact.Opened) ⊎ (x.sender.acked ≤ y.sender.acked) in
      let Told : Option Note → Type 0 = λ n. IfSome n (λ one. IsNoteOn moment y.sender.acked x.desk y.desk turned.ending one) in
      took_turn moment kind link link' calls calls' x y turned t.turn at.sound turned.ending note is t.before t.joined
      (subst Can fact_is t.can) (t.up ∙ ap (λ f. up_after f x.up) fact_is) (t.ready_is ∙ ap (λ f. ready_after f x.sender.ready) fact_is)
      (λ ready. t.unready (fact_is ∙ ready)) (λ up quiet. t.spent up (fact_is ∙ quiet)) (subst Kept fact_is t.not_fallen) t.within
      (λ opened. t.none_acked (fact_is ∙ opened)) (subst Told is t.told)

  noted_walks : (note : Note) → turned.note ≡ Some note → known' ≡ known_after_note note known → Adds past past' (entry.Note note ∷ [])
      → (before : ℕ) → before ≤ moment → Walks past past' files files (λ held s. StandsAt s known x held before false) After
  noted_walks note is knows adds before below =
      walks_one past past' files files _ _ (entry.Note note) adds
      (λ was was_is. (
        was,
        was_is,
        λ s at. (
          note_legal s known known' x y was before moment turned.ending note at (took note is s was before at) knows desk below,
          note_leads s known known' x y was before moment turned.ending note at (took note is s was before at) knows desk below,
        ),
      ))

  -- one without
  quietly : turned.note ≡ None → IsQuietTurn (doing x) moment x.desk turned.ending y.desk
      → (s : Standing) (held : List ShelfFile) (before : ℕ) → StandsAt s known x held before false → TookQuiet moment x y turned.ending
  quietly is quiet s held before at =
      let fact_is : fact_of turned.note ≡ fact.Quiet = ap fact_of is in
      took_quiet moment kind link link' calls calls' x y turned t.turn at.sound turned.ending is t.before t.joined
      (t.up ∙ ap (λ f. up_after f x.up) fact_is) (t.ready_is ∙ ap (λ f. ready_after f x.sender.ready) fact_is)
      (λ up. t.spent up fact_is) t.within quiet

  quiet_walks : turned.note ≡ None → IsQuietTurn (doing x) moment x.desk turned.ending y.desk
      → known' ≡ record known { desk = y.desk; prints = with_due_end turned.ending known.prints }
      → NotesChange moment y.sender.acked x.desk.state y.desk.state past past'
      → (before : ℕ) → before ≤ moment → Walks past past' files files (λ held s. StandsAt s known x held before false) After
  quiet_walks is quiet knows (inl same) before below =
      walks_none past past' files files _ _ same.1 refl
      (λ held s at. quiet_stays s known known' x y held before moment turned.ending at (quietly is quiet s held before at) knows below same.0)
  quiet_walks is quiet knows (inr moved) before below =
      let q = moved.1.1 in
      walks_one past past' files files _ _ (entry.Note moved.1.0) moved.1.2
      (λ was was_is. (
        was,
        was_is,
        λ s at. quiet_leads s known known' x y was before moment turned.ending at (quietly is quiet s was before at) knows below moved.1.0
            (record { its_moment = q.its_moment; its_acked = q.its_acked; its_lines = q.its_lines; its_temps = q.its_temps; its_fact = q.its_fact }) moved.0,
      ))

  by_note : (note : Option Note) → turned.note ≡ note → Knows moment note turned.ending x y known known'
      → Notes moment y.sender.acked x.desk.state y.desk.state note past past'
      → (before : ℕ) → before ≤ moment → Walks past past' files files (λ held s. StandsAt s known x held before false) After
  by_note None is knows notes before below = quiet_walks is knows.0 knows.1 notes before below
  by_note (Some note) is knows notes before below = noted_walks note is knows notes before below

  -- the turn leads the host on
  pub turn_walks : Knows moment turned.note turned.ending x y known known' → Notes moment y.sender.acked x.desk.state y.desk.state turned.note past past'
      → (before : ℕ) → before ≤ moment → Walks past past' files files (λ held s. StandsAt s known x held before false) After
  turn_walks knows notes before below = by_note turned.note refl knows notes before below

-- a note was added, or nothing
pub notes_count : (moment acked : ℕ) (was now : State) (note : Option Note) (past past' : Option History) → Notes moment acked was now note past past'
    → Became past past' (λ _ added. AreOf None added)
notes_count moment acked was now (Some note) past past' adds =
    became_so past past' _ _ adds (λ old added is. subst (λ (h : History). AreOf None h) (sym is) (note_counts note))
notes_count moment acked was now None past past' (inl same) =
    subst (λ (h : Option History). Became past h (λ _ added. AreOf None added)) (sym same.1) (became_same past (λ _ added. AreOf None added) (λ old. none_counts))
notes_count moment acked was now None past past' (inr moved) =
    became_so past past' _ _ moved.1.2 (λ old added is. subst (λ (h : History). AreOf None h) (sym is) (note_counts moved.1.0))
