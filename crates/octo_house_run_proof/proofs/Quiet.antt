-- A turn that makes no note leads a host on by a quiet note, or leaves it as it is.
use Rattle.std.proofs.Common.{◌≡◌, inr, ℕ, ◌≤◌, Bool, true, false, List, [], ◌∷◌, ◌++◌, map, Option, None, refl, sym, ap, subst, ◌∙◌, arith}
use Rattle.octo_keeper.specs.declared.shelf.ShelfFile.{ShelfFile}
use Rattle.octo_keeper.specs.Tables.{with_due_end}
use Rattle.marlin_reply.specs.declared.reply.Temps.{Temps}
use Rattle.print_queue.specs.declared.ending.Ending.{Ending}
use Rattle.job_desk.specs.declared.link_fact.LinkFact.{LinkFact}
use Rattle.job_desk.specs.declared.link_fact.LinkFact.TheVariants as fact
use Rattle.job_desk.specs.declared.issued.Issued.{Issued}
use Rattle.job_desk.specs.declared.issued.Note as declared_note
use Rattle.job_desk.specs.Data.{Data, Line}
use Rattle.job_desk.specs.Issued.{line_of}
use Rattle.job_desk.specs.Note.{Noted, note_step, first_fact}
use Rattle.job_desk.specs.Run.{Pull, Note}
use Rattle.send_window.specs.Data.{IsSound}
use Rattle.send_window.specs.declared.session_end.SessionEnd.{SessionEnd}
use Rattle.octo_asks.specs.declared.entry.Entry.TheVariants as entry
use Rattle.octo_session.specs.Data.{SessionData, IsSession, doing}
use Rattle.octo_session.specs.DeskTurn.{IsQuietTurn, IsNoted}
use Rattle.octo_session.specs.Found as found
use Rattle.octo_session.specs.Turn.{IsSpent as SessionSpent}
use Rattle.octo_session.specs.declared.found.Doing.{Doing}
use Rattle.octo_session.specs.declared.found.Doing.TheVariants.{Dialling, HangingUp, UsingLink, Resting}
use Rattle.send_window.specs.Patience.{IsPatient}
use Rattle.octo_house_rules.specs.Known.{Known}
use Rattle.octo_house_rules.specs.Legal.{Standing, IsLegal, after_entry}
use Rattle.octo_house_rules.specs.Noted.{known_after_note, known_after_calls, last_call, forgets, with_temps, kept_unless}
use Rattle.octo_house_rules.specs.Stands.{StandsAt}
use Rattle.octo_house_run_proof.proofs.Rising.{Risen}
use Rattle.job_desk.proofs.Quiet.{quiet_keeps}
use Rattle.octo_house_run_proof.proofs.Turned.{TookTurn, note_legal, note_leads}

-- what a turn of a session at a moment, which made no note, says of the session before and after
pub record TookQuiet (moment : ℕ) (x y : SessionData) (ending : Option Ending) : Type 0 where
  pub before : IsSession x
  pub joined : IsSession y
  pub desk : IsQuietTurn (doing x) moment x.desk ending y.desk
  pub up : y.up ≡ x.up
  pub ready_is : y.sender.ready ≡ x.sender.ready
  pub spent : y.up ≡ true → SessionSpent moment x.desk y.desk y.sender
  pub acked : y.sender.acked ≡ x.sender.acked
  pub within : y.sender.acked ≤ x.sender.issued
  pub sound : IsSound y.sender
  pub window : y.sender.window ≡ x.sender.window
  pub limit : y.sender.limit ≡ x.sender.limit
  pub patient : (start : ℕ) → start ≤ moment → IsPatient start x.sender.limit x.sender → IsPatient start x.sender.limit y.sender
  pub risen : IsPatient 0 x.sender.limit x.sender → Risen moment x.sender.limit x.sender.acked y.sender

-- a note of a moment that issued nothing and heard no temperatures
pub record IsQuietNote (moment acked : ℕ) (note : declared_note.Note) : Type 0 where
  pub its_moment : note.moment ≡ moment
  pub its_acked : note.acked ≡ acked
  pub its_lines : note.issued.items ≡ []
  pub its_temps : note.temps ≡ None
  pub its_fact : note.fact ≡ fact.Quiet

-- what a host knows after a turn that made no note
abbrev pub known_quietly : Option Ending → Data → Known → Known
known_quietly ending desk known = record known { desk = desk; prints = with_due_end ending known.prints }

-- what is known after a note, by its parts
abbrev known_by : ℕ → ℕ → List Issued → Option Temps → LinkFact → Known → Known
known_by moment acked items temps f k =
    record (known_after_calls (Note acked (first_fact f) moment ∷ (map (λ (i : Issued). Pull moment) items ++ last_call f acked moment)) k)
    { temps = kept_unless (forgets f) (with_temps temps k.temps) }

-- a quiet note makes of what is known what the turn made of it
known_noted : (moment acked : ℕ) (note : declared_note.Note) (known : Known) → IsQuietNote moment acked note
    → known_after_note note known ≡ known_quietly (note_step acked fact.Quiet moment known.desk).0 (note_step acked fact.Quiet moment known.desk).1 known
known_noted moment acked note known q =
    ap (λ m. known_by m note.acked note.issued.items note.temps note.fact known) q.its_moment
    ∙ ap (λ a. known_by moment a note.issued.items note.temps note.fact known) q.its_acked
    ∙ ap (λ items. known_by moment acked items note.temps note.fact known) q.its_lines
    ∙ ap (λ temps. known_by moment acked [] temps note.fact known) q.its_temps
    ∙ ap (λ f. known_by moment acked [] None f known) q.its_fact

-- a desk that a turn without a note left in another state took a quiet note
pub talked : (d : Doing) (moment : ℕ) (old new : Data) (ending : Option Ending) → IsQuietTurn d moment old ending new → (new.state ≡ old.state → ⊥)
    → (d ≡ UsingLink) × (ending ≡ (note_step old.acked fact.Quiet moment old).0) × (new ≡ (note_step old.acked fact.Quiet moment old).1)
talked Dialling moment old new ending quiet moved = absurd quiet
talked HangingUp moment old new ending quiet moved = absurd quiet
talked UsingLink moment old new ending quiet moved = (refl, quiet.0, quiet.1)
talked Resting moment old new ending quiet moved = absurd (moved (ap (λ (d : Data). d.state) quiet.1))

-- one that it left in its state is as it was
pub kept_still : (d : Doing) (moment : ℕ) (old new : Data) (ending : Option Ending) → IsQuietTurn d moment old ending new → new.state ≡ old.state
    → (ending ≡ None) × (new ≡ old)
kept_still Dialling moment old new ending quiet same = absurd quiet
kept_still HangingUp moment old new ending quiet same = absurd quiet
kept_still UsingLink moment old new ending quiet same =
    let none = quiet_keeps moment old (sym (ap (λ (d : Data). d.state) quiet.1) ∙ same) in
    (quiet.0 ∙ ap (λ (n : Noted). n.0) none, quiet.1 ∙ ap (λ (n : Noted). n.1) none)
kept_still Resting moment old new ending quiet same = (quiet.0, quiet.1)

module _ (s : Standing) (known known' : Known) (x y : SessionData) (files : List ShelfFile) (moment at_moment : ℕ) (ending : Option Ending)
    (at : StandsAt s known x files moment false) (t : TookQuiet at_moment x y ending)
    (after : known' ≡ known_quietly ending y.desk known) (below : moment ≤ at_moment) where
  -- the desk is in the same state: the host is as it was
  pub quiet_stays : y.desk.state ≡ x.desk.state → StandsAt s known' y files at_moment false
  quiet_stays same =
      let still = kept_still (doing x) at_moment x.desk y.desk ending t.desk same in
      let Up : Bool → Type 0 = λ is. is ≡ true in
      let Limit : ℕ → Type 0 = λ limit. IsPatient s.raised_at limit y.sender in
      let Was : ℕ → Type 0 = λ limit. IsPatient s.raised_at limit x.sender in
      let known_is : known' ≡ known =
      after ∙ ap (λ (e : Option Ending). known_quietly e y.desk known) still.0 ∙ ap (λ (d : Data). known_quietly None d known) (still.1 ∙ sym at.desk)
      in
      record {
        window = at.window ∙ sym t.window;
        limit = at.limit ∙ sym t.limit;
        known_is = at.known_is ∙ sym known_is;
        desk = ap (λ (k : Known). k.desk) known_is ∙ at.desk ∙ sym still.1;
        sound = t.sound;
        files_are = at.files_are;
        up = at.up ∙ sym t.up;
        ready = λ up. at.ready (subst Up t.up up) ∙ sym t.ready_is;
        patient = λ up. subst Limit (sym at.limit) (t.patient s.raised_at (omega (arith, at.raised, below)) (subst Was at.limit (at.patient (subst Up t.up up))));
        raised = omega (arith, at.raised, below);
        moment_is = omega (arith, at.moment_is, below);
        closed_is = at.closed_is;
      }

  -- the desk is in another state: a quiet note is legal, and leads the host on
  pub quiet_leads : (note : declared_note.Note) → IsQuietNote at_moment y.sender.acked note → (y.desk.state ≡ x.desk.state → ⊥)
      → IsLegal (entry.Note note) s × StandsAt (after_entry (entry.Note note) s) known' y files at_moment false
  quiet_leads note q moved = (
    note_legal s known known' x y files moment at_moment ending note at took noted desk_then below,
    note_leads s known known' x y files moment at_moment ending note at took noted desk_then below,
  )
    where
      tk : (doing x ≡ UsingLink) × (ending ≡ (note_step x.desk.acked fact.Quiet at_moment x.desk).0) × (y.desk ≡ (note_step x.desk.acked fact.Quiet at_moment x.desk).1)
      tk = talked (doing x) at_moment x.desk y.desk ending t.desk moved

      acked_is : x.desk.acked ≡ y.sender.acked
      acked_is = t.before.acked ∙ sym t.acked

      step_is : note_step y.sender.acked fact.Quiet at_moment known.desk ≡ note_step x.desk.acked fact.Quiet at_moment x.desk
      step_is = ap (λ a. note_step a fact.Quiet at_moment known.desk) (sym acked_is) ∙ ap (λ d. note_step x.desk.acked fact.Quiet at_moment d) at.desk

      noted : known' ≡ known_after_note note known
      noted =
          after
          ∙ ap (λ (e : Option Ending). known_quietly e y.desk known) (tk.1 ∙ sym (ap (λ (n : Noted). n.0) step_is))
          ∙ ap (λ (d : Data). known_quietly (note_step y.sender.acked fact.Quiet at_moment known.desk).0 d known) (tk.2 ∙ sym (ap (λ (n : Noted). n.1) step_is))
          ∙ sym (known_noted at_moment y.sender.acked note known q)

      desk_then : known'.desk ≡ y.desk
      desk_then = ap (λ (k : Known). k.desk) after

      pair_of : Option Ending → Noted
      pair_of e = (e, y.desk)

      told : IsNoted at_moment y.sender.acked note.fact (map line_of note.issued.items) x.desk ending y.desk
      told =
          let Acked : ℕ → Type 0 = λ a. IsNoted at_moment a fact.Quiet [] x.desk ending y.desk in
          let Fact : LinkFact → Type 0 = λ f. IsNoted at_moment y.sender.acked f [] x.desk ending y.desk in
          let Lines : List Line → Type 0 = λ lines. IsNoted at_moment y.sender.acked note.fact lines x.desk ending y.desk in
          subst Lines (sym (ap (λ items. map line_of items) q.its_lines)) (subst Fact (sym q.its_fact) (subst Acked acked_is
          (record { pulled = y.desk; pulls = tk.2; is = ap (λ (e : Option Ending). pair_of e) tk.1 })))

      took : TookTurn at_moment x y ending note
      took = record {
        before = t.before;
        joined = t.joined;
        can = ap (λ f. found.can_find (doing x) f) q.its_fact ∙ ap (λ d. found.can_find d fact.Quiet) tk.0;
        up = t.up ∙ sym (ap (λ f. found.up_after f x.up) q.its_fact);
        ready_is = t.ready_is ∙ sym (ap (λ f. found.ready_after f x.sender.ready) q.its_fact);
        unready = λ is. absurd (other (sym q.its_fact ∙ is));
        spent = λ up is. t.spent up;
        kept = inr (omega (arith, t.acked));
        within = t.within;
        none_acked = λ is. absurd (opens_not (sym q.its_fact ∙ is));
        told = record { its_moment = q.its_moment; its_acked = q.its_acked; noted = told };
        sound = t.sound;
        window = t.window;
        limit = t.limit;
        opened = λ is. absurd (opens_not (sym q.its_fact ∙ is));
        patient = t.patient;
        risen = t.risen;
        silent = λ count start is. absurd (ends_not _ (sym q.its_fact ∙ is));
        missing = λ count start is. absurd (ends_not _ (sym q.its_fact ∙ is));
        numbers = λ count is. absurd (ends_not _ (sym q.its_fact ∙ is));
      }
        where
          other : fact.Quiet ≡ fact.Ready → ⊥
          other e = cc

          opens_not : fact.Quiet ≡ fact.Opened → ⊥
          opens_not e = cc

          ends_not : (end : SessionEnd) → fact.Quiet ≡ fact.Ended end → ⊥
          ends_not end e = cc
