-- What a turn makes of a printer: its phase, whether its link is up, and whether a print is active.
use Rattle.std.proofs.Common.{◌≡◌, ◌⊎◌, inl, inr, ℕ, Bool, true, false, cond, not, ◌&&◌, List, [], ◌∷◌, map, Option, None, Some, refl, sym, ◌∙◌, ap, subst}
use Rattle.std.specs.Prelude.{IfSome}
use Rattle.std.proofs.lemmas.Bool.{false≢true}
use Rattle.job_desk.specs.Data.{Data, Line}
use Rattle.job_desk.specs.Endings.{IsActive}
use Rattle.job_desk.specs.Issued.{line_of}
use Rattle.job_desk.specs.Note.{Noted, note_step, first_fact}
use Rattle.job_desk.specs.Pull.{pull_step}
use Rattle.job_desk.specs.Table.{is_closable_at}
use Rattle.job_desk.specs.declared.issued.Note.{Note}
use Rattle.job_desk.specs.declared.link_fact.LinkFact.{LinkFact}
use Rattle.job_desk.specs.declared.link_fact.LinkFact.TheVariants as fact
use Rattle.job_desk.specs.declared.state.State.{State}
use Rattle.job_desk.proofs.Going.{Goes, goes_then, goes_note, goes_rested}
use Rattle.print_queue.specs.declared.ending.Ending.{Ending}
use Rattle.printer_link.specs.Link.{LinkKind}
use Rattle.octo_session.specs.Data.{SessionData, doing, is_connecting}
use Rattle.octo_session.specs.DeskTurn.{Pulls, IsNoted, IsQuietTurn, last_noted}
use Rattle.octo_session.specs.Found.{can_find, up_after}
use Rattle.octo_session.specs.Turn.{IsTurnByNote, IsNoteOn, fact_of}
use Rattle.octo_session.specs.declared.found.Doing.{Doing}
use Rattle.octo_session.specs.declared.found.Doing.TheVariants.{Dialling, HangingUp, UsingLink, Resting}
use Rattle.octo_session.specs.declared.found.Turned.{Turned}
use Rattle.octo_session.proofs.Choosing.{dials_at}
use Rattle.octo_session.proofs.Endings.{pulls_go}
use Rattle.octo_floor.specs.Phases.{Phase, phase_in, phase_of, phase_after, is_up_in, IsAtRest}
use Rattle.octo_floor.proofs.Phases.{Stays, stays_same, stays_then, stays_pull, Phased, phased_note}

pulls_stay : (moment : ℕ) (lines : List Line) (d e : Data) → Pulls moment lines d e → Stays d e
pulls_stay moment [] d e same = subst (λ (f : Data). Stays d f) (sym same) (stays_same d)
pulls_stay moment (line ∷ lines) d e pulls =
    stays_then d (pull_step moment d).1 e (stays_pull moment d) (pulls_stay moment lines (pull_step moment d).1 e pulls.1)

-- a note, pulls, and nothing more
plain : (acked : ℕ) (f : LinkFact) (moment : ℕ) (d pulled : Data) → d.stopped ≡ false → Stays (note_step acked f moment d).1 pulled →
    Goes (note_step acked f moment d).1 pulled → Phased f d pulled
plain acked f moment d pulled still stays goes =
    let first = phased_note acked f moment d still in
    record {
      phase = stays.phase ∙ first.phase;
      limits = stays.limits ∙ first.limits;
      stopped = stays.stopped ∙ first.stopped;
      rests = λ ends. goes_rested (note_step acked f moment d).1 pulled goes (first.rests ends);
    }

phased_noted : (moment acked : ℕ) (found : LinkFact) (lines : List Line) (old : Data) (ending : Option Ending) (new : Data) → old.stopped ≡ false →
    IsNoted moment acked found lines old ending new → Phased found old new
phased_noted moment acked found lines old ending new still n = by found n.pulls (ap (λ (noted : Noted). noted.1) n.is)
  where
    by : (f : LinkFact) → Pulls moment lines (note_step acked (first_fact f) moment old).1 n.pulled →
        new ≡ (last_noted f acked moment ((note_step acked (first_fact f) moment old).0, n.pulled)).1 → Phased f old new
    by fact.Failed pulls is =
        let stays = pulls_stay moment lines (note_step acked fact.Quiet moment old).1 n.pulled pulls in
        let first = plain acked fact.Quiet moment old n.pulled still stays (pulls_go moment lines (note_step acked fact.Quiet moment old).1 n.pulled pulls) in
        let last = phased_note acked fact.Failed moment n.pulled first.stopped in
        let so : Phased fact.Failed old (note_step acked fact.Failed moment n.pulled).1 =
        record { phase = last.phase; limits = last.limits ∙ first.limits; stopped = last.stopped; rests = last.rests }
        in
        subst (λ (d : Data). Phased fact.Failed old d) (sym is) so
    by fact.Quiet pulls is = subst (λ (d : Data). Phased fact.Quiet old d) (sym is) (plain acked fact.Quiet moment old n.pulled still (pulls_stay moment lines _ n.pulled pulls) (pulls_go moment lines _ n.pulled pulls))
    by fact.Opened pulls is = subst (λ (d : Data). Phased fact.Opened old d) (sym is) (plain acked fact.Opened moment old n.pulled still (pulls_stay moment lines _ n.pulled pulls) (pulls_go moment lines _ n.pulled pulls))
    by fact.Ready pulls is = subst (λ (d : Data). Phased fact.Ready old d) (sym is) (plain acked fact.Ready moment old n.pulled still (pulls_stay moment lines _ n.pulled pulls) (pulls_go moment lines _ n.pulled pulls))
    by fact.Closed pulls is = subst (λ (d : Data). Phased fact.Closed old d) (sym is) (plain acked fact.Closed moment old n.pulled still (pulls_stay moment lines _ n.pulled pulls) (pulls_go moment lines _ n.pulled pulls))
    by fact.NoPort pulls is = subst (λ (d : Data). Phased fact.NoPort old d) (sym is) (plain acked fact.NoPort moment old n.pulled still (pulls_stay moment lines _ n.pulled pulls) (pulls_go moment lines _ n.pulled pulls))
    by (fact.Ended end) pulls is =
        subst (λ (d : Data). Phased (fact.Ended end) old d) (sym is) (plain acked (fact.Ended end) moment old n.pulled still (pulls_stay moment lines _ n.pulled pulls) (pulls_go moment lines _ n.pulled pulls))

noted_goes : (moment acked : ℕ) (found : LinkFact) (lines : List Line) (old : Data) (ending : Option Ending) (new : Data) →
    IsNoted moment acked found lines old ending new → Goes old new
noted_goes moment acked found lines old ending new n = by found n.pulls (ap (λ (noted : Noted). noted.1) n.is)
  where
    first : (f : LinkFact) → Pulls moment lines (note_step acked f moment old).1 n.pulled → Goes old n.pulled
    first f pulls = goes_then old (note_step acked f moment old).1 n.pulled (goes_note acked f moment old) (pulls_go moment lines _ n.pulled pulls)

    by : (f : LinkFact) → Pulls moment lines (note_step acked (first_fact f) moment old).1 n.pulled →
        new ≡ (last_noted f acked moment ((note_step acked (first_fact f) moment old).0, n.pulled)).1 → Goes old new
    by fact.Failed pulls is =
        subst (λ (d : Data). Goes old d) (sym is)
        (goes_then old n.pulled (note_step acked fact.Failed moment n.pulled).1 (first fact.Quiet pulls) (goes_note acked fact.Failed moment n.pulled))
    by fact.Quiet pulls is = subst (λ (d : Data). Goes old d) (sym is) (first fact.Quiet pulls)
    by fact.Opened pulls is = subst (λ (d : Data). Goes old d) (sym is) (first fact.Opened pulls)
    by fact.Ready pulls is = subst (λ (d : Data). Goes old d) (sym is) (first fact.Ready pulls)
    by fact.Closed pulls is = subst (λ (d : Data). Goes old d) (sym is) (first fact.Closed pulls)
    by fact.NoPort pulls is = subst (λ (d : Data). Goes old d) (sym is) (first fact.NoPort pulls)
    by (fact.Ended end) pulls is = subst (λ (d : Data). Goes old d) (sym is) (first (fact.Ended end) pulls)

quiet_goes : (now : Doing) (moment : ℕ) (old : Data) (ending : Option Ending) (new : Data) → IsQuietTurn now moment old ending new → Goes old new
quiet_goes Dialling moment old ending new turn = absurd turn
quiet_goes HangingUp moment old ending new turn = absurd turn
quiet_goes UsingLink moment old ending new turn = subst (λ (d : Data). Goes old d) (sym turn.1) (goes_note old.acked fact.Quiet moment old)
quiet_goes Resting moment old ending new turn = subst (λ (d : Data). Goes old d) (sym turn.1) (pulls_go moment [] old old refl)

quietly : (now : Doing) (moment : ℕ) (old : Data) (ending : Option Ending) (new : Data) → old.stopped ≡ false → IsQuietTurn now moment old ending new →
    Phased fact.Quiet old new
quietly Dialling moment old ending new still turn = absurd turn
quietly HangingUp moment old ending new still turn = absurd turn
quietly UsingLink moment old ending new still turn =
    subst (λ (d : Data). Phased fact.Quiet old d) (sym turn.1) (phased_note old.acked fact.Quiet moment old still)
quietly Resting moment old ending new still turn =
    subst (λ (d : Data). Phased fact.Quiet old d) (sym turn.1) (record { phase = refl; limits = refl; stopped = still; rests = λ ends. absurd (false≢true ends) })

-- a turn that uses the link finds it up
uses_link : (a b c : Bool) → cond a Dialling (cond b HangingUp (cond c UsingLink Resting)) ≡ UsingLink → c ≡ true
uses_link false false true e = refl
uses_link true b c e = absurd (cc e)
uses_link false true c e = absurd (cc e)
uses_link false false false e = absurd (cc e)

module _ (moment : ℕ) (kind : LinkKind) (x y : SessionData) (turned : Turned) (n : IsTurnByNote moment kind x y turned) where
  -- the phase after a turn
  pub phased_turn : x.desk.stopped ≡ false → Phased (fact_of turned.note) x.desk y.desk
  phased_turn still = by turned.note refl
    where
      by : (note : Option Note) → turned.note ≡ note → Phased (fact_of note) x.desk y.desk
      by None none = quietly (doing x) moment x.desk turned.ending y.desk still (n.still none)
      by (Some note) is =
          let on : IsNoteOn moment y.sender.acked x.desk y.desk turned.ending note =
          subst (λ (o : Option Note). IfSome o (λ one. IsNoteOn moment y.sender.acked x.desk y.desk turned.ending one)) is n.noted
          in
          phased_noted moment y.sender.acked note.fact (map line_of note.issued.items) x.desk turned.ending y.desk still on.noted

  -- whether the link is up after it
  up_by : (f : LinkFact) → (x.up ≡ is_up_in (phase_of x)) ⊎ (doing x ≡ Dialling) → can_find (doing x) f ≡ true →
      up_after f x.up ≡ is_up_in (phase_after f (phase_of x))
  up_by fact.Closed at can = refl
  up_by fact.NoPort at can = refl
  up_by fact.Failed at can = refl
  up_by (fact.Ended end) at can = refl
  up_by fact.Opened at can = sym (ap (λ (s : State). is_up_in (phase_in s)) (dials_at x (opening (doing x) refl can)))
    where
      opening : (now : Doing) → doing x ≡ now → can_find now fact.Opened ≡ true → doing x ≡ Dialling
      opening Dialling is found = is
      opening HangingUp is found = absurd (false≢true found)
      opening UsingLink is found = absurd (false≢true found)
      opening Resting is found = absurd (false≢true found)
  up_by fact.Quiet (inl rests) can = rests
  up_by fact.Quiet (inr dials) can = absurd (false≢true (subst (λ (now : Doing). can_find now fact.Quiet ≡ true) dials can))
  up_by fact.Ready (inl rests) can = sym (talking (doing x) refl can) ∙ rests
    where
      talking : (now : Doing) → doing x ≡ now → can_find now fact.Ready ≡ true → x.up ≡ true
      talking UsingLink is found = uses_link (not x.up && is_connecting x.desk.state) (is_closable_at x.desk.state x.desk) x.up is
      talking Dialling is found = absurd (false≢true found)
      talking HangingUp is found = absurd (false≢true found)
      talking Resting is found = absurd (false≢true found)
  up_by fact.Ready (inr dials) can = absurd (false≢true (subst (λ (now : Doing). can_find now fact.Ready ≡ true) dials can))

  pub up_turn : x.desk.stopped ≡ false → (x.up ≡ is_up_in (phase_of x)) ⊎ (doing x ≡ Dialling) → y.up ≡ is_up_in (phase_of y)
  up_turn still at = n.up ∙ up_by (fact_of turned.note) at n.finds ∙ sym (ap is_up_in (phased_turn still).phase)

  -- without a link no print is active after it
  pub print_turn : x.desk.stopped ≡ false → (is_up_in (phase_of x) ≡ false → x.desk.active ≡ false) → Goes x.desk y.desk →
      is_up_in (phase_of y) ≡ false → y.desk.active ≡ false
  print_turn still none goes down = by (fact_of turned.note) (phased_turn still)
    where
      kept : (f : LinkFact) → ((p : Phase) → phase_after f p ≡ p) → Phased f x.desk y.desk → y.desk.active ≡ false
      kept f same p = goes_rested x.desk y.desk goes (none (sym (ap is_up_in (p.phase ∙ same (phase_of x))) ∙ down))

      by : (f : LinkFact) → Phased f x.desk y.desk → y.desk.active ≡ false
      by fact.Quiet p = kept fact.Quiet (λ q. refl) p
      by fact.Opened p = kept fact.Opened (λ q. refl) p
      by fact.Ready p = kept fact.Ready (λ q. refl) p
      by fact.Closed p = p.rests refl
      by fact.NoPort p = p.rests refl
      by fact.Failed p = p.rests refl
      by (fact.Ended end) p = p.rests refl

  -- a turn begins no print
  pub goes_turn : Goes x.desk y.desk
  goes_turn = by turned.note refl
    where
      by : (note : Option Note) → turned.note ≡ note → Goes x.desk y.desk
      by None none = quiet_goes (doing x) moment x.desk turned.ending y.desk (n.still none)
      by (Some note) is =
          let on : IsNoteOn moment y.sender.acked x.desk y.desk turned.ending note =
          subst (λ (o : Option Note). IfSome o (λ one. IsNoteOn moment y.sender.acked x.desk y.desk turned.ending one)) is n.noted
          in
          noted_goes moment y.sender.acked note.fact (map line_of note.issued.items) x.desk turned.ending y.desk on.noted

  -- a printer at rest is at rest again after a turn, also if it began to connect before it
  pub rest_turn : x.desk.stopped ≡ false → (x.up ≡ is_up_in (phase_of x)) ⊎ (doing x ≡ Dialling) → (is_up_in (phase_of x) ≡ false → x.desk.active ≡ false) →
      IsActive x.desk → IsAtRest y
  rest_turn still at none going =
      record { up = up_turn still at; not_stopped = (phased_turn still).stopped; no_print = print_turn still none goes_turn; going = goes_turn.going going }
