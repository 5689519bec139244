-- What a note makes of the print that is going on.
use Rattle.std.proofs.Common.{◌≡◌, inr, ℕ, Bool, true, false, cond, nat_eq, List, [], ◌∷◌, ◌++◌, length, Option, None, Some, refl, sym, ◌∙◌, ap, subst}
use Rattle.std.proofs.lemmas.Bool.{false≢true, and_parts}
use Rattle.job_desk.specs.Data.{ScriptTexts, Data, Line}
use Rattle.job_desk.specs.Pull.{settled}
use Rattle.job_desk.specs.Note.{Noted, after_ending, is_over, end_at, finish, hung_up, fail, ready_at, after_open, note_fact, note_step, with_acked}
use Rattle.job_desk.specs.Course.{job_line}
use Rattle.job_desk.specs.Run.{print_lines}
use Rattle.job_desk.specs.declared.state.State.{State}
use Rattle.job_desk.specs.declared.state.State.TheVariants.{Offline, Connecting, Operational, Pausing, Paused, Cancelling, Finishing, Fault}
use Rattle.job_desk.specs.declared.link_fact.LinkFact.{LinkFact}
use Rattle.job_desk.specs.declared.link_fact.LinkFact.TheVariants as fact
use Rattle.print_queue.specs.declared.ending.Ending.{Ending}
use Rattle.print_queue.specs.declared.ending.Outcome.{Outcome}
use Rattle.print_queue.specs.declared.ending.Outcome.TheVariants as outcome
use Rattle.std.proofs.Common.{suc, arith}
use Rattle.std.proofs.lemmas.List.{append-nil}
use Rattle.std.proofs.lemmas.Bool.Decides.{nat_tests}
use Rattle.job_desk.specs.Course as course
use Rattle.job_desk.specs.Course.{Course}
use Rattle.job_desk.specs.Story.{Story, IsBegun, finished, stopped, unplugged, broken}
use Rattle.job_desk.specs.Run.{Stopped, Broken, fate_of}
use Rattle.job_desk.proofs.Foreign.{Foreign, ForeignTo, IsIdle, foreign-settle}
use Rattle.job_desk.proofs.Steady.{steady-settle}
use Rattle.job_desk.proofs.Current.{Stage, CurrentTo, begun, current-settle}

-- no line is left if their count is 0
pub no_lines : (w : List Line) → nat_eq (length w) 0 ≡ true → w ≡ []
no_lines [] e = refl
no_lines (line ∷ lines) e = let z : suc (length lines) ≡ 0 = grind (arith, nat_tests) in absurd (cc z)

module _ (p : ℕ) (commands : List (List ℕ)) (scripts : ScriptTexts) where
  -- the print goes on, or it has ended with such a story
  abbrev pub NotedAs : LinkFact → List Line → Option Ending → Data → Type 0
  NotedAs f out None d = (d.scripts ≡ scripts) × CurrentTo p commands out d
  NotedAs f out (Some ending) d = (ending.print ≡ p) × ForeignTo p d × Story scripts p (commands ∷ []) out (fate_of f ending.outcome ∷ [])

  abbrev pub IsNotedAs : LinkFact → List Line → Noted → Type 0
  IsNotedAs f out noted = NotedAs f out noted.0 noted.1

  nothing_left : (out : List Line) (d : Data) → is_over d ≡ true → (d.waiting ≡ []) × (out ++ print_lines p d.waiting ≡ out)
  nothing_left out d t =
      let w = no_lines d.waiting (and_parts _ _ t).0 in (w, ap (λ w. out ++ print_lines p w) w ∙ append-nil out)

  stage_of : (out : List Line) (d : Data) (s : State) → d.state ≡ s → d.scripts ≡ scripts → CurrentTo p commands out d →
      Stage scripts p commands s d.cursor d.waiting (out ++ print_lines p d.waiting)
  stage_of out d s e k h =
      subst (λ t. Stage t p commands s d.cursor d.waiting (out ++ print_lines p d.waiting)) k
      (subst (λ t. Stage d.scripts p commands t d.cursor d.waiting (out ++ print_lines p d.waiting)) e h.stage)

  free : (out : List Line) (d : Data) → d.waiting ≡ [] → Foreign p d.waiting d.greatest false Operational
  free out d w = record { none = ap (λ w. print_lines p w) w; other = inr (refl, tt) }

  end_pause : (f : LinkFact) (out : List Line) (b : Bool) (d : Data) → is_over d ≡ b → d.state ≡ Pausing → d.scripts ≡ scripts → CurrentTo p commands out d →
      IsNotedAs f out (cond b (None, record d { state = Paused }) (None, d))
  end_pause f out false d t e k h = (k, h)
  end_pause f out true d t e k h =
      let s = subst (λ t. Stage d.scripts p commands t d.cursor d.waiting (out ++ print_lines p d.waiting)) e h.stage in
      (k, record { is = h.is; active_is = h.active_is; texts_are = h.texts_are; stage = (s.0, s.1, s.2, (nothing_left out d t).0) })

  end_cancel : (f : LinkFact) (out : List Line) (b : Bool) (d : Data) → fate_of f outcome.Cancelled ≡ Stopped → is_over d ≡ b → d.state ≡ Cancelling →
      d.scripts ≡ scripts → CurrentTo p commands out d → IsNotedAs f out (cond b (finish outcome.Cancelled d) (None, d))
  end_cancel f out false d how t e k h = (k, h)
  end_cancel f out true d how t e k h =
      let n = nothing_left out d t in
      let whole : Course scripts p commands course.Cancelled out = subst (λ l. Course scripts p commands course.Cancelled l) n.1
      (stage_of out d Cancelling e k h) in
      (h.is, free out d n.0, subst (λ fate. Story scripts p (commands ∷ []) out (fate ∷ [])) (sym how) (stopped commands out whole))

  end_done : (f : LinkFact) (out : List Line) (b : Bool) (d : Data) → is_over d ≡ b → d.state ≡ Finishing → d.scripts ≡ scripts → CurrentTo p commands out d →
      IsNotedAs f out (cond b (finish outcome.Done d) (None, d))
  end_done f out false d t e k h = (k, h)
  end_done f out true d t e k h =
      let n = nothing_left out d t in
      let whole : Course scripts p commands course.Done out = subst (λ l. Course scripts p commands course.Done l) n.1 (stage_of out d Finishing e k h) in
      (h.is, free out d n.0, finished commands out whole)

  current-end : (f : LinkFact) (out : List Line) (s : State) (d : Data) → fate_of f outcome.Cancelled ≡ Stopped → d.state ≡ s → d.scripts ≡ scripts →
      CurrentTo p commands out d → IsNotedAs f out (end_at s d)
  current-end f out Pausing d how e k h = end_pause f out (is_over d) d refl e k h
  current-end f out Cancelling d how e k h = end_cancel f out (is_over d) d how refl e k h
  current-end f out Finishing d how e k h = end_done f out (is_over d) d refl e k h
  current-end f out _ d how e k h = (k, h)

  begun_of : (out : List Line) (d : Data) → d.scripts ≡ scripts → CurrentTo p commands out d → IsBegun scripts p commands out
  begun_of out d k h = subst (λ t. IsBegun t p commands out) k (begun p commands out d h)

  leaves : (f : LinkFact) (out : List Line) (s : State) (how : Outcome) (b : Bool) (d : Data) → IsIdle s → d.active ≡ b → d.scripts ≡ scripts →
      CurrentTo p commands out d → Story scripts p (commands ∷ []) out (fate_of f how ∷ [])
      → NotedAs f out (cond b (Some (record { print = d.greatest; outcome = how })) None) (record d { state = s; active = false; waiting = []; manual = []; stopped = false; linked = false })
  leaves f out s how true d i e k h story = (h.is, record { none = refl; other = inr (refl, i) }, story)
  leaves f out s how false d i e k h story = absurd (false≢true (sym e ∙ h.active_is))

  current-fail : (f : LinkFact) (out : List Line) (noted : Noted) → fate_of f outcome.Failed ≡ Broken → IsNotedAs f out noted → IsNotedAs f out (fail noted)
  current-fail f out (None, d) how h = leaves f out Fault outcome.Failed d.active d tt refl h.0 h.1
      (subst (λ fate. Story scripts p (commands ∷ []) out (fate ∷ [])) (sym how) (broken commands out (begun_of out d h.0 h.1)))
  current-fail f out (Some ending, d) how h = (h.0, record { none = refl; other = inr (refl, tt) }, h.2)

  current-hung : (out : List Line) (b : Bool) (d : Data) → d.scripts ≡ scripts → CurrentTo p commands out d → IsNotedAs fact.Closed out (hung_up b d)
  current-hung out false d k h = leaves fact.Closed out Offline outcome.Cancelled d.active d tt refl k h (unplugged commands out (begun_of out d k h))
  current-hung out true d k h = leaves fact.Closed out Fault outcome.Failed d.active d tt refl k h (broken commands out (begun_of out d k h))

  current-ready : (out : List Line) (s : State) (moment : ℕ) (d : Data) → d.state ≡ s → d.scripts ≡ scripts → CurrentTo p commands out d →
      ((ready_at s moment d).scripts ≡ scripts) × CurrentTo p commands out (ready_at s moment d)
  current-ready out Connecting moment d e k h = absurd (subst (λ t. Stage d.scripts p commands t d.cursor d.waiting (out ++ print_lines p d.waiting)) e h.stage)
  current-ready out _ moment d e k h = (k, h)

  current-fact : (f : LinkFact) (out : List Line) (moment : ℕ) (d : Data) → d.scripts ≡ scripts → CurrentTo p commands out d →
      IsNotedAs f out (note_fact f moment d)
  current-fact fact.Quiet out moment d k h = current-end fact.Quiet out d.state d refl refl k h
  current-fact fact.Opened out moment d k h = current-end fact.Opened out d.state (after_open d) refl refl k h
  current-fact fact.Ready out moment d k h =
      let heard : Data = record d { ready = true } in
      let is : Data = ready_at heard.state moment heard in
      let r = current-ready out heard.state moment heard refl k h in
      current-end fact.Ready out is.state is refl refl r.0 r.1
  current-fact fact.Closed out moment d k h = current-hung out d.stopped d k h
  current-fact fact.NoPort out moment d k h = leaves fact.NoPort out Fault outcome.Failed d.active d tt refl k h (broken commands out (begun_of out d k h))
  current-fact fact.Failed out moment d k h = current-fail fact.Failed out (after_ending d) refl (current-end fact.Failed out d.state d refl refl k h)
  current-fact (fact.Ended end) out moment d k h = current-fail (fact.Ended end) out (after_ending d) refl (current-end (fact.Ended end) out d.state d refl refl k h)

  settles : (f : LinkFact) (out : List Line) (ending : Option Ending) (d : Data) → (settled d).scripts ≡ d.scripts → NotedAs f out ending d →
      NotedAs f out ending (settled d)
  settles f out None d k h = (k ∙ h.0, current-settle p commands out d.state d refl h.1)
  settles f out (Some ending) d k h = (h.0, foreign-settle p d.state d refl h.1, h.2)

  pub current-note : (acked : ℕ) (f : LinkFact) (out : List Line) (moment : ℕ) (d : Data) → d.scripts ≡ scripts → CurrentTo p commands out d →
      IsNotedAs f out (note_step acked f moment d)
  current-note acked f out moment d k h =
      let told : Data = with_acked acked moment d in
      let noted : Noted = note_fact f moment told in
      settles f out noted.0 noted.1 (steady-settle noted.1.state noted.1).scripts (current-fact f out moment told k h)
