-- How a print ends in a turn.
use Rattle.std.proofs.Common.{◌≡◌, inl, inr, ℕ, ◌≤◌, Bool, true, List, [], ◌∷◌, Option, None, Some, refl, sym, ◌∙◌, ap, subst}
use Rattle.std.specs.Prelude.{IfSome}
use Rattle.std.specs.Option.{option_or}
use Rattle.std.proofs.lemmas.Bool.{false≢true}
use Rattle.job_desk.specs.Data.{Data, Line}
use Rattle.job_desk.specs.Pull.{pull_step}
use Rattle.job_desk.specs.Note.{Noted, note_step, first_fact}
use Rattle.job_desk.specs.Endings.{IsActive, is_failure, EndsAs}
use Rattle.job_desk.proofs.Endings.{IsFree, LeavesFree, EndsIn, note_ends}
use Rattle.job_desk.proofs.Going.{Goes, goes_then, goes_pull, goes_note, goes_rested, free_pull, free_failed}
use Rattle.job_desk.specs.declared.link_fact.LinkFact.{LinkFact}
use Rattle.job_desk.specs.declared.link_fact.LinkFact.TheVariants as fact
use Rattle.print_queue.specs.declared.ending.Ending.{Ending}
use Rattle.print_queue.specs.declared.ending.Outcome.{Outcome}
use Rattle.print_queue.specs.declared.ending.Outcome.TheVariants as outcome
use Rattle.octo_session.specs.declared.found.Doing.{Doing}
use Rattle.octo_session.specs.declared.found.Doing.TheVariants.{Dialling, HangingUp, UsingLink, Resting}
use Rattle.octo_session.specs.DeskTurn.{Pulls, IsNoted, IsRunOut, EndsSo, IsTurnEnding}
use Rattle.octo_session.specs.Turn.{IsDeskTurn}
use Rattle.octo_session.proofs.Desk.{pulls_greatest}

pub pulls_go : (moment : ℕ) (lines : List Line) (old new : Data) → Pulls moment lines old new → Goes old new
pulls_go moment [] old new same =
    let P : Data → Type 0 = λ d. Goes old d in
    subst P (sym same) (record { going = λ g. g; before = λ h. h })
pulls_go moment (line ∷ lines) old new pulls =
    goes_then old (pull_step moment old).1 new (goes_pull moment old) (pulls_go moment lines (pull_step moment old).1 new pulls.1)

pulls_free : (acked moment : ℕ) (lines : List Line) (old new : Data) → Pulls moment lines old new → IsFree acked old → IsFree acked new
pulls_free acked moment [] old new same free =
    let P : Data → Type 0 = λ d. IsFree acked d in
    subst P (sym same) free
pulls_free acked moment (line ∷ lines) old new pulls free =
    pulls_free acked moment lines (pull_step moment old).1 new pulls.1 (free_pull acked moment old free)

-- what the first note of a turn says of its fact holds of the turn's
fails_so : (found : LinkFact) → is_failure (first_fact found) ≡ true → is_failure found ≡ true
fails_so fact.Quiet fails = absurd (false≢true fails)
fails_so fact.Opened fails = absurd (false≢true fails)
fails_so fact.Ready fails = absurd (false≢true fails)
fails_so fact.Closed fails = absurd (false≢true fails)
fails_so fact.NoPort fails = refl
fails_so fact.Failed fails = refl
fails_so (fact.Ended end) fails = refl

closes_so : (found : LinkFact) → first_fact found ≡ fact.Closed → found ≡ fact.Closed
closes_so fact.Quiet is = absurd (cc is)
closes_so fact.Opened is = absurd (cc is)
closes_so fact.Ready is = absurd (cc is)
closes_so fact.Closed is = refl
closes_so fact.NoPort is = absurd (cc is)
closes_so fact.Failed is = absurd (cc is)
closes_so (fact.Ended end) is = absurd (cc is)

run_out : (acked : ℕ) (d : Data) → d.acked ≡ acked → IsFree acked d → IsRunOut d
run_out acked d is free =
    let L : ℕ → Type 0 = λ n. d.print_line ≤ n in
    record { no_script = free.no_script; last_line = subst L (sym is) free.last_line }

module _ (moment acked : ℕ) (found : LinkFact) (old : Data) where
  -- an ending of the first note, whose desk goes on to the turn's
  ends_so : (how : Outcome) (mid new : Data) → new.acked ≡ acked → (IsFree acked mid → IsFree acked new) →
      EndsAs how acked (first_fact found) old → LeavesFree how acked (first_fact found) old.stopped mid → EndsSo how found old.stopped new
  ends_so outcome.Active mid new is goes by leaves = by
  ends_so outcome.Done mid new is goes by leaves = run_out acked new is (goes leaves)
  ends_so outcome.Cancelled mid new is goes by (inl free) = inl (run_out acked new is (goes free))
  ends_so outcome.Cancelled mid new is goes by (inr closes) = inr (closes_so found closes.0, closes.1)
  ends_so outcome.Failed mid new is goes (inl fails) leaves = inl (fails_so found fails)
  ends_so outcome.Failed mid new is goes (inr closes) leaves = inr (closes_so found closes.0, closes.1)

  first_ends : (gave : Option Ending) (mid new : Data) → new.acked ≡ acked → (IsFree acked mid → IsFree acked new) → Goes mid new →
      EndsIn acked (first_fact found) old gave mid → IfSome gave (λ ending. IsTurnEnding found old new ending)
  first_ends None mid new is goes went ends = tt
  first_ends (Some ending) mid new is goes went ends = record {
    active = ends.0.active;
    print = ends.0.print;
    by = ends_so ending.outcome mid new is goes ends.0.by ends.1;
    rests = goes_rested mid new went ends.2;
  }

-- an ending of the last note, which says that the link failed
fails_last : (acked : ℕ) (how : Outcome) (stops : Bool) (pulled new : Data) → new.acked ≡ acked → EndsAs how acked fact.Failed pulled →
    LeavesFree how acked fact.Failed pulled.stopped new → EndsSo how fact.Failed stops new
fails_last acked outcome.Active stops pulled new is by leaves = by
fails_last acked outcome.Done stops pulled new is by leaves = run_out acked new is leaves
fails_last acked outcome.Cancelled stops pulled new is by (inl free) = inl (run_out acked new is free)
fails_last acked outcome.Cancelled stops pulled new is by (inr closes) = absurd (cc (closes.0))
fails_last acked outcome.Failed stops pulled new is by leaves = inl refl

last_ends : (acked : ℕ) (old pulled : Data) (gave : Option Ending) (new : Data) → new.acked ≡ acked → (pulled.active ≡ true → old.active ≡ true) →
    pulled.greatest ≡ old.greatest → EndsIn acked fact.Failed pulled gave new → IfSome gave (λ ending. IsTurnEnding fact.Failed old new ending)
last_ends acked old pulled None new is before greatest ends = tt
last_ends acked old pulled (Some ending) new is before greatest ends = record {
  active = before ends.0.active;
  print = ends.0.print ∙ greatest;
  by = fails_last acked ending.outcome old.stopped pulled new is ends.0.by ends.1;
  rests = ends.2;
}

either_ends : (moment acked : ℕ) (lines : List Line) (old mid pulled : Data) (first : Option Ending) (last : Noted) →
    last ≡ note_step acked fact.Failed moment pulled →
    last.1.acked ≡ acked → IsActive old → Goes old mid → Pulls moment lines mid pulled → EndsIn acked fact.Quiet old first mid →
    IfSome (option_or first last.0) (λ ending. IsTurnEnding fact.Failed old last.1 ending)
either_ends moment acked lines old mid pulled (Some ending) last is counted going goes pulls ends =
    let P : Noted → Type 0 = λ n. IsFree acked n.1 in
    let Q : Noted → Type 0 = λ n. Goes mid n.1 in
    let failed : Data = (note_step acked fact.Failed moment pulled).1 in
    let went : Goes mid failed = goes_then mid pulled failed (pulls_go moment lines mid pulled pulls) (goes_note acked fact.Failed moment pulled) in
    first_ends moment acked fact.Failed old (Some ending) mid last.1 counted
    (λ free. subst P (sym is) (free_failed acked moment pulled (pulls_free acked moment lines mid pulled pulls free))) (subst Q (sym is) went) ends
either_ends moment acked lines old mid pulled None last is counted going goes pulls ends =
    let went : Goes mid pulled = pulls_go moment lines mid pulled pulls in
    let P : Noted → Type 0 = λ n. EndsIn acked fact.Failed pulled n.0 n.1 in
    last_ends acked old pulled last.0 last.1 counted (λ active. sym ends.0 ∙ went.before active) (pulls_greatest moment lines mid pulled pulls ∙ ends.1)
    (subst P (sym is) (note_ends acked moment pulled (went.going (goes.going going)) fact.Failed))

module _ (moment acked : ℕ) (lines : List Line) (old : Data) (ending : Option Ending) (new : Data) (is : new.acked ≡ acked) (going : IsActive old) where
  plain_ends : (found : LinkFact) (pulled : Data) → Pulls moment lines (note_step acked (first_fact found) moment old).1 pulled →
      ◌≡◌ {A = Noted} (ending, new) ((note_step acked (first_fact found) moment old).0, pulled) → IfSome ending (λ e. IsTurnEnding found old new e)
  plain_ends found pulled pulls both =
      let gave : ending ≡ (note_step acked (first_fact found) moment old).0 = ap (λ (n : Noted). n.0) both in
      let after : new ≡ pulled = ap (λ (n : Noted). n.1) both in
      let P : Option Ending → Type 0 = λ o. IfSome o (λ e. IsTurnEnding found old new e) in
      let Q : Data → Type 0 = λ d. IsFree acked d in
      let G : Data → Type 0 = λ d. Goes (note_step acked (first_fact found) moment old).1 d in
      let first : Noted = note_step acked (first_fact found) moment old in
      subst P (sym gave) (first_ends moment acked found old first.0 first.1 new is
      (λ free. subst Q (sym after) (pulls_free acked moment lines first.1 pulled pulls free))
      (subst G (sym after) (pulls_go moment lines first.1 pulled pulls))
      (note_ends acked moment old going (first_fact found)))

  pub noted_ends : (found : LinkFact) → IsNoted moment acked found lines old ending new → IfSome ending (λ e. IsTurnEnding found old new e)
  noted_ends fact.Quiet noted = plain_ends fact.Quiet noted.pulled noted.pulls noted.is
  noted_ends fact.Opened noted = plain_ends fact.Opened noted.pulled noted.pulls noted.is
  noted_ends fact.Ready noted = plain_ends fact.Ready noted.pulled noted.pulls noted.is
  noted_ends fact.Closed noted = plain_ends fact.Closed noted.pulled noted.pulls noted.is
  noted_ends fact.NoPort noted = plain_ends fact.NoPort noted.pulled noted.pulls noted.is
  noted_ends (fact.Ended end) noted = plain_ends (fact.Ended end) noted.pulled noted.pulls noted.is
  noted_ends fact.Failed noted =
      let first = note_step acked fact.Quiet moment old in
      let last = note_step acked fact.Failed moment noted.pulled in
      let gave : ending ≡ option_or first.0 last.0 = ap (λ (n : Noted). n.0) noted.is in
      let after : new ≡ last.1 = ap (λ (n : Noted). n.1) noted.is in
      let P : Option Ending → Type 0 = λ o. IfSome o (λ e. IsTurnEnding fact.Failed old new e) in
      let Q : Data → Type 0 = λ d. IfSome (option_or first.0 last.0) (λ e. IsTurnEnding fact.Failed old d e) in
      subst P (sym gave) (subst Q (sym after)
      (either_ends moment acked lines old first.1 noted.pulled first.0 last refl (ap (λ (d : Data). d.acked) (sym after) ∙ is) going
      (goes_note acked fact.Quiet moment old) noted.pulls (note_ends acked moment old going fact.Quiet)))

  pub turn_ends : (doing_now : Doing) (found : LinkFact) → IsDeskTurn doing_now moment acked found lines old ending new →
      IfSome ending (λ e. IsTurnEnding found old new e)
  turn_ends Dialling found desk = noted_ends found desk
  turn_ends HangingUp found desk = noted_ends found desk
  turn_ends UsingLink found desk = noted_ends found desk
  turn_ends Resting found desk =
      let P : Option Ending → Type 0 = λ o. IfSome o (λ e. IsTurnEnding found old new e) in
      subst P (sym desk.1) tt
