-- What a turn makes of the desk.
use Rattle.std.proofs.Common.{◌≡◌, ◌⊎◌, inl, inr, ℕ, Bool, true, false, List, [], ◌∷◌, ◌++◌, map, refl, sym, ◌∙◌, ap, subst, append-nil}
use Rattle.std.specs.Prelude.{Option, None, Some, Ok, is_some}
use Rattle.std.specs.Option.{option_or}
use Rattle.std.proofs.lemmas.List.{map-append}
use Rattle.job_desk.specs.Data.{Data, Line}
use Rattle.job_desk.specs.Pull.{pull_step, settled}
use Rattle.job_desk.proofs.Settled.{settled_by_steps}
use Rattle.send_window.specs.Sending.{push_step}
use Rattle.job_desk.specs.Note.{note_step, first_fact}
use Rattle.job_desk.proofs.Steady.{steady-pull, steady-note}
use Rattle.job_desk.specs.declared.link_fact.LinkFact.{LinkFact}
use Rattle.job_desk.specs.declared.link_fact.LinkFact.TheVariants as fact
use Rattle.print_queue.specs.declared.ending.Ending.{Ending}
use Rattle.send_window.specs.Data.{SenderData, NoneEarly}
use Rattle.octo_session.specs.Data.{IsJoined, IsStopped}
use Rattle.octo_session.specs.DeskTurn.{Pulls, IsNoted, last_noted}
use Rattle.octo_session.specs.Steps.{Step, issues, after_steps, AreAllowed, Issues, issuing}
use Rattle.job_desk.specs.Issued.{line_of}
use Rattle.job_desk.specs.declared.issued.Issued.{Issued}
use Rattle.send_window.specs.declared.session_end.SessionEnd.{SessionEnd}
use Rattle.send_window.specs.Hearing.{answer_of}
use Rattle.octo_session.specs.Found.{up_after}
use Rattle.octo_session.specs.Turn.{lines_drawn, texts_in, is_unbroken}
use Rattle.octo_session.proofs.Stepping.{after_steps-append, allowed_then}
use Rattle.octo_session.proofs.Counts.{Counts}
use Rattle.octo_session.proofs.Links.{Links}
use Rattle.byte_text.proofs.OptionLaws.{none-if-false}

-- one more pull with a line
pub pulls_push : (moment : ℕ) (lines : List Line) (line : Line) (old mid : Data) → Pulls moment lines old mid → (pull_step moment mid).0 ≡ Some line →
    Pulls moment (lines ++ line ∷ []) old (pull_step moment mid).1
pulls_push moment [] line old mid same some =
    let P : Data → Type 0 = λ d. ((pull_step moment d).0 ≡ Some line) × ((pull_step moment mid).1 ≡ (pull_step moment d).1) in
    subst P same (some, refl)
pulls_push moment (first ∷ lines) line old mid pulls some =
    (pulls.0, pulls_push moment lines line (pull_step moment old).1 mid pulls.1 some)

-- a pull, whatever it returns
pub pulls_more : (moment : ℕ) (lines : List Line) (old mid : Data) (got : Option Line) → Pulls moment lines old mid → (pull_step moment mid).0 ≡ got →
    (got ≡ None → (pull_step moment mid).1 ≡ mid) → Pulls moment (lines ++ lines_drawn got) old (pull_step moment mid).1
pulls_more moment lines old mid None pulls e still =
    let P : List Line → Type 0 = λ all. Pulls moment all old (pull_step moment mid).1 in
    let Q : Data → Type 0 = λ d. Pulls moment lines old d in
    subst P (sym (append-nil lines)) (subst Q (sym (still refl)) pulls)
pulls_more moment lines old mid (Some line) pulls e still = pulls_push moment lines line old mid pulls e

-- no pull raises the greatest print, nor does a note
pub pulls_greatest : (moment : ℕ) (lines : List Line) (old new : Data) → Pulls moment lines old new → new.greatest ≡ old.greatest
pulls_greatest moment [] old new same = ap (λ (d : Data). d.greatest) same
pulls_greatest moment (line ∷ lines) old new pulls =
    pulls_greatest moment lines (pull_step moment old).1 new pulls.1 ∙ (steady-pull moment old).greatest

last_greatest : (found : LinkFact) (acknowledged moment : ℕ) (ending : Option Ending) (d : Data) →
    (last_noted found acknowledged moment (ending, d)).1.greatest ≡ d.greatest
last_greatest fact.Quiet acknowledged moment ending d = refl
last_greatest fact.Opened acknowledged moment ending d = refl
last_greatest fact.Ready acknowledged moment ending d = refl
last_greatest fact.Closed acknowledged moment ending d = refl
last_greatest fact.NoPort acknowledged moment ending d = refl
last_greatest fact.Failed acknowledged moment ending d = (steady-note acknowledged fact.Failed moment d).greatest
last_greatest (fact.Ended end) acknowledged moment ending d = refl

pub noted_greatest : (moment acknowledged : ℕ) (found : LinkFact) (lines : List Line) (old : Data) (ending : Option Ending) (new : Data) →
    IsNoted moment acknowledged found lines old ending new → new.greatest ≡ old.greatest
noted_greatest moment acknowledged found lines old ending new noted =
    let first = note_step acknowledged (first_fact found) moment old in
    ap (λ (p : Option Ending × Data). p.1.greatest) noted.is
    ∙ last_greatest found acknowledged moment first.0 noted.pulled
    ∙ pulls_greatest moment lines first.1 noted.pulled noted.pulls
    ∙ (steady-note acknowledged (first_fact found) moment old).greatest

-- a call of the desk that counts alike and leaves its link leaves it joined
pub joined_by : (d e : Data) (s : SenderData) (open_link : Bool) → IsJoined d s open_link → Counts d e → Links d e → IsJoined e s open_link
joined_by d e s open_link joined counts links = record {
  issued = counts.issued ∙ joined.issued;
  acked = counts.acked ∙ joined.acked;
  running = joined.running;
  linked = links.linked ∙ joined.linked;
  early = λ is_open. still (joined.early is_open);
}
  where
    still : NoneEarly s ⊎ IsStopped d → NoneEarly s ⊎ IsStopped e
    still (inl early) = inl early
    still (inr st) = inr (links.stopped st)

-- a pull that drew a line, which was issued
pub record Pulled (moment : ℕ) (d : Data) (s t : SenderData) : Type 0 where
  pub line : Line
  pub drew : (pull_step moment d).0 ≡ Some line
  pub pushed : t ≡ push_step line.text s

pulled_as : (moment : ℕ) (d : Data) (s t : SenderData) (got : Option Line) → (pull_step moment d).0 ≡ got → is_some got ≡ true →
    Issues moment (texts_in (lines_drawn got)) s t → Pulled moment d s t
pulled_as moment d s t None e some after = absurd (cc some)
pulled_as moment d s t (Some line) e some after = record { line = line; drew = e; pushed = after.sender }

pub pulled_by : (moment : ℕ) (d : Data) (s t : SenderData) → is_some (pull_step moment d).0 ≡ true →
    Issues moment (texts_in (lines_drawn (pull_step moment d).0)) s t → Pulled moment d s t
pulled_by moment d s t some after = pulled_as moment d s t (pull_step moment d).0 refl some after

-- it joins those before it
pub pulls_next : (moment : ℕ) (lines more : List Line) (old d e : Data) (line : Line) → Pulls moment lines old d → (pull_step moment d).0 ≡ Some line →
    e ≡ (pull_step moment d).1 → more ≡ lines ++ lines_drawn (pull_step moment d).0 → Pulls moment more old e
pulls_next moment lines more old d e line pulls drew after joined =
    let all : more ≡ lines ++ line ∷ [] = joined ∙ ap (λ (got : Option Line). lines ++ lines_drawn got) drew in
    let P : Data → Type 0 = λ x. Pulls moment more old x in
    let Q : List Line → Type 0 = λ xs. Pulls moment xs old (pull_step moment d).1 in
    subst P (sym after) (subst Q (sym all) (pulls_push moment lines line old d pulls drew))

-- the issuing of one line more
pub issuing_next : (moment : ℕ) (lines more : List Line) (d : Data) (s t u : SenderData) → Issues moment (texts_in lines) s t →
    Issues moment (texts_in (lines_drawn (pull_step moment d).0)) t u → more ≡ lines ++ lines_drawn (pull_step moment d).0 → Issues moment (texts_in more) s u
issuing_next moment lines more d s t u first second joined =
    let new = lines_drawn (pull_step moment d).0 in
    let parts : issuing (texts_in (lines ++ new)) ≡ issuing (texts_in lines) ++ issuing (texts_in new) =
    ap issuing (map-append (λ (line : Line). line.text) lines new) ∙ map-append issues (texts_in lines) (texts_in new) in
    let all : issuing (texts_in more) ≡ issuing (texts_in lines) ++ issuing (texts_in new) = ap (λ (ls : List Line). issuing (texts_in ls)) joined ∙ parts in
    let Allowed : SenderData → Type 0 = λ v. AreAllowed moment (issuing (texts_in new)) v in
    let Each : List Step → Type 0 = λ steps. AreAllowed moment steps s in
    record {
      sender = second.sender ∙ ap (after_steps moment (issuing (texts_in new))) first.sender
          ∙ sym (ap (λ (steps : List Step). after_steps moment steps s) all ∙ after_steps-append moment (issuing (texts_in lines)) (issuing (texts_in new)) s);
      allowed = subst Each (sym all) (allowed_then moment (issuing (texts_in lines)) (issuing (texts_in new)) s first.allowed
          (subst Allowed first.sender second.allowed));
    }

-- a pull without a line leaves the desk, and the next returns none either
pub pull_idle : (moment : ℕ) (d e : Data) → settled d ≡ d → is_some (pull_step moment d).0 ≡ false → e ≡ (pull_step moment d).1 → e ≡ d
pull_idle moment d e is_settled none after = after ∙ settled_by_steps.idle_pull moment d is_settled (none-if-false (pull_step moment d).0 none)

pub pull_again : (moment : ℕ) (d e : Data) → settled d ≡ d → is_some (pull_step moment d).0 ≡ false → e ≡ (pull_step moment d).1 → (pull_step moment e).0 ≡ None
pull_again moment d e is_settled none after =
    ap (λ (x : Data). (pull_step moment x).0) (pull_idle moment d e is_settled none after) ∙ none-if-false (pull_step moment d).0 none

-- a pull without a line leaves the sender as it is
pub issues_none : (moment : ℕ) (d : Data) (s t : SenderData) → is_some (pull_step moment d).0 ≡ false →
    Issues moment (texts_in (lines_drawn (pull_step moment d).0)) s t → t ≡ s
issues_none moment d s t none after =
    let left : Option Line → SenderData = λ got. after_steps moment (issuing (texts_in (lines_drawn got))) s in
    after.sender ∙ ap left (none-if-false (pull_step moment d).0 none)

pub pull_settles : (moment : ℕ) (d e : Data) → e ≡ (pull_step moment d).1 → settled e ≡ e
pull_settles moment d e after = ap settled after ∙ settled_by_steps.by_pull moment d ∙ sym after

pub note_settles : (acknowledged : ℕ) (f : LinkFact) (moment : ℕ) (d e : Data) → e ≡ (note_step acknowledged f moment d).1 → settled e ≡ e
note_settles acknowledged f moment d e after = ap settled after ∙ settled_by_steps.by_note acknowledged f moment d ∙ sym after

-- a turn that notes Quiet and pulls
pub noted_quiet : (moment a b : ℕ) (lines : List Line) (old mid new : Data) (ending : Option Ending) → b ≡ a → ending ≡ (note_step a fact.Quiet moment old).0 →
    mid ≡ (note_step a fact.Quiet moment old).1 → Pulls moment lines mid new → IsNoted moment b fact.Quiet lines old ending new
noted_quiet moment a b lines old mid new ending same gave after pulls =
    let P : Data → Type 0 = λ d. Pulls moment lines d new in
    let Q : ℕ → Type 0 = λ n. IsNoted moment n fact.Quiet lines old ending new in
    subst Q (sym same) (record { pulled = new; pulls = subst P after pulls; is = ap (λ (e : Option Ending). (e, new)) gave })

-- a turn that notes Quiet, pulls and notes Failed
pub noted_failed : (moment a b : ℕ) (lines : List Line) (old mid pulled new : Data) (first last ending : Option Ending) → b ≡ a →
    first ≡ (note_step a fact.Quiet moment old).0 → mid ≡ (note_step a fact.Quiet moment old).1 → Pulls moment lines mid pulled →
    last ≡ (note_step a fact.Failed moment pulled).0 → new ≡ (note_step a fact.Failed moment pulled).1 → ending ≡ option_or first last →
    IsNoted moment b fact.Failed lines old ending new
noted_failed moment a b lines old mid pulled new first last ending same gave after pulls gave_last after_last or =
    let P : Data → Type 0 = λ d. Pulls moment lines d pulled in
    let Q : ℕ → Type 0 = λ n. IsNoted moment n fact.Failed lines old ending new in
    let failed = note_step a fact.Failed moment pulled in
    subst Q (sym same) (record {
      pulled = pulled;
      pulls = subst P after pulls;
      is = ap (λ (e : Option Ending). (e, new)) (or ∙ ap (λ (e : Option Ending). option_or e last) gave
          ∙ ap (λ (e : Option Ending). option_or (note_step a fact.Quiet moment old).0 e) gave_last)
          ∙ ap (λ (d : Data). (option_or (note_step a fact.Quiet moment old).0 failed.0, d)) after_last;
    })

-- a turn with one note
once : (moment a : ℕ) (f : LinkFact) (old : Data) → is_unbroken f ≡ true → IsNoted moment a f [] old (note_step a f moment old).0 (note_step a f moment old).1
once moment a fact.Quiet old other = record { pulled = (note_step a fact.Quiet moment old).1; pulls = refl; is = refl }
once moment a fact.Opened old other = record { pulled = (note_step a fact.Opened moment old).1; pulls = refl; is = refl }
once moment a fact.Ready old other = record { pulled = (note_step a fact.Ready moment old).1; pulls = refl; is = refl }
once moment a fact.Closed old other = record { pulled = (note_step a fact.Closed moment old).1; pulls = refl; is = refl }
once moment a fact.NoPort old other = record { pulled = (note_step a fact.NoPort moment old).1; pulls = refl; is = refl }
once moment a fact.Failed old other = absurd (cc other)
once moment a (fact.Ended end) old other = record { pulled = (note_step a (fact.Ended end) moment old).1; pulls = refl; is = refl }

pub noted_once : (moment a b : ℕ) (f found : LinkFact) (issued : List Issued) (old new : Data) (gave ending : Option Ending) → is_unbroken f ≡ true →
    found ≡ f → issued ≡ [] → b ≡ a → ending ≡ gave → gave ≡ (note_step a f moment old).0 → new ≡ (note_step a f moment old).1 →
    IsNoted moment b found (map line_of issued) old ending new
noted_once moment a b f found issued old new gave ending other is none same ends gives after =
    let first = note_step a f moment old in
    let B : ℕ → Type 0 = λ n. IsNoted moment n found (map line_of issued) old ending new in
    let F : LinkFact → Type 0 = λ x. IsNoted moment a x (map line_of issued) old ending new in
    let L : List Issued → Type 0 = λ xs. IsNoted moment a f (map line_of xs) old ending new in
    let E : Option Ending → Type 0 = λ e. IsNoted moment a f [] old e new in
    let D : Data → Type 0 = λ d. IsNoted moment a f [] old first.0 d in
    subst B (sym same) (subst F (sym is) (subst L (sym none) (subst E (sym (ends ∙ gives)) (subst D (sym after) (once moment a f old other)))))

-- a session that goes on hasn't ended
pub answer_none : (ended : Option SessionEnd) (u : Unit {0}) → answer_of ended ≡ Ok u → ended ≡ None
answer_none None u e = refl
answer_none (Some end) u e = absurd (cc e)

-- a turn that ends the session leaves the link down
pub ended_down : (found : LinkFact) (end : SessionEnd) (was_up : Bool) → found ≡ fact.Ended end → up_after found was_up ≡ true → ⊥
ended_down found end was_up is is_open =
    let h : false ≡ true = sym (ap (λ (f : LinkFact). up_after f was_up) is) ∙ is_open in
    cc h
