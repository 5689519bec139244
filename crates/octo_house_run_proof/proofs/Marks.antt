-- The numbers that a desk keeps of the session's lines, over requests.
use Rattle.std.proofs.Common.{◌≡◌, ℕ, ◌<◌, ◌≤◌, List, [], ◌++◌, length, drop, Option, None, Some, refl, sym, ◌∙◌, ap, subst, arith}
use Rattle.temp_rules.specs.declared.job.HotLine.{HotLine}
use Rattle.temp_rules.specs.Hot.{first_hot_of}
use Rattle.std.specs.Prelude.{◌&&◌}
use Rattle.job_desk.specs.Data.{Data, File, Line}
use Rattle.job_desk.specs.Table.{connect_at, disconnect_at, select_at, drop_file_step, is_named, start_checked, start_file, start_at, restart_at, printing, pause_at, resume_at, toggle_at, cancel_at, manual_at, add_manual, take_manual, is_stop, may_stop_closing, stopping}
use Rattle.job_desk.specs.Run.{print_lines, DeskCall, Connect, Disconnect, Select, DropFile, Start, Restart, Pause, Resume, Toggle, Cancel, Manually, Pull, Note, MayCall}
use Rattle.job_desk.specs.declared.state.State.{State}
use Rattle.job_desk.specs.declared.state.State.TheVariants.{Offline, Connecting, Operational, Printing, Pausing, Paused, Cancelling, Finishing, Closing, Fault}
use Rattle.octo_house_rules.specs.Desk.{desk_after}
use Rattle.job_desk.proofs.Steady.{choose_pair}

-- a desk whose numbers, print and paused state are as they were
pub record IsSame (d e : Data) : Type 0 where
  pub issued : e.issued ≡ d.issued
  pub acked : e.acked ≡ d.acked
  pub line : e.print_line ≡ d.print_line
  pub greatest : e.greatest ≡ d.greatest
  pub active : e.active ≡ d.active
  pub paused : e.state ≡ Paused → (d.state ≡ Paused) × (e.waiting ≡ d.waiting)

pub same : (d : Data) → IsSame d d
same d = record { issued = refl; acked = refl; line = refl; greatest = refl; active = refl; paused = λ is. (is, refl) }

-- another state, in which no print is paused
pub moved : (d e : Data) → e.issued ≡ d.issued → e.acked ≡ d.acked → e.print_line ≡ d.print_line → e.greatest ≡ d.greatest → e.active ≡ d.active
    → (e.state ≡ Paused → ⊥) → IsSame d e
moved d e issued acked line greatest active other =
    record { issued = issued; acked = acked; line = line; greatest = greatest; active = active; paused = λ is. absurd (other is) }

-- other fields
pub kept : (d e : Data) → e.issued ≡ d.issued → e.acked ≡ d.acked → e.print_line ≡ d.print_line → e.greatest ≡ d.greatest → e.active ≡ d.active
    → e.state ≡ d.state → e.waiting ≡ d.waiting → IsSame d e
kept d e issued acked line greatest active state waiting =
    record { issued = issued; acked = acked; line = line; greatest = greatest; active = active; paused = λ is. (sym state ∙ is, waiting) }

same-connect : (s : State) (port : List ℕ) (d : Data) → IsSame d (connect_at s port d).1
same-connect Offline port d = moved d _ refl refl refl refl refl (λ e. cc e)
same-connect Fault port d = moved d _ refl refl refl refl refl (λ e. cc e)
same-connect _ port d = same d

same-disconnect : (s : State) (d : Data) → IsSame d (disconnect_at s d)
same-disconnect Offline d = same d
same-disconnect Closing d = kept d _ refl refl refl refl refl refl refl
same-disconnect Connecting d = moved d _ refl refl refl refl refl (λ e. cc e)
same-disconnect Fault d = moved d _ refl refl refl refl refl (λ e. cc e)
same-disconnect _ d = moved d _ refl refl refl refl refl (λ e. cc e)

same-select : (s : State) (file : File) (d : Data) → IsSame d (select_at s file d).1
same-select Offline file d = record { issued = refl; acked = refl; line = refl; greatest = refl; active = refl; paused = λ is. (is, refl) }
same-select Connecting file d = record { issued = refl; acked = refl; line = refl; greatest = refl; active = refl; paused = λ is. (is, refl) }
same-select Operational file d = record { issued = refl; acked = refl; line = refl; greatest = refl; active = refl; paused = λ is. (is, refl) }
same-select Fault file d = record { issued = refl; acked = refl; line = refl; greatest = refl; active = refl; paused = λ is. (is, refl) }
same-select _ file d = same d

same-drop_file : (name : List ℕ) (d : Data) → IsSame d (drop_file_step name d).1
same-drop_file name d =
    choose_pair (λ e. IsSame d e) (is_named name d.file) _ _ (choose_pair (λ e. IsSame d e) d.active _ _ (same d)
    (record { issued = refl; acked = refl; line = refl; greatest = refl; active = refl; paused = λ is. (is, refl) })) (same d)

same-pause : (s : State) (d : Data) → IsSame d (pause_at s d).1
same-pause Printing d = moved d _ refl refl refl refl refl (λ e. cc e)
same-pause _ d = same d

same-resume : (s : State) (d : Data) → IsSame d (resume_at s d).1
same-resume Paused d = moved d _ refl refl refl refl refl (λ e. cc e)
same-resume _ d = same d

same-toggle : (s : State) (d : Data) → IsSame d (toggle_at s d).1
same-toggle Printing d = moved d _ refl refl refl refl refl (λ e. cc e)
same-toggle Paused d = moved d _ refl refl refl refl refl (λ e. cc e)
same-toggle _ d = same d

same-cancel : (s : State) (d : Data) → IsSame d (cancel_at s d).1
same-cancel Printing d = moved d _ refl refl refl refl refl (λ e. cc e)
same-cancel Pausing d = moved d _ refl refl refl refl refl (λ e. cc e)
same-cancel Paused d = moved d _ refl refl refl refl refl (λ e. cc e)
same-cancel _ d = same d

same-adds : (lines : List (List ℕ)) (d : Data) → IsSame d (add_manual lines d).1
same-adds lines d = choose_pair (λ e. IsSame d e) _ _ _ (same d) (kept d (record d { manual = d.manual ++ lines }) refl refl refl refl refl refl refl)

same-stopping : (lines : List (List ℕ)) (d : Data) → IsSame d (stopping lines d)
same-stopping lines d = moved d (stopping lines d) refl refl refl refl refl (λ e. cc e)

same-takes : (lines : List (List ℕ)) (d : Data) → IsSame d (take_manual lines d).1
same-takes lines d = choose_pair (λ e. IsSame d e) (is_stop lines) _ _ (same-stopping lines d) (same-adds lines d)

same-manual : (s : State) (lines : List (List ℕ)) (d : Data) → IsSame d (manual_at s lines d).1
same-manual Operational lines d = same-takes lines d
same-manual Printing lines d = same-takes lines d
same-manual Pausing lines d = same-takes lines d
same-manual Paused lines d = same-takes lines d
same-manual Cancelling lines d = same-takes lines d
same-manual Finishing lines d = same-takes lines d
same-manual Connecting lines d = choose_pair (λ e. IsSame d e) (is_stop lines && d.linked) _ _ (same-stopping lines d) (same d)
same-manual Closing lines d = choose_pair (λ e. IsSame d e) (is_stop lines && may_stop_closing d) _ _ (same-stopping lines d) (same d)
same-manual _ lines d = same d

-- what a print's numbers say of the session's lines
pub record Marked (p : ℕ) (d : Data) (lines : List Line) : Type 0 where
  -- all lines of the session are counted
  pub counted : d.issued ≡ length lines
  -- a print to come has none
  pub ahead : d.greatest < p → print_lines p lines ≡ []
  -- the last print's are at most the number that the desk keeps
  pub marked : d.greatest ≡ p → print_lines p (drop d.print_line lines) ≡ []
  -- while it is paused all are acknowledged, and none waits
  pub paused : d.state ≡ Paused → (d.waiting ≡ []) × (d.print_line ≤ d.acked)

pub marked_same : (p : ℕ) (d e : Data) (lines : List Line) → IsSame d e → Marked p d lines → Marked p e lines
marked_same p d e lines s m = record {
  counted = s.issued ∙ m.counted;
  ahead = λ below. m.ahead (subst (λ g. g < p) s.greatest below);
  marked = λ is. ap (λ (n : ℕ). print_lines p (drop n lines)) s.line ∙ m.marked (sym s.greatest ∙ is);
  paused = λ is. (let was = s.paused is in let h = m.paused was.0 in (was.1 ∙ h.0, omega (arith, h.1, s.line, s.acked)));
}

-- a print begins
module _ (p q : ℕ) (d : Data) (lines : List Line) (rises : d.greatest < q) (m : Marked p d lines) where
  marked_begins : Marked p (printing q d) lines
  marked_begins = record {
    counted = m.counted;
    ahead = λ below. m.ahead (omega (arith, rises, below));
    marked = λ is. m.ahead (omega (arith, rises, is));
    paused = λ is. absurd (cc is);
  }

  marked_hot : (hot : Option HotLine) → Marked p (start_checked hot q d).1 lines
  marked_hot None = marked_begins
  marked_hot (Some hot) = m

  marked_file : (file : Option File) → Marked p (start_file file q d).1 lines
  marked_file None = m
  marked_file (Some file) = marked_hot (first_hot_of d.limits file.job.commands)

  marked_start : (s : State) → Marked p (start_at s q d).1 lines
  marked_start Operational = marked_file d.file
  marked_start _ = m

  marked_restart : (s : State) → Marked p (restart_at s q d).1 lines
  marked_restart Paused = marked_begins
  marked_restart _ = m

-- a start leaves the number of acknowledged lines
acked_hot : (hot : Option HotLine) (q : ℕ) (d : Data) → (start_checked hot q d).1.acked ≡ d.acked
acked_hot None q d = refl
acked_hot (Some hot) q d = refl

acked_file : (file : Option File) (q : ℕ) (d : Data) → (start_file file q d).1.acked ≡ d.acked
acked_file None q d = refl
acked_file (Some file) q d = acked_hot (first_hot_of d.limits file.job.commands) q d

acked_start : (s : State) (q : ℕ) (d : Data) → (start_at s q d).1.acked ≡ d.acked
acked_start Operational q d = acked_file d.file q d
acked_start _ q d = refl

acked_restart : (s : State) (q : ℕ) (d : Data) → (restart_at s q d).1.acked ≡ d.acked
acked_restart Paused q d = refl
acked_restart _ q d = refl

-- a request
abbrev pub IsRequest : DeskCall → Type 0
IsRequest (Pull moment) = ⊥
IsRequest (Note acked found moment) = ⊥
IsRequest _ = Unit {0}

pub marked_request : (p : ℕ) (call : DeskCall) (d : Data) (lines : List Line) → IsRequest call → MayCall call d → Marked p d lines
    → Marked p (desk_after call d) lines
marked_request p (Connect port) d lines r may m = marked_same p d _ lines (same-connect d.state port d) m
marked_request p Disconnect d lines r may m = marked_same p d _ lines (same-disconnect d.state d) m
marked_request p (Select file) d lines r may m = marked_same p d _ lines (same-select d.state file d) m
marked_request p (DropFile name) d lines r may m = marked_same p d _ lines (same-drop_file name d) m
marked_request p (Start q) d lines r may m = marked_start p q d lines may m d.state
marked_request p (Restart q) d lines r may m = marked_restart p q d lines may m d.state
marked_request p Pause d lines r may m = marked_same p d _ lines (same-pause d.state d) m
marked_request p Resume d lines r may m = marked_same p d _ lines (same-resume d.state d) m
marked_request p Toggle d lines r may m = marked_same p d _ lines (same-toggle d.state d) m
marked_request p Cancel d lines r may m = marked_same p d _ lines (same-cancel d.state d) m
marked_request p (Manually texts) d lines r may m = marked_same p d _ lines (same-manual d.state texts d) m
marked_request p (Pull moment) d lines r may m = absurd r
marked_request p (Note acked found moment) d lines r may m = absurd r

-- a request other than a start
abbrev pub IsNoStart : DeskCall → Type 0
IsNoStart (Start q) = ⊥
IsNoStart (Restart q) = ⊥
IsNoStart (Pull moment) = ⊥
IsNoStart (Note acked found moment) = ⊥
IsNoStart _ = Unit {0}

pub same_request : (call : DeskCall) (d : Data) → IsNoStart call → IsSame d (desk_after call d)
same_request (Connect port) d r = same-connect d.state port d
same_request Disconnect d r = same-disconnect d.state d
same_request (Select file) d r = same-select d.state file d
same_request (DropFile name) d r = same-drop_file name d
same_request Pause d r = same-pause d.state d
same_request Resume d r = same-resume d.state d
same_request Toggle d r = same-toggle d.state d
same_request Cancel d r = same-cancel d.state d
same_request (Manually texts) d r = same-manual d.state texts d
same_request _ d r = absurd r

pub acked_request : (call : DeskCall) (d : Data) → IsRequest call → (desk_after call d).acked ≡ d.acked
acked_request (Connect port) d r = (same-connect d.state port d).acked
acked_request Disconnect d r = (same-disconnect d.state d).acked
acked_request (Select file) d r = (same-select d.state file d).acked
acked_request (DropFile name) d r = (same-drop_file name d).acked
acked_request (Start q) d r = acked_start d.state q d
acked_request (Restart q) d r = acked_restart d.state q d
acked_request Pause d r = (same-pause d.state d).acked
acked_request Resume d r = (same-resume d.state d).acked
acked_request Toggle d r = (same-toggle d.state d).acked
acked_request Cancel d r = (same-cancel d.state d).acked
acked_request (Manually texts) d r = (same-manual d.state texts d).acked
acked_request (Pull moment) d r = absurd r
acked_request (Note acked found moment) d r = absurd r
