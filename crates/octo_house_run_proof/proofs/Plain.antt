-- Calls that open no session, and what they leave.
use Rattle.std.proofs.Common.{◌≡◌, ℕ, ◌≤◌, Bool, true, false, List, [], ◌∷◌, Option, None, Some, refl, ◌∙◌, ap}
use Rattle.temp_rules.specs.declared.job.HotLine.{HotLine}
use Rattle.temp_rules.specs.Hot.{first_hot_of}
use Rattle.job_desk.specs.Data.{Data, File}
use Rattle.job_desk.specs.Endings.{is_failure}
use Rattle.job_desk.specs.Table.{start_checked, start_file, start_at, restart_at}
use Rattle.job_desk.specs.Run.{Run, after, run_of, DeskCall, Connect, Disconnect, Select, DropFile, Start, Restart, Pause, Resume, Toggle, Cancel, Manually, Pull, Note}
use Rattle.job_desk.specs.declared.state.State.{State}
use Rattle.job_desk.specs.declared.state.State.TheVariants.{Operational, Paused}
use Rattle.job_desk.specs.declared.link_fact.LinkFact.{LinkFact}
use Rattle.job_desk.specs.declared.link_fact.LinkFact.TheVariants as fact
use Rattle.job_desk.proofs.Steady.{steady-connect, steady-disconnect, steady-select, steady-drop_file, steady-pause, steady-resume, steady-toggle, steady-cancel, steady-manual, steady-pull, steady-note}
use Rattle.octo_house_rules.specs.Desk.{desk_after, desk_after_all}
use Rattle.octo_house_rules.specs.Legal.{up_after}
use Rattle.octo_house_rules.proofs.Runs.{desk_call}

-- calls leave the scripts
scripts_hot : (hot : Option HotLine) (q : ℕ) (d : Data) → (start_checked hot q d).1.scripts ≡ d.scripts
scripts_hot None q d = refl
scripts_hot (Some hot) q d = refl

scripts_file : (file : Option File) (q : ℕ) (d : Data) → (start_file file q d).1.scripts ≡ d.scripts
scripts_file None q d = refl
scripts_file (Some file) q d = scripts_hot (first_hot_of d.limits file.job.commands) q d

scripts_start : (s : State) (q : ℕ) (d : Data) → (start_at s q d).1.scripts ≡ d.scripts
scripts_start Operational q d = scripts_file d.file q d
scripts_start _ q d = refl

scripts_restart : (s : State) (q : ℕ) (d : Data) → (restart_at s q d).1.scripts ≡ d.scripts
scripts_restart Paused q d = refl
scripts_restart _ q d = refl

pub scripts_call : (call : DeskCall) (d : Data) → (desk_after call d).scripts ≡ d.scripts
scripts_call (Connect port) d = (steady-connect d.state port d).scripts
scripts_call Disconnect d = (steady-disconnect d.state d).scripts
scripts_call (Select file) d = (steady-select d.state file d).scripts
scripts_call (DropFile name) d = (steady-drop_file name d).scripts
scripts_call (Start q) d = scripts_start d.state q d
scripts_call (Restart q) d = scripts_restart d.state q d
scripts_call Pause d = (steady-pause d.state d).scripts
scripts_call Resume d = (steady-resume d.state d).scripts
scripts_call Toggle d = (steady-toggle d.state d).scripts
scripts_call Cancel d = (steady-cancel d.state d).scripts
scripts_call (Manually texts) d = (steady-manual d.state texts d).scripts
scripts_call (Pull moment) d = (steady-pull moment d).scripts
scripts_call (Note acked f moment) d = (steady-note acked f moment d).scripts

-- the desk of a run after calls
pub desk_calls : (calls : List DeskCall) (run : Run) → (run_of calls run).desk ≡ desk_after_all calls run.desk
desk_calls [] run = refl
desk_calls (call ∷ calls) run = desk_calls calls (after call run) ∙ ap (λ (d : Data). desk_after_all calls d) (desk_call call run)

-- a call that opens no session and acknowledges no fewer lines
abbrev pub IsPlain : DeskCall → Data → Type 0
IsPlain (Note acked f moment) d = (f ≡ fact.Opened → ⊥) × (d.acked ≤ acked)
IsPlain _ d = Unit {0}

-- whether a session is open after a call
abbrev pub open_by : DeskCall → Bool → Bool
open_by (Note acked f moment) was = up_after f was
open_by _ was = was

pub shut_by : (f : LinkFact) → (f ≡ fact.Opened → ⊥) → up_after f false ≡ false
shut_by fact.Opened other = absurd (other refl)
shut_by _ other = refl

pub failed_shut : (f : LinkFact) (was : Bool) → is_failure f ≡ true → up_after f was ≡ false
failed_shut fact.NoPort was is = refl
failed_shut fact.Failed was is = refl
failed_shut (fact.Ended end) was is = refl
failed_shut _ was is = absurd (cc)
