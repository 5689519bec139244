-- One more deed of a bay.
use Rattle.std.proofs.Common.{◌≡◌, ℕ, ◌<◌, Bool, List, [], ◌∷◌, ◌++◌, refl, sym, ◌∙◌, ap, subst}
use Rattle.job_desk.specs.Data.{Data, new_desk, ScriptTexts, named_file}
use Rattle.job_desk.proofs.Steady.{steady-select}
use Rattle.temp_rules.specs.declared.limits.Limits.{Limits}
use Rattle.gcode_lines.specs.Job.{JobData}
use Rattle.job_desk.specs.Run.{DeskCall}
use Rattle.octo_house_rules.specs.Desk.{desk_after_all}
use Rattle.octo_floor_bay.specs.Desk.{DeskEntry, AreEntered, MayEnter, entries_in, desk_calls_in}
use Rattle.octo_floor_bay.proofs.Lives.{entries-append}
use Rattle.octo_floor_bay.proofs.Longer.{entered_more, led_more, scripts_stay}
use Rattle.octo_session.specs.Data.{SessionData}
use Rattle.octo_floor_bay.specs.Bay.{BayData, IsBay, first_desk, after_deed}
use Rattle.octo_floor_bay.specs.Deeds.{calls_at, entry_at, desk_entry, desk_entries, history_in}
use Rattle.octo_floor_bay.specs.declared.deed.Deed.{Deed}
use Rattle.octo_floor_bay.specs.declared.deed.Deed.TheVariants as deed
use Rattle.octo_floor_bay.proofs.Made.{made-calls}

pub desk_entries-append : (deeds : List Deed) (one : Deed) → desk_entries (deeds ++ one ∷ []) ≡ desk_entries deeds ++ desk_entry one ∷ []
desk_entries-append [] one = refl
desk_entries-append (former ∷ deeds) one = ap (λ (all : List DeskEntry). desk_entry former ∷ all) (desk_entries-append deeds one)

-- the history with the entry of one more deed
pub history-append : (deeds : List Deed) (one : Deed) → history_in (deeds ++ one ∷ []) ≡ history_in deeds ++ entry_at one ∷ []
history-append deeds one = ap entries_in (desk_entries-append deeds one) ∙ entries-append (desk_entries deeds) (desk_entry one ∷ [])

-- calls leave the desk with which a session began
pub first_stays : (calls : List DeskCall) (d e : Data) → desk_after_all calls d ≡ e →
    new_desk e.scripts e.limits e.poll_ms e.numbered ≡ new_desk d.scripts d.limits d.poll_ms d.numbered
first_stays calls d e leads =
    let made = made-calls calls d in
    let same : ScriptTexts = e.scripts in
    ap (λ (s : ScriptTexts). new_desk s e.limits e.poll_ms e.numbered) (ap (λ (x : Data). x.scripts) (sym leads) ∙ scripts_stay calls d)
    ∙ ap (λ (l : Limits). new_desk d.scripts l e.poll_ms e.numbered) (ap (λ (x : Data). x.limits) (sym leads) ∙ made.0)
    ∙ ap (λ (n : ℕ). new_desk d.scripts d.limits n e.numbered) (ap (λ (x : Data). x.poll_ms) (sym leads) ∙ made.1)
    ∙ ap (λ (b : Bool). new_desk d.scripts d.limits d.poll_ms b) (ap (λ (x : Data). x.numbered) (sym leads) ∙ made.2)

-- a bay whose session is led on by one more deed
pub bay_more : (old : BayData) (session : SessionData) (one : Deed) → IsBay old → MayEnter (entry_at one) (calls_at one) old.session.desk →
    desk_after_all (calls_at one) old.session.desk ≡ session.desk → IsBay (record { session = session; deeds = old.deeds ++ one ∷ [] })
bay_more old session one bay may leads =
    let first : first_desk session ≡ first_desk old.session = first_stays (calls_at one) old.session.desk session.desk leads in
    let all : List DeskEntry = desk_entries old.deeds in
    let more = entered_more all (desk_entry one) (first_desk old.session) bay.entered
    (subst (λ (d : Data). MayEnter (entry_at one) (calls_at one) d) (sym bay.leads) may)
    in
    let led : desk_after_all (desk_calls_in (all ++ desk_entry one ∷ [])) (first_desk old.session) ≡ session.desk =
    led_more all (desk_entry one) (first_desk old.session) ∙ ap (λ (d : Data). desk_after_all (calls_at one) d) bay.leads ∙ leads
    in
    record {
      entered = subst (λ (d : Data). AreEntered (desk_entries (old.deeds ++ one ∷ [])) d) (sym first)
          (subst (λ (es : List DeskEntry). AreEntered es (first_desk old.session)) (sym (desk_entries-append old.deeds one)) more);
      leads =
          ap (λ (d : Data). desk_after_all (desk_calls_in (desk_entries (old.deeds ++ one ∷ []))) d) first
          ∙ ap (λ (es : List DeskEntry). desk_after_all (desk_calls_in es) (first_desk old.session)) (desk_entries-append old.deeds one)
          ∙ led;
    }

-- the same for a session with another sender, without a deed
pub bay_still : (old : BayData) (session : SessionData) → IsBay old → session.desk ≡ old.session.desk → IsBay (record { session = session; deeds = old.deeds })
bay_still old session bay same =
    subst (λ (d : Data). IsBay (record { session = record session { desk = d }; deeds = old.deeds })) (sym same)
    (record { entered = bay.entered; leads = bay.leads })

-- a session and deeds as a bay
abbrev pub bay_with : SessionData → List Deed → BayData
bay_with session deeds = record { session = session; deeds = deeds }

-- those that a deed leaves
pub did : (old : BayData) (one : Deed) (session : SessionData) (deeds : List Deed) → session ≡ (after_deed one old).session → deeds ≡ old.deeds ++ one ∷ [] →
    bay_with session deeds ≡ after_deed one old
did old one session deeds same grew =
    ap (λ (s : SessionData). bay_with s deeds) same ∙ ap (λ (ds : List Deed). bay_with (after_deed one old).session ds) grew

-- a connection is begun, or ended
pub connected_bay : (old : BayData) (port : List ℕ) → IsBay old → IsBay (after_deed (deed.Connected port) old)
connected_bay old port bay = bay_more old (after_deed (deed.Connected port) old).session (deed.Connected port) bay (tt, tt, tt) refl

pub disconnected_bay : (old : BayData) → IsBay old → IsBay (after_deed deed.Disconnected old)
disconnected_bay old bay = bay_more old (after_deed deed.Disconnected old).session deed.Disconnected bay (tt, tt, tt) refl

-- a print is started
pub started_bay : (old : BayData) (file : List ℕ) (job : JobData) (print : ℕ) → old.session.desk.greatest < print → IsBay old →
    IsBay (after_deed (deed.Started file job print) old)
started_bay old file job print above bay =
    let d : Data = old.session.desk in
    let same = (steady-select d.state (named_file file job) d).greatest in
    bay_more old (after_deed (deed.Started file job print) old).session (deed.Started file job print) bay
    (tt, tt, (tt, subst (λ (n : ℕ). n < print) (sym same) above, tt)) refl
