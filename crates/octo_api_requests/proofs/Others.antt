-- No path, form or upload asks what a worker or the host asks by itself.
use Rattle.std.proofs.Common.{◌≡◌, ◌≢◌, ℕ, Bool, true, false, List, Option, Some, None, Result, Ok, Err, IfSome, IfOk, sym, subst, refl}
use Rattle.std.specs.Prelude.{if◌then◌else◌, option_map, option_and_then, codes, is_some}
use Rattle.arrayvec.specs.ArrayVec.{ArrayVec}
use Rattle.serde_json.specs.Data.{Data}
use Rattle.serde_json.specs.Find.{get, as_bool, as_object}
use Rattle.octo_asks.specs.declared.request.Request.{Request}
use Rattle.octo_asks.specs.declared.request.Request.TheVariants as request
use Rattle.octo_api_routes.specs.declared.direct.Direct.{Direct}
use Rattle.octo_api_routes.specs.declared.wanted.Form.{Form}
use Rattle.octo_api_routes.specs.declared.wanted.Form.TheVariants as form
use Rattle.octo_api_routes.specs.declared.wanted.Wanted.{Wanted}
use Rattle.octo_api_routes.specs.declared.wanted.Wanted.TheVariants.{Nothing}
use Rattle.octo_api_commands.specs.declared.unread.Unread.{Unread}
use Rattle.octo_api_commands.specs.Lists.{as_list}
use Rattle.octo_api_commands.specs.Members.{Gives, or_default, is_text_at, whole_at, flag_at, optional}
use Rattle.octo_api_requests.specs.Fields.{name_at, file_at, as_key}
use Rattle.octo_api_commands.specs.Commands.{as_command}
use Rattle.octo_api_requests.specs.Bodies.{as_port, degrees_at, one_line, pause_asked, as_groups, heat_asked, has_password, asked_in}
use Rattle.octo_api_commands.specs.Moves.{jog_lines, home_lines, feedrate_lines, flowrate_lines, extrude_lines, select_lines}
use Rattle.octo_api_requests.specs.Callers.{IsCallers, WantsCallers}

-- what each form asks, by the readings of its fields
connection_is : (connects disconnects : Bool) (port : Option (Option (List ℕ)))
    → IfSome (if connects then option_map request.Connect port else if disconnects then Some request.Disconnect else None) IsCallers
connection_is true disconnects (Some port) = (λ e. cc, λ e. cc)
connection_is true disconnects None = tt
connection_is false true port = (λ e. cc, λ e. cc)
connection_is false false port = tt

heat_is : (found : Option Data) (degrees : Data → Option ℕ)
    → IfSome (option_and_then (λ t. option_map request.HeatTool (degrees t)) found) IsCallers
heat_is (Some t) degrees = heats (degrees t)
  where
    heats : (read : Option ℕ) → IfSome (option_map request.HeatTool read) IsCallers
    heats (Some n) = (λ e. cc, λ e. cc)
    heats None = tt
heat_is None degrees = tt

-- lines that are sent, and moves
lines_are : (lines : Option (List (List ℕ))) → IfSome (option_map request.Lines lines) IsCallers
lines_are (Some all) = (λ e. cc, λ e. cc)
lines_are None = tt

moves_are : (lines : Option (List (List ℕ))) → IfSome (option_map request.Move lines) IsCallers
moves_are (Some all) = (λ e. cc, λ e. cc)
moves_are None = tt

tool_is : (heats selects extrudes flows : Bool) (heat : Option Request) (selected extruded flown : Option (List (List ℕ)))
    → IfSome heat IsCallers
    → IfSome (if heats then heat else if selects then option_map request.Lines selected
    else if extrudes then option_map request.Move extruded else if flows then option_map request.Lines flown else None) IsCallers
tool_is true selects extrudes flows heat selected extruded flown is = is
tool_is false true extrudes flows heat selected extruded flown is = lines_are selected
tool_is false false true flows heat selected extruded flown is = moves_are extruded
tool_is false false false true heat selected extruded flown is = lines_are flown
tool_is false false false false heat selected extruded flown is = tt

printhead_is : (jogs homes feeds : Bool) (jogged homed fed : Option (List (List ℕ)))
    → IfSome (if jogs then option_map request.Move jogged else if homes then option_map request.Move homed
    else if feeds then option_map request.Lines fed else None) IsCallers
printhead_is true homes feeds jogged homed fed = moves_are jogged
printhead_is false true feeds jogged homed fed = moves_are homed
printhead_is false false true jogged homed fed = lines_are fed
printhead_is false false false jogged homed fed = tt

login_is : (password passive : Bool) → IfSome (if password then None else if passive then Some request.Caller else None) IsCallers
login_is true passive = tt
login_is false true = (λ e. cc, λ e. cc)
login_is false false = tt

bed_is : (targets : Bool) (degrees : Option ℕ) → IfSome (if targets then option_map request.HeatBed degrees else None) IsCallers
bed_is true (Some n) = (λ e. cc, λ e. cc)
bed_is true None = tt
bed_is false degrees = tt

lines_is : (many both : Bool) (texts : Option (List (List ℕ))) (text : Option (List ℕ))
    → IfSome (if many then if both then None else option_map request.Lines texts else option_map one_line text) IsCallers
lines_is true true texts text = tt
lines_is true false (Some all) text = (λ e. cc, λ e. cc)
lines_is true false None text = tt
lines_is false both texts (Some one) = (λ e. cc, λ e. cc)
lines_is false both texts None = tt

pause_is : (action pauses resumes toggles : Bool)
    → IfSome (if action
    then if pauses then Some request.Pause else if resumes then Some request.Resume else if toggles then Some request.Toggle else None
    else Some request.Toggle) IsCallers
pause_is true true resumes toggles = (λ e. cc, λ e. cc)
pause_is true false true toggles = (λ e. cc, λ e. cc)
pause_is true false false true = (λ e. cc, λ e. cc)
pause_is true false false false = tt
pause_is false pauses resumes toggles = (λ e. cc, λ e. cc)

job_is : (starts cancels restarts pauses : Bool) (pause : Option Request) → IfSome pause IsCallers
    → IfSome (if starts then Some request.Start else if cancels then Some request.Cancel
    else if restarts then Some request.Restart else if pauses then pause else None) IsCallers
job_is true cancels restarts pauses pause is = (λ e. cc, λ e. cc)
job_is false true restarts pauses pause is = (λ e. cc, λ e. cc)
job_is false false true pauses pause is = (λ e. cc, λ e. cc)
job_is false false false true pause is = is
job_is false false false false pause is = tt

selection_is : (name : List ℕ) (selects : Bool) (print : Option Bool)
    → IfSome (if selects then option_map (request.SelectFile name) print else None) IsCallers
selection_is name true (Some print) = (λ e. cc, λ e. cc)
selection_is name true None = tt
selection_is name false print = tt

user_is : (name key : Option (List ℕ)) (groups : Option (ArrayVec (List ℕ))) (active : Option Bool)
    → IfSome (option_and_then (λ n. option_and_then (λ k. option_and_then (λ g. option_map (request.PutUser n k g) active) groups) key) name) IsCallers
user_is (Some n) (Some k) (Some g) (Some a) = (λ e. cc, λ e. cc)
user_is (Some n) (Some k) (Some g) None = tt
user_is (Some n) (Some k) None active = tt
user_is (Some n) None groups active = tt
user_is None key groups active = tt

change_is : (name : List ℕ) (object : Bool) (key : Option (Option (List ℕ))) (groups : Option (Option (ArrayVec (List ℕ)))) (active : Option (Option Bool))
    → IfSome (if object then option_and_then (λ k. option_and_then (λ g. option_map (request.ChangeUser name k g) active) groups) key else None) IsCallers
change_is name true (Some k) (Some g) (Some a) = (λ e. cc, λ e. cc)
change_is name true (Some k) (Some g) None = tt
change_is name true (Some k) None active = tt
change_is name true None groups active = tt
change_is name false key groups active = tt

entry_is : (name file : Option (List ℕ)) (priority copies : Option ℕ) (material : Option (List ℕ))
    → IfSome (option_and_then (λ n. option_and_then (λ f. option_and_then (λ p. option_and_then (λ c.
    option_map (request.PutEntry n f p c) material) copies) priority) file) name) IsCallers
entry_is (Some n) (Some f) (Some p) (Some c) (Some m) = (λ e. cc, λ e. cc)
entry_is (Some n) (Some f) (Some p) (Some c) None = tt
entry_is (Some n) (Some f) (Some p) None material = tt
entry_is (Some n) (Some f) None copies material = tt
entry_is (Some n) None priority copies material = tt
entry_is None file priority copies material = tt

-- what a body asks is a caller's request
form_callers : (f : Form) (body : Data) → IfSome (asked_in f body) IsCallers
form_callers form.Connection body = connection_is (is_text_at (codes "command") (codes "connect") body) (is_text_at (codes "command") (codes "disconnect") body)
    (or_default (Some None) as_port (get (codes "port") body))
form_callers form.Tool body =
    tool_is (is_text_at (codes "command") (codes "target") body) (is_text_at (codes "command") (codes "select") body)
    (is_text_at (codes "command") (codes "extrude") body) (is_text_at (codes "command") (codes "flowrate") body)
    (heat_asked body) (select_lines body) (extrude_lines body) (flowrate_lines body)
    (heat_is (get (codes "targets") body) (degrees_at (codes "tool0")))
form_callers form.Printhead body =
    printhead_is (is_text_at (codes "command") (codes "jog") body) (is_text_at (codes "command") (codes "home") body)
    (is_text_at (codes "command") (codes "feedrate") body) (jog_lines body) (home_lines body) (feedrate_lines body)
form_callers form.Login body = login_is (has_password body) (is_some (get (codes "passive") body))
form_callers form.Bed body = bed_is (is_text_at (codes "command") (codes "target") body) (degrees_at (codes "target") body)
form_callers form.Lines body = lines_is (is_some (get (codes "commands") body)) (is_some (get (codes "command") body))
    (option_and_then (as_list (as_command (get (codes "parameters") body)) 1 256) (get (codes "commands") body))
    (option_and_then (as_command (get (codes "parameters") body)) (get (codes "command") body))
form_callers form.Job body = job_is (is_text_at (codes "command") (codes "start") body) (is_text_at (codes "command") (codes "cancel") body)
    (is_text_at (codes "command") (codes "restart") body) (is_text_at (codes "command") (codes "pause") body) (pause_asked body)
    (pause_is (is_some (get (codes "action") body)) (is_text_at (codes "action") (codes "pause") body)
    (is_text_at (codes "action") (codes "resume") body) (is_text_at (codes "action") (codes "toggle") body))
form_callers (form.SelectFile name) body =
    selection_is name (is_text_at (codes "command") (codes "select") body) (flag_at (codes "print") false body)
form_callers form.PutUser body = user_is (name_at (codes "name") None body) (option_and_then as_key (get (codes "key") body))
    (option_and_then as_groups (get (codes "groups") body)) (flag_at (codes "active") true body)
form_callers (form.ChangeUser name) body = change_is name (is_some (as_object body)) (optional as_key (get (codes "key") body)) (optional as_groups (get (codes "groups") body))
    (optional as_bool (get (codes "active") body))
form_callers form.PutEntry body = entry_is (name_at (codes "name") None body) (file_at (codes "file") body)
    (whole_at (codes "priority") 0 100 (Some 0) body) (whole_at (codes "copies") 1 100 (Some 1) body)
    (name_at (codes "material") (Some (codes "any")) body)

-- what is read from a body
pub body_callers : (f : Form) (body : Data) (result : Result Request Unread) → Gives (asked_in f body) result → IfOk result IsCallers
body_callers f body (Ok request) gives = subst (λ (read : Option Request). IfSome read IsCallers) gives (form_callers f body)
body_callers f body (Err e) gives = tt

-- a request that is asked as it is wanted
pub plain_callers : (wanted : Wanted) (request : Request) (result : Result Request Direct) → wanted ≡ Nothing request → WantsCallers wanted
    → IfOk result (λ asked. asked ≡ request) → IfOk result IsCallers
plain_callers wanted request (Ok asked) is wants same = subst IsCallers (sym same) (wants request is)
plain_callers wanted request (Err e) is wants same = tt
