-- What JSON bodies ask.
use Rattle.std.specs.Prelude.{ℕ, Bool, true, false, List, [], ◌∷◌, length, nat_le, ◌&&◌, codes, if◌then◌else◌, Option, Some, None, option_map, option_and_then, is_some}
use Rattle.arrayvec.specs.ArrayVec.{ArrayVec}
use Rattle.serde_json.specs.Data.{Data}
use Rattle.std.specs.Str.{bytes_eq}
use Rattle.serde_json.specs.Find.{get, as_null, as_str, as_bool, as_object}
use Rattle.octo_asks.specs.declared.request.Request.{Request}
use Rattle.octo_asks.specs.declared.request.Request.TheVariants as request
use Rattle.octo_api_routes.specs.declared.wanted.Form.{Form}
use Rattle.octo_api_routes.specs.declared.wanted.Form.TheVariants as form
use Rattle.octo_api_commands.specs.Commands.{as_command}
use Rattle.octo_api_commands.specs.Lists.{as_list}
use Rattle.octo_api_commands.specs.Members.{or_default, is_text_at, whole_at, flag_at, optional}
use Rattle.octo_api_commands.specs.Moves.{jog_lines, home_lines, feedrate_lines, flowrate_lines, extrude_lines, select_lines}
use Rattle.octo_api_requests.specs.Fields.{as_name, name_at, file_at, as_key}

-- a port's name: 1 to 100 bytes; `AUTO` names none
abbrev pub port_name : List ℕ → Option (Option (List ℕ))
port_name text =
    if bytes_eq text (codes "AUTO") then Some None
    else if nat_le 1 (length text) && nat_le (length text) 100 then Some (Some text)
    else None

-- a JSON text as the name of a port; null names none
abbrev pub as_port : Data → Option (Option (List ℕ))
as_port found = if is_some (as_null found) then Some None else option_and_then port_name (as_str found)

-- what a body about the connection asks
abbrev pub connection_asked : Data → Option Request
connection_asked body =
    if is_text_at (codes "command") (codes "connect") body
    then option_map request.Connect (or_default (Some None) as_port (get (codes "port") body))
    else if is_text_at (codes "command") (codes "disconnect") body then Some request.Disconnect else None

-- degrees of 16 bits
abbrev pub degrees_at : List ℕ → Data → Option ℕ
degrees_at key body = whole_at key 0 65535 None body

-- the target of the tool
abbrev pub heat_asked : Data → Option Request
heat_asked body = option_and_then (λ targets. option_map request.HeatTool (degrees_at (codes "tool0") targets)) (get (codes "targets") body)

-- what a body about the tool asks; only an extrusion is a move
abbrev pub tool_asked : Data → Option Request
tool_asked body =
    if is_text_at (codes "command") (codes "target") body then heat_asked body
    else if is_text_at (codes "command") (codes "select") body then option_map request.Lines (select_lines body)
    else if is_text_at (codes "command") (codes "extrude") body then option_map request.Move (extrude_lines body)
    else if is_text_at (codes "command") (codes "flowrate") body then option_map request.Lines (flowrate_lines body)
    else None

-- what a body about the axes asks; the speed of all moves may be set at any time
abbrev pub printhead_asked : Data → Option Request
printhead_asked body =
    if is_text_at (codes "command") (codes "jog") body then option_map request.Move (jog_lines body)
    else if is_text_at (codes "command") (codes "home") body then option_map request.Move (home_lines body)
    else if is_text_at (codes "command") (codes "feedrate") body then option_map request.Lines (feedrate_lines body)
    else None

-- whether a body has a password
abbrev pub has_password : Data → Bool
has_password body = is_some (get (codes "user") body) && is_some (get (codes "pass") body)

-- a login without a password asks whom the key names
abbrev pub login_asked : Data → Option Request
login_asked body =
    if has_password body then None else if is_some (get (codes "passive") body) then Some request.Caller else None

-- the target of the bed
abbrev pub bed_asked : Data → Option Request
bed_asked body =
    if is_text_at (codes "command") (codes "target") body then option_map request.HeatBed (degrees_at (codes "target") body) else None

-- what a pause asks, by its action
abbrev pub pause_asked : Data → Option Request
pause_asked body =
    if is_some (get (codes "action") body)
    then if is_text_at (codes "action") (codes "pause") body then Some request.Pause
    else if is_text_at (codes "action") (codes "resume") body then Some request.Resume
    else if is_text_at (codes "action") (codes "toggle") body then Some request.Toggle
    else None
    else Some request.Toggle

-- what a body about the job asks
abbrev pub job_asked : Data → Option Request
job_asked body =
    if is_text_at (codes "command") (codes "start") body then Some request.Start
    else if is_text_at (codes "command") (codes "cancel") body then Some request.Cancel
    else if is_text_at (codes "command") (codes "restart") body then Some request.Restart
    else if is_text_at (codes "command") (codes "pause") body then pause_asked body
    else None

-- the selection of a file, with a flag for its print
abbrev pub selection_asked : List ℕ → Data → Option Request
selection_asked name body =
    if is_text_at (codes "command") (codes "select") body
    then option_map (request.SelectFile name) (flag_at (codes "print") false body)
    else None

-- a request to issue one command
abbrev pub one_line : List ℕ → Request
one_line text = request.Lines (text ∷ [])

-- one command, or a list of 1 to 256, and not both
abbrev pub lines_asked : Data → Option Request
lines_asked body =
    if is_some (get (codes "commands") body)
    then if is_some (get (codes "command") body) then None
    else option_map request.Lines (option_and_then (as_list (as_command (get (codes "parameters") body)) 1 256) (get (codes "commands") body))
    else option_map one_line (option_and_then (as_command (get (codes "parameters") body)) (get (codes "command") body))

-- up to 8 groups
abbrev pub as_groups : Data → Option (ArrayVec (List ℕ))
as_groups found = option_map (λ names. record { items = names }) (as_list as_name 0 8 found)

-- a new user, who is active unless the body says otherwise
abbrev pub user_asked : Data → Option Request
user_asked body =
    option_and_then (λ name.
    option_and_then (λ key.
    option_and_then (λ groups.
    option_map (request.PutUser name key groups)
    (flag_at (codes "active") true body))
    (option_and_then as_groups (get (codes "groups") body)))
    (option_and_then as_key (get (codes "key") body)))
    (name_at (codes "name") None body)

-- a change of a user, which is an object; what is missing stays as it is
abbrev pub change_asked : List ℕ → Data → Option Request
change_asked name body =
    if is_some (as_object body)
    then option_and_then (λ key.
    option_and_then (λ groups.
    option_map (request.ChangeUser name key groups)
    (optional as_bool (get (codes "active") body)))
    (optional as_groups (get (codes "groups") body)))
    (optional as_key (get (codes "key") body))
    else None

-- a new entry of the queue
abbrev pub entry_asked : Data → Option Request
entry_asked body =
    option_and_then (λ name.
    option_and_then (λ file.
    option_and_then (λ priority.
    option_and_then (λ copies.
    option_map (request.PutEntry name file priority copies)
    (name_at (codes "material") (Some (codes "any")) body))
    (whole_at (codes "copies") 1 100 (Some 1) body))
    (whole_at (codes "priority") 0 100 (Some 0) body))
    (file_at (codes "file") body))
    (name_at (codes "name") None body)

-- what a body asks in a form
abbrev pub asked_in : Form → Data → Option Request
asked_in form.Connection body = connection_asked body
asked_in form.Tool body = tool_asked body
asked_in form.Bed body = bed_asked body
asked_in form.Lines body = lines_asked body
asked_in form.Job body = job_asked body
asked_in (form.SelectFile name) body = selection_asked name body
asked_in form.PutUser body = user_asked body
asked_in (form.ChangeUser name) body = change_asked name body
asked_in form.PutEntry body = entry_asked body
asked_in form.Login body = login_asked body
asked_in form.Printhead body = printhead_asked body

-- a form whose reading takes memory
abbrev pub takes_memory : Form → Bool
takes_memory form.Lines = true
takes_memory form.Tool = true
takes_memory form.Printhead = true
takes_memory form.PutUser = true
takes_memory (form.ChangeUser name) = true
takes_memory _ = false
