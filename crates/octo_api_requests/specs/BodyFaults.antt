-- What is wrong with JSON that isn't what a form takes: of its members the first one, in the order in which they are read.
use Rattle.std.specs.Prelude.{ℕ, false, List, codes, Option, Some, None, is_some, is_none, option_and_then, if◌then◌else◌}
use Rattle.serde_json.specs.Data.{Data}
use Rattle.serde_json.specs.Find.{get, as_object}
use Rattle.octo_api_routes.specs.Members.{member_name}
use Rattle.octo_api_routes.specs.declared.direct.BodyFault.{BodyFault}
use Rattle.octo_api_routes.specs.declared.direct.BodyFault.TheVariants.{Missing, Wrong, Both, Password, NoObject}
use Rattle.octo_api_routes.specs.declared.direct.Member.{Member}
use Rattle.octo_api_routes.specs.declared.direct.Member.TheVariants as member
use Rattle.octo_api_routes.specs.declared.wanted.Form.{Form}
use Rattle.octo_api_routes.specs.declared.wanted.Form.TheVariants as form
use Rattle.octo_api_commands.specs.Lists.{are_texts}
use Rattle.octo_api_commands.specs.Members.{text_at, is_text_at, whole_at, flag_at, optional}
use Rattle.octo_api_commands.specs.Moves.{axis_at, amount_at}
use Rattle.octo_api_requests.specs.Fields.{name_at, file_at, as_key}
use Rattle.octo_api_requests.specs.Bodies.{as_groups, has_password}

-- a member that isn't read is missing or wrong
abbrev pub unread_member : Member → Data → BodyFault
unread_member member body = if is_some (get (member_name member) body) then Wrong member else Missing member

-- of a body about the connection
abbrev pub connection_fault : Data → BodyFault
connection_fault body =
    if is_text_at (codes "command") (codes "connect") body then Wrong member.Port else unread_member member.Command body

-- of the targets of tools
abbrev pub targets_fault : Option Data → BodyFault
targets_fault None = Missing member.Targets
targets_fault (Some targets) = unread_member member.Tool0 targets

-- of an extrusion
abbrev pub extrude_fault : Data → BodyFault
extrude_fault body = if is_none (amount_at body) then unread_member member.Amount body else Wrong member.Speed

-- of a body about the tool
abbrev pub tool_fault : Data → BodyFault
tool_fault body =
    if is_text_at (codes "command") (codes "target") body
    then targets_fault (get (codes "targets") body)
    else if is_text_at (codes "command") (codes "select") body then unread_member member.Tool body
    else if is_text_at (codes "command") (codes "extrude") body then extrude_fault body
    else if is_text_at (codes "command") (codes "flowrate") body then unread_member member.Factor body
    else unread_member member.Command body

-- of a move by hand: one that moves no axis lacks X
abbrev pub jog_fault : Data → BodyFault
jog_fault body =
    if is_none (axis_at (codes "x") body) then Wrong member.X
    else if is_none (axis_at (codes "y") body) then Wrong member.Y
    else if is_none (axis_at (codes "z") body) then Wrong member.Z
    else if is_none (flag_at (codes "absolute") false body) then Wrong member.Absolute
    else if is_none (whole_at (codes "speed") 1 65535 (Some 1) body) then Wrong member.Speed
    else Missing member.X

-- of a body about the axes
abbrev pub printhead_fault : Data → BodyFault
printhead_fault body =
    if is_text_at (codes "command") (codes "jog") body then jog_fault body
    else if is_text_at (codes "command") (codes "home") body then unread_member member.Axes body
    else if is_text_at (codes "command") (codes "feedrate") body then unread_member member.Factor body
    else unread_member member.Command body

-- of a login
abbrev pub login_fault : Data → BodyFault
login_fault body = if has_password body then Password else Missing member.Passive

-- of a body about the bed
abbrev pub bed_fault : Data → BodyFault
bed_fault body =
    if is_text_at (codes "command") (codes "target") body
    then unread_member member.Target body
    else unread_member member.Command body

-- of a body with these `commands`: texts are wrong only by their parameters
abbrev pub commands_fault : Data → Data → BodyFault
commands_fault body found =
    if is_some (get (codes "command") body) then Both
    else if are_texts found then Wrong member.Parameters
    else Wrong member.Commands

-- of a body whose `commands` are these
abbrev pub lines_fault_with : Option Data → Data → BodyFault
lines_fault_with None body =
    if is_some (text_at (codes "command") body) then Wrong member.Parameters else unread_member member.Command body
lines_fault_with (Some found) body = commands_fault body found

-- of a body with commands
abbrev pub lines_fault : Data → BodyFault
lines_fault body = lines_fault_with (get (codes "commands") body) body

-- of a body about the job
abbrev pub job_fault : Data → BodyFault
job_fault body =
    if is_text_at (codes "command") (codes "pause") body then Wrong member.Action else unread_member member.Command body

-- of the selection of a file
abbrev pub selection_fault : Data → BodyFault
selection_fault body =
    if is_text_at (codes "command") (codes "select") body then Wrong member.Print else unread_member member.Command body

-- of a new user
abbrev pub user_fault : Data → BodyFault
user_fault body =
    if is_none (name_at (codes "name") None body) then unread_member member.Name body
    else if is_none (option_and_then as_key (get (codes "key") body)) then unread_member member.Key body
    else if is_none (option_and_then as_groups (get (codes "groups") body)) then unread_member member.Groups body
    else Wrong member.Active

-- of a change of a user
abbrev pub change_fault : Data → BodyFault
change_fault body =
    if is_none (optional as_key (get (codes "key") body)) then Wrong member.Key
    else if is_none (optional as_groups (get (codes "groups") body)) then Wrong member.Groups
    else Wrong member.Active

-- of a new entry of the queue
abbrev pub entry_fault : Data → BodyFault
entry_fault body =
    if is_none (name_at (codes "name") None body) then unread_member member.Name body
    else if is_none (file_at (codes "file") body) then unread_member member.File body
    else if is_none (whole_at (codes "priority") 0 100 (Some 0) body) then Wrong member.Priority
    else if is_none (whole_at (codes "copies") 1 100 (Some 1) body) then Wrong member.Copies
    else Wrong member.Material

-- of an object that isn't what a form takes
abbrev pub members_fault : Form → Data → BodyFault
members_fault form.Connection body = connection_fault body
members_fault form.Tool body = tool_fault body
members_fault form.Bed body = bed_fault body
members_fault form.Lines body = lines_fault body
members_fault form.Job body = job_fault body
members_fault (form.SelectFile name) body = selection_fault body
members_fault form.PutUser body = user_fault body
members_fault (form.ChangeUser name) body = change_fault body
members_fault form.PutEntry body = entry_fault body
members_fault form.Login body = login_fault body
members_fault form.Printhead body = printhead_fault body

-- of JSON that isn't what a form takes
abbrev pub fault_in : Form → Data → BodyFault
fault_in form body = if is_some (as_object body) then members_fault form body else NoObject
