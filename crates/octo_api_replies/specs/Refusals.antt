-- Refusals as JSON. Members are in the byte order of their names.
use Rattle.std.specs.Prelude.{ℕ, List, codes, Option, Some, None}
use Rattle.serde_json.specs.Data.{Data, string, object, no_members, member}
use Rattle.job_desk.specs.declared.state.State.{State}
use Rattle.octo_access.specs.declared.permission.Permission.{Permission}
use Rattle.octo_asks.specs.declared.shown.ShownEntry.{ShownEntry}
use Rattle.octo_api_refusals.specs.Refused.{noted_data}
use Rattle.octo_api_replies.specs.Texts.{state_text, permission_text}
use Rattle.octo_api_replies.specs.Items.{count, entry_data}

-- a refusal by its name alone
abbrev pub refusal_data : List ℕ → Data
refusal_data name = object (member (codes "error") (string name) no_members)

-- the lacking permission
abbrev pub denied_data : Option Permission → Data
denied_data permission = noted_data (codes "Denied") (codes "permission") (permission_text permission)

-- a call that isn't for this state
abbrev pub wrong_state_data : State → Data
wrong_state_data state = noted_data (codes "WrongState") (codes "state") (state_text state)

-- a line of a file that is refused
abbrev pub bad_line_data : List ℕ → ℕ → Data
bad_line_data name line = object (
    member (codes "error") (string (codes "BadFile"))
    (member (codes "fault") (string name)
    (member (codes "line") (count line)
    no_members)))

-- a file of too many bytes
abbrev pub too_large_data : ℕ → Data
too_large_data bytes = object (
    member (codes "bytes") (count bytes)
    (member (codes "error") (string (codes "BadFile"))
    (member (codes "fault") (string (codes "TooLarge"))
    no_members)))

-- a command that is too hot
abbrev pub too_hot_data : ℕ → ℕ → Data
too_hot_data asked limit = object (
    member (codes "asked") (count asked)
    (member (codes "error") (string (codes "TooHot"))
    (member (codes "limit") (count limit)
    no_members)))

-- a file with a command that is too hot
abbrev pub too_hot_line_data : ℕ → ℕ → ℕ → Data
too_hot_line_data line asked limit = object (
    member (codes "asked") (count asked)
    (member (codes "error") (string (codes "TooHotLine"))
    (member (codes "limit") (count limit)
    (member (codes "line") (count line)
    no_members))))

-- a name that is held, with the entry of the queue that holds it
abbrev pub name_taken_data : Option ShownEntry → Data
name_taken_data None = refusal_data (codes "NameTaken")
name_taken_data (Some entry) = object (
    member (codes "error") (string (codes "NameTaken"))
    (member (codes "kept") (entry_data entry)
    no_members))

-- a limit that is reached
abbrev pub full_data : ℕ → Data
full_data held = object (
    member (codes "count") (count held)
    (member (codes "error") (string (codes "Full"))
    no_members))
