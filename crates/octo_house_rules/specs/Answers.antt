-- The answer to every request: nobody's and the unpermitted ones are denied, and any other has its own verdict.
use Rattle.std.specs.Prelude.{ℕ, not, List, [], ◌∷◌, Option, None, Some, find}
use Rattle.octo_access.specs.Rights.{has, caller}
use Rattle.octo_access.specs.declared.permission.Permission.{Permission}
use Rattle.octo_access.specs.declared.row.UserRow.{UserRow}
use Rattle.octo_keeper.specs.declared.shelf.ShelfFile.{ShelfFile}
use Rattle.octo_asks.specs.Rights.{needed}
use Rattle.octo_asks.specs.declared.answer.Answer.TheVariants as answer
use Rattle.octo_asks.specs.declared.request.Ask.{Ask}
use Rattle.octo_asks.specs.declared.request.Request.{Request}
use Rattle.octo_asks.specs.declared.request.Request.TheVariants as request
use Rattle.octo_house_rules.specs.Known.{Known}
use Rattle.octo_house_rules.specs.Verdict.{Verdict, gives}
use Rattle.octo_house_rules.specs.Reads.{caller_verdict, limits_verdict, connection_verdict, printer_verdict, job_verdict, list_files_verdict, get_file_verdict, download_verdict, list_users_verdict, list_queue_verdict, list_prints_verdict, backup_verdict, shutdown_verdict}
use Rattle.octo_house_rules.specs.Prints.{connect_verdict, disconnect_verdict, heat_tool_verdict, heat_bed_verdict, lines_verdict, move_verdict, pause_verdict, resume_verdict, toggle_verdict, cancel_verdict, start_verdict, restart_verdict}
use Rattle.octo_house_rules.specs.Uploads.{put_file_verdict, select_verdict, delete_verdict, next_verdict}
use Rattle.octo_house_rules.specs.Rows.{new_user, put_user_verdict, change_user_verdict, asked_entry, put_entry_verdict, drop_verdict}

-- the answer to the request of a user who has every permission that it needs; a request that needs none is answered below
abbrev pub request_verdict : Request → UserRow → List ShelfFile → Known → Verdict
request_verdict request.Version user files k = gives answer.Version
request_verdict request.Caller user files k = gives answer.Accepted
request_verdict request.GetConnection user files k = connection_verdict k
request_verdict (request.Connect port) user files k = connect_verdict port k
request_verdict request.Disconnect user files k = disconnect_verdict k
request_verdict request.GetPrinter user files k = printer_verdict k
request_verdict request.GetLimits user files k = limits_verdict k
request_verdict (request.HeatTool degrees) user files k = heat_tool_verdict degrees k
request_verdict (request.HeatBed degrees) user files k = heat_bed_verdict degrees k
request_verdict (request.Lines texts) user files k = lines_verdict texts k
request_verdict (request.Move texts) user files k = move_verdict texts k
request_verdict request.GetJob user files k = job_verdict k
request_verdict request.Start user files k = start_verdict user.name k
request_verdict request.Cancel user files k = cancel_verdict k
request_verdict request.Restart user files k = restart_verdict user.name k
request_verdict request.Pause user files k = pause_verdict k
request_verdict request.Resume user files k = resume_verdict k
request_verdict request.Toggle user files k = toggle_verdict k
request_verdict request.ListFiles user files k = list_files_verdict files
request_verdict (request.GetFile name) user files k = get_file_verdict name files k
request_verdict (request.PutFile name bytes select print) user files k = put_file_verdict user name bytes select print k
request_verdict (request.SelectFile name print) user files k = select_verdict user.name name print files k
request_verdict (request.DeleteFile name) user files k = delete_verdict name k
request_verdict (request.Download name) user files k = download_verdict name files k
request_verdict request.ListUsers user files k = list_users_verdict k
request_verdict (request.PutUser name key groups active) user files k = put_user_verdict (new_user name key groups active) k
request_verdict (request.ChangeUser name key groups active) user files k = change_user_verdict name key groups active k
request_verdict request.ListQueue user files k = list_queue_verdict user k
request_verdict (request.PutEntry name file priority copies material) user files k =
    put_entry_verdict (asked_entry user.name name file priority copies material) k
request_verdict (request.DropOwn name) user files k = drop_verdict user.name name k
request_verdict (request.DropOther owner name) user files k = drop_verdict owner name k
request_verdict request.NextEntry user files k = next_verdict files k
request_verdict request.ListPrints user files k = list_prints_verdict user k
request_verdict request.Backup user files k = backup_verdict k
request_verdict request.Shutdown user files k = shutdown_verdict k
request_verdict request.Leave user files k = gives answer.Accepted
request_verdict request.AutoConnect user files k = gives answer.Accepted

-- the answer to a request that needs no permission: whom its key names, the host's own connection, and a worker's leave
abbrev pub free_verdict : List ℕ → Request → Known → Verdict
free_verdict key request.Caller k = caller_verdict key k
free_verdict key request.AutoConnect k = connect_verdict None k
free_verdict key _ k = gives answer.Accepted

-- the first of the permissions that a user lacks
abbrev pub lacking : Known → UserRow → List Permission → Option Permission
lacking k user permissions = find (λ p. not (has k.policy user p)) permissions

-- goes on if the user lacks nothing
abbrev pub unless_lacking : Option Permission → Verdict → Verdict
unless_lacking None v = v
unless_lacking (Some permission) v = gives (answer.Denied (Some permission))

-- goes on with whom the key names, if that one may
abbrev pub verdict_of_caller : Option UserRow → List Permission → Known → (UserRow → Verdict) → Verdict
verdict_of_caller None permissions k next = gives (answer.Denied None)
verdict_of_caller (Some user) permissions k next = unless_lacking (lacking k user permissions) (next user)

-- the answer to a key's request that needs these permissions
abbrev pub verdict_by : List Permission → List ℕ → Request → List ShelfFile → Known → Verdict
verdict_by [] key asked files k = free_verdict key asked k
verdict_by (permission ∷ permissions) key asked files k =
    verdict_of_caller (caller k.policy k.users key) (permission ∷ permissions) k (λ user. request_verdict asked user files k)

-- the answer to an ask
abbrev pub verdict : Ask → List ShelfFile → Known → Verdict
verdict ask files k = verdict_by (needed ask.request) ask.key ask.request files k
