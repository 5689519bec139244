-- The reply to each answer.
use Rattle.std.specs.Prelude.{ℕ, Bool, true, false, List, ◌++◌, map, codes}
use Rattle.gcode_lines.specs.declared.fault.FileFault.{FileFault}
use Rattle.gcode_lines.specs.declared.fault.FileFault.TheVariants as file_fault
use Rattle.octo_http.specs.Part.{crlf}
use Rattle.octo_http.specs.declared.reply.HttpReply.{HttpReply}
use Rattle.octo_http.specs.declared.reply.ReplyKind.TheVariants.{Bytes}
use Rattle.octo_asks.specs.declared.answer.Answer.{Answer}
use Rattle.octo_asks.specs.declared.answer.Answer.TheVariants as answer
use Rattle.octo_asks.specs.declared.answer.StoredCause.{StoredCause}
use Rattle.octo_asks.specs.declared.answer.StoredCause.TheVariants as cause
use Rattle.octo_api_replies.specs.Fixed.{text_reply, settings_text}
use Rattle.octo_api_replies.specs.Items.{file_data, user_data, entry_data, print_data}
use Rattle.octo_api_replies.specs.Pages.{version_data, caller_data, connection_data, printer_data, job_data, list_data, uploaded_data, unprinted_data, stored_data}
use Rattle.octo_api_replies.specs.Refusals.{refusal_data, denied_data, wrong_state_data, bad_line_data, too_large_data, too_hot_data, too_hot_line_data, name_taken_data, full_data}
use Rattle.octo_api_refusals.specs.Refused.{no_fields, empty_reply, json_reply, noted_data}

-- a reply with the bytes of a file
abbrev pub bytes_reply : List ℕ → HttpReply
bytes_reply bytes = record { status = 200; kind = Bytes; fields = no_fields; body = bytes }

-- a refusal by its name alone
abbrev pub refusal : ℕ → List ℕ → HttpReply
refusal status name = json_reply status (refusal_data name)

-- a file that has no job; the last case doesn't come, since its answer is NoMemory
abbrev pub bad_file_reply : FileFault → HttpReply
bad_file_reply (file_fault.TooLong line) = json_reply 400 (bad_line_data (codes "TooLong") line)
bad_file_reply (file_fault.ControlByte line) = json_reply 400 (bad_line_data (codes "ControlByte") line)
bad_file_reply (file_fault.TooLarge bytes) = json_reply 400 (too_large_data bytes)
bad_file_reply file_fault.NoMemory = empty_reply 507

-- an upload whose print wasn't started
abbrev pub stored_reply : List ℕ → StoredCause → HttpReply
stored_reply name cause.KeeperFault = json_reply 503 (stored_data name (codes "KeeperFault"))
stored_reply name cause.NoMemory = json_reply 507 (stored_data name (codes "NoMemory"))

-- the field with the path of a file that was stored (RFC 9110, section 10.2.2)
abbrev pub location_line : List ℕ → List ℕ
location_line name = codes "Location: /api/files/local/" ++ name ++ crlf

-- a reply with this field
abbrev pub with_location : List ℕ → HttpReply → HttpReply
with_location name reply = record reply { fields = record { items = location_line name } }

-- the reply to an answer
abbrev pub reply_of : Answer → HttpReply
reply_of answer.Version = json_reply 200 version_data
reply_of (answer.Caller name groups) = json_reply 200 (caller_data name groups.items)
reply_of answer.Accepted = empty_reply 204
reply_of (answer.Connection port state ports) = json_reply 200 (connection_data port state ports)
reply_of (answer.Printer state tool bed) = json_reply 200 (printer_data state tool bed)
reply_of (answer.Limits tool bed) = text_reply (settings_text tool bed)
reply_of (answer.Job file progress state) = json_reply 200 (job_data file progress state)
reply_of (answer.Files files) = json_reply 200 (list_data (codes "files") (map file_data files))
reply_of (answer.File file) = json_reply 200 (file_data file)
reply_of (answer.Download bytes) = bytes_reply bytes
reply_of (answer.Uploaded name select print) = with_location name (json_reply 201 (uploaded_data name select print))
reply_of (answer.Unprinted name select why) = with_location name (json_reply 201 (unprinted_data name select why))
reply_of (answer.Stored name cause) = stored_reply name cause
reply_of (answer.Users users) = json_reply 200 (list_data (codes "users") (map user_data users))
reply_of (answer.User user) = json_reply 201 (user_data user)
reply_of (answer.Entries entries) = json_reply 200 (list_data (codes "entries") (map entry_data entries))
reply_of (answer.OneEntry entry) = json_reply 201 (entry_data entry)
reply_of (answer.TakenEntry entry) = json_reply 200 (entry_data entry)
reply_of (answer.Prints prints) = json_reply 200 (list_data (codes "prints") (map print_data prints))
reply_of (answer.Denied permission) = json_reply 403 (denied_data permission)
reply_of answer.BadPort = refusal 400 (codes "BadPort")
reply_of answer.BadCommand = refusal 400 (codes "BadCommand")
reply_of (answer.BadGroup group) = json_reply 400 (noted_data (codes "BadGroup") (codes "group") group)
reply_of (answer.BadFile fault) = bad_file_reply fault
reply_of (answer.TooHot asked limit) = json_reply 400 (too_hot_data asked limit)
reply_of answer.NoFile = refusal 404 (codes "NoFile")
reply_of answer.NoUser = refusal 404 (codes "NoUser")
reply_of answer.NoEntry = refusal 404 (codes "NoEntry")
reply_of (answer.WrongState state) = json_reply 409 (wrong_state_data state)
reply_of answer.NoneSelected = refusal 409 (codes "NoneSelected")
reply_of answer.FileBusy = refusal 409 (codes "FileBusy")
reply_of (answer.TooHotLine line asked limit) = json_reply 409 (too_hot_line_data line asked limit)
reply_of (answer.NameTaken kept) = json_reply 409 (name_taken_data kept)
reply_of (answer.KeyTaken name) = json_reply 409 (noted_data (codes "KeyTaken") (codes "name") name)
reply_of (answer.Full count) = json_reply 409 (full_data count)
reply_of answer.ArrivalsUsed = refusal 409 (codes "ArrivalsUsed")
reply_of answer.KeeperFault = refusal 503 (codes "KeeperFault")
reply_of answer.ShelfFault = refusal 503 (codes "ShelfFault")
reply_of answer.Closed = refusal 503 (codes "Closed")
reply_of answer.NoMemory = empty_reply 507

-- an answer that is the bytes of a file
abbrev pub is_file : Answer → Bool
is_file (answer.Download bytes) = true
is_file _ = false

-- an answer that is a refusal by its name alone
abbrev pub is_named : Answer → Bool
is_named answer.BadPort = true
is_named answer.BadCommand = true
is_named answer.NoFile = true
is_named answer.NoUser = true
is_named answer.NoEntry = true
is_named answer.NoneSelected = true
is_named answer.FileBusy = true
is_named answer.ArrivalsUsed = true
is_named answer.KeeperFault = true
is_named answer.ShelfFault = true
is_named answer.Closed = true
is_named answer.NoMemory = true
is_named _ = false

-- an answer that is a refusal
abbrev pub is_refusal : Answer → Bool
is_refusal (answer.Denied permission) = true
is_refusal (answer.BadGroup group) = true
is_refusal (answer.BadFile fault) = true
is_refusal (answer.TooHot asked limit) = true
is_refusal (answer.WrongState state) = true
is_refusal (answer.TooHotLine line asked limit) = true
is_refusal (answer.NameTaken kept) = true
is_refusal (answer.KeyTaken name) = true
is_refusal (answer.Full count) = true
is_refusal reply = is_named reply
