-- Requests by what they change, or ask the shelf for.
use Rattle.std.specs.Prelude.{Bool, true, false}
use Rattle.octo_asks.specs.declared.request.Request.{Request}
use Rattle.octo_asks.specs.declared.request.Request.TheVariants as request

-- it may hold a file: one that is to be stored, or that was fetched
abbrev pub has_file : Request → Bool
has_file (request.PutFile name bytes select print) = true
has_file (request.Download name) = true
has_file _ = false

-- it changes rows, or files that are stored
abbrev pub is_edit : Request → Bool
is_edit (request.SelectFile name print) = true
is_edit (request.DeleteFile name) = true
is_edit (request.PutUser name key groups active) = true
is_edit (request.ChangeUser name key groups active) = true
is_edit (request.PutEntry name file priority copies material) = true
is_edit (request.DropOwn name) = true
is_edit (request.DropOther user name) = true
is_edit request.NextEntry = true
is_edit _ = false

-- it adds or changes a row of users, or adds one of the queue
abbrev pub is_row : Request → Bool
is_row (request.PutUser name key groups active) = true
is_row (request.ChangeUser name key groups active) = true
is_row (request.PutEntry name file priority copies material) = true
is_row _ = false

-- the shelf is asked what it holds, if nothing is refused before
abbrev pub is_reading : Request → Bool
is_reading request.ListFiles = true
is_reading (request.GetFile name) = true
is_reading (request.SelectFile name print) = true
is_reading (request.Download name) = true
is_reading request.NextEntry = true
is_reading _ = false
