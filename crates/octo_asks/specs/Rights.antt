-- Which permissions a request needs.
use Rattle.std.specs.Prelude.{true, List, [], ◌∷◌, Option, Some, None}
use Rattle.octo_access.specs.declared.permission.Permission.{Permission}
use Rattle.octo_access.specs.declared.permission.Permission.TheVariants as permission
use Rattle.octo_asks.specs.declared.request.Request.{Request}
use Rattle.octo_asks.specs.declared.request.Request.TheVariants as request

-- the permission that is tested first; none to ask whom a key names, and none for the own requests of a worker and of the host
abbrev pub first_needed : Request → Option Permission
first_needed request.Version = Some permission.Status
first_needed request.Caller = None
first_needed request.GetConnection = Some permission.Status
first_needed (request.Connect port) = Some permission.Connection
first_needed request.Disconnect = Some permission.Connection
first_needed request.GetPrinter = Some permission.Status
first_needed request.GetLimits = Some permission.Status
first_needed (request.HeatTool degrees) = Some permission.Control
first_needed (request.HeatBed degrees) = Some permission.Control
first_needed (request.Lines texts) = Some permission.Control
first_needed (request.Move texts) = Some permission.Control
first_needed request.GetJob = Some permission.Status
first_needed request.Start = Some permission.Print
first_needed request.Cancel = Some permission.Print
first_needed request.Restart = Some permission.Print
first_needed request.Pause = Some permission.Print
first_needed request.Resume = Some permission.Print
first_needed request.Toggle = Some permission.Print
first_needed request.ListFiles = Some permission.FilesList
first_needed (request.GetFile name) = Some permission.FilesList
first_needed (request.PutFile name bytes select print) = Some permission.FilesUpload
first_needed (request.SelectFile name print) = Some permission.FilesSelect
first_needed (request.DeleteFile name) = Some permission.FilesDelete
first_needed (request.Download name) = Some permission.FilesDownload
first_needed request.ListUsers = Some permission.Admin
first_needed (request.PutUser name key groups active) = Some permission.Admin
first_needed (request.ChangeUser name key groups active) = Some permission.Admin
first_needed request.ListQueue = Some permission.FilesSelect
first_needed (request.PutEntry name file priority copies material) = Some permission.FilesSelect
first_needed (request.DropOwn name) = Some permission.FilesSelect
first_needed (request.DropOther user name) = Some permission.Admin
first_needed request.NextEntry = Some permission.Print
first_needed request.ListPrints = Some permission.Status
first_needed request.Backup = Some permission.System
first_needed request.Shutdown = Some permission.System
first_needed request.Leave = None
first_needed request.AutoConnect = None

-- a selection that also prints needs a second one
abbrev pub also_needed : Request → List Permission
also_needed (request.SelectFile name true) = permission.Print ∷ []
also_needed _ = []

-- the permissions that a request needs, in the order in which they are tested
abbrev pub needed : Request → List Permission
needed asked = by (first_needed asked)
  where
    by : Option Permission → List Permission
    by None = []
    by (Some permission) = permission ∷ also_needed asked
