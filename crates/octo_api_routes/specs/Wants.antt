-- What a method asks of a target, and which body it wants.
use Rattle.std.specs.Prelude.{ℕ, ◌||◌, List, codes, Option, Some, None, is_some, option_and_then, if◌then◌else◌}
use Rattle.std.specs.Str.{bytes_eq}
use Rattle.octo_asks.specs.declared.request.Request.{Request}
use Rattle.octo_asks.specs.declared.request.Request.TheVariants as request
use Rattle.octo_api_routes.specs.declared.direct.Methods.{Methods}
use Rattle.octo_api_routes.specs.declared.target.Target.{Target}
use Rattle.octo_api_routes.specs.declared.target.Target.TheVariants as target
use Rattle.octo_api_routes.specs.declared.wanted.Verb.{Verb}
use Rattle.octo_api_routes.specs.declared.wanted.Verb.TheVariants.{Get, Post, Put, Delete}
use Rattle.octo_api_routes.specs.declared.wanted.Form.TheVariants as form
use Rattle.octo_api_routes.specs.declared.wanted.Wanted.{Wanted}
use Rattle.octo_api_routes.specs.declared.wanted.Wanted.TheVariants.{Nothing, Json, Upload}

-- the methods that the interface has; HEAD asks what GET does
abbrev pub verb_of : List ℕ → Option Verb
verb_of method =
    if bytes_eq method (codes "GET") || bytes_eq method (codes "HEAD") then Some Get
    else if bytes_eq method (codes "POST") then Some Post
    else if bytes_eq method (codes "PUT") then Some Put
    else if bytes_eq method (codes "DELETE") then Some Delete
    else None

-- requests without a body
abbrev pub asked_by_get : Target → Option Request
asked_by_get target.Version = Some request.Version
asked_by_get target.Server = Some request.Version
asked_by_get target.Settings = Some request.GetLimits
asked_by_get target.Profiles = Some request.Version
asked_by_get target.SystemCommands = Some request.Version
asked_by_get target.CurrentUser = Some request.Caller
asked_by_get target.Connection = Some request.GetConnection
asked_by_get target.Printer = Some request.GetPrinter
asked_by_get target.Tool = Some request.GetPrinter
asked_by_get target.Bed = Some request.GetPrinter
asked_by_get target.Job = Some request.GetJob
asked_by_get target.AllFiles = Some request.ListFiles
asked_by_get target.Files = Some request.ListFiles
asked_by_get (target.File name) = Some (request.GetFile name)
asked_by_get (target.Download name) = Some (request.Download name)
asked_by_get target.Users = Some request.ListUsers
asked_by_get target.Queue = Some request.ListQueue
asked_by_get target.Prints = Some request.ListPrints
asked_by_get _ = None

-- what a DELETE asks
abbrev pub asked_by_delete : Target → Option Request
asked_by_delete (target.File name) = Some (request.DeleteFile name)
asked_by_delete (target.Entry name) = Some (request.DropOwn name)
asked_by_delete (target.OthersEntry user name) = Some (request.DropOther user name)
asked_by_delete _ = None

-- what a POST wants
abbrev pub wanted_by_post : Target → Option Wanted
wanted_by_post target.Connection = Some (Json form.Connection)
wanted_by_post target.Tool = Some (Json form.Tool)
wanted_by_post target.Bed = Some (Json form.Bed)
wanted_by_post target.Command = Some (Json form.Lines)
wanted_by_post target.Job = Some (Json form.Job)
wanted_by_post target.Files = Some Upload
wanted_by_post (target.File name) = Some (Json (form.SelectFile name))
wanted_by_post target.Users = Some (Json form.PutUser)
wanted_by_post target.Queue = Some (Json form.PutEntry)
wanted_by_post target.NextEntry = Some (Nothing request.NextEntry)
wanted_by_post target.Backup = Some (Nothing request.Backup)
wanted_by_post target.Shutdown = Some (Nothing request.Shutdown)
wanted_by_post target.Login = Some (Json form.Login)
wanted_by_post target.Logout = Some (Nothing request.Caller)
wanted_by_post target.Printhead = Some (Json form.Printhead)
wanted_by_post _ = None

-- what a PUT wants
abbrev pub wanted_by_put : Target → Option Wanted
wanted_by_put (target.User name) = Some (Json (form.ChangeUser name))
wanted_by_put _ = None

-- a request that wants no body
abbrev pub without_body : Option Request → Option Wanted
without_body None = None
without_body (Some asked) = Some (Nothing asked)

-- what a method wants of a target, none if the target has no such method
abbrev pub wanted_by : Verb → Target → Option Wanted
wanted_by Get target = without_body (asked_by_get target)
wanted_by Delete target = without_body (asked_by_delete target)
wanted_by Post target = wanted_by_post target
wanted_by Put target = wanted_by_put target

-- what a method, by its name, wants of a target
abbrev pub wanted_of : List ℕ → Target → Option Wanted
wanted_of method target = option_and_then (λ verb. wanted_by verb target) (verb_of method)

-- the methods that a target takes
abbrev pub methods_of : Target → Methods
methods_of target = record {
  get = is_some (asked_by_get target);
  post = is_some (wanted_by_post target);
  put = is_some (wanted_by_put target);
  delete = is_some (asked_by_delete target);
}
