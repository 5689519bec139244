-- Which requests are copied how.
use Rattle.std.specs.Prelude.{Bool, true, false}
use Rattle.octo_asks.specs.declared.request.Request.{Request}
use Rattle.octo_asks.specs.declared.request.Request.TheVariants as request

-- the request has bytes, whose copy takes memory
abbrev pub has_blobs : Request → Bool
has_blobs (request.Lines texts) = true
has_blobs (request.Move texts) = true
has_blobs (request.PutFile name bytes select print) = true
has_blobs (request.PutUser name key groups active) = true
has_blobs (request.ChangeUser name key groups active) = true
has_blobs _ = false

-- the request has fields
abbrev pub has_fields : Request → Bool
has_fields (request.Connect port) = true
has_fields (request.HeatTool degrees) = true
has_fields (request.HeatBed degrees) = true
has_fields (request.GetFile name) = true
has_fields (request.SelectFile name print) = true
has_fields (request.DeleteFile name) = true
has_fields (request.Download name) = true
has_fields (request.PutEntry name file priority copies material) = true
has_fields (request.DropOwn name) = true
has_fields (request.DropOther user name) = true
has_fields asked = has_blobs asked
