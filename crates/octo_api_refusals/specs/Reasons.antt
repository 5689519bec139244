-- Why a message is no request, as a sentence for people.
use Rattle.std.specs.Prelude.{ℕ, Bool, not, ◌==◌, if◌then◌else◌, List, [], ◌++◌, length, codes, decimal}
use Rattle.octo_http.specs.Part.{crlf}
use Rattle.octo_api_routes.specs.Members.{member_name}
use Rattle.octo_api_routes.specs.declared.direct.BodyFault.{BodyFault}
use Rattle.octo_api_routes.specs.declared.direct.BodyFault.TheVariants as body_fault
use Rattle.octo_api_routes.specs.declared.direct.MediaFault.{MediaFault}
use Rattle.octo_api_routes.specs.declared.direct.MediaFault.TheVariants as media_fault
use Rattle.octo_api_routes.specs.declared.direct.Methods.{Methods}
use Rattle.octo_api_routes.specs.declared.direct.Member.{Member}
use Rattle.octo_api_routes.specs.declared.direct.Member.TheVariants as member

-- what a member has to be and isn't, after its name
abbrev pub wrong_text : Member → List ℕ
wrong_text member.Command = codes "` is none of the commands of this path"
wrong_text member.Commands = codes "` is no list of 1 to 256 texts"
wrong_text member.Parameters = codes "` has no whole number and no plain word for a name in braces"
wrong_text member.Port = codes "` is no text of 1 to 100 bytes"
wrong_text member.Targets = codes "` is no object"
wrong_text member.Tool0 = codes "` is no whole number from 0 to 65535"
wrong_text member.Target = codes "` is no whole number from 0 to 65535"
wrong_text member.Action = codes "` is none of pause, resume and toggle"
wrong_text member.Print = codes "` is neither true nor false"
wrong_text member.Name = codes "` is no name"
wrong_text member.File = codes "` is no name of a print file"
wrong_text member.Priority = codes "` is no whole number from 0 to 100"
wrong_text member.Copies = codes "` is no whole number from 1 to 100"
wrong_text member.Material = codes "` is no name"
wrong_text member.Key = codes "` is no text of 16 to 64 letters and digits"
wrong_text member.Groups = codes "` is no list of at most 8 names"
wrong_text member.Active = codes "` is neither true nor false"
wrong_text member.X = codes "` is no number of at most three digits after the point, up to 99999.999"
wrong_text member.Y = codes "` is no number of at most three digits after the point, up to 99999.999"
wrong_text member.Z = codes "` is no number of at most three digits after the point, up to 99999.999"
wrong_text member.Absolute = codes "` is neither true nor false"
wrong_text member.Speed = codes "` is no whole number from 1 to 65535"
wrong_text member.Axes = codes "` is no list of 1 to 3 of x, y and z"
wrong_text member.Factor = codes "` is no percentage in the range of this command"
wrong_text member.Amount = codes "` is no number of at most three digits after the point, up to 99999.999"
wrong_text member.Tool = codes "` is not tool0"
wrong_text member.Passive = codes "` is not true"

-- what is wrong with a body
abbrev pub body_reason : BodyFault → List ℕ
body_reason body_fault.TooLong = codes "JSON may have at most 1048576 bytes"
body_reason body_fault.NotJson = codes "the body is no JSON"
body_reason body_fault.NoObject = codes "the body is no JSON object"
body_reason body_fault.Both = codes "`command` and `commands` exclude each other"
body_reason body_fault.Password = codes "there are no passwords: send a key, and `passive`"
body_reason body_fault.NoClose = codes "the form does not end with its boundary"
body_reason body_fault.BadPart = codes "a part of the form is malformed or has no name"
body_reason body_fault.NoFile = codes "the form has no part `file` with a filename"
body_reason (body_fault.Missing member) = codes "the member `" ++ member_name member ++ codes "` is missing"
body_reason (body_fault.Wrong member) = codes "the member `" ++ member_name member ++ wrong_text member
body_reason (body_fault.LongName bytes) = codes "the name has " ++ decimal bytes ++ codes " bytes and 100 are allowed"

-- what is wrong with the type of a body or of a file
abbrev pub media_reason : MediaFault → List ℕ
media_reason media_fault.Coded = codes "send the body without a coding"
media_reason media_fault.NotJson = codes "this path takes application/json"
media_reason media_fault.NoForm = codes "this path takes multipart/form-data with a boundary"
media_reason (media_fault.NoEnding name) = codes "`" ++ name ++ codes "` has no print ending (.gcode, .gco, .g)"

-- a list of names with one more, if it is allowed
abbrev pub with_method : Bool → List ℕ → List ℕ → List ℕ
with_method is_allowed name names =
    if not is_allowed then names else if length names == 0 then name else names ++ codes ", " ++ name

-- the names of methods, HEAD with GET, with a comma and a space between each two
abbrev pub methods_text : Methods → List ℕ
methods_text m =
    with_method m.delete (codes "DELETE")
    (with_method m.put (codes "PUT")
    (with_method m.post (codes "POST")
    (with_method m.get (codes "HEAD") (with_method m.get (codes "GET") []))))

-- a path has other methods
abbrev pub method_reason : Methods → List ℕ
method_reason allowed = codes "this path takes " ++ methods_text allowed ++ codes " and no other method"

-- the field that names the methods of a path (RFC 9110, section 10.2.1)
abbrev pub allow_line : Methods → List ℕ
allow_line allowed = codes "Allow: " ++ methods_text allowed ++ crlf
