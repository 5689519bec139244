-- The members of JSON bodies.
use Rattle.std.specs.Prelude.{ℕ, List, codes}
use Rattle.octo_api_routes.specs.declared.direct.Member.{Member}
use Rattle.octo_api_routes.specs.declared.direct.Member.TheVariants as member

-- the name that a member has in a body
abbrev pub member_name : Member → List ℕ
member_name member.Command = codes "command"
member_name member.Commands = codes "commands"
member_name member.Parameters = codes "parameters"
member_name member.Port = codes "port"
member_name member.Targets = codes "targets"
member_name member.Tool0 = codes "tool0"
member_name member.Target = codes "target"
member_name member.Action = codes "action"
member_name member.Print = codes "print"
member_name member.Name = codes "name"
member_name member.File = codes "file"
member_name member.Priority = codes "priority"
member_name member.Copies = codes "copies"
member_name member.Material = codes "material"
member_name member.Key = codes "key"
member_name member.Groups = codes "groups"
member_name member.Active = codes "active"
member_name member.Passive = codes "passive"
member_name member.X = codes "x"
member_name member.Y = codes "y"
member_name member.Z = codes "z"
member_name member.Absolute = codes "absolute"
member_name member.Speed = codes "speed"
member_name member.Axes = codes "axes"
member_name member.Factor = codes "factor"
member_name member.Amount = codes "amount"
member_name member.Tool = codes "tool"
