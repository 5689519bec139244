use Rattle.std.proofs.Common.{◌≡◌, map, [], rules}
use Rattle.octo_api_replies.specs.Pages.{list_data}
use Rattle.octo_api_replies.specs.Tokens.{tokens_of}
use Rattle.octo_api_replies.proofs.written.list_reply.Goals as goal

pub returns : goal.returns
returns g c =
    let value = list_data c.args.name.now (map g.T.ToJson.json c.args.items.now) in
    let none : c.end_object.new.self.before ≡ [] = search rules in
    let same : c.end_object.new.self.tokens ≡ tokens_of value = search rules in
    c.written_reply.ensures value none same
