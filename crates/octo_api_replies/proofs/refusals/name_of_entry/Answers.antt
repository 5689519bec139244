use Rattle.std.proofs.Common.{◌≡◌, [], Some, rules}
use Rattle.octo_api_replies.specs.Refusals.{name_taken_data}
use Rattle.octo_api_replies.specs.Tokens.{tokens_of}
use Rattle.octo_api_replies.proofs.refusals.name_of_entry.Goals as goal

pub returns : goal.returns
returns c =
    let value = name_taken_data (Some c.args.entry.now) in
    let none : c.end_object.new.self.before ≡ [] = search rules in
    let same : c.end_object.new.self.tokens ≡ tokens_of value = search rules in
    c.written_reply.ensures value none same
