use Rattle.octo_api_replies.proofs.items.ShownFileToJson.write_json.Goals as goal

pub returns-clause-tokens : goal.returns-clause-tokens
returns-clause-tokens c = rw c.as_str-name.ensures.bytes at c.write_object.ensures.tokens
