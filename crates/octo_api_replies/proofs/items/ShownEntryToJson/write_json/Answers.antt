use Rattle.octo_api_replies.proofs.items.ShownEntryToJson.write_json.Goals as goal

pub returns-clause-tokens : goal.returns-clause-tokens
returns-clause-tokens c =
    rw (c.as_str.ensures.bytes, c.as_str-2.ensures.bytes, c.as_str-3.ensures.bytes, c.as_str-4.ensures.bytes, c.into.ensures, c.into-2.ensures, c.into-3.ensures)
    at c.write_object.ensures.tokens
