use Rattle.std.proofs.Common.{ap, ◌∙◌}
use Rattle.serde_json.specs.Written.{has_float}
use Rattle.octo_api_replies.proofs.Whole.{connection_whole}
use Rattle.octo_api_replies.proofs.pages.connection_reply.Goals as goal

pub json_reply-requires : goal.json_reply-requires
json_reply-requires c = ap has_float c.in_ok-value.ensures ∙ connection_whole c.args.port.now c.args.state c.args.ports.now
