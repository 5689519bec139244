use Rattle.std.proofs.Common.{sym, ◌∙◌}
use Rattle.octo_api_routes.proofs.Texts.{ascii_is_text}
use Rattle.octo_api_routes.proofs.ascii.ascii_text.Goals as goal

pub unreachable-requires : goal.unreachable-requires
unreachable-requires c = c.in-Err.ensures.cases.0 (ascii_is_text _ (sym c.is_ascii.ensures ∙ c.if-not-is_ascii.false))
