use Rattle.std.proofs.Common.{◌∙◌}
use Rattle.octo_api_requests.proofs.Cleaned.{same_ascii, stored_is_ascii, marked_is_ascii}
use Rattle.octo_api_requests.proofs.stored.checked_name.Goals as goal

pub front_of-requires : goal.front_of-requires
front_of-requires c =
    same_ascii _ _ (c.as_slice-then-not-is_gcode.ensures.value ∙ c.in_ok-name.ensures) (stored_is_ascii c.args.sent.now)

pub short_name-requires : goal.short_name-requires
short_name-requires c = same_ascii _ _ (c.as_slice-then-is_some.ensures.value ∙ c.in_ok-name.ensures) (stored_is_ascii c.args.sent.now)

pub short_name-requires-2 : goal.short_name-requires-2
short_name-requires-2 c =
    let clean = same_ascii c.as_slice-2.result.now _ (c.as_slice-2.ensures.value ∙ c.in_ok-name.ensures) (stored_is_ascii c.args.sent.now) in
    same_ascii _ _ (c.as_slice-3.ensures.value ∙ c.in_ok-name-2.ensures) (marked_is_ascii c.args.sent.now c.as_slice-2.result.now clean)
