-- One name more.
use Rattle.std.proofs.Common.{◌++◌, string_bytes, ap, ◌∙◌, arith}
use Rattle.octo_keeper_sql.proofs.Groups.{text_more}
use Rattle.octo_keeper_sql.proofs.user_rows.add_spaced.Goals as goal

pub loop-name-preserved : goal.loop-name-preserved
loop-name-preserved c =
    text_more (string_bytes c.args.text.now) (string_bytes c.loop-name.text) (string_bytes c.push_str.new.self) (string_bytes c.push_str-in-loop-name.new.self) c.args.names.now c.loop-name.name-index c.name-item.result (omega arith) c.name-item.is
    c.loop-name.invariant c.in_ok-push_str.ensures.bytes (c.in_ok-push_str-2.ensures.bytes ∙ ap (λ n. string_bytes c.push_str.new.self ++ n) c.as_str.ensures.bytes)
