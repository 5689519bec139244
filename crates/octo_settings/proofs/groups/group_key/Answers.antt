use Rattle.std.proofs.Common.{◌≡◌, ◌++◌, take, min, length, codes, arith, ap, ◌∙◌}
use Rattle.std.proofs.lemmas.Grind.{common_steps}
use Rattle.octo_settings.proofs.NameBytes.{ascii-key, take-min}
use Rattle.octo_settings.proofs.groups.group_key.Goals as goal

pub ascii_name-requires-clause-ascii : goal.ascii_name-requires-clause-ascii
ascii_name-requires-clause-ascii c =
    let made : c.as_slice.result.now ≡ codes "groups." ++ take c.min.result c.args.name.now = grind (arith, common_steps) in
    rw made (ascii-key c.min.result c.args.name.now c.requires)

pub returns : goal.returns
returns c =
    let made : c.as_slice.result.now ≡ codes "groups." ++ take c.min.result c.args.name.now = grind (arith, common_steps) in
    let cut : c.min.result ≡ min (length c.args.name.now) 93 = rw c.as_bytes-name.ensures.bytes at c.min.ensures in
    c.ascii_name.ensures ∙ made ∙ ap (λ n. codes "groups." ++ take n c.args.name.now) cut ∙ ap (λ t. codes "groups." ++ t) (take-min 93 c.args.name.now)
