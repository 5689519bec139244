use Rattle.std.proofs.Common.{◌≡◌, ◌+◌, [], ◌∷◌, ◌++◌, drop, sym, ◌∙◌, rules, inr}
use Rattle.std.proofs.lemmas.Result.{err_from_is_err_and}
use Rattle.octo_settings.specs.Groups.{permission_of}
use Rattle.octo_settings.proofs.Each.{each-ok, each-err, drop-got}
use Rattle.octo_settings.proofs.groups.read_permission_list.Goals as goal

pub returns-in_err-permission : goal.returns-in_err-permission
returns-in_err-permission c =
    let p = err_from_is_err_and c.from_residual.result c.from_residual.ensures.1 in
    rw (p.1, p.2) (inr (c.loop-i.invariant
    ∙ each-err (λ n x. permission_of c.args.key.now x) c.loop-i.i c.get.result.now (drop (c.loop-i.i + 1) c.args.texts.now) (drop c.loop-i.i c.args.texts.now) c.loop-i.permissions c.in_err-permission.field-0.0
    (drop-got c.args.texts.now c.loop-i.i c.get.result.now c.get.ensures) (sym c.read_permission.ensures ∙ c.in_err-permission.was)))

pub loop-i-preserved : goal.loop-i-preserved
loop-i-preserved c =
    let pushed : c.push.new.self ≡ c.loop-i.permissions ++ c.in_ok-permission.permission ∷ [] = search rules in
    rw pushed (c.loop-i.invariant
    ∙ each-ok (λ n x. permission_of c.args.key.now x) c.loop-i.i c.get.result.now (drop (c.loop-i.i + 1) c.args.texts.now) (drop c.loop-i.i c.args.texts.now) c.loop-i.permissions c.in_ok-permission.permission
    (drop-got c.args.texts.now c.loop-i.i c.get.result.now c.get.ensures) (sym c.read_permission.ensures ∙ c.in_ok-permission.was))
