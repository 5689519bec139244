use Rattle.std.proofs.Common.{◌≡◌, ◌+◌, [], ◌∷◌, ◌++◌, drop, sym, ◌∙◌, rules, inr}
use Rattle.std.proofs.lemmas.Result.{err_from_is_err_and}
use Rattle.octo_settings.specs.Printers.{item_of}
use Rattle.octo_settings.proofs.Each.{each-ok, each-err, drop-got}
use Rattle.octo_settings.proofs.printers.read_item_list.Goals as goal

pub returns-in_err-name : goal.returns-in_err-name
returns-in_err-name c =
    let p = err_from_is_err_and c.from_residual.result c.from_residual.ensures.1 in
    rw (p.1, p.2) (inr (c.loop-i.invariant
    ∙ each-err (λ n x. item_of c.args.key x) c.loop-i.i c.get.result.now
    (drop (c.loop-i.i + 1) c.args.texts.now) (drop c.loop-i.i c.args.texts.now) c.loop-i.names c.in_err-name.field-0.0
    (drop-got c.args.texts.now c.loop-i.i c.get.result.now c.get.ensures) (sym c.read_item.ensures ∙ c.in_err-name.was)))

pub loop-i-preserved : goal.loop-i-preserved
loop-i-preserved c =
    let pushed : c.push.new.self ≡ c.loop-i.names ++ c.in_ok-name.name ∷ [] = search rules in
    rw pushed (c.loop-i.invariant
    ∙ each-ok (λ n x. item_of c.args.key x) c.loop-i.i c.get.result.now
    (drop (c.loop-i.i + 1) c.args.texts.now) (drop c.loop-i.i c.args.texts.now) c.loop-i.names c.in_ok-name.name
    (drop-got c.args.texts.now c.loop-i.i c.get.result.now c.get.ensures) (sym c.read_item.ensures ∙ c.in_ok-name.was))
