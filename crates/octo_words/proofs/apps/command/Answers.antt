use Rattle.std.proofs.Common.{◌≡◌, ◌<◌, [], length, get_or, ap, sym, ◌∙◌, arith, rules}
use Rattle.std.proofs.lemmas.List.Sums.{fold_more}
use Rattle.std.specs.Borrow.{Bor}
use Rattle.clap.specs.Words.{App, Text, app_of, new_app, rule_of, with_rule}
use Rattle.octo_words.specs.Apps.{with_argument}
use Rattle.octo_words.specs.declared.apps.Kind.{Kind}
use Rattle.octo_words.specs.declared.apps.Kind.TheVariants.{Operand}
use Rattle.octo_words.proofs.apps.command.Goals as goal

pub loop-kind-preserved : goal.loop-kind-preserved
loop-kind-preserved c =
    let arguments = c.args.arguments.now in
    let at = c.loop-kind.kind-index in
    let beyond : Kind × Bor Text = (Operand, record { ref_ptr = (0, 0); now = [] }) in
    let within : at < length arguments = omega arith in
    let grown : app_of c.in_ok-command.command ≡ with_rule (app_of c.loop-kind.command) (rule_of c.argument.result) =
    c.in_ok-command.ensures.shape c.argument.ensures.local in (
      grown ∙ ap (with_rule (app_of c.loop-kind.command)) c.argument.ensures.rule
          ∙ ap (λ (app : App). with_argument app (get_or arguments at beyond)) c.loop-kind.invariant.0
          ∙ sym (fold_more with_argument (new_app c.args.name.now) arguments at beyond within),
      search rules,
    )
