use Rattle.std.proofs.Common.{◌≡◌, ◌+◌, ◌≤◌, length, drop, ◌∙◌, inr, rules, arith}
use Rattle.std.proofs.lemmas.Result.{err_from_is_err_and}
use Rattle.job_desk.specs.Data.{texts_at}
use Rattle.job_desk.specs.Scripts.{most_script_lines, with_text}
use Rattle.octo_settings.proofs.Each.{drop-got}
use Rattle.octo_settings.proofs.Lines.{lines-err, lines-ok, texts-more}
use Rattle.octo_settings.proofs.scripts.add_lines.Goals as goal

pub returns-in_err-text : goal.returns-in_err-text
returns-in_err-text c =
    let p = err_from_is_err_and c.from_residual.result c.from_residual.ensures.1 in
    rw (p.1, p.2) (inr (c.loop-i.invariant.0
    ∙ lines-err c.args.limits.now c.args.point (c.loop-i.i + 1) c.get.result.now (drop c.loop-i.i c.args.lines.now) (drop (c.loop-i.i + 1) c.args.lines.now) c.loop-i.scripts c.in_err-text.field-0.0
    (drop-got c.args.lines.now c.loop-i.i c.get.result.now c.get.ensures) c.in_err-text.ensures.exact))

pub loop-i-preserved : goal.loop-i-preserved
loop-i-preserved c =
    let added : c.add.new.self ≡ with_text c.args.point c.in_ok-text.text.items c.loop-i.scripts = search rules in
    let longer : length (texts_at c.args.point (with_text c.args.point c.in_ok-text.text.items c.loop-i.scripts)) ≡ length (texts_at c.args.point c.loop-i.scripts) + 1 = texts-more c.args.point c.in_ok-text.text.items c.loop-i.scripts in
    let room : length (texts_at c.args.point c.loop-i.scripts) + length c.args.lines.now ≤ most_script_lines + c.loop-i.i = c.loop-i.invariant.1 in
    rw added (
      c.loop-i.invariant.0
          ∙ lines-ok c.args.limits.now c.args.point (c.loop-i.i + 1) c.get.result.now c.in_ok-text.text.items (drop c.loop-i.i c.args.lines.now) (drop (c.loop-i.i + 1) c.args.lines.now) c.loop-i.scripts
          (drop-got c.args.lines.now c.loop-i.i c.get.result.now c.get.ensures) c.in_ok-text.ensures.exact,
      rw longer (omega arith),
    )
