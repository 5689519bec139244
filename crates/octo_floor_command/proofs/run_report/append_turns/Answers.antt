use Rattle.std.proofs.Common.{ℕ, List, ◌++◌, codes, decimal, ap, ◌∙◌, append_assoc}
use Rattle.octo_floor_command.proofs.run_report.append_turns.Goals as goal

pub returns : goal.returns
returns c =
    let before = c.args.page.now.items in
    let number = decimal c.args.turns in
    c.append-2.ensures.items
    ∙ ap (λ (text : List ℕ). text ++ codes "\n") (c.append_whole.ensures.items ∙ ap (λ (text : List ℕ). text ++ number) c.append.ensures.items)
    ∙ append_assoc (before ++ codes "turns used: ") number (codes "\n")
    ∙ append_assoc before (codes "turns used: ") (number ++ codes "\n")
