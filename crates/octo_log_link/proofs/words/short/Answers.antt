use Rattle.std.proofs.Common.{ℕ, ap, ◌∙◌, take}
use Rattle.std.proofs.lemmas.List.{take_min}
use Rattle.octo_log_link.proofs.words.short.Goals as goal

pub returns-clause-value : goal.returns-clause-value
returns-clause-value c = ap (λ (n : ℕ). take n c.args.name.now) c.min.ensures ∙ take_min 100 c.args.name.now
