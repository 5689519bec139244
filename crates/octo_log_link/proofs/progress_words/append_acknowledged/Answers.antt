use Rattle.std.proofs.Common.{◌≡◌, ℕ, List, ◌++◌, decimal, ap, ◌∙◌, append_assoc}
use Rattle.std.specs.Prelude.{codes}
use Rattle.octo_log_link.proofs.progress_words.append_acknowledged.Goals as goal

-- one more addition
one_more : (old before more w x : List ℕ) → w ≡ old ++ before → x ≡ w ++ more → x ≡ old ++ (before ++ more)
one_more old before more w x first second = second ∙ (ap (λ (l : List ℕ). l ++ more) first ∙ append_assoc old before more)

pub returns-clause-items : goal.returns-clause-items
returns-clause-items c =
    let old = c.args.words.now.items in
    let done = decimal c.args.done in
    let named = done ++ codes " acknowledged, " in
    let again = named ++ decimal c.args.again in
    one_more old again (codes " again, ") _ _
    (one_more old named (decimal c.args.again) _ _
    (one_more old done (codes " acknowledged, ") _ _ c.append_count.ensures.items c.append.ensures.items) c.append_count-2.ensures.items) c.append-2.ensures.items
