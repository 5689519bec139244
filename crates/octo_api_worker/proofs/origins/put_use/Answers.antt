use Rattle.std.proofs.Common.{◌≡◌, ℕ, List, ◌++◌, ap, ◌∙◌, append_assoc}
use Rattle.std.specs.Prelude.{codes}
use Rattle.octo_api_refusals.specs.Reasons.{methods_text}
use Rattle.octo_api_worker.specs.Origins.{field_line}
use Rattle.octo_api_worker.proofs.origins.put_use.Goals as goal

pub returns : goal.returns
returns c =
    let named : List ℕ → List ℕ = field_line (codes "Access-Control-Allow-Methods") in
    let headers : List ℕ = field_line (codes "Access-Control-Allow-Headers") (codes "X-Api-Key, Content-Type") in
    let value : c.as_bytes.result.now ≡ methods_text c.args.allowed = c.as_bytes.ensures.value ∙ c.as_str.ensures.value ∙ c.methods_text-names.ensures in
    let first : c.put_field.new.lines.items ≡ c.args.lines.now.items ++ named (methods_text c.args.allowed) =
    c.put_field.ensures.items ∙ ap (λ (text : List ℕ). c.args.lines.now.items ++ named text) value in
    c.put_field-2.ensures.items ∙ ap (λ (front : List ℕ). front ++ headers) first
    ∙ append_assoc c.args.lines.now.items (named (methods_text c.args.allowed)) headers
