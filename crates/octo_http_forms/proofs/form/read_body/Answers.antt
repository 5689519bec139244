use Rattle.std.proofs.Common.{◌≡◌, ◌∷◌, drop, ap, ◌∙◌, subst, Err}
use Rattle.octo_http_forms.specs.declared.types.PartFault.TheVariants.{NoClose}
use Rattle.octo_http_forms.specs.Parts.{BodyReadsAs, unclosed}
use Rattle.octo_http_forms.proofs.Forms.{says_all}
use Rattle.octo_http_forms.proofs.form.read_body.Goals as goal

pub returns-in-Some-clause-says : goal.returns-in-Some-clause-says
returns-in-Some-clause-says c =
    let body = c.args.body.now in
    let dashes : drop 2 c.new-finder.result ≡ 45 ∷ 45 ∷ c.args.boundary.now = ap (drop 2)
    (c.new-finder.ensures ∙ c.as_slice.ensures.value ∙ c.line_of-line.ensures) in
    let seen = c.in-Some.ensures.seen in
    subst (λ d. BodyReadsAs body d c.result.result) dashes (says_all body
    (drop 2 c.new-finder.result) seen.0 c.in-Some.seen c.result.result seen.1 seen.2 c.result.ensures.says)

pub returns-clause-says : goal.returns-clause-says
returns-clause-says c =
    let body = c.args.body.now in
    let dashes : drop 2 c.new-finder.result ≡ 45 ∷ 45 ∷ c.args.boundary.now = ap (drop 2)
    (c.new-finder.ensures ∙ c.as_slice.ensures.value ∙ c.line_of-line.ensures) in
    subst (λ d. BodyReadsAs body d (Err NoClose)) dashes (unclosed c.in-None.ensures.unclosed)
