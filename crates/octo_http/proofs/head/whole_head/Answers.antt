use Rattle.std.proofs.Common.{◌∙◌, ap, inr}
use Rattle.octo_http.specs.Framing.{framing_of}
use Rattle.octo_http.proofs.GrammarHead.{found_at, unframed_at}
use Rattle.octo_http.proofs.head.whole_head.Goals as goal

pub returns-in-None-clause-refused : goal.returns-in-None-clause-refused
returns-in-None-clause-refused c =
    let bytes = c.args.bytes.now in
    let none = c.in-None.ensures ∙ ap framing_of c.new-fields.ensures in
    inr (
      c.args.request.now.len,
      c.requires.within.section.len_fits,
      unframed_at bytes c.args.spans.now c.args.request.now c.requires.within c.requires.is c.requires.short c.requires.spans none,
    )

pub returns-in_ok-head_of-in-Some-clause-found : goal.returns-in_ok-head_of-in-Some-clause-found
returns-in_ok-head_of-in-Some-clause-found c =
    found_at c.args.bytes.now c.args.spans.now c.args.request.now _ _ c.in_ok-head_of-in-Some.field-0 c.requires.within c.requires.is c.requires.short
    c.requires.spans c.new-fields.ensures c.in-Some.ensures c.in_ok-head_of-in-Some.ensures
