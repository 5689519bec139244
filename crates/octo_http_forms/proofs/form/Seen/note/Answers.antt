use Rattle.std.proofs.Common.{refl, sym}
use Rattle.octo_http_forms.proofs.Forms.{seen_field, seen_bad}
use Rattle.octo_http_forms.proofs.form.Seen.note.Goals as goal

pub returns-in-Some-clause-seen : goal.returns-in-Some-clause-seen
returns-in-Some-clause-seen c = λ parts before.
    seen_field c.args.body.now parts c.args.part c.in-Some.field c.args.self.now
    (record { bad = c.args.self.now.bad; parts = c.with_field-self.result })
    (sym c.in-Some.ensures.value) refl c.with_field-self.ensures.adds before

pub returns-in-None-clause-seen : goal.returns-in-None-clause-seen
returns-in-None-clause-seen c = λ parts before.
    seen_bad c.args.body.now parts c.args.part c.args.self.now (record { bad = c.or-self.result; parts = c.args.self.now.parts })
    (sym c.in-None.ensures.value) c.or-self.ensures refl before
