use Rattle.std.proofs.Common.{◌<◌, [], length, get_or, ap, sym, subst, ◌∙◌, arith}
use Rattle.std.proofs.lemmas.List.{length-map}
use Rattle.std.proofs.lemmas.List.Elements.{All-get_or}
use Rattle.byte_text.specs.Sendable.{IsSendable}
use Rattle.gcode_lines.specs.Held.{data_of}
use Rattle.gcode_lines.specs.Job.{texts_of}
use Rattle.gcode_lines.specs.Packed.{begin_in, length_in, command_in}
use Rattle.gcode_lines.proofs.Kept.{at_entry, text_in}
use Rattle.gcode_lines.proofs.job.Job.get.Goals as goal

pub returns-clause-value : goal.returns-clause-value
returns-clause-value c =
    let file = c.self.inside.file in
    let entries = c.self.inside.places.entries in
    let inside : c.args.i < length entries = omega (arith, ap (λ job. length job.commands) c.self.view_is, length-map entries (command_in file)) in
    let begin = c.begin_in-begin.ensures ∙ ap (λ shown. begin_in (get_or shown c.args.i 0)) c.entries.ensures in
    let size = c.length_in.ensures ∙ ap (λ shown. length_in (get_or shown c.args.i 0)) c.entries.ensures in
    rw (← c.self.view_is) (text_in file c.as_slice.result.now (get_or entries c.args.i 0) c.begin_in-begin.result c.length_in.result c.as_slice.ensures begin size ∙ at_entry (λ k. k.text) file entries c.args.i [] inside)

pub returns-clause-sendable : goal.returns-clause-sendable
returns-clause-sendable c =
    let file = c.self.inside.file in
    let entries = c.self.inside.places.entries in
    let inside : c.args.i < length entries = omega (arith, ap (λ job. length job.commands) c.self.view_is, length-map entries (command_in file)) in
    let there : c.args.i < length (texts_of (data_of c.self.inside)) = omega (arith, length-map (data_of c.self.inside).commands (λ k. k.text), length-map entries (command_in file)) in
    let begin = c.begin_in-begin.ensures ∙ ap (λ shown. begin_in (get_or shown c.args.i 0)) c.entries.ensures in
    let size = c.length_in.ensures ∙ ap (λ shown. length_in (get_or shown c.args.i 0)) c.entries.ensures in
    let read = text_in file c.as_slice.result.now (get_or entries c.args.i 0) c.begin_in-begin.result c.length_in.result c.as_slice.ensures begin size ∙ at_entry (λ k. k.text) file entries c.args.i [] inside in
    subst IsSendable (sym read) (All-get_or IsSendable (texts_of (data_of c.self.inside)) c.args.i [] there c.self.invariant.job.sendable)
