use Rattle.std.proofs.Common.{◌<◌, length, get_or, ap, ◌∙◌, arith}
use Rattle.std.proofs.lemmas.List.{length-map}
use Rattle.gcode_lines.specs.Packed.{begin_in, line_start, command_in}
use Rattle.gcode_lines.proofs.Kept.{at_entry}
use Rattle.gcode_lines.proofs.job.Job.place.Goals as goal

pub returns : goal.returns
returns c =
    let file = c.self.inside.file in
    let entries = c.self.inside.places.entries in
    let inside : c.args.i < length entries = omega (arith, ap (λ job. length job.commands) c.self.view_is, length-map entries (command_in file)) in
    let read = at_entry (λ k. k.place) file entries c.args.i 0 inside in
    let begin = c.begin_in.ensures ∙ ap (λ shown. begin_in (get_or shown c.args.i 0)) c.entries.ensures in
    rw (← c.self.view_is) (c.line_start.ensures ∙ ap (λ shown. line_start shown c.begin_in.result) c.as_slice.ensures ∙ ap (λ b. line_start file b) begin ∙ read)
