use Rattle.std.proofs.Common.{◌≡◌, ◌∙◌, ℕ, ap}
use Rattle.std.specs.Prelude.{if◌then◌else◌}
use Rattle.std.specs.List.{list_any}
use Rattle.printer_model.specs.World.{WorldData, is_opened}
use Rattle.printer_link.specs.Memory.{story_world}
use Rattle.printer_link.proofs.Stories.{dialled, on_ok_so}
use Rattle.printer_link.proofs.story.Story.dial.Goals as goal

pub returns-clause-ok : goal.returns-clause-ok
returns-clause-ok c =
    let opened = c.has_opened-opened.result in
    let opened_is : c.has_opened-opened.result ≡ list_any is_opened c.args.self.now.past = c.has_opened-opened.ensures ∙ ap (list_any is_opened) c.past.ensures in
    let last_is : c.later_or_first.result ≡ (if c.has_opened-opened.result then (story_world c.run_all.new.self).printer.last else c.args.first) =
    c.later_or_first.ensures
    ∙ ap (λ (n : ℕ). if c.has_opened-opened.result then n else c.args.first) (c.last.ensures ∙ ap (λ (w : WorldData). w.printer.last) c.world.ensures)
    in
    on_ok_so c.open.result c.open.ensures.ok
    (λ is. dialled c.args.self.now c.run_all.new.self c.open.new.self c.args.first c.later_or_first.result opened c.in_ok-run_all.ensures.ok opened_is last_is is)
