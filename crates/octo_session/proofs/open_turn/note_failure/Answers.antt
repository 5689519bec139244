use Rattle.std.proofs.Common.{refl, ◌∙◌}
use Rattle.job_desk.specs.declared.link_fact.LinkFact.TheVariants as fact
use Rattle.octo_session.proofs.Counts.{noted_issued}
use Rattle.octo_session.proofs.open_turn.note_failure.Goals as goal

pub returns-clause-counts_issued : goal.returns-clause-counts_issued
returns-clause-counts_issued c =
    noted_issued c.args.acked fact.Failed c.args.moment c.note-first.new.self c.note-last.new.self refl c.note-last.ensures.after
    ∙ noted_issued c.args.acked fact.Quiet c.args.moment c.args.desk.now c.note-first.new.self refl c.note-first.ensures.after
