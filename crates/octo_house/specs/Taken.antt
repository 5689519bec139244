-- The answer to a print that began: of a file, or of an entry of the queue as it was before.
use Rattle.std.specs.Prelude.{Option, None, Some}
use Rattle.print_queue.specs.declared.entry.QueueEntry.{QueueEntry}
use Rattle.octo_asks.specs.Shown.{shown_entry}
use Rattle.octo_asks.specs.declared.answer.Answer.{Answer}
use Rattle.octo_asks.specs.declared.answer.Answer.TheVariants as answer

-- accepted for a file; for an entry of the queue, the entry as it was before
abbrev pub taken_answer : Option QueueEntry → Answer
taken_answer None = answer.Accepted
taken_answer (Some entry) = answer.TakenEntry (shown_entry entry)
