use Rattle.std.proofs.Common.{◌<◌, ◌≤◌, ◌+◌, length, slice_index_or, arith}
use Rattle.job_desk.specs.Data.{texts_at}
use Rattle.job_desk.specs.declared.state.Point.TheVariants as point
use Rattle.job_desk.specs.declared.waiting.Entry.{Entry}
use Rattle.job_desk.specs.Entries.{lines_left}
use Rattle.job_desk.proofs.Entries.{put_first, drop_first, some_entry}
use Rattle.job_desk.proofs.waiting.Waiting.advance.Goals as goal

no_entry : Entry
no_entry = record { point = point.Connected; print = 0; next = 0 }

pub returns-then-next-count-clause-lines : goal.returns-then-next-count-clause-lines
unfolding no_entry
returns-then-next-count-clause-lines c =
    let s = c.self.inside in
    let lines : 0 < length (lines_left s.scripts s.entries.items) = rw (← c.self.view_is) at c.requires in
    rw (c.deref_mut.ensures.value, c.deref.ensures.0, ← c.self.view_is) (put_first s.scripts s.entries.items no_entry c.self.invariant
    (some_entry s.scripts s.entries.items lines))

pub returns-else-next-count-clause-lines : goal.returns-else-next-count-clause-lines
unfolding no_entry
returns-else-next-count-clause-lines c =
    let s = c.self.inside in
    let lines : 0 < length (lines_left s.scripts s.entries.items) = rw (← c.self.view_is) at c.requires in
    let count = rw c.deref.ensures.0 at c.count-count.ensures in
    let last = rw c.deref.ensures.0 at c.if-next-count.false in
    let over : length (texts_at (slice_index_or s.entries.items 0 no_entry).point s.scripts) ≤ (slice_index_or s.entries.items 0 no_entry).next + 1 =
    omega (arith, count, last) in
    rw (c.remove.ensures.items, ← c.self.view_is) (drop_first s.scripts s.entries.items no_entry c.self.invariant (some_entry s.scripts s.entries.items lines)
    over)
