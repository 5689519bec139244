use Rattle.std.proofs.Common.{◌≡◌, sym, slice_get, Some, None}
use Rattle.job_desk.specs.Data.{texts_at}
use Rattle.job_desk.proofs.Entries.{first_line, no_missing}
use Rattle.job_desk.proofs.waiting.Waiting.first.Goals as goal

pub returns-in_err-text-clause-value : goal.returns-in_err-text-clause-value
returns-in_err-text-clause-value c =
    let s = c.self.inside in
    let entry = c.in_ok-entry.entry.now in
    let is_first : slice_get s.entries.items 0 ≡ Some entry = cc (c.as_slice.ensures.value, c.in_ok-entry.ensures.value) in
    let missing : slice_get (texts_at entry.point s.scripts) entry.next ≡ None = cc (c.in_err-text.ensures.value) in
    absurd (no_missing s.scripts s.entries.items entry is_first c.self.invariant missing)

pub returns-clause-value : goal.returns-clause-value
returns-clause-value c =
    let s = c.self.inside in
    let entry = c.in_ok-entry.entry.now in
    let text = c.in_ok-text.text.now.items in
    let is_first : slice_get s.entries.items 0 ≡ Some entry = cc (c.as_slice.ensures.value, c.in_ok-entry.ensures.value) in
    let there : slice_get (texts_at entry.point s.scripts) entry.next ≡ Some text = cc (c.in_ok-text.ensures.value) in
    rw (c.bounded_text.ensures, c.as_slice-2.ensures.value, ← c.self.view_is) (sym (first_line s.scripts s.entries.items entry text is_first there))
