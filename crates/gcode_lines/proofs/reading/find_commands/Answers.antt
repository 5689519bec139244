use Rattle.std.proofs.Common.{◌≡◌, drop, inr, ap, ◌∙◌}
use Rattle.std.proofs.lemmas.List.{take_rest}
use Rattle.std.proofs.lemmas.Result.{err_from_is_err_and}
use Rattle.gcode_lines.proofs.Lines.{front_of, HasRead-start, HasRead-more, HasRead-end, HasRead-fault, job_of-large}
use Rattle.gcode_lines.proofs.reading.find_commands.Goals as goal

pub returns-then-bytes-gt-MOST_FILE_BYTES : goal.returns-then-bytes-gt-MOST_FILE_BYTES
returns-then-bytes-gt-MOST_FILE_BYTES c = inr (job_of-large c.args.bytes.now c.if-bytes-gt-MOST_FILE_BYTES.true)

pub loop-at-init : goal.loop-at-init
loop-at-init c = HasRead-start c.args.bytes.now c.new-places.result c.new-places.ensures

pub loop-at-preserved : goal.loop-at-preserved
loop-at-preserved c =
    let bytes = c.args.bytes.now in
    let line : c.first_line-line.result.bytes.now ≡ front_of (drop c.loop-at.at bytes) = c.first_line-line.ensures.value ∙ ap front_of (take_rest bytes c.loop-at.at) in
    rw c.in_ok-read_line.ensures.1 (HasRead-more bytes c.loop-at.at c.loop-at.number c.loop-at.places c.first_line-line.result.bytes.now c.loop-at.invariant c.loop-at-test.true c.if-bytes-gt-MOST_FILE_BYTES.false line c.in_ok-read_line.ensures.0)

pub returns-in_err-read_line : goal.returns-in_err-read_line
returns-in_err-read_line c =
    let bytes = c.args.bytes.now in
    let line : c.first_line-line.result.bytes.now ≡ front_of (drop c.loop-at.at bytes) = c.first_line-line.ensures.value ∙ ap front_of (take_rest bytes c.loop-at.at) in
    let told = err_from_is_err_and c.from_residual.result c.from_residual.ensures.1 in
    rw (told.1, told.2) (HasRead-fault bytes c.loop-at.at c.loop-at.number c.loop-at.places c.first_line-line.result.bytes.now c.in_err-read_line.field-0.0 c.loop-at.invariant c.if-bytes-gt-MOST_FILE_BYTES.false c.loop-at-test.true line c.in_err-read_line.ensures.0)

pub returns : goal.returns
returns c =
    HasRead-end c.args.bytes.now c.loop-at.at c.loop-at.number c.loop-at.places c.loop-at.invariant c.if-bytes-gt-MOST_FILE_BYTES.false c.loop-at-test.false
