use Rattle.std.proofs.Common.{ℕ, arith, subst}
use Rattle.octo_http.specs.Part.{IsChunkHead}
use Rattle.octo_http.proofs.Filling.{on_exit}
use Rattle.octo_http.proofs.ChunkLemmas.{stops_line, stops_trailers, stops_large, stops_short, stops_end, adds_last, adds_chunk, fits_by}
use Rattle.octo_http.proofs.chunks.read_chunk.Goals as goal

pub returns-in_err-size-clause-stops : goal.returns-in_err-size-clause-stops
returns-in_err-size-clause-stops g c =
    on_exit _ c.in_err-size.field-0.0 _ c.from_residual.ensures.1
    (stops_line c.args.body.now _ _ _ _ c.in_err-size.ensures.stops)

pub returns-in_err-read_part-clause-stops : goal.returns-in_err-read_part-clause-stops
returns-in_err-read_part-clause-stops g c =
    let line = c.in_ok-size.ensures.part in
    let Head : ℕ → Type 0 = λ n. IsChunkHead line.0 n in
    on_exit _ c.in_err-read_part.field-0.0 _ c.from_residual-in_err-read_part.ensures.1
    (stops_trailers c.args.body.now line.0 _ _ _ _ _ _ line.2 (subst Head c.if-size-eq0.true line.1) c.in_err-read_part.ensures.stops)

pub returns-then-size-eq0-clause-chunk : goal.returns-then-size-eq0-clause-chunk
returns-then-size-eq0-clause-chunk g c =
    let line = c.in_ok-size.ensures.part in
    let trailers = c.in_ok-read_part.ensures.part in
    let Head : ℕ → Type 0 = λ n. IsChunkHead line.0 n in
    adds_last c.args.body.now line.0 trailers.0 c.in_ok-read_part.field-0 _ _ _ _ _ _ line.2 trailers.2 (subst Head c.if-size-eq0.true line.1) trailers.1

pub returns-then-size-len-clause-stops : goal.returns-then-size-len-clause-stops
returns-then-size-len-clause-stops g c =
    let line = c.in_ok-size.ensures.part in
    stops_large c.args.body.now line.0 c.in_ok-size.size _ _ _ _ line.2 line.1 (omega (arith, c.len.ensures, c.if-size-len.true))

pub returns-in_err-fill-clause-stops : goal.returns-in_err-fill-clause-stops
returns-in_err-fill-clause-stops g c =
    let line = c.in_ok-size.ensures.part in
    on_exit _ c.in_err-fill.field-0.0 _ c.from_residual-in_err-fill.ensures.1
    (stops_short c.args.body.now line.0 c.in_ok-size.size _ _ _ _ _ _ line.2
    (fits_by _ line.0 _ line.1 c.if-size-eq0.false c.requires (omega (arith, c.len.ensures, c.if-size-len.false)))
    c.in_err-fill.ensures.stops)

pub returns-in_err-read_part-2-clause-stops : goal.returns-in_err-read_part-2-clause-stops
returns-in_err-read_part-2-clause-stops g c =
    let line = c.in_ok-size.ensures.part in
    let piece = c.in_ok-fill.ensures.ok in
    on_exit _ c.in_err-read_part-2.field-0.0 _ c.from_residual-in_err-read_part-2.ensures.1
    (stops_end c.args.body.now line.0 piece.0 c.in_ok-size.size _ _ _ _ _ _ _ _ line.2 piece.3
    (fits_by _ line.0 _ line.1 c.if-size-eq0.false c.requires (omega (arith, c.len.ensures, c.if-size-len.false)))
    piece.1 c.in_err-read_part-2.ensures.stops)

pub returns-clause-chunk : goal.returns-clause-chunk
returns-clause-chunk g c =
    let line = c.in_ok-size.ensures.part in
    let piece = c.in_ok-fill.ensures.ok in
    let ending = c.in_ok-read_part-2.ensures.part in
    adds_chunk c.args.body.now _ line.0 piece.0 ending.0 c.in_ok-size.size _ _ _ _ _ _ _ _ line.2 piece.3 ending.2
    (fits_by _ line.0 _ line.1 c.if-size-eq0.false c.requires (omega (arith, c.len.ensures, c.if-size-len.false)))
    piece.1 piece.2 ending.1
