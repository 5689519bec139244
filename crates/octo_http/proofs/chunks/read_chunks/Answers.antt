use Rattle.std.proofs.Common.{rules, arith, ap, length, [], ◌++◌}
use Rattle.octo_http.proofs.Filling.{on_exit}
use Rattle.octo_http.proofs.Reading.{took_none, took_then, waits_none}
use Rattle.octo_http.proofs.ChunkLemmas.{leads_none, leads_chunk, leads_last, stops_leads}
use Rattle.octo_http.proofs.chunks.read_chunks.Goals as goal

pub chunks-init : goal.chunks-init
chunks-init g c = record {
  sofar = ([], took_none _ _, leads_none _ c.new-body.ensures);
  few = omega (arith, ap length c.new-body.ensures);
  waits = waits_none _ _ _;
  written = search rules;
}

pub chunks-preserved : goal.chunks-preserved
chunks-preserved g c =
    let sofar = c.chunks.invariant.sofar in
    let added = rw c.in-Chunk.is at c.in_ok-read_chunk.ensures.chunk in
    record {
      sofar = (sofar.0 ++ added.0, took_then _ _ _ _ _ _ sofar.0 added.0 sofar.1 added.2, leads_chunk _ _ sofar.0 added.0 sofar.2 added.1);
      few = added.1.1;
      waits = search rules;
      written = search rules;
    }

pub chunks-smaller : goal.chunks-smaller
chunks-smaller g c =
    let added = rw c.in-Chunk.is at c.in_ok-read_chunk.ensures.chunk in
    omega (arith, added.1.0, added.1.1)

pub returns-in-Last-clause-body : goal.returns-in-Last-clause-body
returns-in-Last-clause-body g c =
    let sofar = c.chunks.invariant.sofar in
    let added = rw c.in-Last.is at c.in_ok-read_chunk.ensures.chunk in
    (sofar.0 ++ added.0, leads_last _ _ sofar.0 added.0 sofar.2 added.1, took_then _ _ _ _ _ _ sofar.0 added.0 sofar.1 added.2)

pub returns-in_err-read_chunk-clause-stops : goal.returns-in_err-read_chunk-clause-stops
returns-in_err-read_chunk-clause-stops g c =
    let sofar = c.chunks.invariant.sofar in
    on_exit _ c.in_err-read_chunk.field-0.0 _ c.from_residual.ensures.1
    (stops_leads _ _ _ _ _ _ sofar.0 _ sofar.1 sofar.2 c.in_err-read_chunk.ensures.stops)
