-- What a look at the first bytes says of the whole input.
use Rattle.std.proofs.Common.{◌≡◌, ℕ, ◌≤◌, List, [], ◌++◌, length, take, drop, map, None, Some, sym, ap, ◌∙◌, subst, append_assoc, append-nil, arith}
use Rattle.std.proofs.lemmas.List.{length-take, length-map, take_at}
use Rattle.httparse.specs.declared.spans.RequestSpans.{RequestSpans}
use Rattle.httparse.specs.declared.spans.HeaderSpan.{HeaderSpan}
use Rattle.httparse.specs.Grammar.{RequestHead, print_request, ReadsRequest, HasNoRequest, NeverHasRequest}
use Rattle.httparse.specs.Spans.{name_and_value, header_bytes, span_bytes, IsRequestAt, IsRequestOf, IsRequestWithin, RequestExceeds}
use Rattle.octo_http.specs.Framing.{framing_of}
use Rattle.octo_http.specs.Fields.{FieldList}
use Rattle.octo_http.specs.declared.framing.Framing.{Framing}
use Rattle.octo_http.specs.declared.head.Head.{Head}
use Rattle.octo_http.specs.Head.{IsHeadOf, IsUnframed, IsFound, fields_of, head_with, head_of}

-- a front of the length of the printed head is the head
front_is : (bytes : List ℕ) (h : RequestHead) (n : ℕ) → n ≡ length (print_request h) → ReadsRequest bytes h (drop n bytes) → ReadsRequest (take n bytes) h []
front_is bytes h n long reads =
    (reads.0, ap (λ text. take n text) reads.1 ∙ take_at (print_request h) (drop n bytes) n (sym long) ∙ sym (append-nil (print_request h)))

-- a head that was found is one within the limits
pub found_within : (bytes : List ℕ) (spans : List HeaderSpan) (r : RequestSpans) (h : RequestHead) → IsRequestWithin bytes spans r
    → IsRequestAt bytes spans r h → length bytes ≤ 16384 → length spans ≡ 64 → IsHeadOf (take r.len bytes) h
found_within bytes spans r h within at short room = record {
  reads = front_is bytes h r.len at.len at.reads;
  short = omega (arith, length-take r.len bytes, short);
  few = omega (arith, sym (length-map (take r.headers spans) (header_bytes bytes)), ap length at.fields, length-map h.fields name_and_value, length-take r.headers spans, room);
}

-- a head that was found is what it says
pub found_at : (bytes : List ℕ) (spans : List HeaderSpan) (r : RequestSpans) (fields : FieldList) (framing : Framing) (head : Head)
    → IsRequestWithin bytes spans r → IsRequestOf bytes spans r → length bytes ≤ 16384 → length spans ≡ 64
    → fields ≡ map (header_bytes bytes) (take r.headers spans) → Some framing ≡ framing_of fields
    → head ≡ head_with (span_bytes bytes r.method) (span_bytes bytes r.path) fields framing → IsFound bytes (record { head = head; length = r.len })
found_at bytes spans r fields framing head within of short room same framed is =
    let h : RequestHead = of.0 in
    let are : fields ≡ fields_of h = same ∙ of.1.fields in
    let long : head.framing ≡ framing = ap (λ (x : Head). x.framing) is in
    let says : head ≡ head_of h framing =
    is ∙ ap (λ m. head_with m (span_bytes bytes r.path) fields framing) of.1.method
    ∙ ap (λ t. head_with h.method t fields framing) of.1.path ∙ ap (λ f. head_with h.method h.target f framing) are in
    record {
      within = within.section.len_fits;
      is = record {
        h = h;
        within = found_within bytes spans r h within of.1 short room;
        framed = sym (ap framing_of are) ∙ sym framed ∙ ap Some (sym long);
        is = says ∙ ap (λ f. head_of h f) (sym long);
      };
    }

-- a head whose fields contradict each other
pub unframed_at : (bytes : List ℕ) (spans : List HeaderSpan) (r : RequestSpans) → IsRequestWithin bytes spans r → IsRequestOf bytes spans r
    → length bytes ≤ 16384 → length spans ≡ 64 → None ≡ framing_of (map (header_bytes bytes) (take r.headers spans)) → IsUnframed (take r.len bytes)
unframed_at bytes spans r within of short room none =
    (of.0, found_within bytes spans r of.0 within of.1 short room, sym (none ∙ ap framing_of of.1.fields))

-- bytes that can't become a head can't with more after them
pub never_more : (front rest : List ℕ) → NeverHasRequest front → NeverHasRequest (front ++ rest)
never_more front rest never more =
    let Never : List ℕ → Type 0 = λ text. HasNoRequest text in
    subst Never (sym (append_assoc front rest more)) (never (rest ++ more))

-- too many fields stay too many with more bytes after them
pub exceeds_more : (front rest : List ℕ) → RequestExceeds 64 front → RequestExceeds 64 (front ++ rest)
exceeds_more front rest e = (e.0, e.1 ++ rest, ap (λ text. text ++ rest) e.2 ∙ append_assoc e.0 e.1 rest, e.3, e.4, e.5)
