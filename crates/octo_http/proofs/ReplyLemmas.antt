-- How long the phrases of statuses are, and how the parts of a reply join.
use Rattle.std.proofs.Common.{◌≡◌, ℕ, ◌+◌, ◌<◌, ◌≤◌, Bool, true, false, List, [], ◌++◌, length, take, drop, min, Option, Some, Result, Ok, Err, refl, sym, ap, ◌∙◌, subst, append_assoc, arith, lit≤, lit<}
use Rattle.std.specs.Prelude.{codes, unwrap_or, if◌then◌else◌, ◌==◌, ◌&&◌, nat_le, nat_lt, decimal, ◌^◌, OnErr}
use Rattle.std.proofs.lemmas.List.{take_min, take-append-le, take-append-drop}
use Rattle.std.proofs.Math.Seq.{take-append-add}
use Rattle.std.proofs.lemmas.Bool.Decides.{nat_tests}
use Rattle.http.specs.StatusCode.{reason_phrase, IsStatusCode}
use Rattle.std.proofs.lemmas.Fmt.{length-decimal-le}
use Rattle.octo_http.specs.Reply.{reason_of, phrase_of, head_bytes, sent_body, reply_head, reply_bytes}
use Rattle.octo_http.specs.declared.reply.HttpReply.{HttpReply}
use Rattle.octo_outside.specs.Recorded.{Adds, AddsPrefix}
use Rattle.octo_outside.proofs.Recorded.{became_so, became_then, adds_then}

-- a phrase of at most 31 bytes, or none
abbrev IsShort : Option (List ℕ) → Type 0
IsShort phrase = length (unwrap_or phrase []) ≤ 31

choose : (b : Bool) (phrase : List ℕ) (rest : Option (List ℕ)) → length phrase ≤ 31 → IsShort rest → IsShort (if b then Some phrase else rest)
choose true phrase rest short other = short
choose false phrase rest short other = other

-- the phrases of http, one after the other
pub reason_short : (n : ℕ) → length (reason_of n) ≤ 31
unfolding reason_of
reason_short n =
    choose (n == 100) (codes "Continue") _ (lit≤ tt) (choose (n == 101) (codes "Switching Protocols") _ (lit≤ tt) (
    choose (n == 102) (codes "Processing") _ (lit≤ tt) (choose (n == 103) (codes "Early Hints") _ (lit≤ tt) (
    choose (n == 200) (codes "OK") _ (lit≤ tt) (choose (n == 201) (codes "Created") _ (lit≤ tt) (choose (n == 202) (codes "Accepted") _ (lit≤ tt) (
    choose (n == 203) (codes "Non Authoritative Information") _ (lit≤ tt) (choose (n == 204) (codes "No Content") _ (lit≤ tt) (
    choose (n == 205) (codes "Reset Content") _ (lit≤ tt) (choose (n == 206) (codes "Partial Content") _ (lit≤ tt) (
    choose (n == 207) (codes "Multi-Status") _ (lit≤ tt) (choose (n == 208) (codes "Already Reported") _ (lit≤ tt) (
    choose (n == 226) (codes "IM Used") _ (lit≤ tt) (choose (n == 300) (codes "Multiple Choices") _ (lit≤ tt) (
    choose (n == 301) (codes "Moved Permanently") _ (lit≤ tt) (choose (n == 302) (codes "Found") _ (lit≤ tt) (
    choose (n == 303) (codes "See Other") _ (lit≤ tt) (choose (n == 304) (codes "Not Modified") _ (lit≤ tt) (
    choose (n == 305) (codes "Use Proxy") _ (lit≤ tt) (choose (n == 307) (codes "Temporary Redirect") _ (lit≤ tt) (
    choose (n == 308) (codes "Permanent Redirect") _ (lit≤ tt) (choose (n == 400) (codes "Bad Request") _ (lit≤ tt) (
    choose (n == 401) (codes "Unauthorized") _ (lit≤ tt) (choose (n == 402) (codes "Payment Required") _ (lit≤ tt) (
    choose (n == 403) (codes "Forbidden") _ (lit≤ tt) (choose (n == 404) (codes "Not Found") _ (lit≤ tt) (
    choose (n == 405) (codes "Method Not Allowed") _ (lit≤ tt) (choose (n == 406) (codes "Not Acceptable") _ (lit≤ tt) (
    choose (n == 407) (codes "Proxy Authentication Required") _ (lit≤ tt) (choose (n == 408) (codes "Request Timeout") _ (lit≤ tt) (
    choose (n == 409) (codes "Conflict") _ (lit≤ tt) (choose (n == 410) (codes "Gone") _ (lit≤ tt) (
    choose (n == 411) (codes "Length Required") _ (lit≤ tt) (choose (n == 412) (codes "Precondition Failed") _ (lit≤ tt) (
    choose (n == 413) (codes "Payload Too Large") _ (lit≤ tt) (choose (n == 414) (codes "URI Too Long") _ (lit≤ tt) (
    choose (n == 415) (codes "Unsupported Media Type") _ (lit≤ tt) (choose (n == 416) (codes "Range Not Satisfiable") _ (lit≤ tt) (
    choose (n == 417) (codes "Expectation Failed") _ (lit≤ tt) (choose (n == 418) (codes "I'm a teapot") _ (lit≤ tt) (
    choose (n == 421) (codes "Misdirected Request") _ (lit≤ tt) (choose (n == 422) (codes "Unprocessable Entity") _ (lit≤ tt) (
    choose (n == 423) (codes "Locked") _ (lit≤ tt) (choose (n == 424) (codes "Failed Dependency") _ (lit≤ tt) (
    choose (n == 425) (codes "Too Early") _ (lit≤ tt) (choose (n == 426) (codes "Upgrade Required") _ (lit≤ tt) (
    choose (n == 428) (codes "Precondition Required") _ (lit≤ tt) (choose (n == 429) (codes "Too Many Requests") _ (lit≤ tt) (
    choose (n == 431) (codes "Request Header Fields Too Large") _ (lit≤ tt) (choose (n == 451) (codes "Unavailable For Legal Reasons") _ (lit≤ tt) (
    choose (n == 500) (codes "Internal Server Error") _ (lit≤ tt) (choose (n == 501) (codes "Not Implemented") _ (lit≤ tt) (
    choose (n == 502) (codes "Bad Gateway") _ (lit≤ tt) (choose (n == 503) (codes "Service Unavailable") _ (lit≤ tt) (
    choose (n == 504) (codes "Gateway Timeout") _ (lit≤ tt) (choose (n == 505) (codes "HTTP Version Not Supported") _ (lit≤ tt) (
    choose (n == 506) (codes "Variant Also Negotiates") _ (lit≤ tt) (choose (n == 507) (codes "Insufficient Storage") _ (lit≤ tt) (
    choose (n == 508) (codes "Loop Detected") _ (lit≤ tt) (choose (n == 510) (codes "Not Extended") _ (lit≤ tt) (
    choose (n == 511) (codes "Network Authentication Required") _ (lit≤ tt) (omega arith))))))))))))))))))))))))))))))))))))))))))))))))))))))))))))))

-- the phrase that a look-up returns
pub reason_found : (phrase : Option (List ℕ)) (n : ℕ) → phrase ≡ reason_phrase n → unwrap_or phrase [] ≡ reason_of n
unfolding reason_of
reason_found phrase n is = ap (λ o. unwrap_or o []) is

-- a text that is a phrase is short
pub short_text : (text : List ℕ) (n : ℕ) → text ≡ reason_of n → length text ≤ 31
short_text text n is = omega (arith, ap length is, reason_short n)

-- the phrase of a status code
pub phrase_known : (n code : ℕ) (text : List ℕ) → IsStatusCode n → code ≡ n → text ≡ reason_of code → text ≡ phrase_of n
unfolding phrase_of
phrase_known n code text is same found = found ∙ ap reason_of same ∙ sym (ap (λ (b : Bool). if b then reason_of n else []) (in_range n is))
  where
    in_range : (k : ℕ) → IsStatusCode k → (nat_le 100 k && nat_lt k 1000) ≡ true
    in_range k h = grind (arith, nat_tests)

-- no phrase for another number
pub phrase_unknown : (n : ℕ) → ¬ (IsStatusCode n) → [] ≡ phrase_of n
unfolding phrase_of
phrase_unknown n not_code = sym (ap (λ (b : Bool). if b then reason_of n else []) (by (nat_le 100 n && nat_lt n 1000) refl))
  where
    is_code : (k : ℕ) → (nat_le 100 k && nat_lt k 1000) ≡ true → IsStatusCode k
    is_code k h = grind (arith, nat_tests)

    by : (b : Bool) → (nat_le 100 n && nat_lt n 1000) ≡ b → b ≡ false
    by true h = absurd (not_code (is_code n h))
    by false h = refl

-- a prefix of the first bytes
pub prefix_front : (old new : Option (List ℕ)) (a b : List ℕ) → AddsPrefix old new a → AddsPrefix old new (a ++ b)
prefix_front old new a b adds =
    became_so old new (λ _ added. (n : ℕ) × (added ≡ take n a)) (λ _ added. (n : ℕ) × (added ≡ take n (a ++ b))) adds
    (λ past added is. (min is.0 (length a), is.1 ∙ sym (take_min is.0 a) ∙ sym (take-append-le (min is.0 (length a)) a b (omega arith))))

-- the first bytes, and a prefix of the next
pub prefix_then : (old mid new : Option (List ℕ)) (a b : List ℕ) → Adds old mid a → AddsPrefix mid new b → AddsPrefix old new (a ++ b)
prefix_then old mid new a b first second =
    became_then old mid new (λ _ added. added ≡ a) (λ _ added. (n : ℕ) × (added ≡ take n b)) (λ _ added. (n : ℕ) × (added ≡ take n (a ++ b))) first second
    (λ past added more p q. (length a + q.0, ap (λ text. text ++ more) p ∙ ap (λ text. a ++ text) q.1 ∙ sym (take-append-add a b q.0)))

-- a number of 64 bits has at most 20 digits
pub decimal_short : (n : ℕ) → n < 2 ^ 64 → length (decimal n) ≤ 20
decimal_short n below = length-decimal-le 20 n (lit< tt) (omega arith) below

-- what is before a body of this length is the head of the reply
pub head_is : (r : HttpReply) (head body : List ℕ) → body ≡ sent_body r.status r.kind r.body → head ≡ head_bytes r.status r.kind (length body) r.fields.items
    → head ≡ reply_head r
head_is r head body is at = at ∙ ap (λ text. head_bytes r.status r.kind (length text) r.fields.items) is

-- head and body are the reply
pub joined : (r : HttpReply) (head body : List ℕ) (n : ℕ) → body ≡ sent_body r.status r.kind r.body → n ≡ length body → head ≡ head_bytes r.status r.kind n r.fields.items
    → head ++ body ≡ reply_bytes r
joined r head body n is long at =
    ap (λ text. text ++ body) (at ∙ ap (λ k. head_bytes r.status r.kind k r.fields.items) (long ∙ ap length is)) ∙ ap
    (λ text. head_bytes r.status r.kind (length (sent_body r.status r.kind r.body)) r.fields.items ++ text) is

-- a head with the front of a body, and the rest of the body, are both
pub in_two : (head body front rest : List ℕ) (n : ℕ) → front ≡ head ++ take n body → rest ≡ drop n body → front ++ rest ≡ head ++ body
in_two head body front rest n is left =
    ap (λ text. text ++ rest) is ∙ append_assoc head (take n body) rest
    ∙ ap (λ text. head ++ (take n body ++ text)) left ∙ ap (λ text. head ++ text) (take-append-drop n body)

-- both were written
pub replied : (r : HttpReply) (old mid new : Option (List ℕ)) (head body : List ℕ) → head ++ body ≡ reply_bytes r → Adds old mid head → Adds mid new body
    → Adds old new (reply_bytes r)
replied r old mid new head body is first second =
    let Added : List ℕ → Type 0 = λ text. Adds old new text in
    subst Added is (adds_then old mid new head body first second)

-- part of the head was written
pub replied_head : (r : HttpReply) (old new : Option (List ℕ)) (head body : List ℕ) → head ++ body ≡ reply_bytes r → AddsPrefix old new head
    → AddsPrefix old new (reply_bytes r)
replied_head r old new head body is first =
    let Added : List ℕ → Type 0 = λ text. AddsPrefix old new text in
    subst Added is (prefix_front old new head body first)

-- the head and part of the body were written
pub replied_body : (r : HttpReply) (old mid new : Option (List ℕ)) (head body : List ℕ) → head ++ body ≡ reply_bytes r → Adds old mid head
    → AddsPrefix mid new body → AddsPrefix old new (reply_bytes r)
replied_body r old mid new head body is first second =
    let Added : List ℕ → Type 0 = λ text. AddsPrefix old new text in
    subst Added is (prefix_then old mid new head body first second)

-- a failed call
pub on_failed : {E : Type 0} (r : Result (Unit {0}) E) (P : Type 0) → P → OnErr r P
on_failed (Ok x) P holds = tt
on_failed (Err e) P holds = holds
