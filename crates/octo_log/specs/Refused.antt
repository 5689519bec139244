-- What a log gets of a connection's message and its reply.
use Rattle.std.specs.Prelude.{ℕ, ◌+◌, ◌-◌, ◌==◌, ◌||◌, ◌&&◌, Bool, not, nat_lt, if◌then◌else◌, List, [], ◌++◌, length, take, drop, codes, Result, Ok, Err}
use Rattle.std.specs.List.{prefix_len}
use Rattle.marlin_reply.specs.Pieces.{begins}
use Rattle.octo_outside.specs.declared.conn.Got.{Got}
use Rattle.octo_outside.specs.declared.conn.Got.TheVariants.{Bytes, Quiet, Ended}
use Rattle.octo_outside.specs.declared.types.Failed.{Failed}
use Rattle.octo_log.specs.Lines.{line_of}

-- the first 100 bytes that were read, after these bytes were
abbrev pub asked_after : List ℕ → List ℕ → List ℕ
asked_after asked bytes = asked ++ take (100 - length asked) bytes

-- after a read with this result
abbrev pub asked_by : List ℕ → Result Got Failed → List ℕ → List ℕ
asked_by asked (Ok (Bytes count)) into = asked_after asked (take count into)
asked_by asked (Ok Quiet) into = asked
asked_by asked (Ok Ended) into = asked
asked_by asked (Err failed) into = asked

-- whether bytes begin a reply
abbrev pub begins_reply : List ℕ → Bool
begins_reply bytes = begins bytes (codes "HTTP/1.1 ")

-- the status of the last reply, after these bytes were to be written
abbrev pub status_after : List ℕ → List ℕ → List ℕ
status_after status bytes = if begins_reply bytes then take 3 (drop 9 bytes) else status

-- whether bytes begin an object of JSON, as the body of a refusal does
abbrev pub begins_object : List ℕ → Bool
begins_object bytes = begins bytes (codes "{")

-- the first 200 bytes of the body of the last reply, after these bytes were to be written
abbrev pub cause_after : List ℕ → List ℕ → List ℕ
cause_after cause bytes =
    if begins_reply bytes then [] else (if begins_object bytes then take 200 bytes else cause)

-- whether a status is a refusal: it begins with a 4 or a 5
abbrev pub is_refusal : List ℕ → Bool
is_refusal status = begins status (codes "4") || begins status (codes "5")

-- whether a refusal is logged of every message: a key that names nobody or may not do it, and what fails in the host
abbrev pub is_grave : List ℕ → Bool
is_grave status = begins status (codes "401") || (begins status (codes "403") || begins status (codes "5"))

-- whether a message only looks at something
abbrev pub is_look : List ℕ → Bool
is_look asked = begins asked (codes "GET ") || begins asked (codes "HEAD ")

-- whether a connection has a line
abbrev pub is_logged : List ℕ → List ℕ → Bool
is_logged asked status = is_refusal status && (is_grave status || not (is_look asked))

-- a capital letter, as methods have
abbrev pub is_capital : ℕ → Bool
is_capital byte = nat_lt 64 byte && nat_lt byte 91

-- a byte of a path that is shown: no space, no control byte, none beyond ASCII, and no query
abbrev pub is_shown : ℕ → Bool
is_shown byte = nat_lt 32 byte && (nat_lt byte 127 && not (byte == 63))

-- the method of a message
abbrev pub method_of : List ℕ → List ℕ
method_of asked = take (prefix_len is_capital asked) asked

-- what comes after the method and a space
abbrev pub after_method : List ℕ → List ℕ
after_method asked = drop (prefix_len is_capital asked + 1) asked

-- the bytes of a path that are shown
abbrev pub shown_front : List ℕ → List ℕ
shown_front path = take (prefix_len is_shown path) path

-- whether a message begins with a method and a path
abbrev pub has_route : List ℕ → Bool
has_route asked = begins (drop (prefix_len is_capital asked) asked) (codes " /")

-- what a message asks: its method and its path without a query, if it has them
abbrev pub route : List ℕ → List ℕ
route asked =
    if has_route asked then method_of asked ++ codes " " ++ shown_front (after_method asked) else codes "no HTTP"

-- why it was refused, if the reply says it
abbrev pub cause_words : List ℕ → List ℕ
cause_words [] = []
cause_words cause = codes ": " ++ cause

-- a refusal: its status, what was asked, and why
abbrev pub refusal_words : List ℕ → List ℕ → List ℕ → List ℕ
refusal_words asked status cause = codes "refused: " ++ status ++ codes " " ++ route asked ++ cause_words cause

-- the line of a connection that is given back
abbrev pub refusal_line : List ℕ → List ℕ → List ℕ → List ℕ
refusal_line asked status cause =
    if is_logged asked status then line_of (refusal_words asked status cause) else []

-- a door that failed
abbrev pub door_words : List ℕ
door_words = codes "serving: a door failed"

-- the line of a call that takes the next connection
abbrev pub door_line : Bool → List ℕ
door_line failed = if failed then line_of door_words else []
