-- The name of an uploaded file that was sent with bytes beyond ASCII: a mark tells apart two that have the same `_`s.
use Rattle.std.specs.Prelude.{ℕ, ◌-◌, List, ◌++◌, length, take, drop, min, codes, if◌then◌else◌}
use Rattle.sha2.specs.Sha256.{sha256}
use Rattle.hex.specs.Hex.{encode_lower}
use Rattle.octo_access.specs.FileNames.{has_ending}

-- the first 8 hexadecimal digits of a name's SHA-256
abbrev pub mark_of : List ℕ → List ℕ
mark_of sent = encode_lower (take 4 (sha256 sent))

-- how many bytes the ending of a print file's name has, 0 if it has none
abbrev pub ending_len : List ℕ → ℕ
ending_len name =
    if has_ending (codes ".gcode") name then 6
    else if has_ending (codes ".gco") name then 4
    else if has_ending (codes ".g") name then 2
    else 0

-- how many bytes are in front of the ending
abbrev pub stem_len : List ℕ → ℕ
stem_len name = length name - ending_len name

-- a cleaned name with `-` and the mark of the sent one in front of its ending, cut in front of them to at most 100 bytes
abbrev pub marked : List ℕ → List ℕ → List ℕ
marked sent name =
    take (min (stem_len name) (91 - ending_len name)) name ++ codes "-" ++ mark_of sent ++ drop (stem_len name) name
