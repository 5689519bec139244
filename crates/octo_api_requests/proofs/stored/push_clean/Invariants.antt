use Rattle.std.proofs.Common.{◌≡◌, ◌++◌, map, take}
use Rattle.octo_api_requests.specs.Uploads.{clean_byte}
use Rattle.octo_api_requests.proofs.stored.push_clean.Given as goal

-- the name so far has the bytes so far
abbrev pub invariant-loop-byte : goal.invariant-loop-byte
invariant-loop-byte l = l.name.items ≡ l.initial.name.items ++ map clean_byte (take l.byte-index l.bytes)
