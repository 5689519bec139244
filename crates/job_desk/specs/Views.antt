-- The values of the desk's calls as plain data.
use Rattle.std.specs.Prelude.{◌≡◌, ℕ, List, map, Option, None, Some}
use Rattle.arrayvec.specs.ArrayVec.{ArrayVec}
use Rattle.job_desk.specs.Data.{Data}
use Rattle.job_desk.specs.Pull.{Drawn}
use Rattle.job_desk.specs.Issued.{line_of}
use Rattle.job_desk.specs.declared.issued.Issued.{Issued}

-- the bytes of texts
abbrev pub bytes_of : List (ArrayVec ℕ) → List (List ℕ)
bytes_of texts = map (λ t. t.items) texts

-- a part of a pull returned this: without a line the desk is as before, and what is next counts
abbrev pub DrawsFrom : (Drawn → Drawn) → Option Issued → Data → Data → Type 0
DrawsFrom from None old new = (new ≡ old) × ((next : Drawn) → from next ≡ next)
DrawsFrom from (Some issued) old new = (next : Drawn) → from next ≡ (Some (line_of issued), new)
