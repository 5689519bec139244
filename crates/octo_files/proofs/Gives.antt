-- The job of a file, by what was read of it.
use Rattle.std.proofs.Common.{◌≡◌, ◌<◌, ◌⊎◌, inl, inr, ℕ, ◌+◌, List, length, replicate, Option, Some, None, Result, Ok, Err, refl, sym, ap, ◌∙◌, arith, subst}
use Rattle.std.specs.Prelude.{IfSome}
use Rattle.std.proofs.lemmas.List.{length-replicate}
use Rattle.octo_outside.specs.Traits.{Files, HoldsOver}
use Rattle.octo_files.specs.declared.report.Report.{Report}
use Rattle.octo_files.specs.declared.report.Report.TheVariants as report
use Rattle.octo_files.specs.Reading.{FileGives, IsTroubled}
use Rattle.octo_files.specs.Settings.{AreSettings}
use Rattle.octo_settings.specs.declared.settings.Settings.{Settings}

over_held : (all : Files) (file : List ℕ) (held : Option (List ℕ)) (most : ℕ) (Gives : List ℕ → Type 0) → all file ≡ held → HoldsOver held most → ((bytes : List ℕ) → most < length bytes → Gives bytes) → FileGives (Some all) file Gives
over_held all file None most Gives is over given = absurd over
over_held all file (Some bytes) most Gives is over given = record { bytes = bytes; held = is; given = given bytes over }

-- a file over a size, all of which are read as the same
pub over_gives : (files : Option Files) (file : List ℕ) (most : ℕ) (Gives : List ℕ → Type 0) → IfSome files (λ all. HoldsOver (all file) most) → ((bytes : List ℕ) → most < length bytes → Gives bytes) → FileGives files file Gives
over_gives None file most Gives over given =
    let zero : ℕ = 0 in
    let bytes : List ℕ = replicate (most + 1) zero in
    let size : length bytes ≡ most + 1 = length-replicate (most + 1) zero in
    record { bytes = bytes; held = tt; given = given bytes (omega (arith, size)) }
over_gives (Some all) file most Gives over given = over_held all file (all file) most Gives refl over given

-- settings of the bytes that a source has returned for a file
pub held_settings : (files : Option Files) (file bytes read : List ℕ) (result : Result Settings Report)
    → IfSome files (λ all. all file ≡ Some bytes) → read ≡ bytes → (result ≡ Err report.NoMemory) ⊎ AreSettings read result
    → IsTroubled result ⊎ FileGives files file (λ given. AreSettings given result)
held_settings files file bytes read result held same (inl none) = inl (subst (λ (r : Result Settings Report). IsTroubled r) (sym none) (inl refl))
held_settings files file bytes read result held same (inr are) =
    inr (record { bytes = bytes; held = held; given = subst (λ given. AreSettings given result) same are })

-- what a file that a source records is read as
pub given_at : (all : Files) (file bytes : List ℕ) (Gives : List ℕ → Type 0) → FileGives (Some all) file Gives → all file ≡ Some bytes → Gives bytes
given_at all file bytes Gives g held =
    let same : Some g.bytes ≡ Some bytes = sym g.held ∙ held in
    let is : g.bytes ≡ bytes = cc in
    subst Gives is g.given

-- a file that a recording source doesn't hold has no job
pub absent_gives : (all : Files) (file : List ℕ) (Gives : List ℕ → Type 0) → FileGives (Some all) file Gives → all file ≡ None → ⊥
absent_gives all file Gives g absent = absurd (cc)
