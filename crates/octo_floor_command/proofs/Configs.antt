-- Settings of a floor, by what was read of their file.
use Rattle.std.proofs.Common.{◌≡◌, ◌<◌, ◌⊎◌, inl, inr, ℕ, List, length, Option, Some, None, Result, Err, refl, sym, ap, subst}
use Rattle.std.specs.Prelude.{IfSome}
use Rattle.std.proofs.lemmas.Bool.{lt-leb}
use Rattle.octo_outside.specs.Traits.{Files}
use Rattle.octo_files.specs.Reading.{IsTroubled}
use Rattle.octo_files.specs.declared.report.Report.{Report}
use Rattle.octo_files.specs.declared.report.Report.TheVariants as report
use Rattle.octo_settings.specs.Config.{document_of, most_config_bytes, settings_or}
use Rattle.octo_settings.specs.Values.{and_then}
use Rattle.octo_settings.specs.declared.fault.SettingsFault.TheVariants.{NotToml}
use Rattle.octo_settings.specs.Floor.{printers_or, with_printers}
use Rattle.octo_settings.specs.declared.floor.FloorSettings.{FloorSettings}
use Rattle.octo_floor_command.specs.Settings.{AreFloorSettings, HaveFloorSettings, floor_settings_or}

-- settings of the bytes that a source has returned for a file
pub held_settings : (files : Option Files) (file bytes read : List ℕ) (result : Result FloorSettings Report)
    → IfSome files (λ all. all file ≡ Some bytes) → read ≡ bytes → (result ≡ Err report.NoMemory) ⊎ AreFloorSettings read result
    → HaveFloorSettings files file result
held_settings files file bytes read result held same (inl none) =
    inl (subst (λ (r : Result FloorSettings Report). IsTroubled r) (sym none) (inl refl))
held_settings files file bytes read result held same (inr are) =
    inr (record { bytes = bytes; held = held; given = subst (λ given. AreFloorSettings given result) same are })

-- bytes over the greatest size are no settings
pub no_settings : (bytes : List ℕ) → most_config_bytes < length bytes → AreFloorSettings bytes (Err (report.BadSettings NotToml))
no_settings bytes over =
    let none : document_of bytes ≡ None = rw (lt-leb (length bytes) most_config_bytes over) refl in
    record {
      text = λ utf8. sym (ap (λ document. floor_settings_or (and_then (settings_or document) (λ s. with_printers s (printers_or bytes)))) none);
      no_text = λ no. refl;
    }
