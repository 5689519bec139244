-- No value of a page has a number with a fraction, so each has its text.
use Rattle.std.proofs.Common.{◌≡◌, refl, ℕ, false, List, [], ◌∷◌, map, Option, Some, None}
use Rattle.serde_json.specs.Data.{string, no_members}
use Rattle.serde_json.specs.View.{items_of}
use Rattle.serde_json.specs.Written.{has_float, items_have_float, members_have_float}
use Rattle.job_desk.specs.declared.state.State.{State}
use Rattle.octo_asks.specs.declared.shown.ShownHeat.{ShownHeat}
use Rattle.octo_asks.specs.declared.shown.ShownFile.{ShownFile}
use Rattle.octo_asks.specs.declared.shown.Progress.{Progress}
use Rattle.octo_api_refusals.proofs.Whole.{integer_whole}
use Rattle.octo_api_replies.specs.Items.{heat_data}
use Rattle.octo_api_replies.specs.Pages.{with_heater, connection_data, printer_data, job_data}

-- a list of texts
pub texts_whole : (texts : List (List ℕ)) → items_have_float (items_of (map string texts)) ≡ false
texts_whole [] = refl
texts_whole (text ∷ texts) = texts_whole texts

-- pages
pub connection_whole : (port : Option (List ℕ)) (state : State) (ports : List (List ℕ)) → has_float (connection_data port state ports) ≡ false
connection_whole None state ports = rw (texts_whole ports) refl
connection_whole (Some port) state ports = rw (texts_whole ports) refl

heat_whole : (heat : ShownHeat) → has_float (heat_data heat) ≡ false
heat_whole heat = rw (integer_whole heat.actual, integer_whole heat.target) refl

pub heater_whole : (name : List ℕ) (heat : Option ShownHeat) → members_have_float (with_heater name heat no_members) ≡ false
heater_whole name None = refl
heater_whole name (Some heat) = rw (heat_whole heat) refl

pub printer_whole : (state : State) (tool bed : Option ShownHeat) → has_float (printer_data state tool bed) ≡ false
printer_whole state None None = refl
printer_whole state (Some tool) None = rw (heat_whole tool) refl
printer_whole state None (Some bed) = rw (heat_whole bed) refl
printer_whole state (Some tool) (Some bed) = rw (heat_whole tool, heat_whole bed) refl

pub job_whole : (file : Option ShownFile) (progress : Option Progress) (state : State) → has_float (job_data file progress state) ≡ false
job_whole None None state = refl
job_whole None (Some progress) state = refl
job_whole (Some file) None state = refl
job_whole (Some file) (Some progress) state = refl
