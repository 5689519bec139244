-- One more entry of a desk.
use Rattle.std.proofs.Common.{◌≡◌, List, [], ◌∷◌, ◌++◌, refl, sym, ◌∙◌, ap, subst, append-nil}
use Rattle.job_desk.specs.Data.{Data}
use Rattle.job_desk.specs.Run.{DeskCall}
use Rattle.octo_house_rules.specs.Desk.{desk_after, desk_after_all}
use Rattle.octo_house_rules.proofs.Runs.{desk_append}
use Rattle.octo_house_run_proof.proofs.Plain.{scripts_call}
use Rattle.octo_floor_bay.specs.Desk.{DeskEntry, MayEnter, AreEntered, desk_calls_in}

-- it may be made at the desk to which the others led
pub entered_more : (all : List DeskEntry) (one : DeskEntry) (d : Data) → AreEntered all d →
    MayEnter one.entry one.calls (desk_after_all (desk_calls_in all) d) → AreEntered (all ++ one ∷ []) d
entered_more [] one d entered may = (may, tt)
entered_more (former ∷ all) one d entered may = (
  entered.0,
  entered_more all one (desk_after_all former.calls d) entered.1
      (subst (λ (x : Data). MayEnter one.entry one.calls x) (desk_append former.calls (desk_calls_in all) d) may),
)

-- and leads on from there
pub led_more : (all : List DeskEntry) (one : DeskEntry) (d : Data) →
    desk_after_all (desk_calls_in (all ++ one ∷ [])) d ≡ desk_after_all one.calls (desk_after_all (desk_calls_in all) d)
led_more [] one d = ap (λ (calls : List DeskCall). desk_after_all calls d) (append-nil one.calls)
led_more (former ∷ all) one d =
    desk_append former.calls (desk_calls_in (all ++ one ∷ [])) d
    ∙ led_more all one (desk_after_all former.calls d)
    ∙ ap (λ (x : Data). desk_after_all one.calls x) (sym (desk_append former.calls (desk_calls_in all) d))

-- calls leave the scripts
pub scripts_stay : (calls : List DeskCall) (d : Data) → (desk_after_all calls d).scripts ≡ d.scripts
scripts_stay [] d = refl
scripts_stay (call ∷ calls) d = scripts_stay calls (desk_after call d) ∙ scripts_call call d
