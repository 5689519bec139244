-- Groups and scripts read one after the other, and marks in a line.
use Rattle.std.proofs.Common.{◌≡◌, ℕ, ◌+◌, ◌<◌, ◌≤◌, ◌==◌, Bool, true, false, ◌||◌, List, [], ◌∷◌, ◌++◌, length, drop, Option, Result, Ok, Err, ◌⊎◌, inl, inr, refl, ap, subst, ◌∙◌, sym, arith, nat_eq, cond, codes, suc}
use Rattle.std.proofs.lemmas.List.{drop_more, at_drop_more, drop_all, take_rest, length-append}
use Rattle.std.proofs.lemmas.Bool.Decides.{nat_tests}
use Rattle.std.specs.List.{starts_with}
use Rattle.toml.specs.Data.{Data, Members, get_member}
use Rattle.byte_text.specs.Marks.{contains_text}
use Rattle.job_desk.specs.Data.{ScriptTexts, texts_at}
use Rattle.job_desk.specs.declared.state.Point.{Point}
use Rattle.job_desk.specs.declared.state.Point.TheVariants as point
use Rattle.job_desk.specs.Scripts.{with_text}
use Rattle.temp_rules.specs.declared.limits.Limits.{Limits}
use Rattle.octo_access.specs.Groups.{GroupData}
use Rattle.toml.specs.View.{members_view}
use Rattle.toml.proofs.Views.{Entry}
use Rattle.octo_access.specs.declared.permission.Permission.{Permission}
use Rattle.octo_settings.specs.Groups.{group_key, permissions_of, is_new_name, with_group, with_groups}
use Rattle.octo_settings.specs.Values.{and_then, members_list}
use Rattle.octo_settings.specs.declared.fault.SettingsFault.TheVariants.{NoMemory, OutOfRange}
use Rattle.octo_settings.specs.Scripts.{script_name, command_of, with_lines, with_script, scripts_at}
use Rattle.octo_settings.specs.declared.fault.SettingsFault.{SettingsFault}

-- one line more, or the fault of it
pub lines-ok : (limits : Limits) (p : Point) (n : ℕ) (line text : List ℕ) (left lines : List (List ℕ)) (scripts : ScriptTexts) → left ≡ line ∷ lines → command_of limits p n line ≡ Ok text → with_lines limits p n left scripts ≡ with_lines limits p (n + 1) lines (with_text p text scripts)
lines-ok limits p n line text left lines scripts is found = rw (is, found) refl

pub lines-err : (limits : Limits) (p : Point) (n : ℕ) (line : List ℕ) (left lines : List (List ℕ)) (scripts : ScriptTexts) (fault : SettingsFault) → left ≡ line ∷ lines → command_of limits p n line ≡ Err fault → with_lines limits p n left scripts ≡ Err fault
lines-err limits p n line left lines scripts fault is found = rw (is, found) refl

-- a script has one text more
pub texts-more : (p : Point) (text : List ℕ) (scripts : ScriptTexts) → length (texts_at p (with_text p text scripts)) ≡ length (texts_at p scripts) + 1
texts-more point.Connected text scripts = length-append scripts.connected (text ∷ [])
texts-more point.Disconnect text scripts = length-append scripts.disconnect (text ∷ [])
texts-more point.Started text scripts = length-append scripts.started (text ∷ [])
texts-more point.Paused text scripts = length-append scripts.paused (text ∷ [])
texts-more point.Resumed text scripts = length-append scripts.resumed (text ∷ [])
texts-more point.Cancelled text scripts = length-append scripts.cancelled (text ∷ [])
texts-more point.Done text scripts = length-append scripts.done (text ∷ [])

-- one script more, or the fault of it
pub scripts-ok : (limits : Limits) (members : Members) (p : Point) (value : Option Data) (left points : List Point) (scripts next : ScriptTexts) → left ≡ p ∷ points → value ≡ get_member (script_name p) members → with_script limits p value scripts ≡ Ok next → scripts_at limits members left scripts ≡ scripts_at limits members points next
scripts-ok limits members p value left points scripts next is at found = let there : with_script limits p (get_member (script_name p) members) scripts ≡ Ok next = rw at at found in rw (is, there) refl

pub scripts-err : (limits : Limits) (members : Members) (p : Point) (value : Option Data) (left points : List Point) (scripts : ScriptTexts) (fault : SettingsFault) → left ≡ p ∷ points → value ≡ get_member (script_name p) members → with_script limits p value scripts ≡ Err fault → scripts_at limits members left scripts ≡ Err fault
scripts-err limits members p value left points scripts fault is at found = let there : with_script limits p (get_member (script_name p) members) scripts ≡ Err fault = rw at at found in rw (is, there) refl

-- one group more, or the fault of it
pub groups-ok : (name : List ℕ) (value : Data) (left members : List (List ℕ × Data)) (groups next : List GroupData)
    → left ≡ (name, value) ∷ members → with_group name value groups ≡ Ok next → with_groups left groups ≡ with_groups members next
groups-ok name value left members groups next is found = rw (is, found) refl

groups-err : (name : List ℕ) (value : Data) (left members : List (List ℕ × Data)) (groups : List GroupData) (fault : SettingsFault)
    → left ≡ (name, value) ∷ members → with_group name value groups ≡ Err fault → with_groups left groups ≡ Err fault
groups-err name value left members groups fault is found = rw (is, found) refl

pub groups-fault : (name : List ℕ) (value : Data) (left members : List (List ℕ × Data)) (groups : List GroupData)
    (whole : Result (List GroupData) SettingsFault) (fault : SettingsFault)
    → whole ≡ with_groups left groups → left ≡ (name, value) ∷ members
    → (fault ≡ NoMemory) ⊎ (with_group name value groups ≡ Err fault) → (fault ≡ NoMemory) ⊎ (whole ≡ Err fault)
groups-fault name value left members groups whole fault so is (inl none) = inl none
groups-fault name value left members groups whole fault so is (inr found) = inr (so ∙ groups-err name value left members groups fault is found)

-- a group that is read is one more
grown-of : (name : List ℕ) (groups next : List GroupData) (read : Result (List Permission) SettingsFault)
    → and_then read (λ permissions. Ok (groups ++ record { name = name; permissions = permissions } ∷ [])) ≡ Ok next
    → length next ≡ length groups + 1
grown-of name groups next (Ok permissions) h =
    let same : groups ++ record { name = name; permissions = permissions } ∷ [] ≡ next = cc in
    subst (λ gs. length gs ≡ length groups + 1) same (length-append groups (record { name = name; permissions = permissions } ∷ []))
grown-of name groups next (Err fault) h = absurd (cc)

grown-by : (name : List ℕ) (value : Data) (groups next : List GroupData) (b : Bool)
    → cond b
    (and_then (permissions_of (group_key name) value) (λ permissions. Ok (groups ++ record { name = name; permissions = permissions } ∷ [])))
    (Err (OutOfRange (codes "groups")))
    ≡ Ok next
    → length next ≡ length groups + 1
grown-by name value groups next true h = grown-of name groups next (permissions_of (group_key name) value) h
grown-by name value groups next false h = absurd (cc)

pub group-grown : (name : List ℕ) (value : Data) (groups next : List GroupData) → with_group name value groups ≡ Ok next → length next ≡ length groups + 1
group-grown name value groups next h = grown-by name value groups next (is_new_name groups name) h

-- the search for a mark, place by place
pub contains-at : (mark bytes : List ℕ) (i : ℕ) → i < length bytes → contains_text mark (drop i bytes) ≡ (starts_with nat_eq (drop i bytes) mark || contains_text mark (drop (i + 1) bytes))
contains-at mark bytes i within =
    at_drop_more (contains_text mark) bytes i 0 within
    ∙ ap (λ rest. starts_with nat_eq rest mark || contains_text mark (drop (i + 1) bytes)) (sym (drop_more bytes i 0 within))

empty-at : (mark : List ℕ) → starts_with nat_eq [] mark ≡ (length mark == 0)
empty-at [] = refl
empty-at (byte ∷ mark) = let e : (length (byte ∷ mark) == 0) ≡ false = grind (arith, nat_tests) in sym e

pub contains-end : (mark bytes : List ℕ) (i : ℕ) → length bytes ≤ i → contains_text mark (drop i bytes) ≡ (length mark == 0)
contains-end mark bytes i past = ap (contains_text mark) (drop_all i bytes past) ∙ empty-at mark

pub ruleset contains_steps = (contains-at, contains-end, take_rest)

-- why a group isn't read, and what it is
pub group-unnamed : (name : List ℕ) (value : Data) (groups : List GroupData) (fault : SettingsFault) → is_new_name groups name ≡ false → fault ≡ OutOfRange (codes "groups") → with_group name value groups ≡ Err fault
group-unnamed name value groups fault taken is = rw (taken, is) refl

pub group-err : (name key : List ℕ) (value : Data) (groups : List GroupData) (fault : SettingsFault) → is_new_name groups name ≡ true → key ≡ group_key name → permissions_of key value ≡ Err fault → with_group name value groups ≡ Err fault
group-err name key value groups fault new is h = rw (new, ← is, h) refl

pub group-ok : (name key : List ℕ) (value : Data) (groups next : List GroupData) (permissions : List Permission) → is_new_name groups name ≡ true → key ≡ group_key name → permissions_of key value ≡ Ok permissions → next ≡ groups ++ record { name = name; permissions = permissions } ∷ [] → with_group name value groups ≡ Ok next
group-ok name key value groups next permissions new is h made = rw (new, ← is, h, made) refl

-- a table's members are as many as its entries
pub length-members : (entries : List Entry) → length (members_list (members_view entries)) ≡ length entries
length-members [] = refl
length-members (e ∷ entries) = ap suc (length-members entries)
