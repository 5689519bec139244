-- What parts say, with one part more.
use Rattle.std.proofs.Common.{◌≡◌, ℕ, Bool, true, false, List, [], ◌∷◌, ◌++◌, Option, Some, None, refl, sym, ap, subst, ◌∙◌}
use Rattle.std.specs.Prelude.{IfNone, find, filter_map, if◌then◌else◌, is_none, option_map, option_and_then, Result, codes}
use Rattle.std.specs.Option.{option_or, option_map_or}
use Rattle.std.proofs.lemmas.List.{append-nil}
use Rattle.std.proofs.lemmas.List.Folds.{find-append}
use Rattle.std.proofs.lemmas.List.Elements.{filter_map-append}
use Rattle.octo_http_forms.specs.declared.types.Span.{Span}
use Rattle.octo_http_forms.specs.declared.types.Parts.{Parts}
use Rattle.octo_http_forms.specs.declared.types.PartFault.{PartFault}
use Rattle.octo_http_forms.specs.declared.part.Field.{Field}
use Rattle.octo_http_forms.specs.declared.form.Seen.{Seen}
use Rattle.octo_http_forms.specs.Delimiters.{Reaches}
use Rattle.octo_http_forms.specs.Parts.{AddsField, BodyReadsAs, IsForm, IsSeen, SeenReadsAs, field_of, is_bad, is_file, is_named, is_true, last_such, bad, form}

or_none : {A : Type 0} (a : Option A) → option_or a None ≡ a
or_none None = refl
or_none (Some x) = refl

or_assoc : {A : Type 0} (a b c : Option A) → option_or (option_or a b) c ≡ option_or a (option_or b c)
or_assoc None b c = refl
or_assoc (Some x) b c = refl

map_or : {A B : Type 0} (f : A → B) (a b : Option A) → option_map f (option_or a b) ≡ option_or (option_map f a) (option_map f b)
map_or f None b = refl
map_or f (Some x) b = refl

-- the last of a list with one element more
last_such-snoc : {A : Type 0} (test : A → Bool) (xs : List A) (x : A)
    → last_such test (xs ++ x ∷ []) ≡ option_or (if test x then Some x else None) (last_such test xs)
last_such-snoc test [] x = sym (or_none (if test x then Some x else None))
last_such-snoc test (y ∷ ys) x =
    ap (λ last. option_or last (if test y then Some y else None)) (last_such-snoc test ys x)
    ∙ or_assoc (if test x then Some x else None) (last_such test ys) (if test y then Some y else None)

-- what is read of the last element, by whether the new one is it
read_last : {A B : Type 0} (read : Option A → B) (passes : Bool) (x : A) (last : Option A)
    → (if passes then read (Some x) else read last) ≡ read (option_or (if passes then Some x else None) last)
read_last read true x last = refl
read_last read false x last = refl

reads_more : {A B : Type 0} (read : Option A → B) (test : A → Bool) (xs : List A) (x : A) (old new : B) → old ≡ read (last_such test xs)
    → new ≡ (if test x then read (Some x) else old) → new ≡ read (last_such test (xs ++ x ∷ []))
reads_more read test xs x old new before now =
    now
    ∙ ap (λ v. if test x then read (Some x) else v) before
    ∙ read_last read (test x) x (last_such test xs)
    ∙ ap read (sym (last_such-snoc test xs x))

form_more : (body : List ℕ) (fields : List Field) (field : Field) (old new : Parts) → IsForm body fields old → AddsField body field old new
    → IsForm body (fields ++ field ∷ []) new
form_more body fields field old new before adds = record {
  name = reads_more (option_and_then (λ (f : Field). f.filename)) (is_file body) fields field old.name new.name before.name adds.name;
  file = reads_more (option_map (λ (f : Field). f.content)) (is_file body) fields field old.file new.file before.file adds.file;
  folder = reads_more (option_map (λ (f : Field). f.content))
      (is_named body (codes "path")) fields field old.folder new.folder before.folder adds.folder;
  select = reads_more (λ last. option_map_or (is_true body) last false)
      (is_named body (codes "select")) fields field old.select new.select before.select adds.select;
  print = reads_more (λ last. option_map_or (is_true body) last false) (is_named body (codes "print")) fields field old.print new.print before.print adds.print;
}

-- one more part, which is a field
pub seen_field : (body : List ℕ) (spans : List Span) (part : Span) (field : Field) (old new : Seen) → field_of body part ≡ Some field
    → new.bad ≡ old.bad → AddsField body field old.parts new.parts → IsSeen body spans old → IsSeen body (spans ++ part ∷ []) new
seen_field body spans part field old new is same adds before =
    let none : find (is_bad body) (part ∷ []) ≡ None = ap (λ o. if is_none o then Some part else None) is in
    let fields : filter_map (field_of body) (spans ++ part ∷ []) ≡ filter_map (field_of body) spans ++ field ∷ [] =
    filter_map-append (field_of body) spans (part ∷ []) ∙ ap (λ o. filter_map (field_of body) spans ++ filter_map (λ (e : Option Field). e) (o ∷ [])) is in
    record {
      bad = same ∙ before.bad ∙ ap (option_map (λ (p : Span). p.from))
          (sym (find-append (is_bad body) spans (part ∷ []) ∙ ap (option_or (find (is_bad body) spans)) none ∙ or_none (find (is_bad body) spans)));
      form = subst (λ fs. IsForm body fs new.parts) (sym fields) (form_more body (filter_map (field_of body) spans) field old.parts new.parts before.form adds);
    }

-- one more part, which is bad
pub seen_bad : (body : List ℕ) (spans : List Span) (part : Span) (old new : Seen) → field_of body part ≡ None
    → new.bad ≡ option_or old.bad (Some part.from) → new.parts ≡ old.parts → IsSeen body spans old → IsSeen body (spans ++ part ∷ []) new
seen_bad body spans part old new is now same before =
    let here : find (is_bad body) (part ∷ []) ≡ Some part = ap (λ o. if is_none o then Some part else None) is in
    let fields : filter_map (field_of body) (spans ++ part ∷ []) ≡ filter_map (field_of body) spans =
    filter_map-append (field_of body) spans (part ∷ []) ∙ ap (λ o. filter_map (field_of body) spans ++ filter_map (λ (e : Option Field). e)
    (o ∷ [])) is ∙ append-nil (filter_map (field_of body) spans) in
    let form : IsForm body (filter_map (field_of body) (spans ++ part ∷ [])) old.parts = subst (λ fs. IsForm body fs old.parts) (sym fields) before.form in
    record {
      bad =
          now
          ∙ ap (λ b. option_or b (Some part.from)) before.bad
          ∙ sym (map_or (λ (p : Span). p.from) (find (is_bad body) spans) (Some part))
          ∙ ap (option_map (λ (p : Span). p.from)) (ap (option_or (find (is_bad body) spans)) (sym here) ∙ sym (find-append (is_bad body) spans (part ∷ [])));
      form = subst (λ p. IsForm body (filter_map (field_of body) (spans ++ part ∷ [])) p) (sym same) form;
    }

-- what all parts of a body say
says_found : (body dashes : List ℕ) (spans : List Span) (seen : Seen) (result : Result Parts PartFault) (found : Option Span)
    → Reaches body dashes spans None → find (is_bad body) spans ≡ found → IsSeen body spans seen → SeenReadsAs seen result
    → BodyReadsAs body dashes result
says_found body dashes spans seen result None reached none is says =
    let good : seen.bad ≡ None = is.bad ∙ ap (option_map (λ (p : Span). p.from)) none in
    let ok = rw good at says in
    subst (BodyReadsAs body dashes) (sym ok) (form spans seen.parts reached none is.form)
says_found body dashes spans seen result (Some part) reached some is says =
    let first : seen.bad ≡ Some part.from = is.bad ∙ ap (option_map (λ (p : Span). p.from)) some in
    let err = rw first at says in
    subst (BodyReadsAs body dashes) (sym err) (bad spans part reached some)

pub says_all : (body dashes : List ℕ) (spans : List Span) (seen : Seen) (result : Result Parts PartFault) → Reaches body dashes spans None
    → IsSeen body spans seen → SeenReadsAs seen result → BodyReadsAs body dashes result
says_all body dashes spans seen result reached is says = says_found body dashes spans seen result (find (is_bad body) spans) reached refl is says

-- what holds anyhow holds of no value
pub if_none : {A : Type 0} (o : Option A) (P : Type 0) → P → IfNone o P
if_none None P p = p
if_none (Some x) P p = tt
