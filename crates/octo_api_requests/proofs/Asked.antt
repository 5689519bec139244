-- What a body is, and what it asks, is one.
use Rattle.std.proofs.Common.{◌≡◌, ◌⊎◌, inl, inr, nat_lt, false, length, List, ℕ, Option, Some, None, Result, Ok, Err, refl, sym, ◌∙◌, ap}
use Rattle.serde_json.specs.Data.{Data}
use Rattle.octo_http_forms.specs.Parts.{FormReadsAs}
use Rattle.octo_http_forms.specs.declared.types.Parts.{Parts}
use Rattle.octo_http_forms.specs.declared.types.PartFault.{PartFault}
use Rattle.octo_http_forms.proofs.Unique.{says_unique}
use Rattle.octo_asks.specs.declared.request.Request.{Request}
use Rattle.octo_api_routes.specs.declared.direct.Direct.{Direct}
use Rattle.octo_api_routes.specs.declared.direct.Direct.TheVariants as direct
use Rattle.octo_api_routes.specs.declared.wanted.Form.{Form}
use Rattle.octo_api_routes.specs.declared.direct.BodyFault.{BodyFault}
use Rattle.octo_api_commands.specs.declared.unread.Unread.{Unread}
use Rattle.octo_api_commands.specs.Members.{Gives}
use Rattle.octo_api_requests.specs.BodyFaults.{fault_in}
use Rattle.octo_api_requests.specs.Bodies.{asked_in}
use Rattle.octo_api_requests.specs.Uploads.{form_asked}
use Rattle.octo_api_requests.specs.Requests.{IsJson, json, no_json, or_bad, refusal_of, asked_json, asked_body}

-- a body is one JSON, or none
pub one_json : (body : List ℕ) (a b : Option Data) → IsJson body a → IsJson body b → a ≡ b
one_json body (Some a) (Some b) (json _ u e) (json _ v f) = sym e ∙ f
one_json body (Some a) None (json _ u e) (no_json h) = sym e ∙ h u
one_json body None (Some b) (no_json h) (json _ u e) = sym (h u) ∙ e
one_json body None None (no_json h) (no_json k) = refl

-- a reading returned a request
pub gives_read : (fault : BodyFault) (read : Option Request) (request : Request) → Gives read (Ok request) → Ok request ≡ or_bad fault read
gives_read fault read request e = sym (ap (or_bad fault) e)

-- a reading returned nothing, or memory ran out
pub gives_none : (fault : BodyFault) (read : Option Request) (why : Unread) (result : Result Request Direct) → result ≡ Err (refusal_of why fault)
    → Gives read (Err why) → (result ≡ Err direct.NoMemory) ⊎ (result ≡ or_bad fault read)
gives_none fault read why result is (inl e) = inl (is ∙ ap (λ u. Err (refusal_of u fault)) e)
gives_none fault read why result is (inr h) = inr (is ∙ ap (λ u. Err (refusal_of u fault)) h.1 ∙ sym (ap (or_bad fault) h.0))

json_asks : (form : Form) (body : List ℕ) (d : Data) (value : Option Data) → nat_lt 1048576 (length body) ≡ false → Some d ≡ value
    → or_bad (fault_in form d) (asked_in form d) ≡ asked_body form body value
json_asks form body d value small e = rw small (ap (asked_json form) e)

-- what is read from a body's JSON is what the body asks
pub asks_one : (form : Form) (body : List ℕ) (d : Data) (result : Result Request Direct)
    → nat_lt 1048576 (length body) ≡ false → IsJson body (Some d) → (result ≡ Err direct.NoMemory) ⊎ (result ≡ or_bad (fault_in form d) (asked_in form d))
    → (result ≡ Err direct.NoMemory) ⊎ ((value : Option Data) → IsJson body value → result ≡ asked_body form body value)
asks_one form body d result small is (inl e) = inl e
asks_one form body d result small is (inr e) =
    inr (λ value other. e ∙ json_asks form body d value small (one_json body (Some d) value is other))

-- what is asked by what a form says is what the form asks
pub uploads_one : (body kind : List ℕ) (said : Result Parts PartFault) (result : Result Request Direct)
    → FormReadsAs body kind said → (result ≡ Err direct.NoMemory) ⊎ (result ≡ form_asked body said)
    → (result ≡ Err direct.NoMemory) ⊎ ((parts : Result Parts PartFault) → FormReadsAs body kind parts → result ≡ form_asked body parts)
uploads_one body kind said result is (inl e) = inl e
uploads_one body kind said result is (inr e) =
    inr (λ parts other. e ∙ ap (form_asked body) (says_unique body kind said parts is other))
