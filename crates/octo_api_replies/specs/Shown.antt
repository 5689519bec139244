-- What replies show of an answer by their paths.
use Rattle.std.specs.Prelude.{ℕ, List, codes, Option}
use Rattle.serde_json.specs.Data.{Data, object, no_members}
use Rattle.job_desk.specs.declared.state.State.{State}
use Rattle.octo_http.specs.declared.reply.HttpReply.{HttpReply}
use Rattle.octo_asks.specs.declared.answer.Answer.{Answer}
use Rattle.octo_asks.specs.declared.answer.Answer.TheVariants as answer
use Rattle.octo_asks.specs.declared.shown.ShownHeat.{ShownHeat}
use Rattle.octo_api_routes.specs.declared.shown.Shown.{Shown}
use Rattle.octo_api_routes.specs.declared.shown.Shown.TheVariants as shown
use Rattle.octo_api_refusals.specs.Refused.{empty_reply, json_reply}
use Rattle.octo_api_replies.specs.Fixed.{text_reply, server_text, profiles_text, commands_text}
use Rattle.octo_api_replies.specs.Pages.{with_heater, caller_data, login_data}
use Rattle.octo_api_replies.specs.Replies.{reply_of}

-- one heater, if it was reported
abbrev pub heater_data : List ℕ → Option ShownHeat → Data
heater_data name heat = object (with_heater name heat no_members)

-- what a reply shows in the place of a version
abbrev pub version_shown : Shown → HttpReply
version_shown shown.Server = text_reply server_text
version_shown shown.Profiles = text_reply profiles_text
version_shown shown.SystemCommands = text_reply commands_text
version_shown _ = reply_of answer.Version

-- what a reply shows of the caller
abbrev pub caller_shown : Shown → Option (List ℕ) → List (List ℕ) → HttpReply
caller_shown shown.Login name groups = json_reply 200 (login_data name groups)
caller_shown shown.Logout name groups = empty_reply 204
caller_shown _ name groups = json_reply 200 (caller_data name groups)

-- what a reply shows of the printer
abbrev pub printer_shown : Shown → State → Option ShownHeat → Option ShownHeat → HttpReply
printer_shown shown.Tool state tool bed = json_reply 200 (heater_data (codes "tool0") tool)
printer_shown shown.Bed state tool bed = json_reply 200 (heater_data (codes "bed") bed)
printer_shown _ state tool bed = reply_of (answer.Printer state tool bed)

-- the reply to an answer, of which its path shows this; an answer that isn't for such a path is shown whole
abbrev pub shown_reply : Shown → Answer → HttpReply
shown_reply what answer.Version = version_shown what
shown_reply what (answer.Caller name groups) = caller_shown what name groups.items
shown_reply what (answer.Printer state tool bed) = printer_shown what state tool bed
shown_reply what other = reply_of other
