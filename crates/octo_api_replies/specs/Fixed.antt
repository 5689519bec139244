-- What programs ask first: texts of JSON that are fixed but for the limits.
use Rattle.std.specs.Prelude.{ℕ, List, ◌++◌, codes, decimal}
use Rattle.octo_http.specs.declared.reply.HttpReply.{HttpReply}
use Rattle.octo_http.specs.declared.reply.ReplyKind.TheVariants.{Json}
use Rattle.octo_api_refusals.specs.Refused.{no_fields}

-- a reply with this text of JSON
abbrev pub text_reply : List ℕ → HttpReply
text_reply text = record { status = 200; kind = Json; fields = no_fields; body = text }

-- the server
abbrev pub server_text : List ℕ
server_text = codes "{\"safemode\":null,\"version\":\"profile-1\"}"

-- the settings before the limits: no card in the printer, no plugins
abbrev pub settings_front : List ℕ
settings_front =
    codes "{\"feature\":{\"sdSupport\":false,\"temperatureGraph\":true},\"plugins\":{},"
    ++ codes "\"temperature\":{\"limits\":{\"bed\":"

-- and after them: no camera
abbrev pub settings_end : List ℕ
settings_end =
    codes "},\"profiles\":[]},\"webcam\":{\"flipH\":false,\"flipV\":false,\"rotate90\":false,"
    ++ codes "\"snapshotUrl\":null,\"streamUrl\":null,\"webcamEnabled\":false}}"

-- the settings that programs ask for, with the limits of the temperatures
abbrev pub settings_text : ℕ → ℕ → List ℕ
settings_text tool bed = settings_front ++ decimal bed ++ codes ",\"tool\":" ++ decimal tool ++ settings_end

-- the one profile of the printer
abbrev pub profiles_text : List ℕ
profiles_text =
    codes "{\"profiles\":{\"_default\":{\"color\":\"default\",\"current\":true,\"default\":true,"
    ++ codes "\"extruder\":{\"count\":1},\"heatedBed\":true,\"id\":\"_default\",\"model\":\"Generic\","
    ++ codes "\"name\":\"Default\"}}}"

-- the commands of the system
abbrev pub commands_text : List ℕ
commands_text =
    codes "{\"core\":[{\"action\":\"shutdown\",\"name\":\"Shutdown\",\"resource\":\"/api/system/commands/core/shutdown\","
    ++ codes "\"source\":\"core\"},{\"action\":\"backup\",\"name\":\"Backup\","
    ++ codes "\"resource\":\"/api/system/commands/core/backup\",\"source\":\"core\"}],\"custom\":[]}"
