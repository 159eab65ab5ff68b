-- The protocol's messages as JSON ("Base protocol": `ProtocolMessage`, `AssemblyRequest`, `Event`, `Response`). An object's members are
-- in the order of their keys.
use Rattle.std.specs.Prelude.{◌≡◌, ◌≢◌, ℕ, List, codes, true, false, Option, Some, None, option_and_then, unwrap_or, IsUtf8}
use Rattle.serde_json.specs.Data.{Data, null, boolean, number, string, object, unsigned, member, no_members}
use Rattle.serde_json.specs.Find.{get, as_str, as_number, as_u64}
use Rattle.serde_json.specs.Read.{read}
use Rattle.ga_dap_protocol.specs.declared.request.RequestError.{RequestError}
use Rattle.ga_dap_protocol.specs.declared.request.RequestError.TheVariants.{Memory, Json, WrongType, Seq, MissingCommand}

-- the response to a request that was carried out
unfoldable pub response_message : ℕ → ℕ → List ℕ → Data → Data
response_message seq request command body = object (member (codes "body") body (member (codes "command") (string command) (member (codes "request_seq") (number (unsigned request)) (member (codes "seq") (number (unsigned seq)) (member (codes "success") (boolean true) (member (codes "type") (string (codes "response")) no_members))))))

-- the response without a body to a request that was carried out
unfoldable pub bare_response : ℕ → ℕ → List ℕ → Data
bare_response seq request command = object (member (codes "command") (string command) (member (codes "request_seq") (number (unsigned request)) (member (codes "seq") (number (unsigned seq)) (member (codes "success") (boolean true) (member (codes "type") (string (codes "response")) no_members)))))

-- the response to a request that was refused ("ErrorResponse")
unfoldable pub error_response : ℕ → ℕ → List ℕ → List ℕ → Data
error_response seq request command why = object (member (codes "body") (object (member (codes "error") (object (member (codes "format") (string why) (member (codes "id") (number (unsigned 1)) no_members))) no_members)) (member (codes "command") (string command) (member (codes "message") (string why) (member (codes "request_seq") (number (unsigned request)) (member (codes "seq") (number (unsigned seq)) (member (codes "success") (boolean false) (member (codes "type") (string (codes "response")) no_members)))))))

-- an event with a body
unfoldable pub dap_event_message : ℕ → List ℕ → Data → Data
dap_event_message seq name body = object (member (codes "body") body (member (codes "event") (string name) (member (codes "seq") (number (unsigned seq)) (member (codes "type") (string (codes "event")) no_members))))

-- an event without a body
unfoldable pub bare_event : ℕ → List ℕ → Data
bare_event seq name = object (member (codes "event") (string name) (member (codes "seq") (number (unsigned seq)) (member (codes "type") (string (codes "event")) no_members)))

-- the text of a member
abbrev pub member_as_text : List ℕ → Data → Option (List ℕ)
member_as_text name d = option_and_then as_str (get name d)

-- the number of a member
abbrev pub member_as_number : List ℕ → Data → Option ℕ
member_as_number name d = option_and_then as_u64 (option_and_then as_number (get name d))

abbrev pub IsRequestType : Data → Type 0
IsRequestType d = member_as_text (codes "type") d ≡ Some (codes "request")

-- a value is the request with this number, command and arguments (null where it has none)
abbrev pub IsRequest : Data → ℕ → List ℕ → Data → Type 0
IsRequest d seq command arguments = IsRequestType d × (member_as_number (codes "seq") d ≡ Some seq) × (member_as_text (codes "command") d ≡ Some command)
    × (arguments ≡ unwrap_or (get (codes "arguments") d) null)

-- why a value is no request
abbrev pub IsNoRequest : Data → RequestError → Type 0
IsNoRequest d Memory = Unit {0}
IsNoRequest d Json = ⊥
IsNoRequest d WrongType = member_as_text (codes "type") d ≢ Some (codes "request")
IsNoRequest d Seq = IsRequestType d × (member_as_number (codes "seq") d ≡ None)
IsNoRequest d MissingCommand = IsRequestType d × (member_as_number (codes "seq") d ≢ None) × (member_as_text (codes "command") d ≡ None)

-- why a content part is no request
abbrev pub HoldsNoRequest : List ℕ → RequestError → Type 0
HoldsNoRequest content Memory = Unit {0}
HoldsNoRequest content Json = IsUtf8 content → read content ≡ None
HoldsNoRequest content why = (d : Data) × (read content ≡ Some d) × IsNoRequest d why
