-- How a request is written, one attribute after another.
use Rattle.std.specs.Prelude.{◌≡◌, ℕ, ◌+◌, ◌*◌, ◌≤◌, List, [], ◌++◌, length, map, Option, None}
use Rattle.std.specs.List.{AllByRecursion}
use Rattle.stun_types_write.specs.Adding.{IsStarted, fingerprint_add_refusal}
use Rattle.stun_types_wire.specs.Attributes.{Attr, attr_size}
use Rattle.stun_types_add.specs.Calls.{IsComposed, IsOrdinary, IsWritten, Ordinary}
use Rattle.stun_types_write.specs.Drafts.{Draft, empty, none_ended}
use Rattle.stun_proto_auth.specs.Addition.{calls_of, calls_of_parts}
use Rattle.stun_proto_client.specs.Client.{Client}
use Rattle.turn_client_proto_messages.specs.Requests.{addition_of, request_attributes, request_type, software_parts}
use Rattle.turn_client_proto_messages.specs.declared.request.TurnRequest.{TurnRequest}

-- The most bytes that an attribute of a request or response takes before it is signed. The longest is an
-- ERROR-CODE with its reason.
abbrev pub most_per_attribute : ℕ
most_per_attribute = 40

-- The greatest length of a message before an attribute of the request, or SOFTWARE, is added to it.
abbrev pub most_before : ℕ
most_before = 4096

-- The greatest length of a message before it is signed. SOFTWARE takes at most 768 bytes.
abbrev pub most_unsigned : ℕ
most_unsigned = 4864

-- The attribute ends no message, and is short.
pub record IsSmall (a : Attr) : Type 0 where
  pub ordinary : IsOrdinary a
  pub short : attr_size a ≤ most_per_attribute

-- The message is in a writer with its own memory, and no attribute ends it yet.
pub record IsOpen (draft : Draft) : Type 0 where
  pub started : IsStarted draft.bytes
  pub ended : draft.ended ≡ none_ended
  pub limit : draft.limit ≡ None

-- The message was started in a new writer, and these ordinary attributes were added.
pub record IsUnsigned (mtype transaction_id : ℕ) (attributes : List Attr) (draft : Draft) : Type 0 where
  pub composed : IsComposed mtype transaction_id attributes (empty [] None) draft
  pub lawful : AllByRecursion IsOrdinary attributes

-- The draft is the request before it is signed.
abbrev pub IsRequest : TurnRequest → ℕ → Draft → Type 0
IsRequest request transaction_id draft = IsUnsigned (request_type request) transaction_id (request_attributes request transaction_id) draft

-- The draft is the request with SOFTWARE, if its text is set, before it is signed.
pub record IsDescribed (software : Option (List ℕ)) (request : TurnRequest) (transaction_id : ℕ) (draft : Draft) : Type 0 where
  pub written : IsWritten (request_type request) transaction_id
      (map Ordinary (request_attributes request transaction_id) ++ calls_of_parts (software_parts software)) draft
  pub is_open : IsOpen draft
  pub short : length draft.bytes ≤ most_unsigned

-- The draft is the client's request, signed if it is to be, before FINGERPRINT, for which there is room.
pub record IsUnmarked (client : Client) (request : TurnRequest) (transaction_id : ℕ) (draft : Draft) : Type 0 where
  pub written : IsWritten (request_type request) transaction_id
      (map Ordinary (request_attributes request transaction_id) ++ calls_of (addition_of client request)) draft
  pub started : IsStarted draft.bytes
  pub room : fingerprint_add_refusal draft ≡ None

-- The attributes `more` were added after the others.
pub record IsGrown (more : List Attr) (old new : Draft) : Type 0 where
  pub is_open : IsOpen new
  pub grown : length new.bytes ≤ length old.bytes + most_per_attribute * length more
  pub following : (mtype transaction_id : ℕ) (attributes : List Attr) → IsUnsigned mtype transaction_id attributes old
      → IsUnsigned mtype transaction_id (attributes ++ more) new
