-- What is written are the bytes of the request.
use Rattle.std.proofs.Common.{◌≡◌, ℕ, ◌+◌, ◌≤◌, Bool, true, false, List, [], ◌∷◌, ◌++◌, length, map, Option, Some, None, refl, sym, ap, ◌∙◌, subst, append_assoc, arith}
use Rattle.std.proofs.lemmas.List.{append-nil}
use Rattle.stun_types_wire.specs.Attributes.{Attr, attr_size, kind_at}
use Rattle.stun_types_add.specs.Calls.{Add, IsWritten, Ordinary, after_calls, attributes_of}
use Rattle.stun_types_write.specs.Adding.{add_refusal, attr_of, fingerprint_add_refusal}
use Rattle.stun_types_write.specs.Drafts.{Draft}
use Rattle.stun_types_write.specs.Outcomes.{IsAdded}
use Rattle.stun_types_wire.specs.declared.class.MessageClass.{MessageClass}
use Rattle.stun_types_wire.specs.declared.class.MessageClass.TheVariants.{Request}
use Rattle.stun_types_wire.specs.Fingerprints.{fingerprint_of}
use Rattle.stun_types_wire.specs.Registry.{software_kind}
use Rattle.stun_types_wire.specs.Text.{header_text, message_text}
use Rattle.stun_types_wire.specs.Types.{class_of}
use Rattle.stun_types_add.proofs.Adds.{length-after_add}
use Rattle.stun_types_add.proofs.Taken.{written_more, written_one}
use Rattle.stun_types_message.proofs.Composed.{written_text}
use Rattle.stun_proto_auth.specs.Addition.{Addition, addition_refusal, calls_of, calls_of_parts, no_addition}
use Rattle.stun_proto_auth.specs.AdditionStages.{IsMade}
use Rattle.stun_proto_client.specs.Client.{Client}
use Rattle.stun_proto_client.specs.ClientSigning.{addition_for}
use Rattle.turn_client_proto_messages.specs.Composing.{IsDescribed, IsOpen, IsRequest, IsUnmarked, IsUnsigned}
use Rattle.turn_client_proto_messages.specs.Requests.{addition_of, authentication_of, described, fingerprint_calls, is_signed, request_attributes, request_text, request_type, software_parts}
use Rattle.turn_client_proto_messages.specs.ShortTexts.{HasShortTexts}
use Rattle.turn_client_proto_messages.specs.declared.request.TurnRequest.{TurnRequest}
use Rattle.turn_client_proto_messages.specs.declared.request.TurnRequest.TheVariants.{FirstAllocate, Allocate, Refresh, CreatePermission, ChannelBind, Connect, ConnectionBind}
use Rattle.turn_client_proto_messages.proofs.Growing.{open_added, open_room}
use Rattle.turn_client_proto_messages.proofs.Signing.{client_accepted, client_short, mark_accepted, open_marked, short_marked, software_short}

pub unsigned_open : (mtype number : ℕ) (attributes : List Attr) (draft : Draft) → IsUnsigned mtype number attributes draft → IsOpen draft
unsigned_open mtype number attributes draft is = record { started = is.composed.started; ended = is.composed.ended; limit = is.composed.limit }

-- The bytes of a request have its class.
pub text_class : (request : TurnRequest) (number : ℕ) (attributes : List Attr) → class_of (kind_at (message_text (request_type request) number attributes)) ≡ Request
unfolding message_text header_text
text_class (FirstAllocate transport families options) number attributes = refl
text_class (Allocate transport families options) number attributes = refl
text_class (Refresh lifetime) number attributes = refl
text_class (CreatePermission ips) number attributes = refl
text_class (ChannelBind channel peer) number attributes = refl
text_class (Connect peer) number attributes = refl
text_class (ConnectionBind connection) number attributes = refl

-- ---- SOFTWARE

-- A request without SOFTWARE.
pub none_described : (software : Option (List ℕ)) (request : TurnRequest) (number : ℕ) (draft : Draft) → None ≡ software → IsRequest request number draft → length draft.bytes ≤ 4096 → IsDescribed software request number draft
none_described software request number draft none is short =
    subst (λ (o : Option (List ℕ)). IsDescribed o request number draft) none (record {
      written = subst (λ (calls : List Add). IsWritten (request_type request) number calls draft) (sym (append-nil (map Ordinary (request_attributes request number)))) is.composed.written;
      is_open = unsigned_open (request_type request) number (request_attributes request number) draft is;
      short = omega (arith, short);
    })

-- An open message has room for it.
pub software_room : (text : List ℕ) (draft : Draft) → length text ≤ 763 → IsOpen draft → length draft.bytes ≤ 4096 → add_refusal draft (attr_size (attr_of software_kind text)) ≡ None
software_room text draft short o fits =
    let size = (software_short text short).short in
    open_room draft (attr_size (attr_of software_kind text)) o (omega (arith, size, fits))

-- A request to which it was added.
pub one_described : (software : Option (List ℕ)) (text : List ℕ) (request : TurnRequest) (number : ℕ) (old new : Draft) → Some text ≡ software → length text ≤ 763 → IsRequest request number old → length old.bytes ≤ 4096
    → IsAdded (attr_of software_kind text) old new → IsDescribed software request number new
one_described software text request number old new some short is fits added =
    let a = attr_of software_kind text in
    let o = unsigned_open (request_type request) number (request_attributes request number) old is in
    let part = software_short text short in
    let grown = length-after_add old.bytes a o.started in
    let whole : length new.bytes ≡ length old.bytes + attr_size a = ap (λ (d : Draft). length d.bytes) added.is ∙ grown in
    subst (λ (o : Option (List ℕ)). IsDescribed o request number new) some (record {
      written = written_one (request_type request) number (map Ordinary (request_attributes request number)) (Ordinary a) old new is.composed.written (software_room text old short o fits) added.is;
      is_open = subst IsOpen (sym added.is) (open_added a old o part.ordinary.ordinary (omega (arith, short, fits)));
      short = omega (arith, whole, short, fits);
    })

-- ---- the signature

described_class : (software : Option (List ℕ)) (request : TurnRequest) (number : ℕ) (draft : Draft) → IsDescribed software request number draft → class_of (kind_at draft.bytes) ≡ Request
described_class software request number draft is =
    let calls = map Ordinary (request_attributes request number) ++ calls_of_parts (software_parts software) in
    ap (λ (b : List ℕ). class_of (kind_at b)) (written_text (request_type request) number calls draft is.written)
    ∙ text_class request number (attributes_of (request_type request) number calls)

-- Signing fails only if memory runs out.
pub request_accepted : (client : Client) (request : TurnRequest) (number : ℕ) (draft : Draft) → HasShortTexts client → IsDescribed client.style.software request number draft
    → addition_refusal (addition_for client (class_of (kind_at draft.bytes))) draft ≡ None
request_accepted client request number draft short is =
    ap (λ (class : MessageClass). addition_refusal (addition_for client class) draft) (described_class client.style.software request number draft is)
    ∙ client_accepted client draft short is.is_open is.short

signed_addition : (client : Client) (request : TurnRequest) → is_signed request ≡ true → authentication_of client request ≡ addition_for client Request
signed_addition client request is = rw is refl

unsigned_addition : (client : Client) (request : TurnRequest) → is_signed request ≡ false → authentication_of client request ≡ no_addition
unsigned_addition client request is = rw is refl

-- The calls that add SOFTWARE and then the rest are those of both.
described_calls : (software : Option (List ℕ)) (made : Addition) → calls_of_parts (software_parts software) ++ calls_of made ≡ calls_of (described software made)
described_calls None made = refl
described_calls (Some text) made = refl

pub described_alone : (software : Option (List ℕ)) → calls_of_parts (software_parts software) ≡ calls_of (described software no_addition)
described_alone None = refl
described_alone (Some text) = refl

-- The first ALLOCATE is not signed.
pub unsigned_unmarked : (client : Client) (request : TurnRequest) (number : ℕ) (draft : Draft) → is_signed request ≡ false → IsDescribed client.style.software request number draft → IsUnmarked client request number draft
unsigned_unmarked client request number draft plain is =
    let kind = request_type request in
    let own = map Ordinary (request_attributes request number) in
    let same : own ++ calls_of_parts (software_parts client.style.software) ≡ own ++ calls_of (addition_of client request) =
    ap (λ (calls : List Add). own ++ calls) (described_alone client.style.software)
    ∙ ap (λ (made : Addition). own ++ calls_of (described client.style.software made)) (sym (unsigned_addition client request plain)) in
    let short = is.short in
    record {
      written = subst (λ (calls : List Add). IsWritten kind number calls draft) same is.written;
      started = is.is_open.started;
      room = open_marked draft is.is_open (omega (arith, short));
    }

-- Any other request is signed.
pub signed_unmarked : (client : Client) (request : TurnRequest) (number : ℕ) (old new : Draft) → is_signed request ≡ true → HasShortTexts client → IsDescribed client.style.software request number old
    → IsMade (addition_for client (class_of (kind_at old.bytes))) old new → IsUnmarked client request number new
signed_unmarked client request number old new signed short is made =
    let kind = request_type request in
    let own = map Ordinary (request_attributes request number) in
    let adds = addition_for client Request in
    let software = client.style.software in
    let own_made : IsMade adds old new = subst (λ (class : MessageClass). IsMade (addition_for client class) old new) (described_class software request number old is) made in
    let same : (own ++ calls_of_parts (software_parts software)) ++ calls_of adds ≡ own ++ calls_of (addition_of client request) =
    append_assoc own (calls_of_parts (software_parts software)) (calls_of adds)
    ∙ ap (λ (calls : List Add). own ++ calls) (described_calls software adds)
    ∙ ap (λ (a : Addition). own ++ calls_of (described software a)) (sym (signed_addition client request signed)) in
    record {
      written = subst (λ (calls : List Add). IsWritten kind number calls new) same
          (written_more kind number (own ++ calls_of_parts (software_parts software)) (calls_of adds) old new is.written own_made.accepted own_made.is);
      started = own_made.started;
      room = subst (λ (d : Draft). fingerprint_add_refusal d ≡ None) (sym own_made.is) (short_marked adds old (client_short client short) is.is_open is.short);
    }

-- ---- FINGERPRINT

-- The bytes after it was added.
pub marked_bytes : (marks : Bool) (old new : Draft) → marks ≡ true → IsAdded (fingerprint_of old.bytes) old new → new.bytes ≡ (after_calls (fingerprint_calls marks) old).bytes
unfolding after_calls
marked_bytes marks old new is added = rw is (ap (λ (d : Draft). d.bytes) added.is)

-- The bytes where it is not wanted.
pub plain_bytes : (marks : Bool) (draft : Draft) → marks ≡ false → draft.bytes ≡ (after_calls (fingerprint_calls marks) draft).bytes
unfolding after_calls
plain_bytes marks draft is = rw is refl

-- With FINGERPRINT, if it is wanted, the bytes are those of the request.
pub marked_text : (client : Client) (request : TurnRequest) (number : ℕ) (draft : Draft) → IsUnmarked client request number draft → (after_calls (fingerprint_calls client.style.fingerprint) draft).bytes ≡ request_text client request number
unfolding request_text
marked_text client request number draft is =
    let kind = request_type request in
    let own = map Ordinary (request_attributes request number) in
    let adds = calls_of (addition_of client request) in
    let marks = fingerprint_calls client.style.fingerprint in
    let end = after_calls marks draft in
    let written = written_more kind number (own ++ adds) marks draft end is.written (mark_accepted client.style.fingerprint draft is.room) refl in
    written_text kind number ((own ++ adds) ++ marks) end written
    ∙ ap (λ (calls : List Add). message_text kind number (attributes_of kind number calls)) (append_assoc own adds marks)
