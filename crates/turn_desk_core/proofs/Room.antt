-- Writing a reply can fail only if an allocation fails: its code and its texts are valid, and it has room for
-- its attributes.
use Rattle.std.specs.Prelude.{option_to_list, slice_get}
use Rattle.std.proofs.Common.{◌≡◌, ℕ, ◌+◌, ◌≤◌, List, [], ◌∷◌, ◌++◌, length, Option, None, Some, refl, sym, ap, subst, ◌∙◌, append_assoc, arith}
use Rattle.std.specs.declared.net.socket_addr.SocketAddr.{SocketAddr}
use Rattle.std.proofs.lemmas.Bool.{le-ltb}
use Rattle.stun_types_base.specs.Refusals.{IsCause}
use Rattle.byteorder.specs.Endian.{big_bytes}
use Rattle.stun_types_wire.specs.declared.error.StunWriteError.{StunWriteError}
use Rattle.stun_types_wire.specs.declared.error.StunWriteError.TheVariants.{AttributeExists, FingerprintExists, IntegrityFailed, MessageIntegrityExists, NoMemory, OutOfRange, TooLarge, TooSmall}
use Rattle.stun_types_wire.specs.Attributes.{Attr, attr_size}
use Rattle.stun_types_wire.specs.Text.{body_text, message_text}
use Rattle.stun_types_write.specs.Adding.{add_refusal, attr_of}
use Rattle.stun_types_write.specs.Drafts.{Draft, empty}
use Rattle.stun_types_write.specs.Outcomes.{IsAdded}
use Rattle.stun_types_add.specs.Calls.{IsComposed}
use Rattle.stun_types_add.proofs.Taken.{composed_more}
use Rattle.stun_types_attributes.specs.Addresses.{address_value}
use Rattle.stun_types_attributes.specs.Xor.{xored}
use Rattle.stun_types_attributes.specs.ErrorCodes.{CodeAndOther, error_refusal, reason_of}
use Rattle.stun_types_attributes.specs.AuthAttributes.Texts.{text_refusal}
use Rattle.stun_types_wire.specs.Registry.{longest_text, xor_mapped_address_kind}
use Rattle.stun_types_message.specs.Objections.{error_attribute}
use Rattle.turn_desk_core.specs.Replies.{relayed_attribute, relayed_attributes}
use Rattle.turn_desk_core.proofs.Adding.{relayed-parts}
use Rattle.turn_desk_core.proofs.Sizes.{allocated-length, body-length, lifetime_of, mapped_of, no_body, reason-short, relayed-length, text-length, xored_short}
use Rattle.turn_types_attributes.specs.TurnRegistry.{lifetime_kind}

-- If there is no other cause, an error is `NoMemory`.
pub only_memory : (refusal : Option StunWriteError) (error : StunWriteError) → IsCause NoMemory refusal error → refusal ≡ None → error ≡ NoMemory
only_memory refusal NoMemory cause none = refl
only_memory refusal (AttributeExists kind) cause none = absurd (let named = cause.named (λ same. Prim.cc same) in Prim.cc (named, none))
only_memory refusal FingerprintExists cause none = absurd (let named = cause.named (λ same. Prim.cc same) in Prim.cc (named, none))
only_memory refusal MessageIntegrityExists cause none = absurd (let named = cause.named (λ same. Prim.cc same) in Prim.cc (named, none))
only_memory refusal (TooLarge expected actual) cause none = absurd (let named = cause.named (λ same. Prim.cc same) in Prim.cc (named, none))
only_memory refusal (TooSmall expected actual) cause none = absurd (let named = cause.named (λ same. Prim.cc same) in Prim.cc (named, none))
only_memory refusal IntegrityFailed cause none = absurd (let named = cause.named (λ same. Prim.cc same) in Prim.cc (named, none))
only_memory refusal (OutOfRange value least most) cause none = absurd (let named = cause.named (λ same. Prim.cc same) in Prim.cc (named, none))

-- ---- texts

-- A short text is accepted.
pub text_accepted : (most : ℕ) (text : List ℕ) → length text ≤ most → text_refusal most text ≡ None
text_accepted most text short = rw (le-ltb most (length text) short) refl

-- A code from 300 to 699 with its standard reason is accepted.
pub code_accepted : (reported : CodeAndOther) (code : ℕ) → reported.code ≡ code → reported.reason ≡ None → 300 ≤ code → code ≤ 699 → error_refusal reported.code (reason_of reported) ≡ None
unfolding error_refusal
code_accepted reported code is default least most =
    rw (is, default, le-ltb code 300 least, le-ltb 699 code most) (text_accepted longest_text _ (reason-short code))

-- ---- room

-- The first attributes of a message are no longer than all of them.
body-prefix : (before after : List Attr) → length (body_text before) ≤ length (body_text (before ++ after))
unfolding body_text
body-prefix [] after = omega arith
body-prefix (a ∷ before) after = let rest = body-prefix before after in omega (arith, rest, body-length before a, body-length (before ++ after) a)

pub prefix-length : (kind number : ℕ) (before after : List Attr) → length (message_text kind number (before ++ after)) ≤ 4096 → length (message_text kind number before) ≤ 4096
prefix-length kind number before after short =
    let part = text-length kind number before in
    let all = text-length kind number (before ++ after) in
    let less = body-prefix before after in
    omega (arith, part, all, less, short)

-- A short message has room for a short attribute.
pub room_left : (kind number : ℕ) (attributes : List Attr) (old reply : Draft) (size : ℕ) → old ≡ empty [] None → IsComposed kind number attributes old reply → length (message_text kind number attributes) ≤ 4096 → size ≤ 4096 → add_refusal reply size ≡ None
unfolding add_refusal
room_left kind number attributes old reply size new composed short small =
    let free : reply.limit ≡ None = composed.limit ∙ ap (λ (d : Draft). d.limit) new in
    let held : length reply.bytes ≤ 4096 = subst (λ (n : ℕ). n ≤ 4096) (sym (ap length composed.text)) short in
    rw (composed.ended, free, le-ltb (20 + 65_535) (length reply.bytes + size) (omega (arith, held, small))) refl

-- A message that was just started is short.
pub none-length : (kind number : ℕ) → length (message_text kind number []) ≤ 4096
none-length kind number = let text = text-length kind number [] in let none = no_body in omega (arith, text, none)

-- There is room for ERROR-CODE.
pub error_room : (kind number code : ℕ) (a : Attr) (old reply : Draft) → old ≡ empty [] None → IsComposed kind number [] old reply → a ≡ error_attribute code → add_refusal reply (attr_size a) ≡ None
error_room kind number code a old reply new started is =
    let reason = reason-short code in
    let size : attr_size (error_attribute code) ≤ 4096 = omega (arith, reason) in
    room_left kind number [] old reply (attr_size a) new started (none-length kind number) (rw is size)

-- There is room for XOR-RELAYED-ADDRESS.
pub relayed_room : (kind number own : ℕ) (before : List Attr) (old reply : Draft) → old ≡ empty [] None → IsComposed kind number before old reply → length (message_text kind number before) ≤ 4096 → (addr : SocketAddr)
    → add_refusal reply (attr_size (relayed_attribute own addr)) ≡ None
relayed_room kind number own before old reply new composed short addr =
    let fits = xored_short own (address_value addr) in
    room_left kind number before old reply (attr_size (relayed_attribute own addr)) new composed short (omega (arith, fits))

-- A message with only the first relayed address is short.
pub first-length : (kind number own : ℕ) (first : Option SocketAddr) → length (message_text kind number (relayed_attributes own (option_to_list first))) ≤ 4096
first-length kind number own None = none-length kind number
first-length kind number own (Some addr) =
    let text = text-length kind number (relayed_attribute own addr ∷ []) in
    let one = relayed-length own addr [] in
    let none = no_body in
    omega (arith, text, one, none)

-- There is room for LIFETIME after the relayed addresses.
pub lifetime_room : (kind m n : ℕ) (relayed : List SocketAddr) (from : SocketAddr) (first second : Option SocketAddr) (old two : Draft) (seconds : ℕ)
    → m ≡ n → length relayed ≤ 2 → first ≡ slice_get relayed 0 → second ≡ slice_get relayed 1 → old ≡ empty [] None
    → IsComposed kind m (relayed_attributes m (option_to_list first) ++ relayed_attributes m (option_to_list second)) old two
    → add_refusal two (attr_size (attr_of lifetime_kind (big_bytes 4 seconds))) ≡ None
lifetime_room kind m n relayed from first second old two seconds number few one other new composed =
    let all = relayed_attributes n relayed in
    let r2 = relayed-parts kind m n relayed first second old two number few one other composed in
    let short = prefix-length kind n all (lifetime_of seconds ∷ mapped_of n from ∷ []) (allocated-length kind n seconds from relayed few) in
    room_left kind n all old two (attr_size (attr_of lifetime_kind (big_bytes 4 seconds))) new r2 short (omega arith)

-- There is room for XOR-MAPPED-ADDRESS after LIFETIME.
pub mapped_room : (kind m n : ℕ) (relayed : List SocketAddr) (from : SocketAddr) (first second : Option SocketAddr) (old two three : Draft) (seconds : ℕ) (mapped : List ℕ)
    → m ≡ n → length relayed ≤ 2 → first ≡ slice_get relayed 0 → second ≡ slice_get relayed 1 → old ≡ empty [] None
    → IsComposed kind m (relayed_attributes m (option_to_list first) ++ relayed_attributes m (option_to_list second)) old two
    → IsAdded (attr_of lifetime_kind (big_bytes 4 seconds)) two three → add_refusal two (attr_size (attr_of lifetime_kind (big_bytes 4 seconds))) ≡ None
    → mapped ≡ xored m (address_value from) → add_refusal three (attr_size (attr_of xor_mapped_address_kind mapped)) ≡ None
mapped_room kind m n relayed from first second old two three seconds mapped number few one other new composed added accepted seen =
    let all = relayed_attributes n relayed in
    let r2 = relayed-parts kind m n relayed first second old two number few one other composed in
    let r3 = composed_more kind n all (lifetime_of seconds) old two three r2 added refl accepted in
    let whole = subst (λ (l : List Attr). length (message_text kind n l) ≤ 4096) (sym (append_assoc all (lifetime_of seconds ∷ []) (mapped_of n from ∷ []))) (allocated-length kind n seconds from relayed few) in
    let short = prefix-length kind n (all ++ lifetime_of seconds ∷ []) (mapped_of n from ∷ []) whole in
    let fits = xored_short m (address_value from) in
    let size : attr_size (attr_of xor_mapped_address_kind (xored m (address_value from))) ≤ 4096 = omega (arith, fits) in
    room_left kind n (all ++ lifetime_of seconds ∷ []) old three (attr_size (attr_of xor_mapped_address_kind mapped)) new r3 short (rw seen size)
