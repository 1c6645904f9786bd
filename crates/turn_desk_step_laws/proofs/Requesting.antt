-- A client's requests as a server core accepts them.
use Rattle.std.proofs.Common.{◌≡◌, ◌≢◌, ℕ, ◌≤◌, Bool, true, false, List, [], ◌∷◌, ◌++◌, length, Option, Some, None, refl, sym, ap, ◌∙◌, subst, inl, inr, arith}
use Rattle.std.specs.Prelude.{if◌then◌else◌, IfSome}
use Rattle.std.specs.List.{flat_map, list_any}
use Rattle.std.specs.Option.{option_map, option_or}
use Rattle.std.specs.declared.net.socket_addr.SocketAddr.{SocketAddr}
use Rattle.turn_desk_core.specs.StunTypesWire.Attributes.{Attr}
use Rattle.turn_desk_core.specs.StunTypesAdd.Calls.{attributes_of}
use Rattle.turn_client_proto_messages.specs.StunTypesIntegrity.Integrity.{Validates, algorithm_of}
use Rattle.turn_desk_core.specs.StunTypesWire.declared.algorithm.IntegrityAlgorithm.{IntegrityAlgorithm}
use Rattle.turn_desk_core.specs.StunTypesWire.declared.algorithm.IntegrityAlgorithm.TheVariants.{Sha1, Sha256, Sha512}
use Rattle.turn_desk_core.specs.StunTypesWire.MessageReading.{IsReadAs}
use Rattle.turn_desk_core.specs.StunTypesMessage.MessageValidation.{last_algorithm}
use Rattle.turn_desk_core.specs.StunTypesWire.Types.{class_of, method_of}
use Rattle.turn_desk_core.specs.StunTypesAuthAttributes.Userhashes.{userhash_of}
use Rattle.turn_desk_core.specs.StunTypesBase.declared.family.AddressFamily.{AddressFamily}
use Rattle.turn_desk_core.specs.StunTypesBase.declared.family.AddressFamily.TheVariants.{IPV4, IPV6}
use Rattle.turn_desk_core.specs.StunTypesBase.declared.transport.TransportType.{TransportType}
use Rattle.turn_client_proto_messages.specs.StunProtoAuth.Claims.{Claimed, algorithms_decoded, claimed, unless_refused}
use Rattle.turn_client_proto_messages.specs.StunProtoClient.Client.{Challenge, Client, Standing, standing_by, standing_key, standing_of}
use Rattle.turn_client_proto_messages.specs.StunProtoClient.ClientSigning.{hides_name}
use Rattle.turn_desk_core.specs.StunProtoVerify.Consistency.{AreConsistent}
use Rattle.turn_client_proto_messages.specs.StunProtoClient.Digests.{IsRight}
use Rattle.turn_desk_core.specs.StunProtoVerify.Judgement.{user_key}
use Rattle.turn_desk_core.specs.StunProtoServer.Server.{Server}
use Rattle.turn_client_proto_messages.specs.StunProtoAuth.Nonce.{features_in}
use Rattle.turn_client_proto_messages.specs.StunProtoAuth.declared.feature.Feature.{Feature}
use Rattle.turn_client_proto_messages.specs.StunProtoAuth.declared.feature.Feature.TheVariants.{Auto, Required, Disabled}
use Rattle.turn_client_proto_messages.specs.StunProtoAuth.SupportedAlgorithms.{is_same_algorithm, list_of, needs_password_algorithms, number_by}
use Rattle.turn_desk_core.specs.StunProtoServer.Users.{IsClaimedName}
use Rattle.turn_desk_core.specs.StunTypesWire.declared.error.StunParseError.{StunParseError}
use Rattle.turn_client_proto_messages.specs.StunTypesIntegrity.Credentials.{NameAndPassword}
use Rattle.turn_client_proto_messages.specs.ShortTexts.{HasShortTexts, IsShortChallenge}
use Rattle.turn_client_proto_messages.proofs.StunProtoAuth.KnownLists.{known_is_accepted, list_length}
use Rattle.turn_client_proto_messages.specs.OwnClaims.{own_claim, returned_list}
use Rattle.turn_client_proto_messages.specs.Api.declared.options.AllocateOptions.{AllocateOptions}
use Rattle.turn_client_proto_messages.specs.Api.declared.options.RelayedPort.{RelayedPort}
use Rattle.turn_client_proto_messages.specs.Api.declared.options.RelayedPort.TheVariants.{Any, Even, EvenAndNextReserved, Reserved}
use Rattle.turn_client_proto_messages.specs.Requests.{additional_family, dont_fragment_attribute, families_attributes, families_beside, lifetime_attribute, port_attributes, relayed_attributes, request_attributes, request_calls, request_text, request_type, transport_attribute}
use Rattle.turn_client_proto_messages.specs.declared.request.TurnRequest.{TurnRequest}
use Rattle.turn_client_proto_messages.specs.declared.request.TurnRequest.TheVariants.{Allocate, FirstAllocate}
use Rattle.turn_client_proto_messages.proofs.Claims.{plain_unsigned}
use Rattle.turn_desk_core.specs.Requests.{IsServed}
use Rattle.turn_desk_step_laws.specs.Users.{IsOfUser}
use Rattle.turn_desk_step_laws.specs.Handshakes.{IsOfServer, user_of}

-- ---- the first request

-- An attribute that is no integrity attribute, before others of which none is one.
none_more : (a : Attr) (rest : List Attr) → algorithm_of a.kind ≡ None → last_algorithm rest ≡ None → last_algorithm (a ∷ rest) ≡ None
unfolding last_algorithm
none_more a rest other none = ap (λ (o : Option IntegrityAlgorithm). option_or o (algorithm_of a.kind)) none ∙ other

none_here : last_algorithm [] ≡ None
unfolding last_algorithm
none_here = refl

none_in_families : (families : List AddressFamily) → last_algorithm (flat_map additional_family families) ≡ None
none_in_families [] = none_here
none_in_families (IPV4 ∷ families) = none_in_families families
none_in_families (IPV6 ∷ families) = none_more _ _ refl (none_in_families families)

none_requested : (families : List AddressFamily) → last_algorithm (families_attributes families) ≡ None
none_requested [] = none_here
none_requested (IPV4 ∷ []) = none_here
none_requested (IPV6 ∷ []) = none_more _ _ refl none_here
none_requested (a ∷ b ∷ rest) = none_in_families (a ∷ b ∷ rest)

none_relayed : (families : List AddressFamily) (port : RelayedPort) → last_algorithm (port_attributes port ++ families_beside port families) ≡ None
none_relayed families Any = none_requested families
none_relayed families Even = none_more _ _ refl (none_requested families)
none_relayed families EvenAndNextReserved = none_more _ _ refl (none_requested families)
none_relayed families (Reserved token) = none_more _ _ refl none_here

module _ (auth : Client) (transport : TransportType) (families : List AddressFamily) (options : AllocateOptions) (number : ℕ) where
  abbrev first : TurnRequest
  first = FirstAllocate transport families options

  abbrev own : List Attr
  own = request_attributes first number

  none_own : last_algorithm own ≡ None
  none_own =
      none_more (lifetime_attribute options.lifetime) (transport_attribute transport ∷ dont_fragment_attribute ∷ relayed_attributes families options) refl
      (none_more (transport_attribute transport) (dont_fragment_attribute ∷ relayed_attributes families options) refl
      (none_more dont_fragment_attribute (relayed_attributes families options) refl (none_relayed families options.port)))

  pub is_served_first : IsReadAs (request_type first) number (attributes_of (request_type first) number (request_calls auth first number)) (request_text auth first number) → IsServed (request_text auth first number)
  is_served_first read = record { message = read.message; request = ap class_of read.kind; method = inl (inl (ap method_of read.kind)) }

  pub is_unsigned : IsReadAs (request_type first) number (attributes_of (request_type first) number (request_calls auth first number)) (request_text auth first number) → (claimed (request_text auth first number)).integrity ≡ None
  is_unsigned read = ap last_algorithm read.shows ∙ plain_unsigned (request_type first) number own auth.style.software auth.style.fingerprint none_own

-- ---- a signed request

-- The user that the client claims to be.
named : (realm name : List ℕ) (hidden : Bool) → IsClaimedName realm (if hidden then None else Some name) (if hidden then Some (userhash_of name realm) else None) name
named realm name true = refl
named realm name false = refl

if_hidden : (name : List ℕ) (hidden : Bool) → (if hidden then None else Some name) ≡ None → hidden ≡ true
if_hidden name true none = refl
if_hidden name false none = absurd (Prim.cc none)

-- If it hides its name, the nonce announces that hashed names are taken.
announced : (anonymous : Feature) (nonce name : List ℕ) → (if hides_name anonymous nonce then None else Some name) ≡ None → (features_in nonce).anonymous_username ≡ true
announced Auto nonce name none = if_hidden name (features_in nonce).anonymous_username none
announced Required nonce name none = if_hidden name (features_in nonce).anonymous_username none
announced Disabled nonce name none = absurd (Prim.cc none)

-- If the algorithms need no list, the only one is Sha1, and so is the choice.
own_choice : (algorithms : List IntegrityAlgorithm) (choice : IntegrityAlgorithm) → needs_password_algorithms algorithms ≡ false → list_any (is_same_algorithm choice) algorithms ≡ true → choice ≡ Sha1
own_choice [] choice none among = absurd (Prim.cc among)
own_choice (Sha1 ∷ []) Sha1 none among = refl
own_choice (Sha1 ∷ []) Sha256 none among = absurd (Prim.cc among)
own_choice (Sha1 ∷ []) Sha512 none among = absurd (Prim.cc among)
own_choice (Sha256 ∷ []) choice none among = absurd (Prim.cc none)
own_choice (Sha512 ∷ []) choice none among = absurd (Prim.cc none)
own_choice (Sha1 ∷ b ∷ rest) choice none among = absurd (Prim.cc none)
own_choice (Sha256 ∷ b ∷ rest) choice none among = absurd (Prim.cc none)
own_choice (Sha512 ∷ b ∷ rest) choice none among = absurd (Prim.cc none)

-- The list that a server gave, returned as it was received, is decoded as that list.
given_again : (algorithms : List IntegrityAlgorithm) (choice : IntegrityAlgorithm) (offered : Option (List ℕ)) → offered ≡ Some (list_of algorithms) → list_any (is_same_algorithm choice) algorithms ≡ true
    → IfSome offered (λ list. length list ≤ 32) → algorithms_decoded (returned_list offered) ≡ Some (list_of algorithms)
unfolding algorithms_decoded
given_again algorithms choice offered is among short =
    let most : length (list_of algorithms) ≤ 32 = subst (λ (o : Option (List ℕ)). IfSome o (λ list. length list ≤ 32)) is short in
    let size = list_length algorithms in
    let some : algorithms ≢ [] = λ none. Prim.cc (sym among ∙ ap (list_any (is_same_algorithm choice)) none) in
    ap (λ (o : Option (List ℕ)). algorithms_decoded (returned_list o)) is
    ∙ ap (λ (o : Option StunParseError). unless_refused o (list_of algorithms)) (known_is_accepted algorithms some (omega (arith, size, most)))

none_again : (offered : Option (List ℕ)) → offered ≡ None → algorithms_decoded (returned_list offered) ≡ None
unfolding algorithms_decoded
none_again offered is = ap (λ (o : Option (List ℕ)). algorithms_decoded (returned_list o)) is

-- What is claimed of algorithms is consistent.
fits : (algorithms : List IntegrityAlgorithm) (choice : IntegrityAlgorithm) (offered : Option (List ℕ)) (claim : Claimed) (needs : Bool) → needs_password_algorithms algorithms ≡ needs → offered ≡ (if needs then Some (list_of algorithms) else None)
    → list_any (is_same_algorithm choice) algorithms ≡ true → IfSome offered (λ list. length list ≤ 32) → claim.algorithms ≡ algorithms_decoded (returned_list offered)
    → claim.algorithm ≡ option_map (λ (list : List ℕ). number_by choice) offered → AreConsistent algorithms claim choice
fits algorithms choice offered claim true needs is among short list one =
    inr (record { list = list ∙ given_again algorithms choice offered is among short; choice = one ∙ ap (option_map (λ (l : List ℕ). number_by choice)) is; among = among })
fits algorithms choice offered claim false needs is among short list one =
    inl (record { list = list ∙ none_again offered is; choice = one ∙ ap (option_map (λ (l : List ℕ). number_by choice)) is; own = own_choice algorithms choice needs among; among = among })

-- The list in a challenge that a client remembers is short.
short_list : (auth : Client) (s : Standing) → HasShortTexts auth → standing_of auth ≡ Some s → IfSome s.challenge.offered (λ list. length list ≤ 32)
short_list auth s short occurs = by auth.account auth.challenge occurs short.challenge
  where
    by : (account : Option NameAndPassword) (challenge : Option Challenge) → standing_by account challenge ≡ Some s → IfSome challenge IsShortChallenge → IfSome s.challenge.offered (λ list. length list ≤ 32)
    by None challenge is texts = absurd (Prim.cc is)
    by (Some account) None is texts = absurd (Prim.cc is)
    by (Some account) (Some challenge) is texts =
        let same : challenge ≡ s.challenge = Prim.cc is in
        subst (λ (c : Challenge). IfSome c.offered (λ list. length list ≤ 32)) same texts.offered

pub as_requested : (server : Server) (from : SocketAddr) (auth : Client) (s : Standing) (bytes : List ℕ) → HasShortTexts auth → standing_of auth ≡ Some s → claimed bytes ≡ own_claim auth.anonymous_username s → IsRight bytes (standing_key s) → IsOfServer server from s
    → IsOfUser server s.challenge.nonce bytes (user_of s)
as_requested server from auth s bytes short occurs claims right own =
    let hidden = hides_name auth.anonymous_username s.challenge.nonce in
    record {
      present = own.present;
      last = ap (λ (c : Claimed). c.integrity) claims;
      named = subst (λ (c : Claimed). IsClaimedName server.realm c.username c.user_hash s.account.username) (sym claims)
          (subst (λ (r : List ℕ). IsClaimedName r (if hidden then None else Some s.account.username) (if hidden then Some (userhash_of s.account.username s.challenge.realm) else None) s.account.username) own.realm
          (named s.challenge.realm s.account.username hidden));
      hash_taken = λ none. own.hashes (announced auth.anonymous_username s.challenge.nonce s.account.username (ap (λ (c : Claimed). c.username) (sym claims) ∙ none));
      realm = s.challenge.realm;
      has_realm = ap (λ (c : Claimed). c.realm) claims;
      has_nonce = ap (λ (c : Claimed). c.nonce) claims;
      consistent = fits server.algorithms s.challenge.choice s.challenge.offered (claimed bytes) (needs_password_algorithms server.algorithms) refl own.offered own.choice (short_list auth s short occurs)
          (ap (λ (c : Claimed). c.algorithms) claims) (ap (λ (c : Claimed). c.algorithm) claims);
      text = right.text;
      validates = subst (λ (r : List ℕ). Validates bytes (user_key r s.account.username s.account.password s.challenge.choice) s.challenge.choice right.text) own.realm right.validates;
    }

-- ---- the ALLOCATE

-- A server core serves the request.
pub is_served : (auth : Client) (transport : TransportType) (families : List AddressFamily) (options : AllocateOptions) (number : ℕ)
    → IsReadAs (request_type (Allocate transport families options)) number (attributes_of (request_type (Allocate transport families options)) number (request_calls auth (Allocate transport families options) number)) (request_text auth (Allocate transport families options) number)
    → IsServed (request_text auth (Allocate transport families options) number)
is_served auth transport families options number read = record { message = read.message; request = ap class_of read.kind; method = inl (inl (ap method_of read.kind)) }
