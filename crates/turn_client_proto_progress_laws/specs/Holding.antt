-- What a client holds once its request was granted, and what it then delivers (RFC 8656, sections 10.3, 11.3,
-- 12.3 and 12.6).
use Rattle.std.specs.Prelude.{◌≡◌, ◌⊎◌, ℕ, true, false, List, [], ◌∷◌, find, Some, None}
use Rattle.std.specs.declared.net.ip_addr.IpAddr.{IpAddr}
use Rattle.std.specs.declared.net.socket_addr.SocketAddr.{SocketAddr}
use Rattle.turn_client_proto_messages.specs.StunTypesWire.Attributes.{Attr, kind_at}
use Rattle.turn_client_proto_messages.specs.StunTypesWire.Grammar.{number_at, refusal, visible}
use Rattle.turn_client_proto_messages.specs.StunTypesWire.declared.algorithm.IntegrityAlgorithm.{IntegrityAlgorithm}
use Rattle.turn_client_proto_messages.specs.StunTypesWire.declared.class.MessageClass.TheVariants.{Indication, Request, Success}
use Rattle.turn_client_proto_messages.specs.StunTypesWire.Types.{class_of, method_of}
use Rattle.turn_client_proto_messages.specs.StunTypesBase.declared.transport.TransportType.{TransportType}
use Rattle.turn_client_proto_messages.specs.StunProtoAuth.Claims.{claimed}
use Rattle.turn_client_proto_messages.specs.StunProtoClient.Client.{Challenge, account_key}
use Rattle.turn_client_proto_messages.specs.StunProtoClient.Digests.{IsRight}
use Rattle.turn_client_proto_messages.specs.TurnTypesFrame.ChannelFrames.{channel_refusal, frame_at}
use Rattle.turn_client_proto_messages.specs.TurnTypesAttributes.TurnRegistry.{data_kind, data_method, xor_peer_address_kind}
use Rattle.turn_client_proto_messages.specs.TurnTypesPeer.TurnShows.{address_in}
use Rattle.turn_client_proto_messages.specs.Allocation.declared.allocation.Allocation.{Allocation}
use Rattle.turn_client_proto_messages.specs.Allocation.declared.channel.Channel.{Channel}
use Rattle.turn_client_proto_messages.specs.Api.Payloads.{PeerPayload}
use Rattle.turn_client_proto_step_laws.specs.Peers.Channel.Numbers.{is_numbered}
use Rattle.turn_client_proto_messages.specs.OwnClaims.{own_claim}
use Rattle.turn_client_proto_messages.specs.Requests.{request_method}
use Rattle.turn_client_proto_handshake_laws.specs.Core.declared.protocol.Phase.TheVariants.{Authenticated}
use Rattle.turn_client_proto_handshake_laws.specs.Core.declared.protocol.Protocol.{Protocol}
use Rattle.turn_client_proto_messages.specs.Allocation.Permits.{permits}
use Rattle.turn_client_proto_progress_laws.specs.Asking.{Wanted, request_for}
use Rattle.turn_client_proto_progress_laws.specs.Speaking.{standing_under}
use Rattle.turn_client_proto_handshake_laws.specs.Stages.{IsOf}
use Rattle.turn_client_proto_handshake_laws.specs.Sent.{Beginning}

-- ---- the request, and its success

-- What the request is: a message and a request of its method, which claims the credentials of the client,
-- under a challenge of this realm.
pub record IsOwnRequest (b : Beginning) (realm : List ℕ) (wanted : Wanted) (request : List ℕ) : Type 0 where
  pub message : refusal request ≡ None
  pub class : class_of (kind_at request) ≡ Request
  pub method : method_of (kind_at request) ≡ request_method (request_for wanted)
  pub challenge : Challenge
  pub realm_is : challenge.realm ≡ realm
  pub claims : claimed request ≡ own_claim b.config.anonymous_username (standing_under b challenge)

-- The message is the success response to the request: it has its transaction ID and method, and validates
-- under the key of the client's credentials, by the algorithm by which the request is signed.
pub record IsGrantOf (b : Beginning) (realm request reply : List ℕ) : Type 0 where
  pub message : refusal reply ≡ None
  pub number : number_at reply ≡ number_at request
  pub method : method_of (kind_at reply) ≡ method_of (kind_at request)
  pub success : class_of (kind_at reply) ≡ Success
  pub algorithm : IntegrityAlgorithm
  pub signed : (claimed request).integrity ≡ Some algorithm
  pub right : IsRight reply (account_key b.config.credentials realm algorithm)

-- ---- what is held

-- The client has one allocation, which is not marked as expired, and of which this statement holds.
pub record HasHeld (b : Beginning) (p : Protocol) (Is : Allocation → Type 0) : Type 0 where
  pub settings : IsOf b p
  pub phase : p.phase ≡ Authenticated
  pub allocation : Allocation
  pub only : p.allocations ≡ allocation ∷ []
  pub transport : allocation.transport ≡ b.config.transport
  pub occurs : allocation.is_expired ≡ false
  pub is : Is allocation

-- A permission for the address is active.
abbrev pub HoldsPermission : Beginning → IpAddr → Protocol → Type 0
HoldsPermission b ip p = HasHeld b p (λ a. permits ip a ≡ true)

-- The first channel with this number is to this peer.
pub record IsBoundTo (channel : ℕ) (peer : SocketAddr) (a : Allocation) : Type 0 where
  pub standing : Channel
  pub first : find (is_numbered channel) a.channels ≡ Some standing
  pub number : standing.number ≡ channel
  pub to : standing.peer ≡ peer

-- The channel with this number to this peer is active.
abbrev pub HoldsChannel : Beginning → (channel : ℕ) → SocketAddr → Protocol → Type 0
HoldsChannel b channel peer p = HasHeld b p (IsBoundTo channel peer)

-- ---- what is given

-- The delivered payload is this one, from this peer, which the server reaches by this transport.
pub record IsPayloadOf (transport : TransportType) (peer : SocketAddr) (payload : List ℕ) (given : PeerPayload)
    : Type 0 where
  pub payload_is : given.payload ≡ payload
  pub transport_is : given.transport ≡ transport
  pub peer_is : given.peer ≡ peer

-- The bytes are a frame of this channel, with this payload.
pub record IsFrameOf (channel : ℕ) (payload bytes : List ℕ) : Type 0 where
  pub lawful : channel_refusal bytes ≡ None
  pub is : frame_at bytes ≡ record { id = channel; payload = payload }

-- The bytes are a DATA indication whose only visible attributes are an XOR-PEER-ADDRESS with this peer and a
-- DATA with this payload.
pub record IsDataOf (peer : SocketAddr) (payload bytes : List ℕ) : Type 0 where
  pub message : refusal bytes ≡ None
  pub class : class_of (kind_at bytes) ≡ Indication
  pub method : method_of (kind_at bytes) ≡ data_method
  pub of : Attr
  pub of_kind : of.kind ≡ xor_peer_address_kind
  pub names : address_in (number_at bytes) of ≡ Some peer
  pub given : Attr
  pub given_kind : given.kind ≡ data_kind
  pub given_is : given.value ≡ payload
  pub shows : (visible bytes ≡ of ∷ given ∷ []) ⊎ (visible bytes ≡ given ∷ of ∷ [])
