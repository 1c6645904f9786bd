-- What a reply means for a layer above, whatever the server core handled before.
use Rattle.std.specs.Prelude.{◌≡◌, ◌⊎◌, ℕ, List, [], ◌∷◌, ◌++◌, Some, false, true}
use Rattle.std.specs.FinMap as map
use Rattle.std.specs.declared.net.socket_addr.SocketAddr.{SocketAddr}
use Rattle.stun_types_wire.specs.declared.algorithm.IntegrityAlgorithm.{IntegrityAlgorithm}
use Rattle.stun_types_wire.specs.declared.class.MessageClass.TheVariants.{Success, Error}
use Rattle.stun_types_wire.specs.Attributes.{Attr, kind_at}
use Rattle.stun_types_wire.specs.Types.{class_of, method_of}
use Rattle.stun_types_wire.specs.Grammar.{number_at, visible}
use Rattle.stun_types_write.specs.Adding.{has_kind}
use Rattle.stun_types_wire.specs.Shape.{kinds_of}
use Rattle.stun_types_add.specs.Integrity.Integrity.{Validates}
use Rattle.stun_proto_verify.specs.Judgement.{is_response, user_key}
use Rattle.stun_proto_server.specs.Server.{Server}
use Rattle.turn_types_attributes.specs.TurnRegistry.{connection_id_kind}
use Rattle.turn_desk_core.specs.declared.decision.Decision.{Decision}
use Rattle.turn_desk_core.specs.declared.grant.Grant as granted
use Rattle.turn_desk_core.specs.Grants.{IsGrant}
use Rattle.turn_desk_core.specs.State.{State}

-- ---- under which key

-- The request and its reply validate under one key, with one algorithm: the key of a user in the server's
-- realm.
pub record IsSignedAlike (server : Server) (bytes reply : List ℕ) : Type 0 where
  pub name : List ℕ
  pub password : List ℕ
  pub present : map.get server.users name ≡ Some password
  pub algorithm : IntegrityAlgorithm
  pub requested : List ℕ
  pub validated : Validates bytes (user_key server.realm name password algorithm) algorithm requested
  pub answered : List ℕ
  pub signed : Validates reply (user_key server.realm name password algorithm) algorithm answered

-- The message validates under no key.
abbrev pub IsUnsigned : List ℕ → Type 0
IsUnsigned bytes = (key text : List ℕ) (algorithm : IntegrityAlgorithm) → ¬ Validates bytes key algorithm text

-- ---- what is granted

-- One grant was added, with the transaction ID, the source and the method of the request. The rest of the
-- grant, and the attributes of the reply before its integrity attribute, depend on that method.
pub record IsRecorded (old : State) (from : SocketAddr) (bytes : List ℕ) (decision : Decision) (reply : List ℕ)
    (new : State) : Type 0 where
  pub grant : granted.Grant
  pub stored : new.grants ≡ old.grants ++ grant ∷ []
  pub number : grant.number ≡ number_at bytes
  pub source : grant.from ≡ from
  pub method : grant.method.0 ≡ method_of (kind_at bytes)
  pub shows : List Attr
  pub granted_by : IsGrant bytes from decision shows grant
  pub integrity : Attr
  pub reported : visible reply ≡ shows ++ integrity ∷ []

-- ---- the step

-- The reply is a response to the request, with its method and transaction ID. A success response means that
-- the request validated under the key that signs the reply, and that one grant was added for it. An error
-- response leaves the grants unchanged, and has no CONNECTION-ID. A reply that is signed is signed under the
-- key that validated the request.
pub record DeskStep (old : State) (from : SocketAddr) (bytes : List ℕ) (decision : Decision) (reply : List ℕ)
    (new : State) : Type 0 where
  pub responds : is_response reply ≡ true
  pub method : method_of (kind_at reply) ≡ method_of (kind_at bytes)
  pub number : number_at reply ≡ number_at bytes
  pub accepts : class_of (kind_at reply) ≡ Success → IsSignedAlike old.auth bytes reply
  pub grants : class_of (kind_at reply) ≡ Success → IsRecorded old from bytes decision reply new
  pub keeps : class_of (kind_at reply) ≡ Error → new.grants ≡ old.grants
  pub refuses : class_of (kind_at reply) ≡ Error → has_kind connection_id_kind (kinds_of (visible reply)) ≡ false
  pub signs : IsUnsigned reply ⊎ IsSignedAlike old.auth bytes reply
