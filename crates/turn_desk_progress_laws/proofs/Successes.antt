-- A server core's success response has the request's transaction ID and method, and is valid under the key of
-- the user whom the request names.
use Rattle.std.proofs.Common.{◌≡◌, ℕ, ◌<◌, ◌^◌, Bool, true, false, List, [], ◌∷◌, ◌++◌, Option, Some, None, refl, sym, ap, ◌∙◌, subst, inl, inr}
use Rattle.std.specs.Prelude.{if◌then◌else◌}
use Rattle.std.specs.FinMap as map
use Rattle.std.specs.declared.net.socket_addr.SocketAddr.{SocketAddr}
use Rattle.rand_core.specs.Stream.{Stream}
use Rattle.turn_desk_core.specs.StunTypesWire.Attributes.{kind_at}
use Rattle.turn_desk_core.specs.StunTypesWire.Grammar.{number_at, refusal, visible}
use Rattle.turn_client_proto_messages.specs.StunTypesIntegrity.Integrity.{Validates}
use Rattle.turn_desk_core.specs.StunTypesWire.declared.algorithm.IntegrityAlgorithm.{IntegrityAlgorithm}
use Rattle.turn_desk_core.specs.StunTypesWire.declared.class.MessageClass.TheVariants.{Error, Success}
use Rattle.turn_client_proto_messages.specs.StunTypesIntegrity.Signing.{signature, text_to_sign}
use Rattle.turn_desk_core.specs.StunTypesWire.Text.{message_text}
use Rattle.turn_desk_core.specs.StunTypesWire.Types.{class_of, method_of, type_of}
use Rattle.turn_desk_core.specs.StunTypesAuthAttributes.Userhashes.{userhash_of}
use Rattle.turn_client_proto_api.specs.StunProtoAuth.Claims.{Claimed, claimed}
use Rattle.turn_client_proto_messages.specs.StunProtoClient.Client.{Standing, standing_key}
use Rattle.turn_client_proto_messages.specs.StunProtoClient.ClientSigning.{hides_name}
use Rattle.turn_client_proto_messages.specs.StunProtoClient.Digests.{IsRight}
use Rattle.turn_client_proto_api.specs.StunProtoAuth.declared.feature.Feature.{Feature}
use Rattle.turn_desk_core.specs.StunProtoVerify.Judgement.{user_key}
use Rattle.turn_desk_core.specs.StunProtoVerify.Knowledge.{Named}
use Rattle.turn_desk_core.specs.StunProtoServer.Server.{Server, has_standing_nonce, refreshed, with_new_nonce}
use Rattle.turn_desk_core.specs.StunProtoServer.Users.{HashesDiffer, IsClaimedName, Names}
use Rattle.turn_desk_core.proofs.StunProtoServer.Named.{same_users}
use Rattle.turn_desk_core.specs.TurnTypesAttributes.TurnRegistry.{connection_id_kind}
use Rattle.turn_desk_core.specs.TurnTypesPeer.TurnShows.{number_visible}
use Rattle.turn_client_proto_messages.specs.OwnClaims.{own_claim}
use Rattle.turn_desk_core.specs.RequestedFor.{requested}
use Rattle.turn_desk_core.specs.declared.decision.Decision.TheVariants as by
use Rattle.turn_desk_core.specs.declared.decision.Decision.{Decision}
use Rattle.turn_desk_core.specs.State.{State}
use Rattle.turn_desk_core.specs.Steps.{IsAnswer, IsVerdict}
use Rattle.turn_desk_core.specs.Verdicts.{reply_attributes, reply_type, verdict, verdict_on}
use Rattle.turn_desk_core.specs.declared.requested.Requested.{Requested}
use Rattle.turn_desk_core.specs.declared.requested.Requested.TheVariants.{Allocation, Refreshment, Permissions, Channel, Connection, Binding}
use Rattle.turn_desk_core.specs.declared.verdict.Verdict.{Verdict}
use Rattle.turn_desk_core.specs.declared.verdict.Verdict.TheVariants.{Fails, Allocates, Refreshes, Permits, Binds, Connects, Joins}
use Rattle.turn_desk_step_laws.proofs.Replies.{connected_number}

-- What holds of a method's types.
pub record IsMethod (m : ℕ) : Type 0 where
  pub error : class_of (type_of Error m) ≡ Error
  pub success : class_of (type_of Success m) ≡ Success
  pub method : method_of (type_of Success m) ≡ m

named : (realm name : List ℕ) (hidden : Bool) → IsClaimedName realm (if hidden then None else Some name) (if hidden then Some (userhash_of name realm) else None) name
named realm name true = refl
named realm name false = refl

-- Validating a message changes neither realm nor users.
module _ (old : Server) (from : SocketAddr) (now : ℕ) (stream : Stream) where
  pub same_realm : (refreshed old from now stream).realm ≡ old.realm
  same_realm = elim (has_standing_nonce old from now) as (λ b. (if b then old else with_new_nonce old from now stream).realm ≡ old.realm) [
    | true ↦ refl
    | false ↦ refl
  ]

  pub same_users_stored : (refreshed old from now stream).users ≡ old.users
  same_users_stored = elim (has_standing_nonce old from now) as (λ b. (if b then old else with_new_nonce old from now stream).users ≡ old.users) [
    | true ↦ refl
    | false ↦ refl
  ]

  still_differ : HashesDiffer old → HashesDiffer (refreshed old from now stream)
  still_differ differ = elim (has_standing_nonce old from now) as (λ b. HashesDiffer (if b then old else with_new_nonce old from now stream)) [
    | true ↦ differ
    | false ↦ differ
  ]

-- Answering a request changes neither.
pub answered_realm : (old new : State) (from : SocketAddr) (bytes reply : List ℕ) (now : ℕ) (stream : Stream) (decision : Decision) → IsAnswer old from bytes now stream decision reply new → new.auth.realm ≡ old.auth.realm
answered_realm old new from bytes reply now stream decision (inl a) = ap (λ (s : Server). s.realm) a.judged.after ∙ same_realm old.auth from now stream
answered_realm old new from bytes reply now stream decision (inr a) = ap (λ (s : Server). s.realm) a.judged.after ∙ same_realm old.auth from now stream

pub answered_users : (old new : State) (from : SocketAddr) (bytes reply : List ℕ) (now : ℕ) (stream : Stream) (decision : Decision) → IsAnswer old from bytes now stream decision reply new → new.auth.users ≡ old.auth.users
answered_users old new from bytes reply now stream decision (inl a) = ap (λ (s : Server). s.users) a.judged.after ∙ same_users_stored old.auth from now stream
answered_users old new from bytes reply now stream decision (inr a) = ap (λ (s : Server). s.users) a.judged.after ∙ same_users_stored old.auth from now stream

module _ (old new : State) (from : SocketAddr) (bytes reply : List ℕ) (now : ℕ) (stream : Stream) (decision : Decision) (m : ℕ) (is_method : IsMethod m) (method_is : method_of (kind_at bytes) ≡ m)
    (is : IsAnswer old from bytes now stream decision reply new) (success : class_of (kind_at reply) ≡ Success) where
  abbrev what : Verdict
  what = verdict_on bytes decision

  error_clash : {A : Type 0} → kind_at reply ≡ type_of Error (method_of (kind_at bytes)) → A
  error_clash kind = absurd (Prim.cc (sym success ∙ (ap class_of kind ∙ (ap (λ (x : ℕ). class_of (type_of Error x)) method_is ∙ is_method.error))))

  -- The reply is no challenge.
  pub by_verdict : IsVerdict old from bytes now stream what reply new
  by_verdict = of is
    where
      of : IsAnswer old from bytes now stream decision reply new → IsVerdict old from bytes now stream what reply new
      of (inl challenge) = error_clash challenge.read.kind
      of (inr v) = v

  -- Nor is it an error response.
  pub kind_is : kind_at reply ≡ type_of Success (method_of (kind_at bytes))
  kind_is = of what by_verdict.read.kind
    where
      of : (v : Verdict) → kind_at reply ≡ reply_type bytes v → kind_at reply ≡ type_of Success (method_of (kind_at bytes))
      of (Fails code) kind = error_clash kind
      of (Allocates transport relayed lifetime) kind = kind
      of (Refreshes lifetime) kind = kind
      of (Permits peers) kind = kind
      of (Binds channel peer) kind = kind
      of (Connects peer connection) kind = kind
      of (Joins connection) kind = kind

  pub method_same : method_of (kind_at reply) ≡ m
  method_same = ap method_of kind_is ∙ (ap (λ (x : ℕ). method_of (type_of Success x)) method_is ∙ is_method.method)

  pub number_same : number_at reply ≡ number_at bytes
  number_same = by_verdict.read.number

  pub message_is : refusal reply ≡ None
  message_is = by_verdict.read.message

  -- ---- under whose key it is signed

  module _ (anonymous : Feature) (s : Standing) (claims : claimed bytes ≡ own_claim anonymous s) (present : map.get old.auth.users s.account.username ≡ Some s.account.password)
      (realm : s.challenge.realm ≡ old.auth.realm) (differ : HashesDiffer old.auth) where
    abbrev v : IsVerdict old from bytes now stream what reply new
    v = by_verdict

    abbrev server : Server
    server = refreshed old.auth from now stream

    abbrev own : Named
    own = record { name = s.account.username; password = s.account.password }

    abbrev hidden : Bool
    hidden = hides_name anonymous s.challenge.nonce

    own_named : Names server (claimed bytes) own
    own_named = record {
      present = ap (λ u. map.get u s.account.username) (same_users_stored old.auth from now stream) ∙ present;
      named = subst (λ (c : Claimed). IsClaimedName server.realm c.username c.user_hash s.account.username) (sym claims)
          (subst (λ (r : List ℕ). IsClaimedName r (if hidden then None else Some s.account.username) (if hidden then Some (userhash_of s.account.username s.challenge.realm) else None) s.account.username)
          (realm ∙ sym (same_realm old.auth from now stream)) (named s.challenge.realm s.account.username hidden));
    }

    user_is : record { name = v.name; password = v.judged.accepts.password } ≡ own
    user_is = same_users server (claimed bytes) (record { name = v.name; password = v.judged.accepts.password }) own (λ hashed. still_differ old.auth from now stream differ) v.judged.accepts.named own_named

    name_is : v.name ≡ s.account.username
    name_is = ap (λ (x : Named). x.name) user_is

    password_is : v.password ≡ s.account.password
    password_is = Prim.cc (sym v.present ∙ (ap (map.get old.auth.users) name_is ∙ present))

    algorithm_is : v.algorithm ≡ s.challenge.choice
    algorithm_is = Prim.cc (sym v.judged.accepts.judged.last ∙ ap (λ (c : Claimed). c.integrity) claims)

    -- What the reply signs.
    abbrev signed : List ℕ
    signed = text_to_sign v.algorithm (message_text (reply_type bytes what) (number_at bytes) (reply_attributes bytes from what))

    pub reply_right : IsRight reply (standing_key s)
    reply_right = record {
      text = signed;
      validates = subst (λ (a : IntegrityAlgorithm). Validates reply (user_key s.challenge.realm s.account.username s.account.password a) a signed) algorithm_is
          (subst (λ (x : List ℕ). Validates reply (user_key s.challenge.realm s.account.username x v.algorithm) v.algorithm signed) password_is
          (subst (λ (n : List ℕ). Validates reply (user_key s.challenge.realm n v.password v.algorithm) v.algorithm signed) name_is
          (subst (λ (r : List ℕ). Validates reply (user_key r v.name v.password v.algorithm) v.algorithm signed) (sym realm) v.valid)));
    }

-- ---- the success of a CONNECT shows the number that was decided

module _ (old new : State) (from : SocketAddr) (bytes reply : List ℕ) (now : ℕ) (stream : Stream) (number m : ℕ) (is_method : IsMethod m) (method_is : method_of (kind_at bytes) ≡ m)
    (is : IsAnswer old from bytes now stream (by.Connect number) reply new) (success : class_of (kind_at reply) ≡ Success) (small : number < 2 ^ 32) where
  abbrev w : IsVerdict old from bytes now stream (verdict_on bytes (by.Connect number)) reply new
  w = by_verdict old new from bytes reply now stream (by.Connect number) m is_method method_is is success

  no_failure : {A : Type 0} → kind_at reply ≡ type_of Error (method_of (kind_at bytes)) → A
  no_failure kind = error_clash old new from bytes reply now stream (by.Connect number) m is_method method_is is success kind

  abbrev key : List ℕ
  key = user_key old.auth.realm w.name w.password w.algorithm

  pub shows_number : number_visible 4 connection_id_kind reply ≡ Some number
  shows_number = of (requested bytes) w.read.kind w.read.shows
    where
      of : (o : Option Requested) → kind_at reply ≡ reply_type bytes (verdict o (by.Connect number))
          → visible reply ≡ reply_attributes bytes from (verdict o (by.Connect number)) ++ signature w.algorithm key (message_text (reply_type bytes (verdict o (by.Connect number))) (number_at bytes) (reply_attributes bytes from (verdict o (by.Connect number)))) ∷ []
          → number_visible 4 connection_id_kind reply ≡ Some number
      of None kind shows = no_failure kind
      of (Some (Allocation transport)) kind shows = no_failure kind
      of (Some Refreshment) kind shows = no_failure kind
      of (Some (Permissions peers)) kind shows = no_failure kind
      of (Some (Channel channel peer)) kind shows = no_failure kind
      of (Some (Connection peer)) kind shows = connected_number reply number _ small shows
      of (Some (Binding connection)) kind shows = no_failure kind
