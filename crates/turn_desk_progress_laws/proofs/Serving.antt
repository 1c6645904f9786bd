-- What a server core that has challenged a client stores about it.
use Rattle.std.proofs.Common.{◌≡◌, inl, inr, [], ◌∷◌, ℕ, Bool, true, false, List, Option, Some, None, refl, sym, ap, ◌∙◌, subst}
use Rattle.std.specs.Prelude.{◌&&◌, cond, if◌then◌else◌, IsSome}
use Rattle.std.specs.Cmp.{eq_by_cmp_equiv}
use Rattle.std.specs.FinMap as map
use Rattle.std.specs.Option.{option_map}
use Rattle.turn_desk_core.specs.StunTypesWire.declared.algorithm.IntegrityAlgorithm.{IntegrityAlgorithm}
use Rattle.turn_desk_core.specs.StunTypesBase.SocketAddrs.{socket_addr_cmp_total}
use Rattle.turn_desk_core.specs.StunTypesAuthAttributes.Userhashes.{userhash_of}
use Rattle.turn_client_proto_messages.specs.StunProtoClient.Challenges.{ChallengeFields, list_for_choice}
use Rattle.turn_client_proto_messages.specs.StunProtoClient.Choice.{supports, takes}
use Rattle.turn_client_proto_messages.specs.StunProtoClient.Client.{Standing, account_key, standing_key}
use Rattle.turn_desk_core.specs.StunProtoVerify.Knowledge.{Outcome}
use Rattle.turn_desk_core.specs.StunProtoServer.Server.{Client, Server, set_outcome}
use Rattle.turn_desk_core.specs.StunProtoServer.ServerSigning.{party_by_client, party_by_password}
use Rattle.turn_client_proto_api.specs.StunProtoAuth.Nonce.{takes_anonymous_username}
use Rattle.turn_client_proto_api.specs.StunProtoAuth.SupportedAlgorithms.{list_of}
use Rattle.turn_desk_core.specs.StunProtoServer.Users.{HashesDiffer}
use Rattle.std.specs.declared.net.socket_addr.SocketAddr.{SocketAddr}
use Rattle.turn_client_proto_api.specs.Sent.{Sent}
use Rattle.turn_client_proto_step_laws.specs.Recv.ClientState.{Protocol}
use Rattle.turn_client_proto_handshake_laws.specs.Sent.{Beginning}
use Rattle.turn_client_proto_messages.specs.Waiting.{Queued}
use Rattle.turn_client_proto_handshake_laws.specs.Coming.{IsUnserved}
use Rattle.turn_client_proto_handshake_laws.specs.Stages.{IsSigning, signed_queued}
use Rattle.turn_desk_world_laws.specs.World.Model.{World}
use Rattle.turn_client_proto_handshake_laws.specs.Choosing.{Choice, IsAnsweredBy, IsChoice, standing_by}
use Rattle.turn_desk_step_laws.specs.Handshakes.{IsOfServer, list_given, user_of}
use Rattle.turn_desk_step_laws.specs.Users.{knowing}
use Rattle.turn_desk_core.specs.State.{State}
use Rattle.turn_desk_core.specs.Steps.{key_at, key_of_party}
use Rattle.turn_desk_progress_laws.specs.Scripts.{Plan}
use Rattle.turn_desk_progress_laws.proofs.Challenged.{has_given_list}
use Rattle.turn_desk_progress_laws.specs.Standing.{HasTransmitted, IsFirstReply, IsGranting, IsOfSettings, IsUnder}

pub second_true : (a b : Bool) → (a && b) ≡ true → b ≡ true
second_true true b is = is
second_true false b is = absurd (Prim.cc is)

pub first_true : (a b : Bool) → (a && b) ≡ true → a ≡ true
first_true true b is = refl
first_true false b is = absurd (Prim.cc is)

module _ (plan : Plan) (old desk : State) where
  first_settings : (reply : List ℕ) (f : IsFirstReply plan old reply desk) → IsOfSettings old.auth f.reported
  first_settings reply f = record {
    realm = f.realm;
    takes_own = f.takes_own;
    hides = ap (λ n. n.anonymous_username) f.features;
    listed = has_given_list f.reported (list_of old.auth.algorithms) (f.list true);
  }

  pub of_settings : (reported : ChallengeFields) → IsUnder plan old reported desk → IsOfSettings old.auth reported
  of_settings reported u = subst (λ (t : ChallengeFields). IsOfSettings old.auth t) u.reported_is (first_settings u.reply u.challenge)

  -- Still no two users have the same hash.
  pub differ_still : (reported : ChallengeFields) → IsUnder plan old reported desk → HashesDiffer old.auth → HashesDiffer desk.auth
  differ_still reported u differ = λ a b one other same. differ a b
      (subst (λ m. IsSome (map.get m a)) u.challenge.settings.users one)
      (subst (λ m. IsSome (map.get m b)) u.challenge.settings.users other)
      (subst (λ (r : List ℕ). userhash_of a r ≡ userhash_of b r) u.challenge.settings.realm same)

  -- The client that answers is a user of the server core.
  module _ (c : Choice) (u : IsUnder plan old c.reported desk) (by : IsAnsweredBy plan.client.config c.reported c.algorithm)
      (user : map.get old.auth.users plan.client.config.credentials.username ≡ Some plan.client.config.credentials.password) where
    pub chosen_supported : supports old.auth.algorithms c.algorithm ≡ true
    chosen_supported = sym ((of_settings c.reported u).takes_own plan.client.config.hardened c.algorithm) ∙ second_true (supports plan.client.config.algorithms c.algorithm) (takes plan.client.config.hardened (list_for_choice plan.client.config.hardened c.reported) c.algorithm) by.strongest.common

    given : list_for_choice plan.client.config.hardened u.challenge.reported ≡ list_given desk.auth.algorithms
    given = u.challenge.list plan.client.config.hardened
        ∙ ap (λ n. if n.password_algorithms then Some (list_of old.auth.algorithms) else None) u.challenge.features
        ∙ sym (ap list_given u.challenge.settings.algorithms)

    pub is_user : IsOfServer desk.auth plan.client.here (standing_by plan.client c)
    is_user = record {
      present = subst (λ m. map.get m plan.client.config.credentials.username ≡ Some plan.client.config.credentials.password) (sym u.challenge.settings.users) user;
      realm = sym (ap (λ (t : ChallengeFields). t.realm) u.reported_is) ∙ u.challenge.realm ∙ sym u.challenge.settings.realm;
      nonce = ap (option_map (λ (k : Client). k.nonce)) u.challenge.stored ∙ ap (λ (t : ChallengeFields). Some t.nonce) u.reported_is;
      offered = sym (ap (λ (t : ChallengeFields). list_for_choice plan.client.config.hardened t) u.reported_is) ∙ given;
      choice = ap (λ (l : List IntegrityAlgorithm). supports l c.algorithm) u.challenge.settings.algorithms ∙ chosen_supported;
      hashes = λ announced. ap takes_anonymous_username u.challenge.settings.anonymous_username ∙ sym (of_settings c.reported u).hides ∙ announced;
    }

-- ---- the key

-- A server core that has accepted a request as a user's stores that user's key for its address.
pub keeps_key : (server new : Server) (from : SocketAddr) (s : Standing) → IsOfServer server from s → new ≡ knowing server from (user_of s) → key_at new from ≡ Some (standing_key s)
keeps_key server new from s own is = by (map.get server.clients from) refl own.nonce
  where
    outcome : Outcome
    outcome = record { name = s.account.username; algorithm = s.challenge.choice }

    by : (found : Option Client) → map.get server.clients from ≡ found → option_map (λ (k : Client). k.nonce) found ≡ Some s.challenge.nonce → key_at new from ≡ Some (standing_key s)
    by None at has = absurd (Prim.cc has)
    by (Some old) at has =
        let stored : Client = record old { outcome = Some outcome } in
        let after : Server = record server { clients = map.insert server.clients from stored } in
        let there : map.get after.clients from ≡ Some stored = map.get-insert socket_addr_cmp_total server.clients from stored from
        ∙ ap (λ (b : Bool). cond b (Some stored) (map.get server.clients from)) ((eq_by_cmp_equiv socket_addr_cmp_total).refl from) in
        let is_after : new ≡ after = is ∙ ap (λ (f : Option Client). record server { clients = set_outcome server.clients from (Some outcome) f }) at in
        ap (λ (x : Server). key_at x from) is_after
        ∙ ap (λ (c : Option Client). key_of_party (party_by_client after c)) there
        ∙ ap (λ (o : Option (List ℕ)). key_of_party (party_by_password after old.nonce outcome o)) own.present
        ∙ ap (λ (r : List ℕ). Some (account_key s.account r s.challenge.choice)) (sym own.realm)

-- ---- the client, once its signed request was transmitted

pub choice_of : (plan : Plan) (c : Choice) (p : Protocol) → HasTransmitted plan c p → IsChoice plan.client c
choice_of plan c p d = elim d.is [
  | inl w ↦ w.choice
  | inr w ↦ w.choice
]

-- Nothing is allocated to the client.
pub unserved_of : (plan : Plan) (c : Choice) (p : Protocol) (d : HasTransmitted plan c p)
    → ((b : Beginning) (c : Choice) (many last : ℕ) (queue : List Queued) (p : Protocol) → IsSigning b c many last queue p → IsUnserved b p) → IsUnserved plan.client p
unserved_of plan c p d so = elim d.is [
  | inl w ↦ so plan.client c d.used plan.second (signed_queued plan.client c ∷ []) p w
  | inr w ↦ so plan.client c d.used plan.second [] p w
]

-- What a server core has granted stays granted while the server core is unchanged.
pub granting_on : (plan : Plan) (old w v : World) (c : Choice) (request : Sent) (address : SocketAddr) (lifetime : ℕ) (reply : List ℕ) → v.desk ≡ w.desk
    → IsGranting plan old c request address lifetime reply w → IsGranting plan old c request address lifetime reply v
granting_on plan old w v c request address lifetime reply same is = record {
  request_is = is.request_is;
  made = is.made;
  answered = is.answered;
  of = is.of;
  asks = is.asks;
  request_right = is.request_right;
  message = is.message;
  grant = is.grant;
  no_challenge = is.no_challenge;
  keeps = ap (λ (d : State). key_at d.auth plan.client.here) same ∙ is.keeps;
  granted = ap (λ (d : State). d.grants) same ∙ is.granted;
}
