use Rattle.std.proofs.Common.{◌≡◌, ◌++◌, ◌<◌, ◌≤◌, ◌^◌, ℕ, Bool, true, false, List, [], ◌∷◌, Some, None, ap, sym, ◌∙◌, subst, inl, inr, Vec, ◌/◌, ◌%◌, eqb, arith}
use Rattle.std.proofs.lemmas.Grind.{common_steps}
use Rattle.std.specs.List.{find}
use Rattle.byteorder.specs.Endian.{big_bytes, big_number}
use Rattle.byteorder.specs.Numbers.{big_number-reads_back}
use Rattle.turn_desk_core.specs.StunTypesWire.Grammar.{visible}
use Rattle.turn_desk_core.specs.StunTypesWire.RawBytes.{type_and_len_refusal}
use Rattle.turn_desk_core.specs.StunTypesWrite.ValueReading.{value_refusal}
use Rattle.std.specs.Prelude.{is_some, if◌then◌else◌}
use Rattle.std.specs.FinMap as map
use Rattle.std.specs.declared.alloc.Global.{Global}
use Rattle.std.specs.declared.net.socket_addr.SocketAddr.{SocketAddr}
use Rattle.turn_desk_core.specs.StunTypesWire.Attributes.{Attr, kind_at}
use Rattle.turn_client_proto_messages.specs.StunTypesIntegrity.Integrity.{Validates}
use Rattle.turn_desk_core.specs.StunTypesWire.declared.algorithm.IntegrityAlgorithm.{IntegrityAlgorithm}
use Rattle.turn_desk_core.specs.StunTypesWire.declared.class.MessageClass.TheVariants.{Error, Success}
use Rattle.turn_desk_core.specs.StunTypesWire.Types.{class_of, type_of}
use Rattle.turn_desk_core.specs.StunTypesAuthAttributes.Userhashes.{userhash_of}
use Rattle.turn_client_proto_api.specs.StunProtoAuth.Claims.{Claimed}
use Rattle.turn_client_proto_messages.specs.StunProtoClient.Client.{Standing, standing_key}
use Rattle.turn_client_proto_messages.specs.StunProtoClient.ClientSigning.{hides_name}
use Rattle.turn_client_proto_messages.specs.StunProtoClient.Digests.{IsRight}
use Rattle.turn_desk_core.specs.StunProtoVerify.Judgement.{user_key}
use Rattle.turn_desk_core.specs.StunProtoServer.Server.{Server, refreshed}
use Rattle.turn_desk_core.specs.StunProtoServer.Users.{IsClaimedName}
use Rattle.turn_desk_core.specs.TurnTypesAttributes.TurnRegistry.{lifetime_kind}
use Rattle.turn_desk_core.specs.TurnTypesPeer.TurnShows.{number_in, number_visible, unless_refused}
use Rattle.turn_client_proto_handshake_laws.specs.Choosing.{Choice, standing_by}
use Rattle.turn_client_proto_api.specs.Sent.{Sent}
use Rattle.turn_client_proto_progress_laws.specs.Refreshed.{IsSignedRefresh, refresh_request}
use Rattle.turn_desk_world_laws.specs.World.Desks.{IsDeskAnswered, IsReplied, words_of}
use Rattle.turn_desk_core.specs.DeskSteps.{DeskStep}
use Rattle.turn_desk_core.specs.Granted.{refreshed_attributes}
use Rattle.turn_desk_core.specs.Grants.{Allocated, Bound, Connected, IsGrant, Joined, Permitted, Refreshed}
use Rattle.turn_desk_core.specs.State.{State}
use Rattle.turn_desk_core.specs.Steps.{IsAnswer, IsChallenge, IsVerdict}
use Rattle.turn_desk_core.specs.Verdicts.{verdict_on}
use Rattle.turn_desk_event.specs.declared.answer.Answer.TheVariants as answer
use Rattle.turn_desk_core.specs.declared.decision.Decision.TheVariants as by
use Rattle.turn_desk_event.specs.declared.event.Event.TheVariants.{ToDesk}
use Rattle.turn_desk_core.specs.declared.grant.Grant.{Grant}
use Rattle.turn_desk_world_laws.specs.World.Model.{World}
use Rattle.turn_desk_world_laws.specs.World.Runs.{IsStep}
use Rattle.turn_desk_progress_laws.specs.Scripts.{Plan}
use Rattle.turn_desk_progress_laws.proofs.Coming.{none_yet}
use Rattle.turn_desk_progress_laws.proofs.Indexes.{is_message}
use Rattle.turn_desk_progress_laws.specs.Turns.{least}
use Rattle.turn_desk_progress_laws.specs.Watched.{IsServing}
use Rattle.turn_desk_progress_laws.proofs.RenewalServing.{refreshed_realm}
use Rattle.turn_desk_progress_laws.specs.Loops.{MayBegin}
use Rattle.turn_desk_laws.specs.RenewalLoops.{Renewing, RenewalPosition}
use Rattle.turn_desk_laws.specs.RenewalStages.{IsOutstandingAt, IsRequestedAt, IsStageAt}
use Rattle.turn_desk_laws.proofs.RenewalWorlds.{keeps_on, serving_of}
use Rattle.turn_desk_laws.proofs.renewals.late_refreshes_are_granted.Goals as goal

-- ---- what is reported

four_accepted : (a b c d : ℕ) → value_refusal lifetime_kind 4 4 (record { kind = lifetime_kind; value = a ∷ b ∷ c ∷ d ∷ [] }) ≡ None
unfolding type_and_len_refusal
four_accepted a b c d = grind (arith, common_steps)

-- The number in four bytes.
number_again : (n : ℕ) → n < 2 ^ 32 → number_in 4 (Some (record { kind = lifetime_kind; value = big_bytes 4 n })) ≡ Some n
number_again n small =
    ap (λ refused. unless_refused refused (Some (big_number 4 (big_bytes 4 n)))) (four_accepted (n / 16777216 % 256) (n / 65536 % 256) (n / 256 % 256) (n % 256))
    ∙ ap Some (big_number-reads_back 4 n [] small)

refreshed_lifetime : (reply : List ℕ) (lifetime : ℕ) (seal : Attr) → lifetime < 2 ^ 32 → visible reply ≡ refreshed_attributes lifetime ++ seal ∷ [] → number_visible 4 lifetime_kind reply ≡ Some lifetime
refreshed_lifetime reply lifetime seal small shows =
    ap (λ (l : List Attr). number_in 4 (find (λ (a : Attr). eqb a.kind lifetime_kind) l)) shows ∙ number_again lifetime small

shows_it : (bytes : List ℕ) (from : SocketAddr) (lifetime : ℕ) (shows : List Attr) (grant : Grant) → IsGrant bytes from (by.Refresh lifetime) shows grant → shows ≡ refreshed_attributes lifetime
shows_it bytes from lifetime shows grant (Refreshed g) =
    let same : lifetime ≡ g.lifetime = Prim.cc g.decided in
    g.visible ∙ ap refreshed_attributes (sym same)
shows_it bytes from lifetime shows grant (Allocated g) = absurd (Prim.cc g.decided)
shows_it bytes from lifetime shows grant (Permitted g) = absurd (Prim.cc g.decided)
shows_it bytes from lifetime shows grant (Bound g) = absurd (Prim.cc g.decided)
shows_it bytes from lifetime shows grant (Connected g) = absurd (Prim.cc g.decided)
shows_it bytes from lifetime shows grant (Joined g) = absurd (Prim.cc g.decided)

reports_it : (old new : State) (from : SocketAddr) (bytes reply : List ℕ) (lifetime : ℕ) → DeskStep old from bytes (by.Refresh lifetime) reply new → class_of (kind_at reply) ≡ Success → lifetime < 2 ^ 32 → number_visible 4 lifetime_kind reply ≡ Some lifetime
reports_it old new from bytes reply lifetime step success small =
    let r = step.grants success in
    refreshed_lifetime reply lifetime r.integrity small (r.reported ∙ ap (λ (l : List Attr). l ++ r.integrity ∷ []) (shows_it bytes from lifetime r.shows r.grant r.granted_by))

-- ---- whose key signs it

-- Who claims the name of a user, or its hash, is that user.
same_name : (realm own name : List ℕ) (hidden : Bool) → IsClaimedName realm (if hidden then None else Some own) (if hidden then Some (userhash_of own realm) else None) name → (userhash_of name realm ≡ userhash_of own realm → name ≡ own) → name ≡ own
same_name realm own name false named differ = named
same_name realm own name true named differ = differ (Prim.cc (sym named))

module _ (plan : Plan) (old d e : State) (serving : IsServing plan old d) (c : Choice) (realm_is : c.reported.realm ≡ old.auth.realm) (number : ℕ) (request : IsSignedRefresh plan.client c number)
    (now more : ℕ) (seed reply : List ℕ) (success : class_of (kind_at reply) ≡ Success) where
  abbrev bytes : List ℕ
  bytes = refresh_request plan.client c number

  abbrev s : Standing
  s = standing_by plan.client c

  -- The server core's realm is that of the challenge.
  realm_same : d.auth.realm ≡ c.reported.realm
  realm_same = serving.realm ∙ sym realm_is

  refused : {A : Type 0} → IsChallenge d plan.client.here bytes now (words_of seed) reply e → A
  refused is = absurd (Prim.cc (sym success ∙ (ap class_of is.read.kind ∙ ap (λ (m : ℕ). class_of (type_of Error m)) request.method)))

  module _ (v : IsVerdict d plan.client.here bytes now (words_of seed) (verdict_on bytes (by.Refresh more)) reply e) where
    abbrev server : Server
    server = refreshed d.auth plan.client.here now (words_of seed)

    server_realm : server.realm ≡ c.reported.realm
    server_realm = refreshed_realm d.auth plan.client.here now (words_of seed) ∙ realm_same

    names : v.name ≡ plan.client.config.credentials.username
    names =
        let claims = subst (λ (x : Claimed). IsClaimedName server.realm x.username x.user_hash v.name) request.claims v.judged.accepts.named.named in
        let here = subst (λ (r : List ℕ). IsClaimedName r (if hides_name plan.client.config.anonymous_username c.reported.nonce then None else Some plan.client.config.credentials.username)
        (if hides_name plan.client.config.anonymous_username c.reported.nonce then Some (userhash_of plan.client.config.credentials.username c.reported.realm) else None) v.name) server_realm claims in
        same_name c.reported.realm plan.client.config.credentials.username v.name (hides_name plan.client.config.anonymous_username c.reported.nonce) here (λ same.
        serving.hashes v.name plan.client.config.credentials.username (ap is_some v.present) (ap is_some serving.user)
        (subst (λ (r : List ℕ). userhash_of v.name r ≡ userhash_of plan.client.config.credentials.username r) (sym realm_same) same))

    passwords : v.password ≡ plan.client.config.credentials.password
    passwords = Prim.cc (sym (ap (map.get d.auth.users) (sym names) ∙ v.present) ∙ serving.user)

    algorithms : v.algorithm ≡ c.algorithm
    algorithms = Prim.cc (sym v.judged.accepts.judged.last ∙ ap (λ (x : Claimed). x.integrity) request.claims)

    right_by : (text : List ℕ) → Validates reply (user_key d.auth.realm v.name v.password v.algorithm) v.algorithm text → IsRight reply (standing_key s)
    right_by text valid = record {
      text = text;
      validates = subst (λ (a : IntegrityAlgorithm). Validates reply (user_key c.reported.realm plan.client.config.credentials.username plan.client.config.credentials.password a) a text) algorithms
          (subst (λ (x : List ℕ). Validates reply (user_key c.reported.realm plan.client.config.credentials.username x v.algorithm) v.algorithm text) passwords
          (subst (λ (x : List ℕ). Validates reply (user_key c.reported.realm x v.password v.algorithm) v.algorithm text) names
          (subst (λ (x : List ℕ). Validates reply (user_key x v.name v.password v.algorithm) v.algorithm text) realm_same valid)));
    }

  pub signed_so : IsAnswer d plan.client.here bytes now (words_of seed) (by.Refresh more) reply e → IsRight reply (standing_key s)
  signed_so (inl is) = refused is
  signed_so (inr v) = right_by v _ v.valid

-- ---- in a world

module _ (c : goal.After-messages_are_reported_alike) (plan : Plan) (old w v : World) (may : MayBegin plan old) (address : SocketAddr) (secondly : Sent) (p : RenewalPosition) (request : Sent) (now more : ℕ) (x : IsRequestedAt plan old address p request w) (enough : least ≤ more)
    (bytes reply : Vec ℕ Global) (seed : List ℕ) (same : bytes.items ≡ request.bytes) (step : IsStep (ToDesk bytes request.from now (by.Refresh more) seed) w (answer.Reply reply) v) (success : class_of (kind_at reply.items) ≡ Success) where
  abbrev own : List ℕ
  own = refresh_request plan.client x.choice x.number

  signed : IsSignedRefresh plan.client x.choice x.number
  signed = c.refreshes_are_signed.ensures.request plan.client x.choice x.number may.room may.text x.is.signs.agreed.chosen x.is.fits

  answered : IsDeskAnswered (answer.Reply reply) w.desk own plan.client.here now (by.Refresh more) seed v.desk
  answered = subst (λ (r : Sent). IsDeskAnswered (answer.Reply reply) w.desk r.bytes r.from now (by.Refresh more) seed v.desk) x.request_is
      (subst (λ (b : List ℕ). IsDeskAnswered (answer.Reply reply) w.desk b request.from now (by.Refresh more) seed v.desk) same step.0)

  replied : IsReplied w.desk own plan.client.here now (by.Refresh more) (words_of seed) reply.items v.desk
  replied = answered.reply

  serving : IsServing plan old.desk w.desk
  serving = serving_of plan old may w.desk x.is.signs.keeps

  outstanding : IsOutstandingAt plan old address p x.choice x.number [] v
  outstanding = record {
    signs = record {
      agreed = x.is.signs.agreed;
      keeps = keeps_on plan old may (ToDesk bytes request.from now (by.Refresh more) seed) w v (answer.Reply reply) step x.is.signs.keeps;
    };
    first = x.is.first;
    lasts = x.is.lasts;
    fits = x.is.fits;
    earlier = x.is.earlier;
    count = x.is.count;
    events = x.is.events;
    client = record { core = x.is.client.core; there = ap (λ (y : World). y.client) step.1 ∙ x.is.client.there; is = x.is.client.is };
  }

  pub granted : IsStageAt plan old address secondly (Renewing request more reply.items []) p v
  granted =
      let s = c.desk_steps.ensures w.desk v.desk plan.client.here own reply.items now (words_of seed) (by.Refresh more) replied.served replied.answer in
      let message = is_message w.desk v.desk plan.client.here own reply.items now seed (by.Refresh more) replied.answer in
      record {
        choice = x.choice;
        number = x.number;
        is = outstanding;
        request_is = x.request_is;
        enough = enough;
        lifetime_fits = answered.four_bytes;
        part = none_yet reply.items message;
        renewal = record {
          number_is = s.number ∙ signed.number_is;
          success = success;
          method = s.method ∙ signed.method;
          right = signed_so plan old.desk w.desk v.desk serving x.choice x.is.signs.agreed.of.realm x.number signed now more seed reply.items success replied.answer;
          lifetime_is = c.messages_are_reported_alike.ensures.lifetime reply.items ∙ reports_it w.desk v.desk plan.client.here own reply.items more s success answered.four_bytes;
        };
      }

pub returns : goal.returns
returns c = λ plan old w v address secondly p request now more bytes reply seed may x same enough step success.
    granted c plan old w v may address secondly p request now more x enough bytes reply seed same step success
