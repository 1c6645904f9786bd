-- A request of a user, signed as a server core requires, is answered by the decision.
use Rattle.std.specs.Prelude.{◌&&◌, ◌||◌, is_some, IsSome}
use Rattle.std.proofs.Common.{◌≡◌, ℕ, ◌<◌, ◌^◌, Bool, true, if◌then◌else◌, List, [], ◌∷◌, ◌++◌, Option, Some, None, refl, sym, ap, ◌∙◌, subst, inl, inr}
use Rattle.std.specs.FinMap as map
use Rattle.std.specs.List.{AllByRecursion, filter}
use Rattle.std.specs.Option.{option_map}
use Rattle.std.specs.declared.net.socket_addr.SocketAddr.{SocketAddr}
use Rattle.rand_core.specs.Stream.{Stream}
use Rattle.turn_desk_core.specs.StunTypesAttributes.Addresses.{address_value}
use Rattle.turn_desk_core.specs.StunTypesWire.Attributes.{Attr, kind_at}
use Rattle.turn_desk_core.specs.StunTypesWire.Grammar.{number_at, visible}
use Rattle.turn_desk_core.specs.StunTypesWire.declared.class.MessageClass.TheVariants.{Success}
use Rattle.turn_client_proto_messages.specs.StunTypesIntegrity.Signing.{signature, text_to_sign}
use Rattle.turn_desk_core.specs.StunTypesWire.Text.{message_text}
use Rattle.turn_desk_core.specs.StunTypesWire.Types.{class_of, is_response_class, method_of, type_of}
use Rattle.turn_desk_core.specs.StunTypesAttributes.Xor.{xored}
use Rattle.turn_desk_core.specs.StunTypesBase.declared.transport.TransportType.{TransportType}
use Rattle.turn_client_proto_messages.specs.StunProtoAuth.Claims.{claimed}
use Rattle.turn_client_proto_messages.specs.StunProtoAuth.Nonce.{takes_anonymous_username}
use Rattle.turn_client_proto_messages.specs.StunProtoAuth.declared.feature.Feature.{Feature}
use Rattle.turn_desk_core.specs.StunProtoVerify.Knowledge.{Named}
use Rattle.turn_desk_core.specs.StunProtoServer.Server.{Server, has_standing_nonce, nonce_at, refreshed, with_new_nonce}
use Rattle.turn_desk_core.specs.StunProtoServer.ServerValidation.{Accepts}
use Rattle.turn_desk_core.specs.StunProtoServer.Users.{IsClaimedName, NamesOne}
use Rattle.turn_desk_core.specs.TurnTypesAttributes.TurnRegistry.{allocate_method, xor_relayed_address_kind}
use Rattle.turn_desk_core.specs.TurnTypesPeer.TurnShows.{address_in, each_visible}
use Rattle.turn_desk_core.proofs.Methods.{by_method}
use Rattle.turn_desk_core.specs.declared.requested.Requested.TheVariants.{Allocation}
use Rattle.turn_desk_core.specs.RequestedFor.{requested_by, transport_requested}
use Rattle.turn_desk_core.specs.declared.decision.Decision.{Decision}
use Rattle.turn_desk_core.specs.declared.decision.Decision.TheVariants.{Allocate}
use Rattle.turn_desk_core.specs.declared.verdict.Verdict.{Verdict}
use Rattle.turn_desk_core.specs.declared.verdict.Verdict.TheVariants.{Allocates}
use Rattle.turn_desk_core.specs.Replies.{allocated_attributes, relayed_attributes, success_type}
use Rattle.turn_desk_core.specs.Requests.{IsServed}
use Rattle.turn_desk_core.specs.State.{State}
use Rattle.turn_desk_core.specs.Steps.{IsAnswer, IsChallenge, IsVerdict}
use Rattle.turn_desk_core.specs.Verdicts.{are_relayable, misfit, verdict, verdict_on}
use Rattle.turn_desk_step_laws.specs.DeskRun.{AreReported}
use Rattle.turn_runs_laws.specs.TurnRuns.StunWire.{decoded_by}
use Rattle.turn_desk_step_laws.specs.Users.{IsAllocationGranted, IsOfUser, IsUserAnswered, Signatory, key_of, knowing}
use Rattle.turn_desk_step_laws.proofs.Asking.{transport_same}
use Rattle.turn_desk_core.proofs.StunProtoServer.Definite.{accepted_same}
use Rattle.turn_desk_core.proofs.StunProtoServer.Named.{inside, never_both}
use Rattle.turn_desk_step_laws.proofs.Replies.{allocated_addresses, allocated_lifetime, after_addresses, is_of, joined, no_relayed}

-- ---- it is accepted

-- A claim that names someone has a user name or a hash.
names_someone : (realm : List ℕ) (anonymous : Feature) (username hash : Option (List ℕ)) (name : List ℕ) → IsClaimedName realm username hash name → (username ≡ None → takes_anonymous_username anonymous ≡ true)
    → (is_some username || (takes_anonymous_username anonymous && is_some hash)) ≡ true
names_someone realm anonymous (Some visible) hash name named taken = refl
names_someone realm anonymous None hash name named taken = λ i. taken refl i && is_some (named i)

module _ (server : Server) (from : SocketAddr) (bytes nonce : List ℕ) (user : Signatory) (served : IsServed bytes) (stored : nonce_at server from ≡ Some nonce) (is : IsOfUser server nonce bytes user) where
  abbrev someone : Named
  someone = record { name = user.name; password = user.password }

  pub accepted_as : Accepts server from bytes user.algorithm user.name
  accepted_as = record {
    password = user.password;
    named = record { present = is.present; named = is.named };
    judged = record {
      no_response = ap is_response_class served.request;
      last = is.last;
      named = names_someone server.realm server.anonymous_username (claimed bytes).username (claimed bytes).user_hash user.name is.named is.hash_taken;
      realm = is.realm;
      has_realm = is.has_realm;
      nonce = nonce;
      has_nonce = is.has_nonce;
      occurs = stored;
      consistent = is.consistent;
      password = user.password;
      present = refl;
      text = is.text;
      validates = is.validates;
    };
  }

-- ---- and so it is returned by what was decided

module _ (old new : State) (from : SocketAddr) (bytes reply nonce : List ℕ) (now : ℕ) (stream : Stream) (user : Signatory) (served : IsServed bytes) (occurs : has_standing_nonce old.auth from now ≡ true) (stored : nonce_at old.auth from ≡ Some nonce)
    (one : NamesOne old.auth (claimed bytes)) (is : IsOfUser old.auth nonce bytes user) where
  same_server : refreshed old.auth from now stream ≡ old.auth
  same_server = ap (λ (b : Bool). if b then old.auth else with_new_nonce old.auth from now stream) occurs

  accepts : Accepts old.auth from bytes user.algorithm user.name
  accepts = accepted_as old.auth from bytes nonce user served stored is

  decided : (what : Verdict) → IsVerdict old from bytes now stream what reply new → IsUserAnswered old from bytes what user reply new
  decided what v =
      let theirs : Accepts old.auth from bytes v.algorithm v.name = subst (λ (s : Server). Accepts s from bytes v.algorithm v.name) same_server v.judged.accepts in
      let same = accepted_same old.auth from bytes v.algorithm user.algorithm v.name user.name one theirs accepts in
      let names : v.name ≡ user.name = same.0 in
      let algorithms : v.algorithm ≡ user.algorithm = same.1 in
      let passwords : v.password ≡ user.password = inside (sym (ap (map.get old.auth.users) (sym names) ∙ v.present) ∙ is.present) in
      let they : Signatory = record { name = v.name; password = v.password; algorithm = v.algorithm } in
      let same : they ≡ user = λ i. record { name = names i; password = passwords i; algorithm = algorithms i } in
      subst (λ (u : Signatory). IsUserAnswered old from bytes what u reply new) same (record {
        text = v.text;
        read = v.read;
        valid = v.valid;
        stored = v.judged.after ∙ ap (λ (s : Server). knowing s from they) same_server;
        granted = v.granted;
      })

  not_unauthenticated : {A : Type 0} → IsChallenge old from bytes now stream reply new → A
  not_unauthenticated away =
      absurd (never_both (refreshed old.auth from now stream) from bytes user.algorithm user.name away.error (subst (λ (s : Server). NamesOne s (claimed bytes)) (sym same_server) one)
      (subst (λ (s : Server). Accepts s from bytes user.algorithm user.name) (sym same_server) accepts) away.judged.refused)

  pub user_answered : (decision : Decision) → IsAnswer old from bytes now stream decision reply new → IsUserAnswered old from bytes (verdict_on bytes decision) user reply new
  user_answered decision (inl away) = not_unauthenticated away
  user_answered decision (inr v) = decided (verdict_on bytes decision) v

-- ---- an allocation

-- The verdict on an ALLOCATE for which addresses were decided.
allocates : (bytes : List ℕ) (transport : TransportType) (relayed : List SocketAddr) (lifetime : ℕ) → method_of (kind_at bytes) ≡ allocate_method → transport_requested bytes ≡ Some transport → are_relayable relayed ≡ true
    → verdict_on bytes (Allocate relayed lifetime) ≡ Allocates transport relayed lifetime
allocates bytes transport relayed lifetime method asks fits =
    ap (λ (m : ℕ). verdict (requested_by m bytes) (Allocate relayed lifetime)) method
    ∙ (ap (λ (t : Option TransportType). verdict (option_map Allocation t) (Allocate relayed lifetime)) asks
    ∙ ap (λ (b : Bool). if b then Allocates transport relayed lifetime else misfit) fits)

-- Each visible address is well formed.
reported_some : (number : ℕ) (address : SocketAddr) (a : Attr) → address_in number a ≡ Some address → IsSome (address_in number a)
reported_some number address a reported = rw reported refl

each_after : (number : ℕ) (relayed : List SocketAddr) (following : List Attr) → AreReported number relayed → filter (is_of xor_relayed_address_kind) following ≡ []
    → AllByRecursion (λ a. IsSome (address_in number a)) (filter (is_of xor_relayed_address_kind) (relayed_attributes number relayed ++ following))
each_after number [] following reported none = subst (λ (l : List Attr). AllByRecursion (λ a. IsSome (address_in number a)) l) (sym none) tt
each_after number (addr ∷ relayed) following reported none = (reported_some number addr (record { kind = xor_relayed_address_kind; value = xored number (address_value addr) }) reported.0, each_after number relayed following reported.1 none)

-- A success response has its class and method.
record IsTyped (mtype method : ℕ) : Type 0 where
  class : class_of mtype ≡ Success
  same : method_of mtype ≡ method

success_typed : (bytes : List ℕ) → IsServed bytes → IsTyped (success_type bytes) (method_of (kind_at bytes))
success_typed bytes served = by_method (λ (m : ℕ). IsTyped (type_of Success m) m) (record {
  allocate = record { class = refl; same = refl };
  refresh = record { class = refl; same = refl };
  create_permission = record { class = refl; same = refl };
  channel_bind = record { class = refl; same = refl };
  connect = record { class = refl; same = refl };
  connection_bind = record { class = refl; same = refl };
}) (method_of (kind_at bytes)) served.method

module _ (old new : State) (from : SocketAddr) (bytes reply : List ℕ) (user : Signatory) (transport : TransportType) (relayed : List SocketAddr) (lifetime : ℕ) (served : IsServed bytes) (method : method_of (kind_at bytes) ≡ allocate_method)
    (reported : AreReported (number_at bytes) relayed) (small : lifetime < 2 ^ 32) where
  abbrev what : Verdict
  what = Allocates transport relayed lifetime

  allocation : IsUserAnswered old from bytes what user reply new → IsAllocationGranted old from bytes transport relayed lifetime user reply new
  allocation is =
      let key = key_of old.auth user in
      let number = number_at bytes in
      let covered = message_text (success_type bytes) number (allocated_attributes number relayed lifetime from) in
      let mapped = xored number (address_value from) in
      let seal = signature user.algorithm key covered in
      let typed = success_typed bytes served in
      let shows : visible reply ≡ allocated_attributes number relayed lifetime from ++ seal ∷ [] = is.read.shows in
      let none = no_relayed lifetime mapped user.algorithm key covered in
      record {
        message = is.read.message;
        success = ap class_of is.read.kind ∙ typed.class;
        method = ap method_of is.read.kind ∙ (typed.same ∙ method);
        number = is.read.number;
        shows = allocated_addresses reply number lifetime relayed from user.algorithm key covered is.read.number reported shows;
        each = subst (λ (n : ℕ). AllByRecursion (λ a. IsSome (address_in n a)) (each_visible xor_relayed_address_kind reply)) (sym is.read.number)
            (subst (λ (l : List Attr). AllByRecursion (λ a. IsSome (address_in number a)) (filter (is_of xor_relayed_address_kind) l)) (sym (shows ∙ joined (relayed_attributes number relayed) (after_addresses lifetime mapped) (seal ∷ [])))
            (each_after number relayed (after_addresses lifetime mapped ++ seal ∷ []) reported none));
        decodes = allocated_lifetime reply number lifetime relayed from seal small shows;
        text = text_to_sign user.algorithm covered;
        valid = is.valid;
        stored = is.stored;
        granted = is.granted;
      }

  pub allocation_granted : (decoded_by bytes).transport ≡ Some transport → are_relayable relayed ≡ true → IsUserAnswered old from bytes (verdict_on bytes (Allocate relayed lifetime)) user reply new
      → IsAllocationGranted old from bytes transport relayed lifetime user reply new
  allocation_granted asks fits is =
      allocation (subst (λ (v : Verdict). IsUserAnswered old from bytes v user reply new) (allocates bytes transport relayed lifetime method (transport_same bytes ∙ asks) fits) is)
