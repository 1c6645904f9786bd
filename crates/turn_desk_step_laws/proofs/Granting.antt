-- What a server core grants is what the request is for, and its response shows it.
use Rattle.std.proofs.Common.{◌≡◌, ℕ, Bool, true, false, List, [], ◌∷◌, ◌++◌, Some, refl, sym, ap, ◌∙◌, subst, arith}
use Rattle.std.specs.declared.net.socket_addr.SocketAddr.{SocketAddr}
use Rattle.turn_desk_core.specs.StunTypesWire.Attributes.{Attr, kind_at}
use Rattle.turn_desk_core.specs.StunTypesWire.Grammar.{number_at, visible}
use Rattle.turn_desk_core.specs.StunTypesWire.declared.algorithm.IntegrityAlgorithm.{IntegrityAlgorithm}
use Rattle.turn_client_proto_messages.specs.StunTypesIntegrity.Signing.{signature}
use Rattle.turn_desk_core.specs.StunTypesWire.Types.{method_of}
use Rattle.turn_desk_core.specs.TurnTypesAttributes.TurnRegistry.{xor_peer_address_kind}
use Rattle.turn_desk_core.specs.TurnTypesPeer.TurnShows.{addresses_visible}
use Rattle.turn_desk_core.specs.RequestedFor.{are_peers, peer_requested, peers_reported, some_peers}
use Rattle.turn_desk_core.specs.Grants.{IsGrant, IsAllocated, IsRefreshed, IsPermitted, IsBound, IsConnected, IsJoined, Allocated, Refreshed, Permitted, Bound, Connected, Joined}
use Rattle.turn_desk_core.specs.declared.decision.Decision.{Decision}
use Rattle.turn_desk_core.specs.declared.grant.Grant as granted
use Rattle.turn_runs_laws.specs.TurnRuns.Messages.{IsGrantFor}
use Rattle.turn_runs_laws.specs.TurnRuns.StunWire.{decoded_by}
use Rattle.turn_desk_step_laws.specs.DeskRun.{CanBeReported, reported_grant}
use Rattle.turn_desk_step_laws.proofs.Asking.{channel_same, connection_same, one_peer, peers_same, transport_same}
use Rattle.turn_desk_step_laws.proofs.Replies.{allocated_addresses, allocated_lifetime, connected_number, refreshed_lifetime}

-- A request has one method.
no : {P : Type 0} {a b : ℕ} (m : ℕ) → m ≡ a → m ≡ b → (a ≡ b → ⊥) → P
no m one other apart = absurd (apart (sym one ∙ other))

some_reported : (b : Bool) (reported peers : List SocketAddr) → some_peers b reported ≡ Some peers → reported ≡ peers
some_reported true [] peers h = absurd (Prim.cc h)
some_reported true (p ∷ others) peers h = Prim.cc h
some_reported false reported peers h = absurd (Prim.cc h)

-- The reply answers the request.
pub record Answers (bytes reply : List ℕ) : Type 0 where
  pub method : method_of (kind_at reply) ≡ method_of (kind_at bytes)
  pub number : number_at reply ≡ number_at bytes

module _ (bytes reply : List ℕ) (from : SocketAddr) (decision : Decision) (shows : List Attr) (algorithm : IntegrityAlgorithm) (key text : List ℕ) (answers : Answers bytes reply) (can : CanBeReported (number_at bytes) decision)
    (reported : visible reply ≡ shows ++ signature algorithm key text ∷ []) where
  abbrev IsFor : granted.Grant → Type 0
  IsFor g = IsGrantFor (decoded_by bytes) (decoded_by reply) (reported_grant g)

  abbrev m : ℕ
  m = method_of (kind_at bytes)

  shows_now : (now : List Attr) → shows ≡ now → visible reply ≡ now ++ signature algorithm key text ∷ []
  shows_now now is = reported ∙ ap (λ (l : List Attr). l ++ signature algorithm key text ∷ []) is

  can_now : (d : Decision) → decision ≡ d → CanBeReported (number_at bytes) d
  can_now d is = subst (λ (x : Decision). CanBeReported (number_at bytes) x) is can

  allocated : (g : granted.Grant) → IsAllocated bytes from decision shows g → IsFor g
  allocated g is =
      let fits = can_now _ is.decided in
      let now = shows_now _ is.visible in
      subst IsFor (sym is.stored) (record {
        method_answered = answers.method;
        number_answered = answers.number;
        method_is = refl;
        number_is = refl;
        allocates = λ h. (sym is.requested ∙ transport_same bytes, allocated_addresses reply (number_at bytes) is.lifetime is.relayed from algorithm key text answers.number fits.0 now, allocated_lifetime reply (number_at bytes) is.lifetime is.relayed from (signature algorithm key text) fits.1 now);
        refreshes = λ h. no m is.method h (λ e. omega (arith, e));
        permits = λ h. no m is.method h (λ e. omega (arith, e));
        binds = λ h. no m is.method h (λ e. omega (arith, e));
        connects = λ h. no m is.method h (λ e. omega (arith, e));
        attaches = λ h. no m is.method h (λ e. omega (arith, e));
      })

  refreshed : (g : granted.Grant) → IsRefreshed bytes from decision shows g → IsFor g
  refreshed g is =
      let fits = can_now _ is.decided in
      let now = shows_now _ is.visible in
      subst IsFor (sym is.stored) (record {
        method_answered = answers.method;
        number_answered = answers.number;
        method_is = refl;
        number_is = refl;
        allocates = λ h. no m is.method h (λ e. omega (arith, e));
        refreshes = λ h. refreshed_lifetime reply is.lifetime (signature algorithm key text) fits now;
        permits = λ h. no m is.method h (λ e. omega (arith, e));
        binds = λ h. no m is.method h (λ e. omega (arith, e));
        connects = λ h. no m is.method h (λ e. omega (arith, e));
        attaches = λ h. no m is.method h (λ e. omega (arith, e));
      })

  permitted : (g : granted.Grant) → IsPermitted bytes from decision shows g → IsFor g
  permitted g is = subst IsFor (sym is.stored) (record {
    method_answered = answers.method;
    number_answered = answers.number;
    method_is = refl;
    number_is = refl;
    allocates = λ h. no m is.method h (λ e. omega (arith, e));
    refreshes = λ h. no m is.method h (λ e. omega (arith, e));
    permits = λ h. sym (some_reported (are_peers bytes) (peers_reported bytes) is.peers is.requested) ∙ peers_same bytes;
    binds = λ h. no m is.method h (λ e. omega (arith, e));
    connects = λ h. no m is.method h (λ e. omega (arith, e));
    attaches = λ h. no m is.method h (λ e. omega (arith, e));
  })

  single : (peer p : SocketAddr) → peer_requested bytes ≡ Some peer → addresses_visible xor_peer_address_kind bytes ≡ p ∷ [] → peer ∷ [] ≡ p ∷ []
  single peer p is one = ap (λ (x : SocketAddr). x ∷ []) (one_peer bytes peer p is one)

  bound : (g : granted.Grant) → IsBound bytes from decision shows g → IsFor g
  bound g is = subst IsFor (sym is.stored) (record {
    method_answered = answers.method;
    number_answered = answers.number;
    method_is = refl;
    number_is = refl;
    allocates = λ h. no m is.method h (λ e. omega (arith, e));
    refreshes = λ h. no m is.method h (λ e. omega (arith, e));
    permits = λ h. no m is.method h (λ e. omega (arith, e));
    binds = λ h. (sym is.requested ∙ channel_same bytes, λ p one. single is.peer p is.peer_is one);
    connects = λ h. no m is.method h (λ e. omega (arith, e));
    attaches = λ h. no m is.method h (λ e. omega (arith, e));
  })

  connected : (g : granted.Grant) → IsConnected bytes from decision shows g → IsFor g
  connected g is =
      let fits = can_now _ is.decided in
      let now = shows_now _ is.visible in
      subst IsFor (sym is.stored) (record {
        method_answered = answers.method;
        number_answered = answers.number;
        method_is = refl;
        number_is = refl;
        allocates = λ h. no m is.method h (λ e. omega (arith, e));
        refreshes = λ h. no m is.method h (λ e. omega (arith, e));
        permits = λ h. no m is.method h (λ e. omega (arith, e));
        binds = λ h. no m is.method h (λ e. omega (arith, e));
        connects = λ h. (λ p one. single is.peer p is.requested one, connected_number reply is.connection (signature algorithm key text) fits now);
        attaches = λ h. no m is.method h (λ e. omega (arith, e));
      })

  attached : (g : granted.Grant) → IsJoined bytes from decision shows g → IsFor g
  attached g is = subst IsFor (sym is.stored) (record {
    method_answered = answers.method;
    number_answered = answers.number;
    method_is = refl;
    number_is = refl;
    allocates = λ h. no m is.method h (λ e. omega (arith, e));
    refreshes = λ h. no m is.method h (λ e. omega (arith, e));
    permits = λ h. no m is.method h (λ e. omega (arith, e));
    binds = λ h. no m is.method h (λ e. omega (arith, e));
    connects = λ h. no m is.method h (λ e. omega (arith, e));
    attaches = λ h. sym is.requested ∙ connection_same bytes;
  })

  pub is_for : (g : granted.Grant) → IsGrant bytes from decision shows g → IsFor g
  is_for g (Allocated is) = allocated g is
  is_for g (Refreshed is) = refreshed g is
  is_for g (Permitted is) = permitted g is
  is_for g (Bound is) = bound g is
  is_for g (Connected is) = connected g is
  is_for g (Joined is) = attached g is
