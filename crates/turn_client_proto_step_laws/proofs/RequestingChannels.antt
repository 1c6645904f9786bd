-- A channel that a caller requests is a step of a run.
use Rattle.std.proofs.Common.{◌≡◌, ℕ, Bool, true, false, if◌then◌else◌, List, [], ◌∷◌, ◌++◌, Option, Some, None, Result, Ok, Err, refl, sym, subst}
use Rattle.std.specs.Option.{option_or}
use Rattle.std.specs.Prelude.{IfNone, IfSome, MatchOption, MatchResult}
use Rattle.std.specs.declared.net.socket_addr.SocketAddr.{SocketAddr}
use Rattle.turn_client_proto_timers.specs.StunTypesBase.Family.{family_of_socket}
use Rattle.turn_client_proto_timers.specs.StunTypesBase.declared.transport.TransportType.{TransportType}
use Rattle.turn_client_proto_timers.specs.TurnRuns.Names.{socket_ip}
use Rattle.turn_client_proto_timers.specs.TurnRuns.StunWire.{decoded_by}
use Rattle.turn_client_proto_timers.specs.Api.declared.error.BindChannelError.{BindChannelError}
use Rattle.turn_client_proto_timers.specs.Api.declared.error.BindChannelError.TheVariants.{NoAllocation, NoChannel, NoMemory}
use Rattle.turn_client_proto_timers.specs.Peers.Channel.Binding.{asking, barring}
use Rattle.turn_client_proto_timers.specs.Peers.Channel.Numbers.{AreDistinct, IsLeastFree}
use Rattle.turn_client_proto_timers.specs.Peers.Permission.Asking.{is_of, is_past, knows, marked}
use Rattle.turn_client_proto_timers.specs.Messages.Requests.{request_text}
use Rattle.turn_client_proto_timers.specs.Messages.declared.request.TurnRequest.TheVariants.{ChannelBind}
use Rattle.turn_client_proto_timers.proofs.Messages.Peers.{peer_read}
use Rattle.turn_client_proto_timers.specs.Core.Asking.{requested}
use Rattle.turn_client_proto_timers.specs.Core.Binding.{IsBindAnswered, IsBindTried, IsChannelRequested, after_binding, allocation_to, asking_channel, bind_refusal, bind_refusal_in, bind_refused_in, changed_to, permission_beside}
use Rattle.turn_client_proto_timers.specs.Core.Deleting.{is_authenticated}
use Rattle.turn_client_proto_timers.specs.Core.Numbering.{after_number}
use Rattle.turn_client_proto_timers.specs.Core.declared.protocol.Phase.{Phase}
use Rattle.turn_client_proto_timers.specs.Core.declared.protocol.Phase.TheVariants.{Authenticated}
use Rattle.turn_client_proto_timers.specs.Core.declared.protocol.Protocol.{Protocol}
use Rattle.turn_client_proto_step_laws.specs.Held.{Allocation, PendingChannel}
use Rattle.turn_client_proto_step_laws.specs.RunClient.{Client, Parts, parts_of}
use Rattle.turn_client_proto_step_laws.specs.RunSteps.{IsRunStep}
use Rattle.turn_client_proto_step_laws.specs.Sound.{CanAsk, IsOrderly, IsSound, IsWhole, UntilEnded}
use Rattle.turn_client_proto_step_laws.proofs.Adding.{adds_both}
use Rattle.turn_client_proto_step_laws.proofs.Asking.{IsMade, IsUnderWay, requested_adds, requested_orderly, asks, at_first, made}
use Rattle.turn_client_proto_step_laws.proofs.Binding.{asking_permitting}
use Rattle.turn_client_proto_step_laws.proofs.Ending.{still}
use Rattle.turn_client_proto_step_laws.proofs.Lessening.{IsAlike}
use Rattle.turn_client_proto_step_laws.proofs.Permissions.{first_permitting}
use Rattle.turn_client_proto_step_laws.proofs.Permits.{asks_by, channel_fit, made_number}
use Rattle.turn_client_proto_step_laws.proofs.Fitting.{permitting_orderly}
use Rattle.turn_client_proto_step_laws.proofs.Permitting.{ArePermitting, allocations_permitting, none_gained}
use Rattle.turn_client_proto_step_laws.proofs.Placing.{requested_first_distinct}
use Rattle.turn_client_proto_step_laws.proofs.Plain.{nothing_transmitted}
use Rattle.turn_client_proto_step_laws.proofs.Refreshing.{allocated, number_transmitted}
use Rattle.turn_client_proto_step_laws.proofs.Requesting.{authenticated, marks_first}

-- A permission requested with a channel leaves channels as they are.
beside_alike : (peer : SocketAddr) (number : ℕ) (a : Allocation) → IsAlike a (permission_beside (socket_ip peer) number a)
unfolding permission_beside
beside_alike peer number a =
    elim (knows (socket_ip peer) a) as (λ b. IsAlike a (if b then a else record a { pending_permissions = a.pending_permissions ++ record { ip = socket_ip peer; others = []; numbers = number ∷ [] } ∷ [] })) [
      | true ↦ (refl, refl)
      | false ↦ (refl, refl)
    ]

module _ (c : Client) (transport : TransportType) (peer : SocketAddr) (now : ℕ) (whole : IsWhole peer) where
  abbrev passes : Allocation → Bool
  passes = is_of transport (family_of_socket peer)

  -- The channel is requested.
  asks_for : (channel number : ℕ) → IsOrderly (parts_of c.core) → c.core.phase ≡ Authenticated → IsUnderWay c [] c.core → IsLeastFree c.core.allocations now (Some channel) → IsMade c.core (ChannelBind channel peer) number
      → IsRunStep c [] None [] (after_binding transport peer channel number now c.core)
  unfolding after_binding requested
  asks_for channel number orderly occurs under_way free is =
      let text = request_text c.core.auth (ChannelBind channel peer) number in
      let mid : Parts = parts_of (requested (after_number c.core) (ChannelBind channel peer) number now) in
      let pending : PendingChannel = record { channel = channel; peer = peer; numbers = number ∷ [] } in
      let left : List Allocation = changed_to transport peer (asking_channel channel peer number) c.core.allocations in
      let are : ArePermitting none_gained (asks_by (ChannelBind channel peer) number) c.core.allocations left =
      first_permitting none_gained (asks_by (ChannelBind channel peer) number) passes (asking_channel channel peer number) c.core.allocations (λ a found. asking_permitting channel peer number a) in
      let distinct : AreDistinct left =
      requested_first_distinct passes (asking_channel channel peer number) pending now c.core.allocations (λ a. beside_alike peer number (asking pending a)) free orderly.distinct in
      let adds = adds_both (decoded_by text ∷ []) (parts_of c.core) mid (record mid { allocations = left }) (requested_adds c.core (ChannelBind channel peer) number now)
      (allocations_permitting (decoded_by text ∷ []) (asks_by (ChannelBind channel peer) number) mid left are (made_number c.core (ChannelBind channel peer) number now is)) in
      let stored = permitting_orderly none_gained (asks_by (ChannelBind channel peer) number) mid left are (channel_fit c.core channel peer number now whole is)
      (requested_orderly c.core (ChannelBind channel peer) number now is (allocated _ c.core.phase occurs) orderly) distinct in
      asks c c.core (ChannelBind channel peer) number under_way is None (after_binding transport peer channel number now c.core) adds stored refl (λ realm h. h) under_way.can_ask.settings refl refl (nothing_transmitted (decoded_by text ∷ []) c)

  refused : (found : Option Allocation) (new : Protocol) → IsSound c → new ≡ bind_refused_in found transport peer now c.core → IsRunStep c [] None [] new
  refused None new sound is = still c [] new sound is
  refused (Some a) new sound is =
      subst (λ (p : Protocol). IsRunStep c [] None [] p) (sym is)
      (elim (is_past now a) as (λ b. IsRunStep c [] None [] (if b then record c.core { allocations = changed_to transport peer marked c.core.allocations } else c.core)) [
        | true ↦ marks_first c passes sound
        | false ↦ still c [] c.core sound refl
      ])

  tried_by : (free : Option ℕ) (answer : Result (Unit {0}) BindChannelError) (new : Protocol) → IsSound c → c.core.phase ≡ Authenticated → CanAsk c → IsLeastFree c.core.allocations now free
      → MatchOption free ((answer ≡ Err NoChannel) × (new ≡ c.core)) (λ channel. MatchResult answer (λ _. IsChannelRequested c.core transport peer channel now new) (λ error. (error ≡ NoMemory) × (new ≡ after_number c.core)))
      → IsRunStep c [] None [] new
  tried_by None answer new sound occurs can least is = still c [] new sound is.1
  tried_by (Some channel) (Err e) new sound occurs can least is = subst (λ (p : Protocol). IsRunStep c [] None [] p) (sym is.1) (number_transmitted c sound)
  tried_by (Some channel) (Ok _) new sound occurs can least is =
      let under_way = at_first c [] sound.orderly can in
      subst (λ (p : Protocol). IsRunStep c [] None [] p) (sym is.after)
      (asks_for channel is.number sound.orderly occurs under_way least
      (made c c.core (ChannelBind channel peer) is.number under_way is.lawful (peer_read is.number peer whole.own whole.flow whole.scope) is.is_next))

  -- If the call is not refused, the server has allocated.
  is_active_after : (barred : Option BindChannelError) (phase : Phase) → option_or barred (if is_authenticated phase then None else Some NoAllocation) ≡ None → is_authenticated phase ≡ true
  is_active_after (Some e) phase none = absurd (Prim.cc none)
  is_active_after None phase none =
      elim (is_authenticated phase) as (λ (b : Bool). (if b then None else Some NoAllocation) ≡ None → b ≡ true) [
        | true ↦ λ h. refl
        | false ↦ λ h. absurd (Prim.cc h)
      ] none

  is_active_by : (found : Option Allocation) (phase : Phase) → bind_refusal_in found phase peer now ≡ None → is_authenticated phase ≡ true
  is_active_by None phase none = absurd (Prim.cc none)
  is_active_by (Some a) phase none =
      elim (is_past now a) as (λ (b : Bool). (if b then Some NoAllocation else option_or (barring peer now a) (if is_authenticated phase then None else Some NoAllocation)) ≡ None → is_authenticated phase ≡ true) [
        | true ↦ λ h. absurd (Prim.cc h)
        | false ↦ is_active_after (barring peer now a) phase
      ] none

  pub bind_step : (answer : Result (Unit {0}) BindChannelError) (new : Protocol) → IsSound c → IsBindAnswered c.core transport peer now answer new → IsRunStep c [] None [] new
  bind_step answer new sound is = by (bind_refusal c.core transport peer now) refl is.refused is.tried
    where
      by : (o : Option BindChannelError) → bind_refusal c.core transport peer now ≡ o
          → IfSome o (λ error. (answer ≡ Err error) × (new ≡ bind_refused_in (allocation_to transport peer c.core) transport peer now c.core))
          → IfNone o (IsBindTried c.core transport peer now answer new) → IsRunStep c [] None [] new
      by (Some error) at rejected none = refused (allocation_to transport peer c.core) new sound rejected.1
      by None at none going =
          let occurs = authenticated c.core.phase (is_active_by (allocation_to transport peer c.core) c.core.phase at) in
          tried_by going.free answer new sound occurs (subst (λ (f : Phase). UntilEnded f (CanAsk c)) occurs sound.can_ask) going.least going.outcome
