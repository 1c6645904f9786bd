-- Requests for a channel and for the permission that it needs.
use Rattle.std.proofs.Common.{◌≡◌, ℕ, ◌<◌, true, false, List, [], ◌∷◌, length, Option, Some, None, Result, Ok, Err, position, slice_get, slice_set, refl, sym, ap, ◌∙◌, subst}
use Rattle.std.proofs.lemmas.List.{set-set}
use Rattle.std.specs.Net.Socket.{socket_ip}
use Rattle.std.specs.Prelude.{IfNone, IfSome}
use Rattle.std.specs.declared.net.ip_addr.IpAddr.{IpAddr}
use Rattle.std.specs.declared.net.socket_addr.SocketAddr.{SocketAddr}
use Rattle.stun_types_base.specs.Family.{family_of_socket}
use Rattle.stun_types_base.specs.declared.transport.TransportType.{TransportType}
use Rattle.turn_client_proto_allocation.proofs.Changes.{change_first_at}
use Rattle.turn_client_proto_allocation.specs.declared.allocation.Allocation.{Allocation}
use Rattle.turn_client_proto_allocation.specs.declared.channel.PendingChannel.{PendingChannel}
use Rattle.turn_client_proto_api.specs.declared.error.BindChannelError.{BindChannelError}
use Rattle.turn_client_proto_api.specs.declared.error.BindChannelError.TheVariants.{NoAllocation, NoChannel, NoMemory}
use Rattle.turn_client_proto_allocation.proofs.SetAgain.{set_again}
use Rattle.turn_client_proto_peers.specs.Channel.Binding.{asking, barring}
use Rattle.turn_client_proto_peers.specs.Channel.Numbers.{IsLeastFree}
use Rattle.turn_client_proto_peers.specs.Permission.Asking.{is_of, is_past, knows}
use Rattle.turn_client_proto_peers.specs.Permission.Asking as permissions
use Rattle.turn_client_proto_messages.specs.ReportedRequests.{IsLawfulRequest}
use Rattle.turn_client_proto_messages.specs.declared.request.TurnRequest.{TurnRequest}
use Rattle.turn_client_proto_messages.specs.declared.request.TurnRequest.TheVariants.{ChannelBind}
use Rattle.turn_client_proto_core.specs.Asking.{requested}
use Rattle.turn_client_proto_core.specs.Binding.{IsBindAnswered, IsBindTried, after_binding, allocation_to, asking_channel, bind_refusal, bind_refusal_in, bind_refused_in, permission_beside}
use Rattle.turn_client_proto_core.specs.Deleting.{is_authenticated}
use Rattle.turn_client_proto_core.specs.Numbering.{IsNextNumber, after_number}
use Rattle.turn_client_proto_core.specs.declared.protocol.Phase.{Phase}
use Rattle.turn_client_proto_core.specs.declared.protocol.Protocol.{Protocol}
use Rattle.turn_client_proto_core.proofs.Indexes.{set_read}

-- ---- the permission beside a channel

module _ (old new : Protocol) (request : TurnRequest) (ip : IpAddr) (number now index : ℕ) (a : Allocation) where
  -- If the permission is active or requested already, the request asks for the channel only.
  pub beside_known : (found : Option Allocation) → slice_get old.allocations index ≡ found → found ≡ Some a → knows ip a ≡ true → new ≡ requested old request number now
      → IfSome found (λ x. new ≡ record (requested old request number now) { allocations = slice_set old.allocations index (permission_beside ip number x) })
  unfolding requested permission_beside
  beside_known None at some is after = tt
  beside_known (Some x) at some is after =
      after ∙ ap (λ (l : List Allocation). record (requested old request number now) { allocations = l })
      (sym (ap (λ (y : Allocation). slice_set old.allocations index y) (left_as_it_is x (Prim.cc some)) ∙ set_again old.allocations index x at))
    where
      left_as_it_is : (x : Allocation) → x ≡ a → permission_beside ip number x ≡ x
      left_as_it_is x same = rw (same, is) refl

  -- If it isn't, the request asks for the permission too.
  pub beside_requested : (found : Option Allocation) (given : IpAddr) → found ≡ Some a → given ≡ ip → knows ip a ≡ false
      → IfSome found (λ x. new ≡ record (requested old request number now) { allocations = slice_set old.allocations index (permissions.asking (record { ip = given; others = []; numbers = number ∷ [] }) x) })
      → IfSome found (λ x. new ≡ record (requested old request number now) { allocations = slice_set old.allocations index (permission_beside ip number x) })
  unfolding permission_beside
  beside_requested None given some same is after = tt
  beside_requested (Some x) given some same is after =
      after ∙ ap (λ (y : Allocation). record (requested old request number now) { allocations = slice_set old.allocations index y })
      (ap (λ (i : IpAddr). permissions.asking (record { ip = i; others = []; numbers = number ∷ [] }) x) same ∙ sym (one_more x (Prim.cc some)))
    where
      one_more : (x : Allocation) → x ≡ a → permission_beside ip number x ≡ permissions.asking (record { ip = ip; others = []; numbers = number ∷ [] }) x
      one_more x alike = rw (alike, is) refl

-- ---- a channel, and then the permission

-- The client after it requested both in the allocation that was found at `index`.
abbrev IsRequestedIn : Option Allocation → (old : Protocol) (request : TurnRequest) (index channel number now : ℕ) → SocketAddr → Protocol → Type 0
IsRequestedIn found old request index channel number now peer new =
    IfSome found (λ a. new ≡ record (requested old request number now) { allocations = slice_set old.allocations index (asking_channel channel peer number a) })

module _ (index channel number now : ℕ) (peer : SocketAddr) (new : Protocol) (pending : PendingChannel) (pushed : List Allocation) where
  requested_in : (p : Protocol) (request : TurnRequest) (found : Option Allocation) → index < length p.allocations → pending ≡ record { channel = channel; peer = peer; numbers = number ∷ [] }
      → IfSome found (λ a. pushed ≡ slice_set p.allocations index (asking pending a))
      → IfSome (slice_get pushed index) (λ a. new ≡ record (requested (record p { allocations = pushed }) request number now) { allocations = slice_set pushed index (permission_beside (socket_ip peer) number a) })
      → IsRequestedIn found p request index channel number now peer new
  unfolding requested
  requested_in p request None within made is done = tt
  requested_in p request (Some a) within made is done =
      let one : Allocation = asking (record { channel = channel; peer = peer; numbers = number ∷ [] }) a in
      let both : Allocation = permission_beside (socket_ip peer) number one in
      let put : pushed ≡ slice_set p.allocations index one = is ∙ ap (λ (c : PendingChannel). slice_set p.allocations index (asking c a)) made in
      let there : slice_get pushed index ≡ Some one = ap (λ (l : List Allocation). slice_get l index) put ∙ set_read p.allocations index one within in
      let after : new ≡ record (requested p request number now) { allocations = slice_set pushed index both } =
      subst (λ (o : Option Allocation). IfSome o (λ x. new ≡ record (requested p request number now) { allocations = slice_set pushed index (permission_beside (socket_ip peer) number x) })) there done in
      after ∙ ap (λ (l : List Allocation). record (requested p request number now) { allocations = l })
      (ap (λ (l : List Allocation). slice_set l index both) put ∙ set-set p.allocations index one both)

  -- The same for a client and a request that equal the given ones.
  pub both_requested : (p old : Protocol) (given request : TurnRequest) → p ≡ old → given ≡ request → index < length old.allocations → pending ≡ record { channel = channel; peer = peer; numbers = number ∷ [] }
      → IfSome (slice_get p.allocations index) (λ a. pushed ≡ slice_set p.allocations index (asking pending a))
      → IfSome (slice_get pushed index) (λ a. new ≡ record (requested (record p { allocations = pushed }) given number now) { allocations = slice_set pushed index (permission_beside (socket_ip peer) number a) })
      → IsRequestedIn (slice_get old.allocations index) old request index channel number now peer new
  both_requested p old given request same alike within made is done =
      let here : index < length p.allocations = subst (λ (q : Protocol). index < length q.allocations) (sym same) within in
      subst (λ (r : TurnRequest). IsRequestedIn (slice_get old.allocations index) old r index channel number now peer new) alike
      (subst (λ (q : Protocol). IsRequestedIn (slice_get q.allocations index) q given index channel number now peer new) same
      (requested_in p given (slice_get p.allocations index) here made is done))

-- ---- refusals

module _ (phase : Phase) (peer : SocketAddr) (now : ℕ) (a : Allocation) where
  pub past : is_past now a ≡ true → bind_refusal_in (Some a) phase peer now ≡ Some NoAllocation
  past is = rw is refl

  pub barred : (error : BindChannelError) → is_past now a ≡ false → barring peer now a ≡ Some error → bind_refusal_in (Some a) phase peer now ≡ Some error
  barred error not_past is = rw (not_past, is) refl

  pub ended : is_past now a ≡ false → barring peer now a ≡ None → is_authenticated phase ≡ false → bind_refusal_in (Some a) phase peer now ≡ Some NoAllocation
  ended not_past not_barred is = rw (not_past, not_barred, is) refl

  pub free : is_past now a ≡ false → barring peer now a ≡ None → is_authenticated phase ≡ true → bind_refusal_in (Some a) phase peer now ≡ None
  free not_past not_barred is = rw (not_past, not_barred, is) refl

-- ---- the result of the call

module _ (old : Protocol) (transport : TransportType) (peer : SocketAddr) (now : ℕ) where
  -- The result of a refused call, by the allocation that was found.
  pub refused_by : (found : Option Allocation) → allocation_to transport peer old ≡ found → (error : BindChannelError) (new : Protocol) → bind_refusal_in found old.phase peer now ≡ Some error
      → new ≡ bind_refused_in found transport peer now old → IsBindAnswered old transport peer now (Err error) new
  refused_by found is error new refusal after =
      let here : bind_refusal old transport peer now ≡ Some error = ap (λ (o : Option Allocation). bind_refusal_in o old.phase peer now) is ∙ refusal in
      let answer : Result (Unit {0}) BindChannelError = Err error in
      record {
        refused = subst (λ (o : Option BindChannelError). IfSome o (λ e. (answer ≡ Err e) × (new ≡ bind_refused_in (allocation_to transport peer old) transport peer now old))) (sym here)
            (refl, after ∙ ap (λ (o : Option Allocation). bind_refused_in o transport peer now old) (sym is));
        tried = subst (λ (o : Option BindChannelError). IfNone o (IsBindTried old transport peer now answer new)) (sym here) tt;
      }

  pub tried_by : (found : Option Allocation) → allocation_to transport peer old ≡ found → (answer : Result (Unit {0}) BindChannelError) (new : Protocol) → bind_refusal_in found old.phase peer now ≡ None
      → IsBindTried old transport peer now answer new → IsBindAnswered old transport peer now answer new
  tried_by found is answer new none outcome =
      let here : bind_refusal old transport peer now ≡ None = ap (λ (o : Option Allocation). bind_refusal_in o old.phase peer now) is ∙ none in
      record {
        refused = subst (λ (o : Option BindChannelError). IfSome o (λ e. (answer ≡ Err e) × (new ≡ bind_refused_in (allocation_to transport peer old) transport peer now old))) (sym here) tt;
        tried = subst (λ (o : Option BindChannelError). IfNone o (IsBindTried old transport peer now answer new)) (sym here) outcome;
      }

  -- The least free number of a list that equals the client's allocations is that of the allocations.
  least_in : (read : List Allocation) (free found : Option ℕ) → read ≡ old.allocations → free ≡ found → IsLeastFree read now free → IsLeastFree old.allocations now found
  least_in read free found whole is least = subst (IsLeastFree old.allocations now) is (subst (λ (l : List Allocation). IsLeastFree l now free) whole least)

  -- The result if no channel number is free.
  pub all_taken : (read : List Allocation) (free : Option ℕ) → read ≡ old.allocations → free ≡ None → IsLeastFree read now free → IsBindTried old transport peer now (Err NoChannel) old
  all_taken read free whole none least = record {
    free = None;
    least = least_in read free None whole none least;
    outcome = (refl, refl);
  }

  -- The result if a memory allocation failed.
  pub refused_memory : (read : List Allocation) (free : Option ℕ) (channel : ℕ) (new : Protocol) → read ≡ old.allocations → free ≡ Some channel → IsLeastFree read now free → new ≡ after_number old
      → IsBindTried old transport peer now (Err NoMemory) new
  refused_memory read free channel new whole is least after = record {
    free = Some channel;
    least = least_in read free (Some channel) whole is least;
    outcome = (refl, after);
  }

  -- The result if a channel was requested in the allocation at `index`.
  pub requested_there : (read : List Allocation) (free : Option ℕ) (index channel number : ℕ) (new : Protocol) (found : Option Allocation) → read ≡ old.allocations → free ≡ Some channel → IsLeastFree read now free
      → position (is_of transport (family_of_socket peer)) old.allocations ≡ Some index → slice_get old.allocations index ≡ found → (found ≡ None → ⊥) → IsNextNumber old number → IsLawfulRequest (ChannelBind channel peer)
      → IfSome found (λ x. new ≡ record (requested (after_number old) (ChannelBind channel peer) number now) { allocations = slice_set old.allocations index (asking_channel channel peer number x) })
      → IsBindTried old transport peer now (Ok tt) new
  unfolding after_binding
  requested_there read free index channel number new None whole is least here at some next lawful after = absurd (some refl)
  requested_there read free index channel number new (Some x) whole is least here at some next lawful after = record {
    free = Some channel;
    least = least_in read free (Some channel) whole is least;
    outcome = record {
      number = number;
      is_next = next;
      lawful = lawful;
      after = after ∙ ap (λ (l : List Allocation). record (requested (after_number old) (ChannelBind channel peer) number now) { allocations = l })
          (change_first_at (is_of transport (family_of_socket peer)) (asking_channel channel peer number) old.allocations index x here at);
    };
  }
