-- What comes to the client.
use Rattle.std.proofs.Common.{◌≡◌, ◌≢◌, ℕ, ◌+◌, length, Bool, true, false, List, [], ◌∷◌, ◌++◌, Option, Some, None, refl, sym, ap, ◌∙◌, subst, ◌⊎◌, inl, inr, append-nil}
use Rattle.std.specs.Prelude.{if◌then◌else◌, MatchOption, Result, Ok, Err, Vec}
use Rattle.std.proofs.lemmas.Bool.{cases_Bool}
use Rattle.std.specs.Borrow.{Bor}
use Rattle.std.specs.declared.alloc.Global.{Global}
use Rattle.std.specs.declared.net.socket_addr.SocketAddr.{SocketAddr}
use Rattle.turn_desk_core.specs.StunTypesWire.Attributes.{kind_at}
use Rattle.turn_desk_core.specs.StunTypesWire.Grammar.{refusal}
use Rattle.turn_desk_core.specs.StunTypesWire.Types.{class_of}
use Rattle.turn_desk_core.specs.StunTypesBase.declared.transmit.Transmit.{Transmit}
use Rattle.turn_desk_core.specs.StunTypesBase.declared.transport.TransportType.{TransportType}
use Rattle.turn_desk_core.specs.StunTypesBase.declared.transport.TransportType.TheVariants.{Tcp, Udp}
use Rattle.turn_client_proto_api.specs.Payloads.{PeerPayload}
use Rattle.turn_client_proto_api.specs.declared.answer.TurnRecvRet.{TurnRecvRet}
use Rattle.turn_client_proto_api.specs.declared.answer.TurnRecvRet.TheVariants as recv
use Rattle.turn_client_proto_handshake_laws.specs.Core.Receiving.{IsProcessed}
use Rattle.turn_client_proto_handshake_laws.specs.Coming.{HasCome, IsFromServer, IsProcessedAs, IsLost, IsPartOf}
use Rattle.turn_client_proto_handshake_laws.specs.Sent.{Beginning}
use Rattle.turn_client_proto_handshake_laws.specs.Stages.{IsOf}
use Rattle.turn_desk_world_laws.specs.TurnClientProtoPayload.declared.payload.Payload.{Payload}
use Rattle.turn_desk_world_laws.specs.TurnClientProtoPayload.declared.payload.Payload.TheVariants.{Data, Framed}
use Rattle.turn_desk_world_laws.specs.TurnClientProtoPayload.Payloads.{payload_of}
use Rattle.turn_desk_core.specs.StunTypesWire.declared.error.StunParseError.{StunParseError}
use Rattle.turn_desk_core.specs.TurnTypesAttributes.TurnRegistry.{channel_header_size}
use Rattle.turn_client_proto_progress_laws.specs.Holding.{HasHeld, HoldsChannel, IsFrameOf}
use Rattle.turn_client_proto_progress_laws.specs.Speaking.{Speaks, ReportsRealm}
use Rattle.turn_client_proto_progress_laws.proofs.Asking.Bound.{frame_given}
use Rattle.turn_client_proto_progress_laws.proofs.Asking.Frames.{frame_part, no_message}
use Rattle.turn_client_proto_progress_laws.proofs.Asking.Processing.{processed_speaks}
use Rattle.turn_client_proto_step_laws.specs.Recv.Datagrams.{Foreign, Processed, IsDatagramTaken, IsDelivered, IsMessageTaken, IsRead, Lost as MessageLost, Own, in_place}
use Rattle.turn_client_proto_progress_laws.proofs.Asking.Given.{given_by, processed_by, no_payload_of}
use Rattle.turn_client_proto_progress_laws.proofs.Asking.Chunks.{IsUnderWay, nothing_stored, part_stored, chunk_ends, chunk_waits, taken_asks, taken_come, taken_from, taken_holds, taken_speaks as taken_still}
use Rattle.turn_client_proto_progress_laws.specs.Asking.{HasMadeRequest, Wanted}
use Rattle.turn_client_proto_messages.specs.Allocation.declared.allocation.Allocation.{Allocation}
use Rattle.turn_client_proto_api.specs.declared.error.TcpAllocateError.{TcpAllocateError}
use Rattle.turn_desk_world_laws.specs.TurnClientProtoConnection.Streams.{emptied_in}
use Rattle.turn_client_proto_messages.specs.TurnRuns.Indications.{is_indication}
use Rattle.turn_client_proto_messages.specs.Allocation.Same.{is_same_address}
use Rattle.turn_client_proto_step_laws.proofs.SameSockets.{same_address}
use Rattle.turn_desk_world_laws.specs.TurnClientProto.SocketsReported.{replaced, takes_place}
use Rattle.turn_client_proto_api.specs.TurnTypesFrame.Streams.{alive}
use Rattle.turn_desk_world_laws.specs.World.Calls.{IsFed, IsReported}
use Rattle.turn_client_proto_step_laws.specs.Recv.Control.{Control, Datagrams, Open}
use Rattle.turn_client_proto_step_laws.specs.Recv.ClientState.{ClientState, Protocol}
use Rattle.turn_desk_world_laws.specs.World.Model.{World}
use Rattle.turn_desk_world_laws.specs.World.Runs.{IsStep, is_in_range}
use Rattle.turn_desk_event.specs.declared.answer.Answer.{Answer}
use Rattle.turn_desk_event.specs.declared.answer.Answer.TheVariants as answer
use Rattle.turn_desk_event.specs.declared.event.Event.TheVariants.{ToClient}
use Rattle.turn_desk_event.specs.declared.event.ClientCall.{ClientCall}
use Rattle.turn_desk_event.specs.declared.event.ClientCall.TheVariants as call
use Rattle.turn_desk_progress_laws.specs.Promises.{control_at, over}
use Rattle.turn_desk_progress_laws.specs.Scripts.{BringsOn, Plan}
use Rattle.turn_desk_progress_laws.specs.Asking.{IsOtherSocket}
use Rattle.turn_desk_progress_laws.proofs.Clients.{done, stays}
use Rattle.turn_desk_progress_laws.proofs.Calls.{DoesWait, IsIn, SocketStays}

-- A payload was given.
pub record IsGivenIn (ret : Answer) (transport : TransportType) (peer : SocketAddr) (payload : List ℕ) : Type 0 where
  pub given : PeerPayload
  pub answer_is : ret ≡ answer.Peer given
  pub payload_is : given.payload ≡ payload
  pub transport_is : given.transport ≡ transport
  pub peer_is : given.peer ≡ peer

module _ (b : Beginning) (w v : World) (p : Protocol) (of : IsOf b p) (bytes : Vec ℕ Global) (now : ℕ) (ret : Answer) (there : w.client ≡ Some (over Datagrams p)) (early : is_in_range now ≡ true) (step : IsStep (ToClient bytes b.server b.here now) w ret v) where
  -- The client received bytes.
  record IsFedIn : Type 0 where
    after : ClientState
    after_there : v.client ≡ Some after
    fed : IsFed ret (over Datagrams p) bytes.items b.server b.here now after

  is_fed : IsFedIn
  is_fed =
      let d = done Datagrams now (λ x y. IsFed ret x bytes.items b.server b.here now y) p w.client v.client ret there step.0 in
      elim d.outcome [
        | inl does ↦ record { after = d.after; after_there = d.there; fed = does.1 }
        | inr out ↦ absurd (Prim.cc (sym early ∙ out.2))
      ]

  from_server : (f : IsFedIn) → IsFromServer b f.fed.came
  from_server f = record { transport = f.fed.transport_is ∙ of.transport; from = f.fed.from_is; to = f.fed.to_is }

  -- A payload is given.
  reported_data : (transport : TransportType) (peer : SocketAddr) (held : PeerPayload) (payload : List ℕ) (ret : Answer) → held.payload ≡ payload → held.transport ≡ transport → held.peer ≡ peer → IsReported (recv.PeerData held) ret → IsGivenIn ret transport peer payload
  reported_data transport peer held payload (answer.Peer owned) one two three reported = record {
    given = owned;
    answer_is = refl;
    payload_is = ap (λ (x : PeerPayload). x.payload) reported ∙ one;
    transport_is = ap (λ (x : PeerPayload). x.transport) reported ∙ two;
    peer_is = ap (λ (x : PeerPayload). x.peer) reported ∙ three;
  }
  reported_data transport peer held payload _ one two three reported = absurd reported

  pub data_given : (transport : TransportType) (peer : SocketAddr) (start end : ℕ) (payload : List ℕ) → payload_of p bytes.items ≡ Some (Data transport peer start end)
      → (in_place bytes.items transport peer start end).payload ≡ payload → IsGivenIn ret transport peer payload
  data_given transport peer start end payload gives part =
      let f = is_fed in
      let own : payload_of p f.fed.came.bytes.now ≡ Some (Data transport peer start end) = ap (λ (l : List ℕ). payload_of p l) f.fed.bytes_are ∙ gives in
      let g = given_by b (over Datagrams p) of (λ (x : Bor (List ℕ)). x.now) f.fed.came (from_server f) now f.fed.took f.after (Data transport peer start end) own refl f.fed.received in
      reported_data transport peer (in_place f.fed.came.bytes.now transport peer start end) payload ret (ap (λ (l : List ℕ). (in_place l transport peer start end).payload) f.fed.bytes_are ∙ part) refl refl
      (subst (λ (t : TurnRecvRet (Bor (List ℕ))). IsReported t ret) g.0 f.fed.reported)

-- ---- a frame

module _ (b : Beginning) (w v : World) (p : Protocol) (of : IsOf b p) (bytes : Vec ℕ Global) (now : ℕ) (ret : Answer) (there : w.client ≡ Some (over Datagrams p)) (early : is_in_range now ≡ true) (step : IsStep (ToClient bytes b.server b.here now) w ret v) where
  pub frame_answered : (channel : ℕ) (peer : SocketAddr) → HoldsChannel b channel peer p → (payload : List ℕ) → IsFrameOf channel payload bytes.items → IsGivenIn ret b.config.transport peer payload
  frame_answered channel peer h payload f =
      let fed = is_fed b w v p of bytes now ret there early step in
      let gives = frame_given b channel peer p h payload bytes.items f (no_message bytes.items fed.fed.are_bytes f.lawful) in
      let part = frame_part p b.config.transport peer channel channel_header_size (channel_header_size + length payload) payload bytes.items f gives in
      let own : payload_of p fed.fed.came.bytes.now ≡ Some (Framed channel b.config.transport peer channel_header_size (channel_header_size + length payload)) = ap (λ (l : List ℕ). payload_of p l) fed.fed.bytes_are ∙ gives in
      let g = given_by b (over Datagrams p) of (λ (x : Bor (List ℕ)). x.now) fed.fed.came (from_server b w v p of bytes now ret there early step fed) now fed.fed.took fed.after (Framed channel b.config.transport peer channel_header_size (channel_header_size + length payload)) own refl fed.fed.received in
      reported_data b w v p of bytes now ret there early step b.config.transport peer (in_place fed.fed.came.bytes.now b.config.transport peer channel_header_size (channel_header_size + length payload)) payload ret
      (ap (λ (l : List ℕ). (in_place l b.config.transport peer channel_header_size (channel_header_size + length payload)).payload) fed.fed.bytes_are ∙ part) refl refl
      (subst (λ (t : TurnRecvRet (Bor (List ℕ))). IsReported t ret) g.0 fed.fed.reported)

-- ---- any datagram, to a client that speaks

module _ (b : Beginning) (realm : List ℕ) (address : SocketAddr) (p : Protocol) (speaks : Speaks b realm address p) where
  abbrev Speaking : Protocol → Type 0
  Speaking q = Speaks b realm address q

  same_so : (q : Protocol) → q ≡ p → Speaking q
  same_so q same = subst (λ (x : Protocol). Speaking x) (sym same) speaks

  module _ (message : List ℕ) (decodes : ReportsRealm realm message) (came : Transmit (Bor (List ℕ))) (now : ℕ) (took : TurnRecvRet (Bor (List ℕ))) (q : Protocol) (ret : Answer) (reported : IsReported took ret) where
    processed_or : IsMessageTaken p message came now took q → Speaking q
    processed_or (Processed handled processed as_it) = processed_speaks b realm address p speaks message decodes now handled q processed
    processed_or (MessageLost said grows failed) = absurd (subst (λ (t : TurnRecvRet (Bor (List ℕ))). IsReported t ret) said reported)

    by_reading : (refused : Option StunParseError) → IsRead refused p message came now took q → Speaking q
    by_reading None is = processed_or is
    by_reading (Some error) is = same_so q is.1

    by_payload : (payload : Option Payload) → MatchOption payload (IsRead (refusal message) p message came now took q) (λ x. IsDelivered (λ (y : Bor (List ℕ)). y.now) came x took × (q ≡ p)) → Speaking q
    by_payload None is = by_reading (refusal message) is
    by_payload (Some payload) is = same_so q is.1

  taken_speaks : (came : Transmit (Bor (List ℕ))) (now : ℕ) (took : TurnRecvRet (Bor (List ℕ))) (q : Protocol) (ret : Answer) → IsReported took ret → ReportsRealm realm came.bytes.now → IsDatagramTaken (λ (x : Bor (List ℕ)). x.now) p came now took q → Speaking q
  taken_speaks came now took q ret reported decodes (Foreign foreign back) = same_so q back.1
  taken_speaks came now took q ret reported decodes (Own server is) = by_payload came.bytes.now decodes came now took q ret reported (payload_of p came.bytes.now) is

pub datagram_speaks : (b : Beginning) (realm : List ℕ) (address : SocketAddr) (w v : World) (p : Protocol) (bytes : Vec ℕ Global) (from to : SocketAddr) (at : ℕ) (ret : Answer) → w.client ≡ Some (over Datagrams p) → Speaks b realm address p
    → ReportsRealm realm bytes.items → IsStep (ToClient bytes from to at) w ret v → IsIn Datagrams (λ x. Speaks b realm address x) w v
datagram_speaks b realm address w v p bytes from to at ret there speaks decodes step =
    let d = done Datagrams at (λ x y. IsFed ret x bytes.items from to at y) p w.client v.client ret there step.0 in
    elim d.outcome [
      | inl does ↦ (
          let fed : IsFed ret (over Datagrams p) bytes.items from to at d.after = does.1 in
          record {
            core = d.after.core;
            there = d.there ∙ ap Some (stays Datagrams d.after fed.received.1);
            is = taken_speaks b realm address p speaks fed.came at fed.took d.after.core ret fed.reported (subst (λ (l : List ℕ). ReportsRealm realm l) (sym fed.bytes_are) decodes) fed.received.0;
            of = step.1;
          })
      | inr out ↦ record { core = p; there = d.there ∙ ap Some out.1; is = speaks; of = step.1 }
    ]

-- ---- a message that is no indication, over either transport

-- The client's state after these first bytes of a message have come.
abbrev pub IsBrought : TransportType → Protocol → (message head rest : List ℕ) → (now : ℕ) → World → World → Type 0
IsBrought transport p message head [] now w v = IsIn (control_at transport []) (λ q. (handled : Bool) × IsProcessed p message now handled q) w v
IsBrought transport p message head (byte ∷ rest) now w v = IsIn (control_at transport head) (λ q. q ≡ p) w v × IsPartOf head message

module _ (b : Beginning) (w v : World) (p : Protocol) (of : IsOf b p) (bytes : Vec ℕ Global) (now : ℕ) (ret : Answer) (early : is_in_range now ≡ true) (step : IsStep (ToClient bytes b.server b.here now) w ret v) (message : List ℕ)
    (lawful : refusal message ≡ None) (answers : is_indication (class_of (kind_at message)) ≡ false) where
  record IsFedBy (c : Control) : Type 0 where
    after : ClientState
    after_there : v.client ≡ Some after
    fed : IsFed ret (over c p) bytes.items b.server b.here now after

  fed_by : (c : Control) → w.client ≡ Some (over c p) → IsFedBy c
  fed_by c there =
      let d = done c now (λ x y. IsFed ret x bytes.items b.server b.here now y) p w.client v.client ret there step.0 in
      elim d.outcome [
        | inl does ↦ record { after = d.after; after_there = d.there; fed = does.1 }
        | inr out ↦ absurd (Prim.cc (sym early ∙ out.2))
      ]

  from_it : (c : Control) (f : IsFedBy c) → IsFromServer b f.fed.came
  from_it c f = record { transport = f.fed.transport_is ∙ of.transport; from = f.fed.from_is; to = f.fed.to_is }

  processed_in : (c : Control) (f : IsFedBy c) (all : List ℕ) (control : Control) → IsProcessedAs (over c p) all f.fed.came now control f.fed.took f.after ⊎ IsLost (over c p) f.fed.came f.fed.took f.after
      → all ≡ message → IsIn control (λ q. (handled : Bool) × IsProcessed p message now handled q) w v
  processed_in c f all control (inl is) same = record {
    core = f.after.core;
    there = f.after_there ∙ ap Some (stays control f.after is.control_is);
    is = (is.handled, subst (λ (l : List ℕ). IsProcessed p l now is.handled f.after.core) same is.processed);
    of = step.1;
  }
  processed_in c f all control (inr lost) same = absurd (subst (λ (t : TurnRecvRet (Bor (List ℕ))). IsReported t ret) lost.0 f.fed.reported)

  stored_in : (head : List ℕ) (f : IsFedBy (Open (alive head)))
      → ((f.fed.took ≡ recv.Handled) × (f.after.core ≡ p) × HasCome (head ++ f.fed.came.bytes.now) f.after) ⊎ IsLost (over (Open (alive head)) p) f.fed.came f.fed.took f.after → IsIn (Open (alive (head ++ bytes.items))) (λ q. q ≡ p) w v
  stored_in head f (inl is) = record {
    core = f.after.core;
    there = f.after_there ∙ ap Some (stays (Open (alive (head ++ bytes.items))) f.after (is.2 ∙ ap (λ (l : List ℕ). Open (alive (head ++ l))) f.fed.bytes_are));
    is = is.1;
    of = step.1;
  }
  stored_in head f (inr lost) = absurd (subst (λ (t : TurnRecvRet (Bor (List ℕ))). IsReported t ret) lost.0 f.fed.reported)

  pub brings : (transport : TransportType) (head rest : List ℕ) → w.client ≡ Some (over (control_at transport head) p) → BringsOn transport message head bytes.items rest → IsBrought transport p message (head ++ bytes.items) rest now w v
  brings Udp head [] there on =
      let f = fed_by Datagrams there in
      let own : f.fed.came.bytes.now ≡ message = f.fed.bytes_are ∙ on.0 in
      let none = subst (λ (l : List ℕ). payload_of p l ≡ None) (sym own) (no_payload_of p message lawful answers) in
      let parsed = subst (λ (l : List ℕ). refusal l ≡ None) (sym own) lawful in
      processed_in Datagrams f f.fed.came.bytes.now Datagrams (processed_by b (over Datagrams p) of (λ (x : Bor (List ℕ)). x.now) f.fed.came (from_it Datagrams f) now f.fed.took f.after none refl parsed f.fed.received) own
  brings Udp head (byte ∷ rest) there on = absurd (Prim.cc on.1)
  brings Tcp head [] there on =
      let c = Open (alive head) in
      let f = fed_by c there in
      let all : head ++ f.fed.came.bytes.now ≡ message = ap (λ (l : List ℕ). head ++ l) f.fed.bytes_are ∙ sym (on.1 ∙ append-nil (head ++ bytes.items)) in
      let some = subst (λ (l : List ℕ). l ≢ []) (sym f.fed.bytes_are) on.0 in
      processed_in c f (head ++ f.fed.came.bytes.now) (Open (alive [])) (chunk_ends b (over c p) of (λ (x : Bor (List ℕ)). x.now) f.fed.came (from_it c f) now f.fed.took f.after head some
      (subst (λ (l : List ℕ). refusal l ≡ None) (sym all) lawful) (subst (λ (l : List ℕ). is_indication (class_of (kind_at l)) ≡ false) (sym all) answers) refl f.fed.received) all
  brings Tcp head (byte ∷ rest) there on =
      let c = Open (alive head) in
      let f = fed_by c there in
      let part : IsPartOf (head ++ bytes.items) message = record { is_message = lawful; rest = byte ∷ rest; parts = on.1; more = λ none. Prim.cc none } in
      let some = subst (λ (l : List ℕ). l ≢ []) (sym f.fed.bytes_are) on.0 in
      let part_now = subst (λ (l : List ℕ). IsPartOf (head ++ l) message) (sym f.fed.bytes_are) part in
      (stored_in head f (chunk_waits b (over c p) of (λ (x : Bor (List ℕ)). x.now) f.fed.came (from_it c f) now f.fed.took f.after head some message part_now refl f.fed.received), part)

-- ---- what waits is requested

-- No frame is complete in what was buffered of a stream.
abbrev pub IsStoredOf : TransportType → List ℕ → Type 0
IsStoredOf Udp head = Unit {0}
IsStoredOf Tcp head = IsUnderWay head

none_waits : (p : Protocol) (Is : Protocol → Type 0) → Is p → DoesWait Datagrams p Is
none_waits p Is is at given q r = (subst Is (sym r.1) is, r.2)

pub speaker_waits : (b : Beginning) (realm : List ℕ) (address : SocketAddr) (transport : TransportType) (head : List ℕ) (p : Protocol) → Speaks b realm address p → IsStoredOf transport head
    → DoesWait (control_at transport head) p (λ x. Speaks b realm address x)
speaker_waits b realm address Udp head p is stored = none_waits p (λ x. Speaks b realm address x) is
speaker_waits b realm address Tcp head p is stored = λ at given q r.
    let t = taken_from (over (Open (alive head)) p) at given q head stored refl r in
    (taken_still b realm address (over (Open (alive head)) p) q is t, taken_come (over (Open (alive head)) p) q head refl t)

pub asker_waits : (b : Beginning) (realm : List ℕ) (address : SocketAddr) (wanted : Wanted) (request : List ℕ) (until beyond : ℕ) (Counts : ℕ → Type 0) (transport : TransportType) (head : List ℕ) (p : Protocol) → HasMadeRequest b realm address wanted request until beyond Counts p → IsStoredOf transport head
    → DoesWait (control_at transport head) p (λ x. HasMadeRequest b realm address wanted request until beyond Counts x)
asker_waits b realm address wanted request until beyond Counts Udp head p is stored = none_waits p (λ x. HasMadeRequest b realm address wanted request until beyond Counts x) is
asker_waits b realm address wanted request until beyond Counts Tcp head p is stored = λ at given q r.
    let t = taken_from (over (Open (alive head)) p) at given q head stored refl r in
    (taken_asks b realm address wanted request until beyond Counts (over (Open (alive head)) p) q is t, taken_come (over (Open (alive head)) p) q head refl t)

pub holder_waits : (b : Beginning) (Is : Allocation → Type 0) → ((a : Allocation) → Is a → Is (emptied_in a)) → (transport : TransportType) (head : List ℕ) (p : Protocol) → HasHeld b p Is → IsStoredOf transport head
    → DoesWait (control_at transport head) p (λ x. HasHeld b x Is)
holder_waits b Is on Udp head p is stored = none_waits p (λ x. HasHeld b x Is) is
holder_waits b Is on Tcp head p is stored = λ at given q r.
    let t = taken_from (over (Open (alive head)) p) at given q head stored refl r in
    (taken_holds b Is on (over (Open (alive head)) p) q is t, taken_come (over (Open (alive head)) p) q head refl t)

pub nothing_of : (transport : TransportType) → IsStoredOf transport []
nothing_of Udp = tt
nothing_of Tcp = nothing_stored

pub part_of_one : (transport : TransportType) (head message : List ℕ) → IsPartOf head message → IsStoredOf transport head
part_of_one Udp head message part = tt
part_of_one Tcp head message part = part_stored head message part

-- ---- a socket with another address

replaced_datagrams : (x : Bool) → (if x then Datagrams else Datagrams) ≡ Datagrams
replaced_datagrams true = refl
replaced_datagrams false = refl

not_own : (p : Protocol) (here : SocketAddr) → (here ≡ p.agent.here → ⊥) → (r : Result (Unit {0}) TcpAllocateError) → takes_place p (Some here) r ≡ false
not_own p here other (Err error) = refl
not_own p here other (Ok done) = elim (cases_Bool (is_same_address here p.agent.here)) [
  | inl same ↦ absurd (other (same_address here p.agent.here same))
  | inr apart ↦ apart
]

none_own : (p : Protocol) (r : Result (Unit {0}) TcpAllocateError) → takes_place p None r ≡ false
none_own p (Err error) = refl
none_own p (Ok done) = refl

other_socket : (plan : Plan) (transport : TransportType) (head : List ℕ) (p : Protocol) (connection : ℕ) (peer : SocketAddr) (here : Option SocketAddr) → p.agent.here ≡ plan.client.here → IsOtherSocket plan (call.AllocatedTcpSocket connection peer here)
    → SocketStays (control_at transport head) p (call.AllocatedTcpSocket connection peer here)
other_socket plan Udp head p connection peer here own other = λ r. replaced_datagrams (takes_place p here r)
other_socket plan Tcp head p connection peer None own other = λ r. ap (λ (x : Bool). if x then replaced (Open (alive head)) else Open (alive head)) (none_own p r)
other_socket plan Tcp head p connection peer (Some here) own other = λ r. ap (λ (x : Bool). if x then replaced (Open (alive head)) else Open (alive head)) (not_own p here (λ same. other (same ∙ own)) r)

pub socket_stays : (plan : Plan) (transport : TransportType) (head : List ℕ) (p : Protocol) (what : ClientCall) → p.agent.here ≡ plan.client.here → IsOtherSocket plan what → SocketStays (control_at transport head) p what
socket_stays plan transport head p (call.AllocatedTcpSocket connection peer here) own other = other_socket plan transport head p connection peer here own other
socket_stays plan transport head p call.Poll own other = tt
socket_stays plan transport head p call.PollEvent own other = tt
socket_stays plan transport head p call.Delete own other = tt
socket_stays plan transport head p (call.CreatePermission t ip) own other = tt
socket_stays plan transport head p (call.CreatePermissions t ips) own other = tt
socket_stays plan transport head p (call.HavePermission t ip) own other = tt
socket_stays plan transport head p (call.Permissions t relayed) own other = tt
socket_stays plan transport head p (call.BindChannel t peer) own other = tt
socket_stays plan transport head p call.Channels own other = tt
socket_stays plan transport head p (call.SendTo t to bytes) own other = tt
socket_stays plan transport head p call.PollRecv own other = tt
socket_stays plan transport head p call.ProtocolError own other = tt
socket_stays plan transport head p call.RelayedAddresses own other = tt
socket_stays plan transport head p (call.TcpConnect peer) own other = tt
socket_stays plan transport head p (call.TcpClosed here there) own other = tt
socket_stays plan transport head p call.Connections own other = tt
