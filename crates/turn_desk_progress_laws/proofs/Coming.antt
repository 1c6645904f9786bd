-- What comes of a reply to a client that holds nothing, and what is buffered of it, over either transport.
use Rattle.std.proofs.Common.{◌≡◌, ◌≢◌, ℕ, ◌≤◌, ◌^◌, Bool, List, [], ◌∷◌, ◌++◌, ◌⊎◌, inl, inr, Option, Some, None, refl, sym, ap, ◌∙◌, subst, append-nil}
use Rattle.std.specs.Prelude.{Vec}
use Rattle.std.specs.Borrow.{Bor}
use Rattle.std.specs.declared.alloc.Global.{Global}
use Rattle.turn_desk_core.specs.StunTypesWire.Grammar.{header_refusal, refusal}
use Rattle.turn_desk_core.specs.StunTypesBase.declared.transmit.Transmit.{Transmit}
use Rattle.turn_desk_core.specs.StunTypesBase.declared.transport.TransportType.{TransportType}
use Rattle.turn_desk_core.specs.StunTypesBase.declared.transport.TransportType.TheVariants.{Udp, Tcp}
use Rattle.turn_client_proto_api.specs.TurnTypesFrame.Streams.{alive}
use Rattle.turn_client_proto_api.specs.Payloads.{PeerPayload}
use Rattle.turn_client_proto_api.specs.declared.answer.TurnRecvRet.{TurnRecvRet}
use Rattle.turn_client_proto_api.specs.declared.answer.TurnRecvRet.TheVariants as recv
use Rattle.turn_client_proto_step_laws.specs.Recv.Control.{Control, Datagrams, Open}
use Rattle.turn_client_proto_step_laws.specs.Recv.ClientState.{ClientState, Protocol}
use Rattle.turn_client_proto_step_laws.specs.Recv.Receipts.{IsReceived, IsWaitingGiven}
use Rattle.turn_client_proto_handshake_laws.specs.Core.Receiving.{IsProcessed}
use Rattle.turn_client_proto_handshake_laws.specs.Sent.{Beginning}
use Rattle.turn_client_proto_step_laws.specs.Recv.SocketChunks.{raw_waiting}
use Rattle.turn_client_proto_handshake_laws.specs.Coming.{HasCome, IsFromServer, IsProcessedAs, IsLost, IsPartOf, IsUnserved}
use Rattle.turn_desk_event.specs.declared.answer.Answer.{Answer}
use Rattle.turn_desk_event.specs.declared.answer.Answer.TheVariants as answer
use Rattle.turn_desk_event.specs.declared.event.ClientCall.TheVariants as call
use Rattle.turn_desk_event.specs.declared.event.Event.TheVariants.{Call, ToClient}
use Rattle.turn_desk_world_laws.specs.World.Calls.{IsCallReported, IsFed, IsReported, IsWaitingReported}
use Rattle.turn_desk_world_laws.specs.World.Model.{World}
use Rattle.turn_desk_world_laws.specs.World.Runs.{IsStep}
use Rattle.turn_desk_progress_laws.specs.Promises.{control_at, event_in, over}
use Rattle.turn_desk_progress_laws.specs.Scripts.{BringsOn}
use Rattle.turn_desk_progress_laws.proofs.Clients.{Rests, done, done_so, same_desk, same_world, stays}

-- ---- how much of a reply has come

-- No bytes are no message.
no_message : refusal [] ≡ None → ⊥
unfolding refusal header_refusal
no_message is = Prim.cc is

-- At first nothing has come.
pub none_yet : (reply : List ℕ) → refusal reply ≡ None → IsPartOf [] reply
none_yet reply message = record {
  is_message = message;
  rest = reply;
  parts = refl;
  more = λ none. no_message (subst (λ (l : List ℕ). refusal l ≡ None) none message);
}

-- ---- bytes of it come

-- How bytes come, by the contract of the client's theorem.
pub record DoReach : Type 0 where
  pub datagram : (b : Beginning) (old new : ClientState) (came : Transmit (Bor (List ℕ))) (now : ℕ) (took : TurnRecvRet (Bor (List ℕ))) → IsUnserved b old.core → old.control ≡ Datagrams → IsFromServer b came
      → refusal came.bytes.now ≡ None → IsReceived (λ (x : Bor (List ℕ)). x.now) old came now took new → IsProcessedAs old came.bytes.now came now Datagrams took new ⊎ IsLost old came took new
  pub chunk : (b : Beginning) (old new : ClientState) (came : Transmit (Bor (List ℕ))) (now : ℕ) (took : TurnRecvRet (Bor (List ℕ))) (before message : List ℕ) → IsUnserved b old.core → HasCome before old → IsFromServer b came
      → came.bytes.now ≢ [] → IsPartOf (before ++ came.bytes.now) message → IsReceived (λ (x : Bor (List ℕ)). x.now) old came now took new
      → ((took ≡ recv.Handled) × (new.core ≡ old.core) × HasCome (before ++ came.bytes.now) new) ⊎ IsLost old came took new
  pub whole : (b : Beginning) (old new : ClientState) (came : Transmit (Bor (List ℕ))) (now : ℕ) (took : TurnRecvRet (Bor (List ℕ))) (before : List ℕ) → IsUnserved b old.core → HasCome before old → IsFromServer b came
      → came.bytes.now ≢ [] → refusal (before ++ came.bytes.now) ≡ None → IsReceived (λ (x : Bor (List ℕ)). x.now) old came now took new
      → IsProcessedAs old (before ++ came.bytes.now) came now (Open (alive [])) took new ⊎ IsLost old came took new

-- What is buffered of them, by the contract of the client's theorem.
pub record DoWait : Type 0 where
  pub waiting : (old new : ClientState) (now : ℕ) (given : Option PeerPayload) (before message : List ℕ) → raw_waiting old.core ≡ None → HasCome before old → IsPartOf before message → IsWaitingGiven old now given new
      → (given ≡ None) × (new ≡ old)
  pub none_waits : (old new : ClientState) (now : ℕ) (given : Option PeerPayload) → old.control ≡ Datagrams → IsWaitingGiven old now given new → (given ≡ None) × (new ≡ old)

-- The event of what `recv` returns reports nothing.
pub silent : (took : TurnRecvRet (Bor (List ℕ))) (ret : Answer) → IsReported took ret → event_in ret ≡ []
silent recv.Handled answer.Handled is = refl
silent (recv.Ignored came) answer.Ignored is = refl
silent (recv.PeerData held) (answer.Peer owned) is = refl
silent (recv.PeerIcmp t p k c d) (answer.Icmp transport peer kind code report) is = refl
silent recv.Handled _ is = absurd is
silent (recv.Ignored came) _ is = absurd is
silent (recv.PeerData held) _ is = absurd is
silent (recv.PeerIcmp t p k c d) _ is = absurd is
silent _ ret is = absurd is

-- All of the reply has come and is handled, or these first bytes of it are buffered.
abbrev IsBrought : ClientState → ClientState → TransportType → (now : ℕ) (reply head rest : List ℕ) → Type 0
IsBrought k k2 transport now reply head [] = (handled : Bool) × IsProcessed k.core reply now handled k2.core × (k2.control ≡ control_at transport [])
IsBrought k k2 transport now reply head (byte ∷ rest) = (k2.core ≡ k.core) × (k2.control ≡ control_at transport head) × IsPartOf head reply

module _ (reach : DoReach) (b : Beginning) (k k2 : ClientState) (u : IsUnserved b k.core) (came : Transmit (Bor (List ℕ))) (from : IsFromServer b came) (now : ℕ) (took : TurnRecvRet (Bor (List ℕ))) (ret : Answer) (reported : IsReported took ret) where
  -- A failed allocation has no result.
  never_lost : {A : Type 0} → IsLost k came took k2 → A
  never_lost lost = absurd (subst (λ (t : TurnRecvRet (Bor (List ℕ))). IsReported t ret) lost.0 reported)

  all_processed : (message : List ℕ) (control : Control) → IsProcessedAs k message came now control took k2 ⊎ IsLost k came took k2 → (handled : Bool) × IsProcessed k.core message now handled k2.core × (k2.control ≡ control)
  all_processed message control (inl is) = (is.handled, is.processed, is.control_is)
  all_processed message control (inr lost) = never_lost lost

  brought : (transport : TransportType) (reply head rest : List ℕ) → refusal reply ≡ None → k.control ≡ control_at transport head → BringsOn transport reply head came.bytes.now rest
      → IsReceived (λ (x : Bor (List ℕ)). x.now) k came now took k2 → IsBrought k k2 transport now reply (head ++ came.bytes.now) rest
  brought Udp reply head [] message at on received =
      let processed = reach.datagram b k k2 came now took u at from (subst (λ (l : List ℕ). refusal l ≡ None) (sym on.0) message) received in
      all_processed reply Datagrams (subst (λ (l : List ℕ). IsProcessedAs k l came now Datagrams took k2 ⊎ IsLost k came took k2) on.0 processed)
  brought Udp reply head (byte ∷ rest) message at on received = absurd (Prim.cc on.1)
  brought Tcp reply head [] message at on received =
      let all : reply ≡ head ++ came.bytes.now = on.1 ∙ append-nil (head ++ came.bytes.now) in
      let processed = reach.whole b k k2 came now took head u at from on.0 (subst (λ (l : List ℕ). refusal l ≡ None) all message) received in
      all_processed reply (Open (alive [])) (subst (λ (l : List ℕ). IsProcessedAs k l came now (Open (alive [])) took k2 ⊎ IsLost k came took k2) (sym all) processed)
  brought Tcp reply head (byte ∷ rest) message at on received =
      let part : IsPartOf (head ++ came.bytes.now) reply = record { is_message = message; rest = byte ∷ rest; parts = on.1; more = λ none. Prim.cc none } in
      elim (reach.chunk b k k2 came now took head reply u at from on.0 part received) [
        | inl is ↦ (is.1, is.2, part)
        | inr lost ↦ never_lost lost
      ]

-- ---- in a world

pub record IsProcessedOn (c : Control) (p : Protocol) (reply : List ℕ) (now : ℕ) (ret : Answer) (w v : World) : Type 0 where
  pub core : Protocol
  pub there : v.client ≡ Some (over c core)
  pub handled : Bool
  pub processed : IsProcessed p reply now handled core
  pub silent_is : event_in ret ≡ []
  pub desk : v.desk ≡ w.desk

pub record IsStoredOn (c : Control) (p : Protocol) (ret : Answer) (w v : World) : Type 0 where
  pub there : v.client ≡ Some (over c p)
  pub silent_is : event_in ret ≡ []
  pub desk : v.desk ≡ w.desk

abbrev pub IsBroughtOn : TransportType → Protocol → (reply head rest : List ℕ) → ℕ → Answer → World → World → Type 0
IsBroughtOn transport p reply head [] now ret w v = IsProcessedOn (control_at transport []) p reply now ret w v
IsBroughtOn transport p reply head (byte ∷ rest) now ret w v = IsStoredOn (control_at transport head) p ret w v × IsPartOf head reply

module _ (transport : TransportType) (w v : World) (p : Protocol) (now : ℕ) (ret : Answer) (after : ClientState) (there : v.client ≡ Some after) (quiet : event_in ret ≡ []) (desk : v.desk ≡ w.desk) where
  in_world : (control : Control) (reply head rest : List ℕ) → IsBrought (over control p) after transport now reply head rest → IsBroughtOn transport p reply head rest now ret w v
  in_world control reply head [] is = record {
    core = after.core;
    there = there ∙ ap Some (stays (control_at transport []) after is.2);
    handled = is.0;
    processed = is.1;
    silent_is = quiet;
    desk = desk;
  }
  in_world control reply head (byte ∷ rest) is = (
    record {
      there = there ∙ ap Some (stays (control_at transport head) after is.1 ∙ ap (over (control_at transport head)) is.0);
      silent_is = quiet;
      desk = desk;
    },
    is.2,
  )

pub brings : (reach : DoReach) (b : Beginning) (w v : World) (p : Protocol) (reply head rest : List ℕ) (bytes : Vec ℕ Global) (now : ℕ) (ret : Answer) → w.client ≡ Some (over (control_at b.transport head) p)
    → IsUnserved b p → refusal reply ≡ None → BringsOn b.transport reply head bytes.items rest → now ≤ 2 ^ 62 → IsStep (ToClient bytes b.server b.here now) w ret v
    → IsBroughtOn b.transport p reply (head ++ bytes.items) rest now ret w v
brings reach b w v p reply head rest bytes now ret at u message on early step =
    let c = control_at b.transport head in
    let d = done c now _ p w.client v.client ret at step.0 in
    let is : IsFed ret (over c p) bytes.items b.server b.here now d.after = done_so c now _ p ret v.client early d in
    let brought_so = brought reach b (over c p) d.after u is.came (record { transport = is.transport_is ∙ u.settings.transport; from = is.from_is; to = is.to_is }) now is.took ret is.reported b.transport reply head rest
    message refl (subst (λ (l : List ℕ). BringsOn b.transport reply head l rest) (sym is.bytes_are) on) is.received in
    in_world b.transport w v p now ret d.after d.there (silent is.took ret is.reported) (same_desk w v step.1) c reply (head ++ bytes.items) rest
    (subst (λ (l : List ℕ). IsBrought (over c p) d.after b.transport now reply (head ++ l) rest) is.bytes_are brought_so)

-- ---- what waits is requested

module _ (wait : DoWait) (p : Protocol) (no_raw : raw_waiting p ≡ None) (after : ClientState) (now : ℕ) where
  none_given : (transport : TransportType) (head message : List ℕ) → IsPartOf head message → (given : Option PeerPayload) → IsWaitingGiven (over (control_at transport head) p) now given after
      → (given ≡ None) × (after ≡ over (control_at transport head) p)
  none_given Udp head message part given is = wait.none_waits (over Datagrams p) after now given refl is
  none_given Tcp head message part given is = wait.waiting (over (Open (alive head)) p) after now given head message no_raw refl part is

  none_decoded : (transport : TransportType) (head message : List ℕ) → IsPartOf head message → (ret : Answer) → IsWaitingReported ret (over (control_at transport head) p) now after
      → (event_in ret ≡ []) × (after ≡ over (control_at transport head) p)
  none_decoded transport head message part (answer.Peer given) is = absurd (Prim.cc (none_given transport head message part (Some given) is).0)
  none_decoded transport head message part answer.Nothing is = (refl, (none_given transport head message part None is).1)
  none_decoded transport head message part _ is = absurd is

waiting_reported : (ret : Answer) (k : ClientState) (now : ℕ) (after : ClientState) → IsCallReported call.PollRecv ret k now after → IsWaitingReported ret k now after
unfolding IsCallReported
waiting_reported ret k now after is = is

-- `poll_recv` gives nothing, and changes nothing.
pub waiting_rests : (wait : DoWait) (b : Beginning) (w v : World) (p : Protocol) (head message : List ℕ) (now : ℕ) (ret : Answer) → w.client ≡ Some (over (control_at b.transport head) p) → raw_waiting p ≡ None → IsPartOf head message
    → IsStep (Call call.PollRecv now) w ret v → Rests ret w v
waiting_rests wait b w v p head message now ret at no_raw part step =
    let c = control_at b.transport head in
    let d = done c now _ p w.client v.client ret at step.0 in
    elim d.outcome [
      | inl does ↦ (let n = none_decoded wait p no_raw d.after now b.transport head message part ret (waiting_reported ret (over c p) now d.after does.1) in
          record { same = same_world w v step.1 (d.there ∙ ap Some n.1 ∙ sym at); silent = n.0 })
      | inr out ↦ record { same = same_world w v step.1 (d.there ∙ ap Some out.1 ∙ sym at); silent = ap event_in out.0 }
    ]
