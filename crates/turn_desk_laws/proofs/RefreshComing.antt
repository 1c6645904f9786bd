-- What comes of a response to a client that holds an allocation, and what is buffered of it, over either transport.
use Rattle.std.proofs.Common.{◌≡◌, ◌≢◌, ℕ, ◌≤◌, ◌^◌, Bool, false, List, [], ◌∷◌, ◌++◌, ◌⊎◌, inl, inr, Some, None, refl, sym, ◌∙◌, subst, append-nil}
use Rattle.std.specs.Prelude.{Vec, ◌&&◌, if◌then◌else◌}
use Rattle.std.specs.Borrow.{Bor}
use Rattle.std.specs.declared.alloc.Global.{Global}
use Rattle.turn_desk_core.specs.StunTypesWire.Attributes.{kind_at}
use Rattle.turn_desk_core.specs.StunTypesWire.Grammar.{refusal}
use Rattle.turn_desk_core.specs.StunTypesWire.Types.{class_of}
use Rattle.turn_desk_core.specs.StunTypesWire.declared.class.MessageClass.{MessageClass}
use Rattle.turn_desk_core.specs.StunTypesWire.declared.class.MessageClass.TheVariants.{Request, Indication, Success, Error}
use Rattle.turn_client_proto_messages.specs.StunProtoClient.Challenges.{ChallengeFields, challenge_visible, is_challenge_code, is_error, reported_of}
use Rattle.turn_client_proto_api.specs.StunProtoAuth.Claims.{claimed, code_visible}
use Rattle.turn_desk_core.specs.StunTypesBase.declared.transmit.Transmit.{Transmit}
use Rattle.turn_desk_core.specs.StunTypesBase.declared.transport.TransportType.{TransportType}
use Rattle.turn_desk_core.specs.StunTypesBase.declared.transport.TransportType.TheVariants.{Udp, Tcp}
use Rattle.turn_client_proto_api.specs.TurnTypesFrame.Streams.{alive}
use Rattle.turn_client_proto_api.specs.declared.answer.TurnRecvRet.{TurnRecvRet}
use Rattle.turn_client_proto_api.specs.declared.answer.TurnRecvRet.TheVariants as recv
use Rattle.turn_client_proto_messages.specs.TurnRuns.Indications.{is_indication}
use Rattle.turn_client_proto_step_laws.specs.Recv.Control.{Control, Datagrams, Open}
use Rattle.turn_client_proto_step_laws.specs.Recv.ClientState.{ClientState, Protocol}
use Rattle.turn_client_proto_step_laws.specs.Recv.Receipts.{IsReceived}
use Rattle.turn_client_proto_handshake_laws.specs.Core.Receiving.{IsProcessed}
use Rattle.turn_client_proto_handshake_laws.specs.Sent.{Beginning}
use Rattle.turn_client_proto_handshake_laws.specs.Stages.{IsOf}
use Rattle.turn_client_proto_handshake_laws.specs.Coming.{HasCome, IsFromServer, IsProcessedAs, IsLost, IsPartOf}
use Rattle.turn_desk_event.specs.declared.answer.Answer.{Answer}
use Rattle.turn_desk_event.specs.declared.event.Event.TheVariants.{ToClient}
use Rattle.turn_desk_world_laws.specs.World.Calls.{IsFed, IsReported}
use Rattle.turn_desk_world_laws.specs.World.Model.{World}
use Rattle.turn_desk_world_laws.specs.World.Runs.{IsStep}
use Rattle.turn_desk_progress_laws.specs.Promises.{control_at, over}
use Rattle.turn_desk_progress_laws.specs.Scripts.{BringsOn}
use Rattle.turn_desk_progress_laws.proofs.Clients.{done, done_so, same_desk}

-- The bytes are a message, and no indication.
pub record IsResponse (bytes : List ℕ) : Type 0 where
  pub message : refusal bytes ≡ None
  pub no_indication : is_indication (class_of (kind_at bytes)) ≡ false

-- A challenge is a response.
pub challenge_comes : (bytes : List ℕ) (reported : ChallengeFields) → challenge_visible bytes ≡ Some reported → refusal bytes ≡ None → IsResponse bytes
challenge_comes bytes reported shows is = record { message = is; no_indication = by (class_of (kind_at bytes)) shows }
  where
    by : (c : MessageClass) → (if is_error c && is_challenge_code (code_visible bytes) then reported_of (claimed bytes) else None) ≡ Some reported → is_indication c ≡ false
    by Request none = absurd (Prim.cc none)
    by Indication none = absurd (Prim.cc none)
    by Success none = refl
    by Error some = refl

-- How bytes come, by the contract of the client's theorem.
pub record DoCome : Type 0 where
  pub datagram : (b : Beginning) (old new : ClientState) (came : Transmit (Bor (List ℕ))) (now : ℕ) (took : TurnRecvRet (Bor (List ℕ))) → IsOf b old.core → old.control ≡ Datagrams → IsFromServer b came
      → refusal came.bytes.now ≡ None → is_indication (class_of (kind_at came.bytes.now)) ≡ false → IsReceived (λ (x : Bor (List ℕ)). x.now) old came now took new → IsProcessedAs old came.bytes.now came now Datagrams took new ⊎ IsLost old came took new
  pub chunk : (b : Beginning) (old new : ClientState) (came : Transmit (Bor (List ℕ))) (now : ℕ) (took : TurnRecvRet (Bor (List ℕ))) (before message : List ℕ) → IsOf b old.core → HasCome before old → IsFromServer b came
      → came.bytes.now ≢ [] → IsPartOf (before ++ came.bytes.now) message → IsReceived (λ (x : Bor (List ℕ)). x.now) old came now took new
      → ((took ≡ recv.Handled) × (new.core ≡ old.core) × HasCome (before ++ came.bytes.now) new) ⊎ IsLost old came took new
  pub whole : (b : Beginning) (old new : ClientState) (came : Transmit (Bor (List ℕ))) (now : ℕ) (took : TurnRecvRet (Bor (List ℕ))) (before : List ℕ) → IsOf b old.core → HasCome before old → IsFromServer b came
      → came.bytes.now ≢ [] → refusal (before ++ came.bytes.now) ≡ None → is_indication (class_of (kind_at (before ++ came.bytes.now))) ≡ false → IsReceived (λ (x : Bor (List ℕ)). x.now) old came now took new
      → IsProcessedAs old (before ++ came.bytes.now) came now (Open (alive [])) took new ⊎ IsLost old came took new

-- All of the response has come and is handled, or these first bytes of it are buffered.
abbrev pub IsComeTo : ClientState → ClientState → TransportType → (now : ℕ) (reply head rest : List ℕ) → Type 0
IsComeTo k k2 transport now reply head [] = (handled : Bool) × IsProcessed k.core reply now handled k2.core × (k2.control ≡ control_at transport [])
IsComeTo k k2 transport now reply head (byte ∷ rest) = (k2.core ≡ k.core) × (k2.control ≡ control_at transport head) × IsPartOf head reply

module _ (reach : DoCome) (b : Beginning) (k k2 : ClientState) (u : IsOf b k.core) (came : Transmit (Bor (List ℕ))) (from : IsFromServer b came) (now : ℕ) (took : TurnRecvRet (Bor (List ℕ))) (ret : Answer) (reported : IsReported took ret) where
  -- A failed allocation has no result.
  never_lost : {A : Type 0} → IsLost k came took k2 → A
  never_lost lost = absurd (subst (λ (t : TurnRecvRet (Bor (List ℕ))). IsReported t ret) lost.0 reported)

  all_processed : (message : List ℕ) (control : Control) → IsProcessedAs k message came now control took k2 ⊎ IsLost k came took k2 → (handled : Bool) × IsProcessed k.core message now handled k2.core × (k2.control ≡ control)
  all_processed message control (inl is) = (is.handled, is.processed, is.control_is)
  all_processed message control (inr lost) = never_lost lost

  comes : (transport : TransportType) (reply head rest : List ℕ) → IsResponse reply → k.control ≡ control_at transport head → BringsOn transport reply head came.bytes.now rest
      → IsReceived (λ (x : Bor (List ℕ)). x.now) k came now took k2 → IsComeTo k k2 transport now reply (head ++ came.bytes.now) rest
  comes Udp reply head [] is at on received =
      let here : IsResponse came.bytes.now = subst (λ (l : List ℕ). IsResponse l) (sym on.0) is in
      let processed = reach.datagram b k k2 came now took u at from here.message here.no_indication received in
      all_processed reply Datagrams (subst (λ (l : List ℕ). IsProcessedAs k l came now Datagrams took k2 ⊎ IsLost k came took k2) on.0 processed)
  comes Udp reply head (byte ∷ rest) is at on received = absurd (Prim.cc on.1)
  comes Tcp reply head [] is at on received =
      let all : reply ≡ head ++ came.bytes.now = on.1 ∙ append-nil (head ++ came.bytes.now) in
      let here : IsResponse (head ++ came.bytes.now) = subst (λ (l : List ℕ). IsResponse l) all is in
      let processed = reach.whole b k k2 came now took head u at from on.0 here.message here.no_indication received in
      all_processed reply (Open (alive [])) (subst (λ (l : List ℕ). IsProcessedAs k l came now (Open (alive [])) took k2 ⊎ IsLost k came took k2) (sym all) processed)
  comes Tcp reply head (byte ∷ rest) is at on received =
      let part : IsPartOf (head ++ came.bytes.now) reply = record { is_message = is.message; rest = byte ∷ rest; parts = on.1; more = λ none. Prim.cc none } in
      elim (reach.chunk b k k2 came now took head reply u at from on.0 part received) [
        | inl is ↦ (is.1, is.2, part)
        | inr lost ↦ never_lost lost
      ]

-- ---- in a world

pub record IsTakenOn (b : Beginning) (p : Protocol) (reply before head rest : List ℕ) (now : ℕ) (w v : World) : Type 0 where
  pub after : ClientState
  pub there : v.client ≡ Some after
  pub desk : v.desk ≡ w.desk
  pub come : IsComeTo (over (control_at b.transport before) p) after b.transport now reply head rest

pub comes_on : (reach : DoCome) (b : Beginning) (w v : World) (p : Protocol) (reply head rest : List ℕ) (bytes : Vec ℕ Global) (now : ℕ) (ret : Answer) → w.client ≡ Some (over (control_at b.transport head) p)
    → IsOf b p → IsResponse reply → BringsOn b.transport reply head bytes.items rest → now ≤ 2 ^ 62 → IsStep (ToClient bytes b.server b.here now) w ret v
    → IsTakenOn b p reply head (head ++ bytes.items) rest now w v
comes_on reach b w v p reply head rest bytes now ret at u is on early step =
    let c = control_at b.transport head in
    let d = done c now _ p w.client v.client ret at step.0 in
    let fed : IsFed ret (over c p) bytes.items b.server b.here now d.after = done_so c now _ p ret v.client early d in
    let so = comes reach b (over c p) d.after u fed.came (record { transport = fed.transport_is ∙ u.transport; from = fed.from_is; to = fed.to_is }) now fed.took ret fed.reported b.transport reply head rest
    is refl (subst (λ (l : List ℕ). BringsOn b.transport reply head l rest) (sym fed.bytes_are) on) fed.received in
    record {
      after = d.after;
      there = d.there;
      desk = same_desk w v step.1;
      come = subst (λ (l : List ℕ). IsComeTo (over c p) d.after b.transport now reply (head ++ l) rest) fed.bytes_are so;
    }
