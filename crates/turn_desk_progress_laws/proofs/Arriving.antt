-- What arrives at the client of an honest run in the steps of an event.
use Rattle.std.proofs.Common.{◌≡◌, ◌≢◌, ℕ, ◌≤◌, ◌^◌, List, [], ◌∷◌, ◌++◌, length, drop, Option, Some, None, refl, sym, ap, ◌∙◌, subst, append-nil}
use Rattle.std.specs.Prelude.{Vec, is_none}
use Rattle.std.specs.declared.alloc.Global.{Global}
use Rattle.turn_desk_core.specs.StunTypesWire.Grammar.{refusal}
use Rattle.turn_desk_core.specs.StunTypesBase.declared.transport.TransportType.{TransportType}
use Rattle.turn_desk_core.specs.StunTypesBase.declared.transport.TransportType.TheVariants.{Udp, Tcp}
use Rattle.turn_client_proto_api.specs.TurnTypesFrame.Streams.{Stream, alive}
use Rattle.turn_client_proto_messages.specs.Allocation.declared.connection.Connection.{Connection as Joined}
use Rattle.turn_client_proto_handshake_laws.specs.Coming.{IsPartOf, IsUnserved}
use Rattle.turn_client_proto_handshake_laws.specs.Sent.{Beginning}
use Rattle.turn_client_proto_handshake_laws.proofs.Frames.{message_has_one, part_has_none}
use Rattle.turn_client_proto_step_laws.specs.Recv.Control.{Open}
use Rattle.turn_client_proto_step_laws.specs.Recv.ClientState.{ClientState, Protocol}
use Rattle.turn_client_proto_step_laws.specs.RunClient.{Client}
use Rattle.turn_client_proto_messages.specs.TurnRuns.Steps.{Call}
use Rattle.turn_client_proto_step_laws.specs.Recv.Waiting.{completed, whole_frames}
use Rattle.turn_desk_event.specs.declared.answer.Answer.{Answer}
use Rattle.turn_desk_event.specs.declared.answer.Answer.TheVariants as answer
use Rattle.turn_desk_event.specs.declared.event.ClientCall.{ClientCall}
use Rattle.turn_desk_event.specs.declared.event.ClientCall.TheVariants as call
use Rattle.turn_desk_event.specs.declared.event.Event.{Event}
use Rattle.turn_desk_event.specs.declared.event.Event.TheVariants.{Call as Called, ToClient}
use Rattle.turn_desk_world_laws.specs.Reported.{AreBrought, AreCallsBy, AreCallsOfAsking, AreCallsOfBytes, AreCallsOfChunk, AreCallsOverTcp, AreTakenUp, ByEnd, ByNone, ByOthers, ByChunk, IsOneCall, IsStreams, OfStream, OverNone, OverSocket, arriving}
use Rattle.turn_desk_progress_laws.specs.Promises.{control_at, over}
use Rattle.turn_desk_progress_laws.specs.Scripts.{BringsOn, IsLook}
use Rattle.turn_desk_progress_laws.proofs.Clients.{within}

-- Nothing arrives in any of these calls.
abbrev pub NoneArrive : List (Call Client) → Type 0
NoneArrive [] = Unit {0}
NoneArrive (call ∷ earlier) = (call.came ≡ []) × NoneArrive earlier

-- A message arrives in the oldest of the calls, and nothing else in any.
pub record ArrivesFirst (message : List ℕ) (calls : List (Call Client)) : Type 0 where
  pub later : List (Call Client)
  pub call : Call Client
  pub calls_are : calls ≡ later ++ call ∷ []
  pub none : NoneArrive later
  pub came_is : call.came ≡ message ∷ []

-- ---- where nothing arrives

pub one_call : (happening : Event) (ret : Answer) (first last : Client) (calls : List (Call Client)) → arriving happening ≡ [] → IsOneCall happening ret first calls last → NoneArrive calls
one_call happening ret first last calls none is = subst (λ (l : List (Call Client)). NoneArrive l) (sym is.1) (is.4.came_is ∙ none, tt)

pub looks_bring_none : (what : ClientCall) (now : ℕ) (k : ClientState) (ret : Answer) (first last : Client) (calls : List (Call Client)) → IsLook what → AreCallsBy (Called what now) k ret first calls last → NoneArrive calls
looks_bring_none call.PollEvent now k ret first last calls look is = one_call (Called call.PollEvent now) ret first last calls refl is
looks_bring_none (call.HavePermission transport ip) now k ret first last calls look is = one_call (Called (call.HavePermission transport ip) now) ret first last calls refl is
looks_bring_none (call.Permissions transport relayed) now k ret first last calls look is = one_call (Called (call.Permissions transport relayed) now) ret first last calls refl is
looks_bring_none call.Channels now k ret first last calls look is = one_call (Called call.Channels now) ret first last calls refl is
looks_bring_none call.Connections now k ret first last calls look is = one_call (Called call.Connections now) ret first last calls refl is
looks_bring_none call.RelayedAddresses now k ret first last calls look is = one_call (Called call.RelayedAddresses now) ret first last calls refl is
looks_bring_none _ now k ret first last calls look is = absurd look

taken_up_bring_none : (now : ℕ) (ret : Answer) (first last : Client) (calls : List (Call Client)) → AreTakenUp now ret first calls last → NoneArrive calls
taken_up_bring_none now ret first last [] is = tt
taken_up_bring_none now ret first last (call ∷ earlier) is = (is.1.came_is, taken_up_bring_none now answer.Nothing first call.before earlier is.2)

pub waiting_brings_none : (requested : Option Joined) (now : ℕ) (k : ClientState) (ret : Answer) (first last : Client) (calls : List (Call Client)) → AreCallsOfAsking requested now k ret first calls last → NoneArrive calls
waiting_brings_none None now k ret first last calls is = taken_up_bring_none now ret first last calls is
waiting_brings_none (Some c) now k ret first last calls is = subst (λ (l : List (Call Client)). NoneArrive l) (sym is.1) (is.4.came_is, tt)

-- ---- where bytes of a reply come

-- If all of the reply has come, it arrives; otherwise nothing does.
abbrev pub Arrives : (reply rest : List ℕ) → List (Call Client) → Type 0
Arrives reply [] calls = ArrivesFirst reply calls
Arrives reply (byte ∷ rest) calls = NoneArrive calls

module _ (b : Beginning) (p : Protocol) (u : IsUnserved b p) (reply head : List ℕ) (message : refusal reply ≡ None) (part : IsPartOf head reply) (bytes : Vec ℕ Global) (now : ℕ) (early : now ≤ 2 ^ 62) (ret : Answer) (first last : Client)
    (calls : List (Call Client)) where
  abbrev stored : ClientState
  stored = over (Open (alive head)) p

  streams : IsStreams stored b.server b.here now
  streams = record {
    stream = alive head;
    opens = refl;
    chunk = record { from_is = sym u.settings.server; to_is = sym u.settings.here; works = ap is_none u.settings.remote; in_range = within now early };
  }

  same_stream : (stream : Stream) → Open (alive head) ≡ Open stream → alive head ≡ stream
  same_stream stream is = Prim.cc is

  -- The frames that arrive are those that the chunk completes.
  module _ (some : bytes.items ≢ []) where
    came_so : (came waiting : List (List ℕ)) → AreBrought stored bytes.items b.server b.here now came waiting → came ≡ completed (alive head) bytes.items
    came_so came waiting (ByChunk stream opens chunk more came_is waits) = came_is ∙ ap (λ (s : Stream). completed s bytes.items) (sym (same_stream stream opens))
    came_so came waiting (ByEnd stream opens chunk none came_is waits) = absurd (some none)
    came_so came waiting (ByOthers stream opens none came_is waits) = absurd (none streams.chunk)
    came_so came waiting (ByNone closed came_is waits) = absurd (Prim.cc closed)

    completes : (frames : List (List ℕ)) → whole_frames (alive (head ++ bytes.items)) ≡ frames → completed (alive head) bytes.items ≡ frames
    completes frames is = ap (λ (l : List (List ℕ)). drop (length l) (whole_frames (alive (head ++ bytes.items)))) (part_has_none head reply part) ∙ is

    of_chunk : (rest : List ℕ) → reply ≡ (head ++ bytes.items) ++ rest → AreCallsOfChunk stored bytes.items b.server b.here now ret first calls last → Arrives reply rest calls
    of_chunk [] all is =
        let whole : reply ≡ head ++ bytes.items = all ∙ append-nil (head ++ bytes.items) in
        record {
          later = is.taking;
          call = is.coming;
          calls_are = is.calls_are;
          none = taken_up_bring_none now ret is.coming.after last is.taking is.taken;
          came_is = is.comes.came_is ∙ came_so is.came is.waiting is.brought
              ∙ completes (reply ∷ []) (ap (λ (l : List ℕ). whole_frames (alive l)) (sym whole) ∙ message_has_one reply message);
        }
    of_chunk (byte ∷ rest) all is =
        let more : IsPartOf (head ++ bytes.items) reply = record { is_message = message; rest = byte ∷ rest; parts = all; more = λ none. Prim.cc none } in
        let none : is.coming.came ≡ [] = is.comes.came_is ∙ came_so is.came is.waiting is.brought ∙ completes [] (part_has_none (head ++ bytes.items) reply more) in
        subst (λ (l : List (Call Client)). NoneArrive l) (sym is.calls_are) (following is.taking is.coming (taken_up_bring_none now ret is.coming.after last is.taking is.taken) none)
      where
        following : (later : List (Call Client)) (call : Call Client) → NoneArrive later → call.came ≡ [] → NoneArrive (later ++ call ∷ [])
        following [] call none last_none = (last_none, tt)
        following (one ∷ later) call none last_none = (none.0, following later call none.1 last_none)

    over_tcp : (rest : List ℕ) → reply ≡ (head ++ bytes.items) ++ rest → AreCallsOverTcp stored bytes.items b.server b.here now ret first calls last → Arrives reply rest calls
    over_tcp rest all (OfStream is_stream is) = of_chunk rest all is
    over_tcp rest all (OverSocket no_stream range c at is) = absurd (no_stream streams)
    over_tcp rest all (OverNone no_stream none is) = absurd (no_stream streams)

  over_udp : (rest : List ℕ) → bytes.items ≡ reply → rest ≡ [] → IsOneCall (ToClient bytes b.server b.here now) ret first calls last → Arrives reply rest calls
  over_udp [] same none is = record { later = []; call = is.0; calls_are = is.1; none = tt; came_is = is.4.came_is ∙ ap (λ (l : List ℕ). l ∷ []) same }
  over_udp (byte ∷ rest) same none is = absurd (Prim.cc none)

  pub arrives : (transport : TransportType) (rest : List ℕ) → BringsOn transport reply head bytes.items rest → AreCallsOfBytes (control_at transport head) (over (control_at transport head) p) bytes b.server b.here now ret first calls last → Arrives reply rest calls
  arrives Udp rest on is = over_udp rest on.0 on.1 is
  arrives Tcp rest on is = over_tcp on.0 rest on.1 is
