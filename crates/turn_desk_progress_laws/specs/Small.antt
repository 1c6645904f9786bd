-- A small loop: what one client and one server core do, over UDP, with latencies and a retransmission. It shows
-- that there are loops as Loops.antt of turn_desk_progress_laws describes them.
use Rattle.std.specs.Prelude.{◌≡◌, ◌<◌, ℕ, List, [], ◌∷◌, Vec}
use Rattle.std.specs.declared.alloc.Global.{Global}
use Rattle.std.specs.declared.net.socket_addr.SocketAddr.{SocketAddr}
use Rattle.turn_desk_core.specs.StunTypesBase.declared.data.Data.{Data}
use Rattle.turn_desk_core.specs.StunTypesBase.declared.family.AddressFamily.TheVariants.{IPV4}
use Rattle.turn_desk_core.specs.StunTypesBase.declared.transmit.Transmit.{Transmit}
use Rattle.turn_desk_core.specs.StunTypesBase.declared.transport.TransportType.TheVariants.{Udp}
use Rattle.turn_desk_core.specs.StunTypesBase.Family.{family_of_socket}
use Rattle.turn_client_proto_messages.specs.StunTypesIntegrity.Credentials.{NameAndPassword}
use Rattle.turn_client_proto_api.specs.Config.{default_config}
use Rattle.turn_client_proto_api.specs.Sent.{sent_of}
use Rattle.turn_client_proto_step_laws.specs.Sound.{IsWhole}
use Rattle.turn_desk_core.specs.StunProtoServer.Server.{Server}
use Rattle.turn_desk_core.specs.declared.decision.Decision.TheVariants as by
use Rattle.turn_desk_event.specs.declared.answer.Answer.{Answer}
use Rattle.turn_desk_event.specs.declared.answer.Answer.TheVariants as answer
use Rattle.turn_desk_event.specs.declared.event.ClientCall.TheVariants as call
use Rattle.turn_desk_event.specs.declared.event.Event.{Event}
use Rattle.turn_desk_event.specs.declared.event.Event.TheVariants.{Call, Draw, ToClient, ToDesk}
use Rattle.turn_desk_progress_laws.specs.Loops.{Position, Timing}
use Rattle.turn_desk_progress_laws.specs.Scripts.{Done, Plan, plan_over}

-- What the two send, and between which addresses.
pub record Exchange : Type 0 where
  -- The client's address and the server's.
  pub here : SocketAddr
  pub server : SocketAddr
  pub credentials : NameAndPassword
  -- The seed of the client's generator.
  pub seed : List ℕ
  -- The seed of the server core's words.
  pub words : List ℕ
  -- The two requests, as the client transmits them, and as they reach the server core.
  pub first : Transmit Data
  pub second : Transmit Data
  pub first_come : Vec ℕ Global
  pub second_come : Vec ℕ Global
  -- The replies to them.
  pub challenge : Vec ℕ Global
  pub success : Vec ℕ Global
  -- The address that is allocated, and its lifetime.
  pub address : SocketAddr
  pub lifetime : ℕ

-- A client with the settings of a new one, which begins at 0.
abbrev pub small_plan : Exchange → Plan
small_plan e = plan_over Udp e.here e.server (default_config e.credentials) e.seed 0 0

-- Its times are in nanoseconds:
--
-- - At 0 the client transmits its first request, which reaches the server core 10 ms later by the client's clock.
--   The server core's clock is two hours ahead.
-- - At 20 ms the reply comes. A draw gives nothing then. At 50 ms one gives the second request.
-- - That one is lost. At 520 ms, the second slot of its schedule, it is transmitted again, and reaches the server
--   core.
-- - At 551 ms, 501 ms after the second request was first transmitted, its reply comes.
-- - Between them events are polled, and `poll` and `poll_recv` are called.
abbrev pub small_loop : Exchange → List (Event × Answer)
small_loop e = (Draw 0, answer.Transmit e.first)
    ∷ (Call call.Poll 0, answer.Wait 500_000_000)
    ∷ (ToDesk e.first_come e.first.from 7_200_010_000_000 by.Grant e.words, answer.Reply e.challenge)
    ∷ (ToClient e.challenge e.first.to e.first.from 20_000_000, answer.Handled)
    ∷ (Draw 20_000_000, answer.Nothing)
    ∷ (Call call.Poll 20_000_000, answer.Wait 50_000_000)
    ∷ (Draw 50_000_000, answer.Transmit e.second)
    ∷ (Call call.PollEvent 50_000_000, answer.Nothing)
    ∷ (Draw 520_000_000, answer.Transmit e.second)
    ∷ (
      ToDesk e.second_come e.second.from 7_200_535_000_000 (by.Allocate (e.address ∷ []) e.lifetime) e.words,
      answer.Reply e.success,
    )
    ∷ (Call call.PollRecv 550_000_000, answer.Nothing)
    ∷ (ToClient e.success e.second.to e.second.from 551_000_000, answer.Handled)
    ∷ []

-- Where it leads.
abbrev pub small_end : Exchange → Position
small_end e = record {
  progress = Done (sent_of e.second) e.address e.lifetime e.success.items;
  last = 551_000_000;
  timing = record { many = 0; sent = 520_000_000; challenged = 7_200_010_000_000; came = 551_000_000 };
}

-- What has to hold of it, so that it is a loop: the requests reach the server core unaltered; its nonces are valid for
-- more than 525 ms; and the address is one of IPv4, without flow information and scope.
pub record MayHappen (e : Exchange) (server : Server) : Type 0 where
  pub first_unaltered : e.first_come.items ≡ (sent_of e.first).bytes
  pub second_unaltered : e.second_come.items ≡ (sent_of e.second).bytes
  pub valid : 525_000_000 < server.nonce_expiry
  pub family : family_of_socket e.address ≡ IPV4
  pub whole : IsWhole e.address

-- What was done at 0, when the first request was transmitted once.
abbrev pub request_made_once : Timing
request_made_once = record { many = 1; sent = 0; challenged = 0; came = 0 }

-- What was done when the challenge came at 20 ms.
abbrev pub challenged_early : Timing
challenged_early = record { many = 0; sent = 0; challenged = 7_200_010_000_000; came = 20_000_000 }

-- What was done when the second request was transmitted at 50 ms.
abbrev pub signed_once : Timing
signed_once = record { many = 1; sent = 50_000_000; challenged = 7_200_010_000_000; came = 20_000_000 }
