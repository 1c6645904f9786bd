-- A client that holds an allocation can sign; and what it signs.
use Rattle.std.proofs.Common.{◌≡◌, ℕ, ◌<◌, ◌^◌, true, List, [], ◌∷◌, refl, sym, ap, ◌∙◌}
use Rattle.std.specs.declared.net.socket_addr.SocketAddr.{SocketAddr}
use Rattle.turn_client_proto_messages.specs.StunTypesBase.declared.transport.TransportType.{TransportType}
use Rattle.turn_client_proto_messages.specs.StunTypesBase.declared.transport.TransportType.TheVariants.{Tcp}
use Rattle.turn_client_proto_messages.specs.Allocation.Refreshing.{granted}
use Rattle.turn_client_proto_messages.specs.Api.declared.event.TurnEvent.{TurnEvent}
use Rattle.turn_client_proto_handshake_laws.specs.Core.declared.protocol.Protocol.{Protocol}
use Rattle.turn_client_proto_messages.specs.ReadTexts.{HasReadTexts}
use Rattle.turn_client_proto_messages.specs.Requests.{is_signed, request_text}
use Rattle.turn_client_proto_messages.specs.ShortTexts.{HasShortTexts}
use Rattle.turn_client_proto_messages.specs.ReportedRequests.{IsLawfulRequest}
use Rattle.turn_client_proto_messages.specs.declared.request.TurnRequest.{TurnRequest}
use Rattle.turn_client_proto_handshake_laws.specs.Choosing.{Choice, signer_by}
use Rattle.turn_client_proto_handshake_laws.specs.Stages.{Holds}
use Rattle.turn_client_proto_progress_laws.proofs.TcpBinding.Tools.{AreClaims, AreMessages, AreNumbered, AreRequests, AreReported, AreValid}
use Rattle.turn_client_proto_handshake_laws.specs.Sent.{Beginning}
use Rattle.turn_client_proto_progress_laws.specs.Holders.{CanSign, Holder, IsSignedBy, holder_of}
use Rattle.turn_client_proto_progress_laws.specs.TcpBinding.{IsHolding}

module _ (b : Beginning) (c : Choice) (address : SocketAddr) (lifetime since last : ℕ) (events : List TurnEvent) (p : Protocol) (over : b.transport ≡ Tcp) (relays : b.config.transport ≡ Tcp) (short : HasShortTexts (signer_by b c)) (read : HasReadTexts (signer_by b c)) where
  abbrev h : Holder
  h = holder_of b c address lifetime since

  signs : CanSign h
  signs = record {
    over = over;
    relays = relays;
    short = record { username = short.username; next = short.next; software = short.software; challenge = short.challenge };
    read = record { username = read.username; next = read.next; challenge = read.challenge; known = read.known };
    occurs = refl;
    settled = refl;
    goes_by = refl;
  }

  pub begins_tcp_binding : Holds b c address lifetime since last [] events p → IsHolding h last events p
  begins_tcp_binding w = record {
    settings = w.settings;
    signs = signs;
    outstanding = record { newest = tt; only = λ number t there. absurd (Prim.cc (sym there ∙ w.none_requested number)) };
    phase = w.phase;
    auth_is = w.auth;
    allocations = w.allocations ∙ ap (λ (t : TransportType). granted t address lifetime since ∷ []) relays;
    queue_is = w.queue_is;
    last_send = w.last_send;
    events_are = w.events_are;
    closing = w.closing;
  }

pub signed_so : (h : Holder) (request : TurnRequest) (number : ℕ) → CanSign h → IsLawfulRequest request → is_signed request ≡ true → number < 2 ^ 96
    → AreMessages → AreRequests → AreNumbered → AreReported → AreValid → AreClaims → IsSignedBy h request number (request_text h.auth request number)
signed_so h request number can lawful signed fits messages requests numbered reported valid claims = record {
  message = messages h.auth request number can.short lawful fits;
  request_is = requests h.auth request number;
  number_is = numbered h.auth request number can.short lawful fits;
  reported = λ readable. reported h.auth request number can.short lawful fits readable;
  valid = valid h.auth request number h.standing can.short lawful fits signed can.occurs;
  claims = claims h.auth request number h.standing can.short can.read lawful fits signed can.occurs;
}
