-- A client that holds an allocation requests something: one more request is outstanding, and is queued.
use Rattle.std.proofs.Common.{◌≡◌, ℕ, ◌<◌, ◌^◌, ◌++◌, arith, List, [], ◌∷◌, Option, Some, refl, sym, ap, ◌∙◌, inl, inr}
use Rattle.std.specs.FinMap as map
use Rattle.std.specs.declared.net.socket_addr.SocketAddr.{SocketAddr}
use Rattle.rand_chacha.specs.ChaCha.{ChaCha}
use Rattle.turn_client_proto_messages.specs.StunTypesWire.Grammar.{number_at}
use Rattle.turn_client_proto_messages.specs.StunProtoClient.Client as auth
use Rattle.turn_client_proto_messages.specs.StunProtoTransaction.Agents.{Transaction}
use Rattle.turn_client_proto_messages.specs.StunProtoAgent.Sending.{started, with_request}
use Rattle.turn_client_proto_messages.specs.Allocation.declared.allocation.Allocation.{Allocation}
use Rattle.turn_client_proto_messages.specs.Api.declared.event.TurnEvent.{TurnEvent}
use Rattle.turn_client_proto_handshake_laws.specs.Core.Asking.{queued_request}
use Rattle.turn_client_proto_handshake_laws.specs.Core.Numbering.{IsNextNumber}
use Rattle.turn_client_proto_messages.specs.Waiting.{Queued}
use Rattle.turn_client_proto_handshake_laws.specs.Core.declared.protocol.Protocol.{Protocol}
use Rattle.turn_client_proto_messages.specs.Requests.{request_text}
use Rattle.turn_client_proto_messages.specs.ReportedRequests.{IsLawfulRequest}
use Rattle.turn_client_proto_messages.specs.declared.request.TurnRequest.{TurnRequest}
use Rattle.turn_client_proto_handshake_laws.specs.Requested.{Requested, transaction_of}
use Rattle.turn_client_proto_progress_laws.proofs.TcpBinding.Tools.{put_or, put_there}
use Rattle.turn_client_proto_progress_laws.proofs.TcpBinding.Tools.{AreNumbered}
use Rattle.turn_client_proto_progress_laws.specs.Holders.{AreOutstanding, Holder, IsOneOf, all_requested, queued_from, signed_by}
use Rattle.turn_client_proto_progress_laws.specs.TcpBinding.{IsTcpBinding}

-- A transaction ID has 96 bits.
pub number_fits : (p : Protocol) (number : ℕ) → IsNextNumber p number → number < 2 ^ 96
number_fits p number next = let e = next.is in omega (arith, e)

module _ (h : Holder) (awaited : Option Requested) (older : List Requested) (a : Allocation) (queue : List Queued) (last : ℕ) (events : List TurnEvent) (p : Protocol) (w : IsTcpBinding h awaited older a queue last events p)
    (request : TurnRequest) (number now : ℕ) (fits : number < 2 ^ 96) (lawful : IsLawfulRequest request) (numbered : AreNumbered) where
  abbrev one : Requested
  one = signed_by h request number now

  abbrev text : List ℕ
  text = request_text p.auth request number

  text_is : text ≡ one.bytes
  text_is = ap (λ (x : auth.Client). request_text x request number) w.auth_is

  key_is : number_at text ≡ number
  key_is = ap number_at text_is ∙ numbered h.auth request number w.signs.short lawful fits

  abbrev made : Transaction
  made = started p.agent text p.server now

  made_is : made ≡ transaction_of h.started one 1
  made_is =
      ap (λ (l : List ℕ). started p.agent l p.server now) text_is
      ∙ (ap (λ (s : SocketAddr). started p.agent one.bytes s now) w.settings.server ∙ Prim.cc w.settings.waits)

  only : (other : ℕ) (t : Transaction) → map.get (map.insert p.agent.outstanding (number_at text) made) other ≡ Some t → IsOneOf h.started (one ∷ all_requested awaited older) other t
  only other t there = elim (put_or p.agent.outstanding (number_at text) made other t there) [
    | inl same ↦ record { requested = one; listed = inl refl; number_is = same.0 ∙ key_is; transaction_is = same.1 ∙ made_is }
    | inr old ↦ (let was = w.outstanding.only other t old.1 in
        record { requested = was.requested; listed = inr was.listed; number_is = was.number_is; transaction_is = was.transaction_is })
  ]

  outstanding_is : AreOutstanding h.started (Some one) (all_requested awaited older) (with_request p.agent text p.server now)
  outstanding_is = record {
    newest = ap (map.get (map.insert p.agent.outstanding (number_at text) made)) (sym key_is) ∙ (put_there p.agent.outstanding (number_at text) made ∙ ap Some made_is);
    only = only;
  }

  -- This holds with other allocations too, and with any generator.
  pub has_requested : (b : Allocation) (l : List Allocation) → l ≡ b ∷ [] → (from here : SocketAddr) → from ≡ here → (g : ChaCha) → IsTcpBinding h (Some one) (all_requested awaited older) b (queue ++ queued_from here one ∷ []) last events (record p {
    rng = g;
    agent = with_request p.agent text p.server now;
    queue = p.queue ++ queued_request from text ∷ [];
    allocations = l;
  })
  has_requested b l is from here same g = record {
    settings = record {
      server = w.settings.server;
      remote = w.settings.remote;
      transport = w.settings.transport;
      here = w.settings.here;
      waits = w.settings.waits;
      allocates = w.settings.allocates;
      families = w.settings.families;
      options = w.settings.options;
      pace = w.settings.pace;
      indications = w.settings.indications;
      usual = w.settings.usual;
    };
    signs = w.signs;
    outstanding = outstanding_is;
    phase = w.phase;
    auth_is = w.auth_is;
    allocations = is;
    queue_is =
        ap (λ (q : List Queued). q ++ queued_request from text ∷ []) w.queue_is
        ∙ (ap (λ (x : SocketAddr). queue ++ queued_request x text ∷ []) same
        ∙ ap (λ (t : List ℕ). queue ++ queued_request here t ∷ []) text_is);
    last_send = w.last_send;
    events_are = w.events_are;
    closing = w.closing;
  }
