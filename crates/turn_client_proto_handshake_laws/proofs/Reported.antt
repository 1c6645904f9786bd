-- The events of a client that are taken.
use Rattle.std.proofs.Common.{◌≡◌, ℕ, ◌++◌, List, [], Option, Some, None, refl, sym, ap, ◌∙◌, subst}
use Rattle.std.specs.Prelude.{option_to_list}
use Rattle.std.specs.declared.net.socket_addr.SocketAddr.{SocketAddr}
use Rattle.turn_client_proto_api.specs.declared.event.TurnEvent.{TurnEvent}
use Rattle.turn_client_proto_messages.specs.Waiting.{Queued}
use Rattle.turn_client_proto_core.specs.declared.protocol.Protocol.{Protocol}
use Rattle.turn_client_proto_handshake_laws.specs.Choosing.{Choice}
use Rattle.turn_client_proto_handshake_laws.specs.Stages.{Holds}
use Rattle.turn_client_proto_handshake_laws.specs.Driving.{IsEventTaken}
use Rattle.turn_client_proto_handshake_laws.specs.Sent.{Beginning}

-- No event was taken, and none is left.
none_taken : (event : Option TurnEvent) (left : List TurnEvent) → [] ≡ option_to_list event ++ left → (event ≡ None) × (left ≡ [])
none_taken None left is = (refl, sym is)
none_taken (Some event) left is = absurd (Prim.cc is)

-- A client with no queued event reports none.
pub silent : (p q : Protocol) (event : Option TurnEvent) → p.events ≡ [] → IsEventTaken p event q → (event ≡ None) × (q ≡ p)
silent p q event none is =
    let parts = none_taken event q.events (sym none ∙ is.first) in
    (parts.0, is.others ∙ ap (λ (l : List TurnEvent). record p { events = l }) (parts.1 ∙ sym none))

-- A client that holds an allocation reports its events in order.
pub holding_reports : (b : Beginning) (c : Choice) (address : SocketAddr) (lifetime now last : ℕ) (queue : List Queued) (events : List TurnEvent) (p : Protocol)
    → Holds b c address lifetime now last queue events p → (event : Option TurnEvent) (q : Protocol) → IsEventTaken p event q
    → (left : List TurnEvent) × (events ≡ option_to_list event ++ left) × Holds b c address lifetime now last queue left q
holding_reports b c address lifetime now last queue events p w event q is = (
  q.events,
  sym w.events_are ∙ is.first,
  subst (λ (x : Protocol). Holds b c address lifetime now last queue q.events x) (sym is.others) (record {
    settings = record {
      server = w.settings.server;
      remote = w.settings.remote;
      transport = w.settings.transport;
      here = w.settings.here;
      waits = w.settings.waits;
      allocates = w.settings.allocates;
      families = w.settings.families;
      options = w.settings.options;
      pace = w.settings.pace;
      indications = w.settings.indications;
      usual = w.settings.usual;
    };
    none_requested = w.none_requested;
    phase = w.phase;
    auth = w.auth;
    allocations = w.allocations;
    visible = w.visible;
    queue_is = w.queue_is;
    last_send = w.last_send;
    events_are = refl;
    closing = w.closing;
    resends = w.resends;
  }),
)
