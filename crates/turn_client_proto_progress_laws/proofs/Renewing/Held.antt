-- What a client that keeps an allocation reports and lists, and what its REFRESH is.
use Rattle.std.proofs.Common.{◌≡◌, ℕ, ◌++◌, List, [], ◌∷◌, Option, None, refl, sym, ap, ◌∙◌, subst}
use Rattle.std.specs.Prelude.{option_to_list}
use Rattle.std.specs.declared.net.socket_addr.SocketAddr.{SocketAddr}
use Rattle.turn_client_proto_messages.specs.Waiting.{Queued}
use Rattle.turn_client_proto_handshake_laws.specs.Core.declared.protocol.Protocol.{Protocol}
use Rattle.turn_client_proto_messages.specs.Allocation.Listed.{relayed_listed}
use Rattle.turn_client_proto_messages.specs.Api.declared.event.TurnEvent.{TurnEvent}
use Rattle.turn_client_proto_handshake_laws.specs.Choosing.{Choice}
use Rattle.turn_client_proto_handshake_laws.specs.Driving.{IsEventTaken}
use Rattle.turn_client_proto_handshake_laws.specs.Sent.{Beginning}
use Rattle.turn_client_proto_step_laws.specs.Recv.SocketChunks.{raw_waiting}
use Rattle.turn_client_proto_progress_laws.specs.Keeping.{IsKeeping, IsRefreshing, Term}

module _ (b : Beginning) (c : Choice) (address : SocketAddr) (t : Term) (last : ℕ) (queue : List Queued) (events : List TurnEvent) (p : Protocol) (w : IsKeeping b c address t last queue events p) where
  pub keeping_reports : (event : Option TurnEvent) (q : Protocol) → IsEventTaken p event q → (left : List TurnEvent) × (events ≡ option_to_list event ++ left) × IsKeeping b c address t last queue left q
  keeping_reports event q is = (
    q.events,
    sym w.events_are ∙ is.first,
    subst (λ (x : Protocol). IsKeeping b c address t last queue q.events x) (sym is.others) (record {
      settings = record {
        server = w.settings.server;
        remote = w.settings.remote;
        transport = w.settings.transport;
        here = w.settings.here;
        waits = w.settings.waits;
        allocates = w.settings.allocates;
        families = w.settings.families;
        options = w.settings.options;
        pace = w.settings.pace;
        indications = w.settings.indications;
        usual = w.settings.usual;
      };
      none_requested = w.none_requested;
      phase = w.phase;
      auth = w.auth;
      allocations = w.allocations;
      queue_is = w.queue_is;
      last_send = w.last_send;
      events_are = refl;
      closing = w.closing;
      resends = w.resends;
    }),
  )

  pub keeping_shows : (relayed_listed p.allocations ≡ (b.config.transport, address) ∷ []) × (raw_waiting p ≡ None)
  keeping_shows = (ap relayed_listed w.allocations, rw w.allocations refl)

module _ (b : Beginning) (c : Choice) (address : SocketAddr) (t : Term) (number made many last : ℕ) (events : List TurnEvent) (p : Protocol) (w : IsRefreshing b c address t number made many last events p) where
  pub refreshing_reports : (event : Option TurnEvent) (q : Protocol) → IsEventTaken p event q
      → (left : List TurnEvent) × (events ≡ option_to_list event ++ left) × IsRefreshing b c address t number made many last left q
  refreshing_reports event q is = (
    q.events,
    sym w.events_are ∙ is.first,
    subst (λ (x : Protocol). IsRefreshing b c address t number made many last q.events x) (sym is.others) (record {
      settings = record {
        server = w.settings.server;
        remote = w.settings.remote;
        transport = w.settings.transport;
        here = w.settings.here;
        waits = w.settings.waits;
        allocates = w.settings.allocates;
        families = w.settings.families;
        options = w.settings.options;
        pace = w.settings.pace;
        indications = w.settings.indications;
        usual = w.settings.usual;
      };
      requested = w.requested;
      phase = w.phase;
      auth = w.auth;
      allocations = w.allocations;
      queue_is = w.queue_is;
      last_send = w.last_send;
      events_are = refl;
      closing = w.closing;
      resends = w.resends;
    }),
  )

  pub refreshing_shows : (relayed_listed p.allocations ≡ (b.config.transport, address) ∷ []) × (raw_waiting p ≡ None)
  refreshing_shows = (ap relayed_listed w.allocations, rw w.allocations refl)
