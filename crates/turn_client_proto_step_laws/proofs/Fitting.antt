-- The invariant of a client when permissions and channels are gained, requested or removed.
use Rattle.std.proofs.Common.{◌≡◌, ℕ, List, sym, subst, inl, inr}
use Rattle.std.specs.declared.net.socket_addr.SocketAddr.{SocketAddr}
use Rattle.turn_client_proto_timers.specs.StunTypesBase.declared.transport.TransportType.{TransportType}
use Rattle.turn_client_proto_timers.specs.StunProtoAgent.State.{Agent}
use Rattle.turn_client_proto_timers.specs.Peers.Channel.Numbers.{AreDistinct}
use Rattle.turn_client_proto_timers.specs.TurnRuns.Members.{IsIn}
use Rattle.turn_client_proto_timers.specs.TurnRuns.Messages as run
use Rattle.turn_client_proto_step_laws.specs.Held.{Allocation}
use Rattle.turn_client_proto_step_laws.specs.RunClient.{Parts}
use Rattle.turn_client_proto_step_laws.specs.Sound.{AreRequested, AreBinding, AreWhole, AsksFor, IsOrderly, IsWhole}
use Rattle.turn_client_proto_step_laws.proofs.Permitting.{ArePermitting, Asking, Gaining, none_asks, none_gained}

-- What is outstanding with a transaction ID that requests something now asks for exactly that; and
-- XOR-PEER-ADDRESS carries completely the peers of what is requested or gained now.
pub record AreFit (New : Gaining) (Now : Asking) (agent : Agent) : Type 0 where
  pub asks : (held : run.Held) (n : ℕ) → Now held n → AsksFor agent held n
  pub requested : (channel : ℕ) (peer : SocketAddr) (n : ℕ) → Now (run.Channel channel peer) n → IsWhole peer
  pub gained : (channel : ℕ) (peer : SocketAddr) → New (run.Channel channel peer) → IsWhole peer

-- Nothing is gained or requested.
pub none_fit : (agent : Agent) → AreFit none_gained none_asks agent
none_fit agent = record { asks = λ held n h. absurd h; requested = λ channel peer n h. absurd h; gained = λ channel peer h. absurd h }

module _ (New : Gaining) (Now : Asking) (p : Parts) (new : List Allocation) (are : ArePermitting New Now p.allocations new) (fit : AreFit New Now p.agent) (is : IsOrderly p) where
  permissions : (a : Allocation) → IsIn a new → AreRequested p.agent a
  permissions a listed pending there n has ip named =
      let was = are a listed in
      elim (was.is.numbers pending n there has ip named) [
        | inl old ↦
            subst (λ (transport : TransportType). AsksFor p.agent (run.Permission transport ip) n) (sym was.is.transport)
            (is.permissions was.before was.listed old.before old.listed n old.has ip old.named)
        | inr now ↦ fit.asks (run.Permission a.transport ip) n now
      ]

  like : (n channel other : ℕ) (peer to : SocketAddr) → channel ≡ other → peer ≡ to → AsksFor p.agent (run.Channel other to) n → AsksFor p.agent (run.Channel channel peer) n
  like n channel other peer to same alike asks =
      subst (λ (k : ℕ). AsksFor p.agent (run.Channel k peer) n) (sym same) (subst (λ (x : SocketAddr). AsksFor p.agent (run.Channel other x) n) (sym alike) asks)

  channels : (a : Allocation) → IsIn a new → AreBinding p.agent a
  channels a listed =
      let was = are a listed in
      let requested = is.channels was.before was.listed in
      record {
        requested = λ c there n has. elim (was.is.channel_numbers c n there has) [
          | inl old ↦ like n c.channel old.before.channel c.peer old.before.peer old.channel_is old.peer (requested.requested old.before old.listed n old.has)
          | inr now ↦ fit.asks (run.Channel c.channel c.peer) n now
        ];
        renewed = λ c there n has. elim (was.is.channel_renewals c n there has) [
          | inl old ↦ like n c.number old.before.number c.peer old.before.peer old.number_is old.peer (requested.renewed old.before old.listed n old.has)
          | inr now ↦ fit.asks (run.Channel c.number c.peer) n now
        ];
      }

  peers : (a : Allocation) → IsIn a new → AreWhole a
  peers a listed =
      let was = are a listed in
      let whole = is.peers was.before was.listed in
      record {
        requested = λ c there. elim (was.is.new_channels c there) [
          | inl old ↦ subst IsWhole (sym old.peer) (whole.requested old.before old.listed)
          | inr now ↦ fit.requested c.channel c.peer now.0 now.1
        ];
        standing = λ c there. elim (was.is.channels c there) [
          | inl old ↦ subst IsWhole (sym old.peer) (whole.standing old.before old.listed)
          | inr gained ↦ fit.gained c.number c.peer gained
        ];
      }

  pub permitting_orderly : AreDistinct new → IsOrderly (record p { allocations = new })
  permitting_orderly distinct = record {
    numbers = is.numbers;
    messages = is.messages;
    allocates = is.allocates;
    queued = is.queued;
    lifetimes = λ a listed r there. let was = are a listed in is.lifetimes was.before was.listed r (was.is.refreshes r there);
    permissions = permissions;
    channels = channels;
    peers = peers;
    connects = λ a listed. let was = are a listed in let requested = is.connects was.before was.listed in record {
      requested = λ c there. requested.requested c (was.is.connecting c there);
      whole = λ c there. requested.whole c (was.is.connecting c there);
      binds = λ c there b awaits. requested.binds c (was.is.connections c there) b awaits;
    };
    distinct = distinct;
  }
