-- What a small client requests, one thing after the other, and what a server core answers and grants: an
-- allocation, a permission, a channel and a connection, and after these only REFRESH requests (RFC 8656; RFC
-- 6062).
use Rattle.std.specs.Prelude.{◌≡◌, ℕ, zero, suc, ◌%◌, List, [], ◌∷◌, ◌++◌, map, Some, None}
use Rattle.turn_types.specs.StunTypesBase.declared.transport.TransportType.TheVariants.{Tcp}
use Rattle.turn_runs.specs.Messages.{Message, Held, Allocation, Permission, Channel, Connection, Grant, AllocationCreated, PermissionCreated, ChannelCreated, TcpConnected}
use Rattle.turn_runs.specs.Names.{SocketAddr, socket_ip, MessageClass, Request, Success}
use Rattle.turn_runs.specs.Steps.{Reported}
use Rattle.turn_types.specs.Attributes.TurnRegistry.{allocate_method, channel_bind_method, connect_method, connection_bind_method, create_permission_method, refresh_method}

-- The client's own address, its relayed address, and a peer's address.
pub record Addresses : Type 0 where
  pub local : SocketAddr
  pub relayed : SocketAddr
  pub peer : SocketAddr

-- The transaction ID at an index of the client's stream. There are sixteen; after these the first comes
-- again.
abbrev pub number_at : ℕ → ℕ
number_at index = index % 16

-- A message that shows only its class, its method and its transaction ID.
abbrev pub plain : MessageClass → (method transaction_id : ℕ) → Message
plain class method transaction_id = record {
  class = class;
  method = method;
  number = transaction_id;
  transport = None;
  relayed = [];
  lifetime = None;
  peers = [];
  channel = None;
  connection = None;
}

-- A grant with only a method, a transaction ID and a source.
abbrev pub plain_grant : SocketAddr → (method transaction_id : ℕ) → Grant
plain_grant from method transaction_id = record {
  method = method;
  number = transaction_id;
  from = from;
  transport = None;
  relayed = [];
  lifetime = None;
  peers = [];
  channel = None;
  connection = None;
}

module _ (a : Addresses) where
  -- The request that follows this count of others.
  abbrev pub request_at : ℕ → Message
  request_at zero = record (plain Request allocate_method 0) { transport = Some Tcp }
  request_at (suc zero) = record (plain Request create_permission_method 1) { peers = a.peer ∷ [] }
  request_at (suc (suc zero)) =
      record (plain Request channel_bind_method 2) { channel = Some 0x4000; peers = a.peer ∷ [] }
  request_at (suc (suc (suc zero))) = record (plain Request connect_method 3) { peers = a.peer ∷ [] }
  request_at (suc (suc (suc (suc zero)))) =
      record (plain Request connection_bind_method 4) { connection = Some 7 }
  request_at (suc (suc (suc (suc (suc n))))) =
      plain Request refresh_method (number_at (suc (suc (suc (suc (suc n))))))

  -- The response to it.
  abbrev pub response_at : ℕ → Message
  response_at zero = record (plain Success allocate_method 0) { relayed = a.relayed ∷ [] }
  response_at (suc zero) = plain Success create_permission_method 1
  response_at (suc (suc zero)) = plain Success channel_bind_method 2
  response_at (suc (suc (suc zero))) = record (plain Success connect_method 3) { connection = Some 7 }
  response_at (suc (suc (suc (suc zero)))) = plain Success connection_bind_method 4
  response_at (suc (suc (suc (suc (suc n))))) =
      plain Success refresh_method (number_at (suc (suc (suc (suc (suc n))))))

  -- What the server core grants by it.
  abbrev pub grant_at : ℕ → Grant
  grant_at zero =
      record (plain_grant a.local allocate_method 0) { transport = Some Tcp; relayed = a.relayed ∷ [] }
  grant_at (suc zero) = record (plain_grant a.local create_permission_method 1) { peers = a.peer ∷ [] }
  grant_at (suc (suc zero)) =
      record (plain_grant a.local channel_bind_method 2) { channel = Some 0x4000; peers = a.peer ∷ [] }
  grant_at (suc (suc (suc zero))) =
      record (plain_grant a.local connect_method 3) { peers = a.peer ∷ []; connection = Some 7 }
  grant_at (suc (suc (suc (suc zero)))) =
      record (plain_grant a.local connection_bind_method 4) { connection = Some 7 }
  grant_at (suc (suc (suc (suc (suc n))))) =
      plain_grant a.local refresh_method (number_at (suc (suc (suc (suc (suc n))))))

  -- The grants that are recorded after this count of requests.
  abbrev pub recorded_after : ℕ → List Grant
  recorded_after zero = []
  recorded_after (suc n) = recorded_after n ++ grant_at n ∷ []

  -- What the client then reports as created. With a channel it reports its peer's permission once more.
  abbrev pub reported_at : ℕ → List Reported
  reported_at zero =
      record { notice = AllocationCreated Tcp a.relayed; held = Allocation Tcp a.relayed; number = 0 } ∷ []
  reported_at (suc zero) =
      record {
        notice = PermissionCreated Tcp (socket_ip a.peer);
        held = Permission Tcp (socket_ip a.peer);
        number = 1;
      } ∷ []
  reported_at (suc (suc zero)) =
      record { notice = PermissionCreated Tcp (socket_ip a.peer); held = Permission Tcp (socket_ip a.peer); number = 2 }
      ∷ record { notice = ChannelCreated Tcp a.peer; held = Channel 0x4000 a.peer; number = 2 } ∷ []
  reported_at (suc (suc (suc zero))) = []
  reported_at (suc (suc (suc (suc zero)))) =
      record { notice = TcpConnected a.peer; held = Connection a.local a.peer 7; number = 4 } ∷ []
  reported_at (suc (suc (suc (suc (suc n))))) = []

  -- What the client holds after this count of responses.
  abbrev pub held_after : ℕ → List Held
  held_after zero = []
  held_after (suc n) = map (λ (t : Reported). t.held) (reported_at n) ++ held_after n

  -- After four responses the client knows of a connection that it may bind.
  abbrev pub WaitsAfter : ℕ → (transaction_id : ℕ) → SocketAddr → Type 0
  WaitsAfter (suc (suc (suc (suc n)))) transaction_id to = (transaction_id ≡ 7) × (to ≡ a.peer)
  WaitsAfter _ transaction_id to = ⊥
