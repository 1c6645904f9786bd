-- An honest run of the small client and its server core, over a network that replays messages.
use Rattle.std.specs.Prelude.{ℕ, zero, suc, List, [], ◌∷◌, map, Some, None}
use Rattle.turn_types.specs.StunTypesBase.declared.transport.TransportType.TheVariants.{Tcp}
use Rattle.turn_runs.specs.Messages.{Allocation, Permission, Channel, Connection, Payload, FromPeer, FromChannel, FromConnection}
use Rattle.turn_runs.specs.Names.{socket_ip}
use Rattle.turn_runs.specs.Runs.{Step, AtClient, AtDesk}
use Rattle.turn_runs.specs.Steps.{Call, Reported}
use Rattle.turn_runs_laws.specs.Handshakes.{Addresses, reported_at, held_after}
use Rattle.turn_runs_laws.specs.SmallWords.{Client, Fresh, Idle, Waiting, small}

-- No challenge has arrived.
abbrev pub fresh : Client
fresh = record { core = Fresh; transmitted = 0 }

-- The first `n` requests are answered, and none is outstanding.
abbrev pub idle : ℕ → Client
idle n = record { core = Idle n; transmitted = n }

-- The first `n` requests are answered, and the next one is outstanding.
abbrev pub waiting : ℕ → Client
waiting n = record { core = Waiting n; transmitted = suc n }

-- A call by which nothing arrives, and nothing is transmitted, reported or listed.
abbrev pub quiet : {C : Type 0} → (before after : C) → Call C
quiet before after = record {
  before = before;
  came = [];
  handled = [];
  transmitted = None;
  answered = [];
  visible = [];
  payloads = [];
  after = after;
}

-- A forged challenge names another realm. The client does not store it.
abbrev pub processes_forged : Call Client
processes_forged = record (quiet fresh fresh) { came = (2 ∷ 1 ∷ []) ∷ []; handled = (2 ∷ 1 ∷ []) ∷ [] }

-- The server core's challenge arrives, and the client stores its realm.
abbrev pub processes_challenge : Call Client
processes_challenge = record (quiet fresh (idle 0)) { came = (2 ∷ 0 ∷ []) ∷ []; handled = (2 ∷ 0 ∷ []) ∷ [] }

-- The client transmits its next request.
abbrev pub asks_next : ℕ → Call Client
asks_next n = record (quiet (idle n) (waiting n)) { transmitted = Some (0 ∷ n ∷ []) }

-- The network delivers bytes to the client that change nothing.
abbrev pub processes : ℕ → List ℕ → Call Client
processes n bytes = record (quiet (idle n) (idle n)) { came = bytes ∷ []; handled = bytes ∷ [] }

-- The network delivers a response of an earlier run to the client while a request is outstanding.
abbrev pub processes_earlier : ℕ → Call Client
processes_earlier n =
    record (quiet (waiting n) (waiting n)) { came = (3 ∷ n ∷ []) ∷ []; handled = (3 ∷ n ∷ []) ∷ [] }

module _ (a : Addresses) where
  -- For each thing that allows one (permission, channel, connection), a payload from the peer.
  abbrev pub payloads_at : ℕ → List Payload
  payloads_at (suc zero) = FromPeer Tcp a.peer (1 ∷ 1 ∷ []) ∷ []
  payloads_at (suc (suc zero)) = FromChannel 0x4000 a.peer (1 ∷ 2 ∷ []) ∷ []
  payloads_at (suc (suc (suc (suc zero)))) = FromConnection a.local a.peer (1 ∷ 4 ∷ []) ∷ []
  payloads_at _ = []

  -- The client handles the response, and gives a payload that is allowed by what the response brought.
  abbrev pub takes_next : ℕ → Call Client
  takes_next n = record (quiet (waiting n) (idle (suc n))) {
    came = (1 ∷ n ∷ []) ∷ [];
    handled = (1 ∷ n ∷ []) ∷ [];
    answered = map (λ (t : Reported). t.notice) (reported_at a n);
    payloads = payloads_at n;
  }

  -- A getter returns all that is held.
  abbrev pub shows_all : ℕ → Call Client
  shows_all n = record (quiet (idle n) (idle n)) { visible = held_after a n }

  -- The next request is transmitted, granted and answered.
  abbrev pub granted : ℕ → List (Step Client ℕ) → List (Step Client ℕ)
  granted n earlier = AtClient (takes_next n) ∷ AtDesk n ∷ AtClient (asks_next n) ∷ earlier

  -- Two challenges, and then `n` requests, one after the other. After each request a getter is called, and
  -- the network replays the response and reflects the client's own request to it.
  abbrev pub rounds : ℕ → List (Step Client ℕ)
  rounds zero = AtClient processes_challenge ∷ AtClient processes_forged ∷ []
  rounds (suc n) =
      AtClient (processes (suc n) (0 ∷ n ∷ [])) ∷ AtClient (processes (suc n) (1 ∷ n ∷ []))
      ∷ AtClient (shows_all (suc n)) ∷ granted n (rounds n)

  -- While its request is outstanding, the network delivers to the client what the server core answered to
  -- that request in an earlier run. The client accepts the response of this run.
  abbrev pub replayed : ℕ → List (Step Client ℕ)
  replayed n = AtClient (takes_next n) ∷ AtDesk n ∷ AtClient (processes_earlier n) ∷ AtClient (asks_next n) ∷ rounds n

  -- The client holds one thing of each kind.
  pub record HoldsOneOfEach (c : Client) : Type 0 where
    pub allocation : (small a).client.IsHeld c (Allocation Tcp a.relayed)
    pub permission : (small a).client.IsHeld c (Permission Tcp (socket_ip a.peer))
    pub channel : (small a).client.IsHeld c (Channel 0x4000 a.peer)
    pub connection : (small a).client.IsHeld c (Connection a.local a.peer 7)
