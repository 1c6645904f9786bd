-- Runs of the small client in which it holds, reports or lists what no server core granted, and what it means
-- that the promise holds for an account of a run.
use Rattle.std.specs.Prelude.{◌≡◌, ◌≤◌, ℕ, List, [], ◌∷◌, map, Some}
use Rattle.turn_types.specs.StunTypesBase.declared.transport.TransportType.TheVariants.{Tcp}
use Rattle.turn_runs.specs.Headline.{AnswersOnce, IsSafe, ShowsTraced, Unless}
use Rattle.turn_runs.specs.Messages.{Held, Allocation, AllocationCreated, Channel, Connection}
use Rattle.turn_runs.specs.Names.{SocketAddr}
use Rattle.turn_runs.specs.Runs.{Step, AtClient, AtDesk, AtEach, IsCounted, Leads}
use Rattle.turn_runs.specs.Steps.{Call}
use Rattle.turn_runs_laws.specs.Handshakes.{Addresses}
use Rattle.turn_runs_laws.specs.Rounds.{granted, quiet, rounds}
use Rattle.turn_runs_laws.specs.SmallWords.{Client, Core, Idle, Waiting, small}

-- A call, without the run's counts of generated transaction IDs.
abbrev pub forget_call : Call Client → Call Core
forget_call call = record {
  before = call.before.core;
  came = call.came;
  handled = call.handled;
  transmitted = call.transmitted;
  answered = call.answered;
  visible = call.visible;
  payloads = call.payloads;
  after = call.after.core;
}

abbrev pub forget : Step Client ℕ → Step Core ℕ
forget (AtClient call) = AtClient (forget_call call)
forget (AtDesk d) = AtDesk d

module _ (a : Addresses) where
  -- An account of what a client and the server core did, for which the promise holds. It is not required that
  -- each step meets its contract.
  pub record AreSafe (first : Client) (steps : List (Step Core ℕ)) : Type 0 where
    pub run : List (Step Client ℕ)
    pub reported : map forget run ≡ steps
    pub last : Client
    pub leads : Leads first run last
    -- The account counts as many transaction IDs as the generator gave. Otherwise it could count seventeen,
    -- of which two are equal, and nothing would be promised.
    pub counted : IsCounted (small a) first run last
    pub safe : Unless (small a) first run last (AtEach (IsSafe (small a) first last run) run)
    pub once : Unless (small a) first run last (AnswersOnce (small a) run)
    pub visible : Unless (small a) first run last (AtEach (ShowsTraced (small a)) run)

  -- The client requests an address and holds it, but no server core did anything.
  abbrev pub holds_ungranted : List (Step Core ℕ)
  holds_ungranted =
      AtClient (quiet (Waiting 0) (Idle 1))
      ∷ AtClient (record (quiet (Idle 0) (Waiting 0)) { transmitted = Some (0 ∷ 0 ∷ []) }) ∷ []

  -- One address was granted and reported, and it is reported once more.
  abbrev pub reports_twice : List (Step Core ℕ)
  reports_twice =
      AtClient (record (quiet (Idle 1) (Idle 1)) { answered = AllocationCreated Tcp a.relayed ∷ [] })
      ∷ map forget (granted a 0 [])

  -- A getter returns an address, but nothing was requested and nothing is held.
  abbrev pub shows_ungranted : List (Step Core ℕ)
  shows_ungranted =
      AtClient (record (quiet (Idle 0) (Idle 0)) { visible = Allocation Tcp a.relayed ∷ [] }) ∷ []

  -- After `n` requests, each granted and answered, a getter returns this.
  abbrev pub shows_after : (n : ℕ) → Held → List (Step Core ℕ)
  shows_after n h =
      AtClient (record (quiet (Idle n) (Idle n)) { visible = h ∷ [] }) ∷ map forget (rounds a n)

  -- The getter returns a channel.
  abbrev pub shows_channel : (n number : ℕ) → SocketAddr → List (Step Core ℕ)
  shows_channel n number peer = shows_after n (Channel number peer)

  -- The getter returns a connection from this local address.
  abbrev pub shows_connection : (n : ℕ) → (local : SocketAddr) → (number : ℕ) → (peer : SocketAddr)
      → List (Step Core ℕ)
  shows_connection n local number peer = shows_after n (Connection local peer number)

  -- The server core has granted the channel by then: the third request is a CHANNEL_BIND of this number to
  -- this peer.
  pub record IsBound (n number : ℕ) (peer : SocketAddr) : Type 0 where
    pub granted : 3 ≤ n
    pub number_is : number ≡ 0x4000
    pub peer_is : peer ≡ a.peer

  -- The server core has granted the connection by then: the fourth request is a CONNECT to this peer, whose
  -- response has this connection ID, and the fifth is a CONNECTION_BIND of it.
  pub record IsJoined (n number : ℕ) (peer : SocketAddr) : Type 0 where
    pub granted : 5 ≤ n
    pub number_is : number ≡ 7
    pub peer_is : peer ≡ a.peer
