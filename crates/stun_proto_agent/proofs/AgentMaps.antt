-- The maps of an agent, as its fields store them and as contracts see them.
use Rattle.std.proofs.Common.{◌≡◌, ℕ, List, Bool, Option, Some, None, refl, sym, ap, ◌∙◌, subst}
use Rattle.std.specs.Prelude.{⊤, MatchOption, is_some}
use Rattle.std.specs.BTreeMap as tree
use Rattle.std.specs.FinMap as map
use Rattle.std.specs.Option.{option_map}
use Rattle.std.specs.Ordering.{nat_cmp}
use Rattle.std.specs.declared.net.socket_addr.SocketAddr.{SocketAddr}
use Rattle.stun_proto_transaction.proofs.Base.MapView.{get-finite_map, insert-finite_map}
use Rattle.stun_proto_transaction.specs.Base.SocketAddrs.{socket_addr_cmp, socket_addr_cmp_total, socket_addr_cmp-IsAntisymmetric}
use Rattle.stun_proto_transaction.specs.Agents.{Transaction, integrity_of, is_due, is_ended, is_over, transmitted}
use Rattle.stun_proto_transaction.specs.Wire.declared.algorithm.IntegrityAlgorithm.{IntegrityAlgorithm}
use Rattle.stun_proto_transaction.specs.StoredRequests as stored
use Rattle.stun_proto_transaction.specs.StoredRequests.{Requests, with_number}
use Rattle.stun_proto_transaction.specs.Least.{IsLeast}
use Rattle.stun_proto_transaction.specs.Base.Times.{time_after}
use Rattle.stun_proto_transaction.specs.Schedule.{Waits}
use Rattle.stun_proto_agent.specs.Sending.{started, stored_under}
use Rattle.stun_proto_transaction.specs.declared.transaction.Cancelled.TheVariants.{Nothing}
use Rattle.stun_proto_agent.specs.State.{Agent, IsNext, NoneEnded, is_tcp, longest_wait}
use Rattle.stun_proto_agent.specs.View.{agent_of}
use Rattle.stun_proto_agent.specs.declared.agent.StunAgent.TheInside.{Inside}

itself : {A : Type 0} (found : Option A) → option_map (λ (a : A). a) found ≡ found
itself None = refl
itself (Some a) = refl

-- The map in the fields is the map that contracts see.
same_map : (s : Inside) (agent : Agent) → agent_of s ≡ agent → s.outstanding.by_number ≡ agent.outstanding
same_map s agent view_is = ap (λ (a : Agent). a.outstanding) view_is

-- Looking up a transaction ID gives the same result in both maps.
pub get_number : (s : Inside) (agent : Agent) (number : ℕ) → agent_of s ≡ agent → map.get agent.outstanding number ≡ map.get s.outstanding.by_number number
get_number s agent number view_is = ap (λ m. map.get m number) (sym (same_map s agent view_is))

-- Removing a transaction ID from the fields removes it from the agent.
pub remove_number : (s : Inside) (new : Requests) (agent : Agent) (number : ℕ) → agent_of s ≡ agent → new ≡ record s.outstanding { by_number = map.remove s.outstanding.by_number number }
    → agent_of (record s { outstanding = new }) ≡ record agent { outstanding = map.remove agent.outstanding number }
remove_number s new agent number view_is is =
    ap {A = Requests} {B = Agent} (λ r. record (agent_of s) { outstanding = r.by_number }) is
    ∙ ap {A = Agent} {B = Agent} (λ v. record v { outstanding = map.remove v.outstanding number }) view_is

-- Whether a transaction ID is present in the fields is whether it is outstanding at the agent.
pub is_there : (s : Inside) (agent : Agent) (number : ℕ) (found : Option Transaction) (result : Bool) → agent_of s ≡ agent → found ≡ map.get s.outstanding.by_number number → result ≡ is_some found → result ≡ is_some (map.get agent.outstanding number)
is_there s agent number found result view_is is reported = reported ∙ ap is_some (is ∙ sym (get_number s agent number view_is))

-- What holds of the entry found in the fields for a transaction ID holds of the agent's entry.
pub reported_of : (s : Inside) (agent : Agent) (number : ℕ) (found : Option Transaction) (none : Type 0) (some : Transaction → Type 0) → agent_of s ≡ agent → found ≡ map.get s.outstanding.by_number number
    → MatchOption found none some → MatchOption (map.get agent.outstanding number) none some
reported_of s agent number found none some view_is is reported =
    subst (λ (o : Option Transaction). MatchOption o none some) (is ∙ sym (get_number s agent number view_is)) reported

-- The target of the entry found in the fields is that of the agent's entry.
pub target_is : (s : Inside) (agent : Agent) (number : ℕ) (found : Option Transaction) (result : Option SocketAddr) → agent_of s ≡ agent → found ≡ map.get s.outstanding.by_number number
    → result ≡ option_map (λ (t : Transaction). t.to) found → result ≡ option_map (λ (t : Transaction). t.to) (map.get agent.outstanding number)
target_is s agent number found result view_is is reported = reported ∙ ap (option_map (λ (t : Transaction). t.to)) (is ∙ sym (get_number s agent number view_is))

-- Storing a request under its transaction ID in the fields stores it at the agent.
pub insert_number : (s : Inside) (new : Requests) (agent : Agent) (number : ℕ) (t : Transaction) → agent_of s ≡ agent → new ≡ with_number s.outstanding number t
    → agent_of (record s { outstanding = new }) ≡ record agent { outstanding = map.insert agent.outstanding number t }
insert_number s new agent number t view_is is =
    ap {A = Requests} {B = Agent} (λ r. record (agent_of s) { outstanding = r.by_number }) is
    ∙ ap {A = Agent} {B = Agent} (λ v. record v { outstanding = map.insert v.outstanding number t }) view_is

-- A new transaction has the agent's waits.
started_is : (s : Inside) (agent : Agent) (t : Transaction) (bytes own : List ℕ) (to : SocketAddr) (now : ℕ) (waits : Waits) → agent_of s ≡ agent
    → t ≡ record { bytes = own; to = to; sent = now; used = 1; waits = waits; cancelled = Nothing } → own ≡ bytes → waits ≡ s.waits → t ≡ started agent bytes to now
started_is s agent t bytes own to now waits view_is reported same_bytes same_waits =
    reported ∙ (λ i. record { bytes = same_bytes i; to = to; sent = now; used = 1; waits = (same_waits ∙ ap (λ (a : Agent). a.waits) view_is) i; cancelled = Nothing })

pub keeps_request : (s : Inside) (new : Requests) (agent : Agent) (number : ℕ) (t : Transaction) (bytes own : List ℕ) (to : SocketAddr) (now : ℕ) (waits : Waits) → agent_of s ≡ agent
    → new ≡ with_number s.outstanding number t → t ≡ record { bytes = own; to = to; sent = now; used = 1; waits = waits; cancelled = Nothing } → own ≡ bytes → waits ≡ s.waits
    → agent_of (record s { outstanding = new }) ≡ record agent { outstanding = map.insert agent.outstanding number (started agent bytes to now) }
keeps_request s new agent number t bytes own to now waits view_is updates reported same_bytes same_waits =
    insert_number s new agent number t view_is updates
    ∙ ap {A = Transaction} {B = Agent} (λ x. record agent { outstanding = map.insert agent.outstanding number x }) (started_is s agent t bytes own to now waits view_is reported same_bytes same_waits)

-- Storing an address in the fields makes it a validated one of the agent.
pub insert_peer : (s : Inside) (new : tree.BTreeMap SocketAddr ⊤) (agent : Agent) (addr : SocketAddr) → agent_of s ≡ agent → tree.Updates socket_addr_cmp s.validated new addr (Some tt)
    → agent_of (record s { validated = new }) ≡ record agent { validated = map.insert agent.validated addr tt }
insert_peer s new agent addr view_is updates =
    ap {A = map.FinMap socket_addr_cmp ⊤} {B = Agent} (λ m. record (agent_of s) { validated = m })
    (insert-finite_map (λ key. key) socket_addr_cmp_total (λ (x : ⊤). x) socket_addr_cmp-IsAntisymmetric s.validated new addr tt updates.0)
    ∙ ap {A = Agent} {B = Agent} (λ v. record v { validated = map.insert v.validated addr tt }) view_is

-- Whether an address is stored in the fields is whether it is validated at the agent.
pub is_validated : (s : Inside) (agent : Agent) (addr : SocketAddr) (result : Bool) → agent_of s ≡ agent → result ≡ is_some (tree.get socket_addr_cmp s.validated addr) → result ≡ is_some (map.get agent.validated addr)
is_validated s agent addr result view_is is =
    is ∙ sym (ap is_some (ap (λ a. map.get a.validated addr) (sym view_is) ∙ get-finite_map (λ key. key) socket_addr_cmp_total (λ x. x) s.validated addr ∙ itself (tree.get socket_addr_cmp s.validated addr)))

-- ---- what has ended

-- The ended transaction with the least ID, and whether it was cancelled; or none has ended.
abbrev EndedIn : map.FinMap nat_cmp Transaction → ℕ → Option (ℕ × Bool) → Type 0
EndedIn m now found = MatchOption found (stored.NonePasses (is_ended now) m) (λ f. (t : Transaction) × IsLeast (is_ended now) m f.0 t × (is_over t.cancelled ≡ f.1))

pub ended_is : (s : Inside) (agent : Agent) (now : ℕ) (result : Option (ℕ × Bool)) → agent_of s ≡ agent → EndedIn s.outstanding.by_number now result → EndedIn agent.outstanding now result
ended_is s agent now result view_is reported = subst (λ m. EndedIn m now result) (same_map s agent view_is) reported

-- ---- what comes next

-- The outstanding requests use the agent's transport.
same_tcp : (s : Inside) (agent : Agent) → agent_of s ≡ agent → s.outstanding.is_tcp ≡ is_tcp s.transport → s.outstanding.is_tcp ≡ is_tcp agent.transport
same_tcp s agent view_is tcp = tcp ∙ ap (λ (a : Agent). is_tcp a.transport) view_is

same_requests : (s : Inside) (agent : Agent) → agent_of s ≡ agent → s.outstanding.is_tcp ≡ is_tcp s.transport → s.outstanding ≡ record { is_tcp = is_tcp agent.transport; by_number = agent.outstanding }
same_requests s agent view_is tcp = λ i. record { is_tcp = same_tcp s agent view_is tcp i; by_number = same_map s agent view_is i }

pub none_before : (s : Inside) (agent : Agent) (now : ℕ) → agent_of s ≡ agent → NoneEnded agent now → stored.NoneEnded s.outstanding now
none_before s agent now view_is none = subst (stored.NonePasses (is_ended now)) (sym (same_map s agent view_is)) none

pub next_by : (s : Inside) (agent : Agent) (now until most : ℕ) → agent_of s ≡ agent → s.outstanding.is_tcp ≡ is_tcp s.transport → most ≡ time_after now longest_wait → stored.IsNext s.outstanding now most until → IsNext agent now until
next_by s agent now until most view_is tcp hour reported =
    let next = subst (λ n. stored.IsNext (record { is_tcp = is_tcp agent.transport; by_number = agent.outstanding }) now n until) hour
    (subst (λ r. stored.IsNext r now most until) (same_requests s agent view_is tcp) reported) in
    record { from_now = next.from_now; within = next.within; no_later = next.no_later; reached = next.reached }

-- ---- what is due

abbrev DueIn : Requests → ℕ → Option ℕ → Type 0
DueIn r now found = MatchOption found (stored.NonePasses (is_due r.is_tcp now) r.by_number) (λ number. (t : Transaction) × IsLeast (is_due r.is_tcp now) r.by_number number t)

pub due_is : (s : Inside) (agent : Agent) (now : ℕ) (result : Option ℕ) → agent_of s ≡ agent → s.outstanding.is_tcp ≡ is_tcp s.transport → DueIn s.outstanding now result → DueIn (record { is_tcp = is_tcp agent.transport; by_number = agent.outstanding }) now result
due_is s agent now result view_is tcp reported = subst (λ r. DueIn r now result) (same_requests s agent view_is tcp) reported

-- The entry that was found is changed by `f`; without an entry the agent is unchanged.
abbrev ChangedAs : Agent → Agent → ℕ → (Transaction → Transaction) → Option Transaction → Type 0
ChangedAs old new number f found = MatchOption found (new ≡ old) (λ t. new ≡ stored_under old number (f t))

abbrev StoredAs : Requests → Requests → ℕ → (Transaction → Transaction) → Option Transaction → Type 0
StoredAs old new number f found = MatchOption found (new ≡ old) (λ t. new ≡ with_number old number (f t))

changed_by : (s : Inside) (new : Requests) (agent : Agent) (number : ℕ) (f : Transaction → Transaction) (found : Option Transaction) → agent_of s ≡ agent
    → StoredAs s.outstanding new number f found → ChangedAs agent (agent_of (record s { outstanding = new })) number f found
changed_by s new agent number f None view_is same = ap {A = Requests} {B = Agent} (λ r. record (agent_of s) { outstanding = r.by_number }) same ∙ view_is
changed_by s new agent number f (Some t) view_is is = insert_number s new agent number (f t) view_is is

pub changes : (s : Inside) (new : Requests) (agent : Agent) (number : ℕ) (f : Transaction → Transaction) → agent_of s ≡ agent → StoredAs s.outstanding new number f (map.get s.outstanding.by_number number)
    → ChangedAs agent (agent_of (record s { outstanding = new })) number f (map.get agent.outstanding number)
changes s new agent number f view_is reported =
    subst (ChangedAs agent (agent_of (record s { outstanding = new })) number f) (sym (get_number s agent number view_is)) (changed_by s new agent number f (map.get s.outstanding.by_number number) view_is reported)

-- A change of an entry keeps the transport.
stored_tcp : (old new : Requests) (number : ℕ) (f : Transaction → Transaction) (found : Option Transaction) → StoredAs old new number f found → new.is_tcp ≡ old.is_tcp
stored_tcp old new number f None same = ap (λ (r : Requests). r.is_tcp) same
stored_tcp old new number f (Some t) is = ap (λ (r : Requests). r.is_tcp) is

pub stays : (s : Inside) (new : Requests) (number : ℕ) (f : Transaction → Transaction) → s.outstanding.is_tcp ≡ is_tcp s.transport → StoredAs s.outstanding new number f (map.get s.outstanding.by_number number) → new.is_tcp ≡ is_tcp s.transport
stays s new number f tcp reported = stored_tcp s.outstanding new number f (map.get s.outstanding.by_number number) reported ∙ tcp

-- Counting a transmission in the fields counts it at the agent.
pub counts : (s : Inside) (new : Requests) (agent : Agent) (number : ℕ) → agent_of s ≡ agent → s.outstanding.is_tcp ≡ is_tcp s.transport
    → StoredAs s.outstanding new number (transmitted s.outstanding.is_tcp) (map.get s.outstanding.by_number number)
    → ChangedAs agent (agent_of (record s { outstanding = new })) number (transmitted (is_tcp agent.transport)) (map.get agent.outstanding number)
counts s new agent number view_is tcp reported =
    subst (λ (b : Bool). ChangedAs agent (agent_of (record s { outstanding = new })) number (transmitted b) (map.get agent.outstanding number)) (same_tcp s agent view_is tcp)
    (changes s new agent number (transmitted s.outstanding.is_tcp) view_is reported)

-- The target and the algorithm of the entry found in the fields are those of the agent's entry.
pub request_reported : (s : Inside) (agent : Agent) (number : ℕ) (found : Option Transaction) (result : Option (SocketAddr × Option IntegrityAlgorithm)) → agent_of s ≡ agent → found ≡ map.get s.outstanding.by_number number
    → result ≡ option_map (λ (t : Transaction). (t.to, integrity_of t)) found → result ≡ option_map (λ (t : Transaction). (t.to, integrity_of t)) (map.get agent.outstanding number)
request_reported s agent number found result view_is is reported = reported ∙ ap (option_map (λ (t : Transaction). (t.to, integrity_of t))) (is ∙ sym (get_number s agent number view_is))
