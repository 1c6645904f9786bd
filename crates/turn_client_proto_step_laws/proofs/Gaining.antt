-- The addresses that a success response to an ALLOCATE brings, and their allocations.
use Rattle.std.proofs.Common.{◌≡◌, ℕ, Bool, true, cond, List, [], ◌∷◌, map, Option, Some, None, refl, sym, ap, ◌∙◌, subst, arith, inl, inr}
use Rattle.std.proofs.lemmas.Bool.{cases_Bool}
use Rattle.std.proofs.lemmas.List.Sums.{take_while-cons}
use Rattle.std.specs.List.{filter_map, take_while}
use Rattle.std.specs.Prelude.{is_some}
use Rattle.std.specs.declared.net.socket_addr.SocketAddr.{SocketAddr}
use Rattle.turn_client_proto_timers.specs.StunTypesWire.Attributes.{Attr}
use Rattle.turn_client_proto_timers.specs.StunTypesBase.Family.{family_of_socket}
use Rattle.turn_client_proto_timers.specs.StunTypesWire.Grammar.{number_at}
use Rattle.turn_client_proto_timers.specs.StunTypesBase.declared.family.AddressFamily.{AddressFamily}
use Rattle.turn_client_proto_timers.specs.StunTypesBase.declared.family.AddressFamily.TheVariants.{IPV4, IPV6}
use Rattle.turn_client_proto_timers.specs.StunTypesBase.declared.transport.TransportType.{TransportType}
use Rattle.turn_client_proto_timers.specs.StunProtoAgent.State.{Agent}
use Rattle.turn_client_proto_recv.specs.TurnTypesAttributes.TurnRegistry.{xor_relayed_address_kind}
use Rattle.turn_client_proto_timers.specs.TurnTypesPeer.TurnShows.{address_in, addresses_visible, each_visible}
use Rattle.turn_client_proto_timers.specs.TurnRuns.Members.{IsIn, NoneTwice}
use Rattle.turn_client_proto_timers.specs.TurnRuns.Messages as run
use Rattle.turn_client_proto_timers.specs.TurnRuns.Steps.{Reported, reported_for}
use Rattle.turn_client_proto_timers.specs.Allocation.Refreshing.{granted}
use Rattle.turn_client_proto_timers.specs.Api.Families.{is_same_family}
use Rattle.turn_client_proto_timers.specs.Messages.Granting.{are_of_one_family, first_of_each}
use Rattle.turn_client_proto_timers.specs.Messages.Reporting.{created}
use Rattle.turn_client_proto_timers.specs.Messages.Reported.{relayed_reported}
use Rattle.turn_client_proto_timers.specs.Core.Allocating.{phase_by}
use Rattle.turn_client_proto_timers.specs.Core.Authenticating.{numbers_sent}
use Rattle.turn_client_proto_timers.specs.Messages.Waiting.{Queued}
use Rattle.turn_client_proto_step_laws.specs.ClientWords.{Has, HasItself, HasPermission, HasChannel, HasConnection, IsAttempted, IsWaiting, IsAnswered as HasAnswered, IsStored, IsPending, OfPermission, OfChannel, OfNewPermission, OfNewChannel, OfRefresh, OfConnect, OfAttempt, OfBinding, Knows, ByWaiting, ByConnection, Waits}
use Rattle.turn_client_proto_step_laws.specs.Held.{Allocation}
use Rattle.turn_client_proto_step_laws.specs.Sound.{AreRequested, AreBinding, AreConnecting, AreShort, AreWhole, BeforeAllocated}
use Rattle.turn_client_proto_timers.specs.Peers.Channel.Numbers.{AreDistinct, uses}
use Rattle.turn_client_proto_step_laws.proofs.Firsts as firsts
use Rattle.turn_client_proto_step_laws.proofs.Firsts.{image_in}
use Rattle.turn_client_proto_step_laws.proofs.Lists.{in_map}
use Rattle.turn_client_proto_step_laws.proofs.Plain.{notices}

-- ---- the addresses

same_family : (f : AddressFamily) → is_same_family f f ≡ true
same_family IPV4 = refl
same_family IPV6 = refl

-- What is gained: the address, by the response with this transaction ID.
abbrev pub reported_of : TransportType → ℕ → SocketAddr → Reported
reported_of transport number address = record {
  notice = run.AllocationCreated transport address;
  held = run.Allocation transport address;
  number = number;
}

same_address : (transport : TransportType) (number : ℕ) (one other : SocketAddr) → reported_for (reported_of transport number one) ≡ reported_for (reported_of transport number other) → one ≡ other
same_address transport number one other same =
    let notice : run.AllocationCreated transport one ≡ run.AllocationCreated transport other = ap (λ (p : run.Notice × ℕ). p.0) same in
    Prim.cc notice

-- The first addresses of each family differ.
pub none_twice : (transport : TransportType) (number : ℕ) (all : List SocketAddr) → NoneTwice reported_for (map (reported_of transport number) (first_of_each are_of_one_family all))
none_twice transport number all = firsts.none_twice are_of_one_family (λ x. same_family (family_of_socket x)) (reported_of transport number) (same_address transport number) all

-- Addresses up to the first malformed one are visible.
in_mapped : (f : Attr → Option SocketAddr) (a : Attr) (x : SocketAddr) (all more : List Attr) (o : Option SocketAddr) → f a ≡ o → IsIn x (filter_map f (a ∷ all)) → (IsIn x (filter_map f all) → IsIn x (filter_map f more)) → IsIn x (filter_map f (a ∷ more))
in_mapped f a x all more None is h g =
    let here : filter_map f (a ∷ all) ≡ filter_map f all = rw is refl in
    let there : filter_map f (a ∷ more) ≡ filter_map f more = rw is refl in
    subst (λ (l : List SocketAddr). IsIn x l) (sym there) (g (subst (λ (l : List SocketAddr). IsIn x l) here h))
in_mapped f a x all more (Some y) is h g =
    let here : filter_map f (a ∷ all) ≡ y ∷ filter_map f all = rw is refl in
    let there : filter_map f (a ∷ more) ≡ y ∷ filter_map f more = rw is refl in
    subst (λ (l : List SocketAddr). IsIn x l) (sym there) (elim (subst (λ (l : List SocketAddr). IsIn x l) here h) [ inl same ↦ inl same | inr later ↦ inr (g later) ])

in_whole : (f : Attr → Option SocketAddr) (p : Attr → Bool) (x : SocketAddr) (all : List Attr) → IsIn x (filter_map f (take_while p all)) → IsIn x (filter_map f all)
in_whole f p x [] h = absurd h
in_whole f p x (a ∷ all) h = elim (cases_Bool (p a)) [
  | inl is ↦
      let here : cond (p a) (a ∷ take_while p all) [] ≡ a ∷ take_while p all = rw is refl in
      in_mapped f a x (take_while p all) all (f a) refl (subst (λ (l : List Attr). IsIn x (filter_map f l)) (take_while-cons p a all ∙ here) h) (in_whole f p x all)
  | inr differs ↦
      let here : cond (p a) (a ∷ take_while p all) [] ≡ [] = rw differs refl in
      absurd (subst (λ (l : List Attr). IsIn x (filter_map f l)) (take_while-cons p a all ∙ here) h)
]

pub relayed_listed : (bytes : List ℕ) (x : SocketAddr) → IsIn x (relayed_reported bytes) → IsIn x (addresses_visible xor_relayed_address_kind bytes)
relayed_listed bytes x h = in_whole (address_in (number_at bytes)) (λ a. is_some (address_in (number_at bytes) a)) x (each_visible xor_relayed_address_kind bytes) h

-- ---- what is reported

pub reported_created : (transport : TransportType) (number lifetime now : ℕ) (all : List SocketAddr)
    → notices (map created (map (λ address. granted transport address lifetime now) all)) ≡ map (λ (t : Reported). t.notice) (map (reported_of transport number) all)
reported_created transport number lifetime now [] = refl
reported_created transport number lifetime now (x ∷ all) = ap (λ (l : List run.Notice). run.AllocationCreated transport x ∷ l) (reported_created transport number lifetime now all)

-- ---- fresh allocations

module _ (transport : TransportType) (number lifetime now : ℕ) where
  abbrev pub fresh : SocketAddr → Allocation
  fresh address = granted transport address lifetime now

  fresh_has : (h : run.Held) (address : SocketAddr) → Has (fresh address) h → (reported_of transport number address).held ≡ h
  fresh_has h address HasItself = refl
  fresh_has h address (HasPermission p listed) = absurd listed
  fresh_has h address (HasChannel c listed) = absurd listed
  fresh_has h address (HasConnection c listed bound) = absurd listed

  fresh_pending : {A : Type 0} (n : ℕ) (address : SocketAddr) → IsPending n (fresh address) → A
  fresh_pending n address (OfPermission p listed is) = absurd listed
  fresh_pending n address (OfChannel c listed is) = absurd listed
  fresh_pending n address (OfNewPermission p listed is) = absurd listed
  fresh_pending n address (OfNewChannel c listed is) = absurd listed
  fresh_pending n address (OfRefresh r listed is) = absurd listed
  fresh_pending n address (OfConnect c listed is) = absurd listed
  fresh_pending n address (OfAttempt w listed is) = absurd listed
  fresh_pending n address (OfBinding c listed b awaited is) = absurd listed

  fresh_knows : {A : Type 0} (n : ℕ) (peer : SocketAddr) (address : SocketAddr) → Knows (fresh address) n peer → A
  fresh_knows n peer address (ByWaiting w listed) = absurd listed
  fresh_knows n peer address (ByConnection c listed) = absurd listed

  no_uses : (n : ℕ) (all : List SocketAddr) → uses n (map fresh all) ≡ 0
  no_uses n [] = refl
  no_uses n (x ∷ all) = let rest = no_uses n all in omega (arith, rest)

  pub fresh_distinct : (all : List SocketAddr) → AreDistinct (map fresh all)
  fresh_distinct all n = let none = no_uses n all in omega (arith, none)

  module _ (all : List SocketAddr) where
    pub stored_gained : (h : run.Held) → IsStored (map fresh all) h → (t : Reported) × IsIn t (map (reported_of transport number) all) × (t.held ≡ h)
    stored_gained h k =
        let image = in_map fresh k.allocation all k.listed in
        (reported_of transport number image.source, image_in (reported_of transport number) image.source all image.listed, fresh_has h image.source (subst (λ (a : Allocation). Has a h) image.is k.has))

    pub none_pending : {A : Type 0} (n : ℕ) (a : Allocation) → IsIn a (map fresh all) → IsPending n a → A
    none_pending n a listed is =
        let image = in_map fresh a all listed in
        fresh_pending n image.source (subst (λ (x : Allocation). IsPending n x) image.is is)

    pub none_waits : {A : Type 0} (n : ℕ) (peer : SocketAddr) → Waits (map fresh all) n peer → A
    none_waits n peer w =
        let image = in_map fresh w.allocation all w.listed in
        fresh_knows n peer image.source (subst (λ (x : Allocation). Knows x n peer) image.is w.knows)

    pub none_short : (a : Allocation) → IsIn a (map fresh all) → AreShort a.pending_refreshes
    none_short a listed r there =
        let image = in_map fresh a all listed in
        absurd (subst (λ (x : Allocation). IsIn r x.pending_refreshes) image.is there)

    pub none_requested : (agent : Agent) (a : Allocation) → IsIn a (map fresh all) → AreRequested agent a
    none_requested agent a listed p there =
        let image = in_map fresh a all listed in
        absurd (subst (λ (x : Allocation). IsIn p x.pending_permissions) image.is there)

    pub none_bound : (agent : Agent) (a : Allocation) → IsIn a (map fresh all) → AreBinding agent a
    none_bound agent a listed =
        let image = in_map fresh a all listed in
        record {
          requested = λ c there. absurd (subst (λ (x : Allocation). IsIn c x.pending_channels) image.is there);
          renewed = λ c there. absurd (subst (λ (x : Allocation). IsIn c x.channels) image.is there);
        }

    pub none_connects : (agent : Agent) (a : Allocation) → IsIn a (map fresh all) → AreConnecting agent a
    none_connects agent a listed =
        let image = in_map fresh a all listed in
        record {
          requested = λ c there. absurd (subst (λ (x : Allocation). IsIn c x.connecting) image.is there);
          whole = λ c there. absurd (subst (λ (x : Allocation). IsIn c x.connecting) image.is there);
          binds = λ c there b awaits. absurd (subst (λ (x : Allocation). IsIn c x.connections) image.is there);
        }

    pub none_peers : (a : Allocation) → IsIn a (map fresh all) → AreWhole a
    none_peers a listed =
        let image = in_map fresh a all listed in
        record {
          requested = λ c there. absurd (subst (λ (x : Allocation). IsIn c x.pending_channels) image.is there);
          standing = λ c there. absurd (subst (λ (x : Allocation). IsIn c x.channels) image.is there);
        }

    pub none_attempted : (before : List Allocation) (queue : List Queued) (n : ℕ) → IsAttempted (map fresh all) queue n → IsAttempted before queue n
    none_attempted before queue n (HasAnswered q listed response is) = HasAnswered q listed response is
    none_attempted before queue n (IsWaiting a listed w has is) =
        let image = in_map fresh a all listed in
        absurd (subst (λ (x : Allocation). IsIn w x.waiting) image.is has)

-- A client with allocations, or with none, awaits no ALLOCATE.
pub none_sent : {A : Type 0} (n : ℕ) (all : List Allocation) → IsIn n (numbers_sent (phase_by all)) → A
none_sent n [] h = absurd h
none_sent n (a ∷ all) h = absurd h

pub anything : (A : Type 0) (all : List Allocation) → BeforeAllocated (phase_by all) A
anything A [] = tt
anything A (a ∷ all) = tt
