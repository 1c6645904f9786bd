-- Replacing the stream of a connection changes nothing else.
use Rattle.std.proofs.Common.{◌≡◌, ◌≢◌, ◌&&◌, ℕ, Bool, true, false, eqb, if◌then◌else◌, length, List, [], ◌∷◌, Option, Some, None, option_map, refl, sym, ap, ◌∙◌, subst, inl, inr}
use Rattle.std.proofs.lemmas.Bool.{cases_Bool}
use Rattle.std.specs.List.{find, list_any}
use Rattle.std.specs.Option.{option_and_then}
use Rattle.std.specs.Bool.{MatchBool}
use Rattle.std.specs.Prelude.{MatchOption, is_some}
use Rattle.std.specs.declared.net.socket_addr.SocketAddr.{SocketAddr}
use Rattle.stun_types_base.specs.declared.transmit.Transmit.{Transmit}
use Rattle.turn_types_frame.specs.Streams.{Stream, alive}
use Rattle.turn_client_proto_api.specs.declared.answer.TurnRecvRet.{TurnRecvRet}
use Rattle.turn_client_proto_allocation.specs.Changes.{change_first}
use Rattle.turn_client_proto_allocation.specs.declared.allocation.Allocation.{Allocation}
use Rattle.turn_client_proto_allocation.specs.declared.connection.Binding.{Binding}
use Rattle.turn_client_proto_allocation.specs.declared.connection.Connection.{Connection}
use Rattle.turn_client_proto_connection.specs.Sockets.{has_from, is_from}
use Rattle.turn_client_proto_connection.specs.Streams.{exchanged, exchanged_in, from, from_in, with_stream}
use Rattle.turn_client_proto_core.specs.declared.protocol.Protocol.{Protocol}
use Rattle.turn_client_proto_recv.specs.Processing.{awaited_at, joining_of}
use Rattle.turn_client_proto_allocation.specs.Same.{is_same_address, is_same_transport}
use Rattle.turn_client_proto_recv.specs.Datagrams.{IsGivenBack}
use Rattle.turn_client_proto_recv.specs.SocketChunks.{IsBytesTaken, IsEnded, IsChunkFed, IsRawTaken, IsReceivedAt, IsTakenBy, IsTakenFor, is_joining, socket_of, with_stored}

module _ {X : Type 0} (p : X → Bool) (f : X → X) (keeps : (x : X) → p x ≡ true → p (f x) ≡ true) where
  -- If the first element that passes is changed and still passes, the search finds the changed one.
  pub found_changed : (xs : List X) → find p (change_first p f xs) ≡ option_map f (find p xs)
  found_changed [] = refl
  found_changed (x ∷ xs) = elim (cases_Bool (p x)) [
    | inl is ↦
        let here : change_first p f (x ∷ xs) ≡ f x ∷ xs = rw is refl in
        let found : find p (x ∷ xs) ≡ Some x = rw is refl in
        let after : find p (f x ∷ xs) ≡ Some (f x) = rw (keeps x is) refl in
        ap (find p) here ∙ after ∙ sym (ap (option_map f) found)
    | inr not ↦
        let later : change_first p f (x ∷ xs) ≡ x ∷ change_first p f xs = rw not refl in
        let found : find p (x ∷ xs) ≡ find p xs = rw not refl in
        let rest : find p (x ∷ change_first p f xs) ≡ find p (change_first p f xs) = rw not refl in
        ap (find p) later ∙ rest ∙ found_changed xs ∙ sym (ap (option_map f) found)
  ]

  pub any_changed : (xs : List X) → list_any p (change_first p f xs) ≡ list_any p xs
  any_changed [] = refl
  any_changed (x ∷ xs) = elim (cases_Bool (p x)) [
    | inl is ↦
        let here : change_first p f (x ∷ xs) ≡ f x ∷ xs = rw is refl in
        let any : list_any p (x ∷ xs) ≡ true = rw is refl in
        let after : list_any p (f x ∷ xs) ≡ true = rw (keeps x is) refl in
        ap (list_any p) here ∙ after ∙ sym any
    | inr not ↦
        let later : change_first p f (x ∷ xs) ≡ x ∷ change_first p f xs = rw not refl in
        let any : list_any p (x ∷ xs) ≡ list_any p xs = rw not refl in
        let rest : list_any p (x ∷ change_first p f xs) ≡ list_any p (change_first p f xs) = rw not refl in
        ap (list_any p) later ∙ rest ∙ any_changed xs ∙ sym any
  ]

module _ (here : SocketAddr) (stream : Stream) where
  found_in : (a : Allocation) → from_in here (exchanged_in here stream a) ≡ option_map (with_stream stream) (from_in here a)
  found_in a = found_changed (is_from here) (with_stream stream) (λ c is. is) a.connections

  still_has : (a : Allocation) → has_from here a ≡ true → has_from here (exchanged_in here stream a) ≡ true
  still_has a is = any_changed (is_from here) (with_stream stream) (λ c is. is) a.connections ∙ is

  within : (o : Option Allocation) → option_and_then (from_in here) (option_map (exchanged_in here stream) o) ≡ option_map (with_stream stream) (option_and_then (from_in here) o)
  within None = refl
  within (Some a) = found_in a

  pub from_exchanged : (all : List Allocation) → from here (exchanged here stream all) ≡ option_map (with_stream stream) (from here all)
  from_exchanged all =
      ap (option_and_then (from_in here)) (found_changed (has_from here) (exchanged_in here stream) still_has all)
      ∙ within (find (has_from here) all)

  awaits_so : (o : Option Connection) → option_and_then joining_of (option_map (with_stream stream) o) ≡ option_and_then joining_of o
  awaits_so None = refl
  awaits_so (Some c) = refl

  -- What the connection waits for is unchanged.
  pub awaited_exchanged : (all : List Allocation) → awaited_at here (exchanged here stream all) ≡ awaited_at here all
  awaited_exchanged all = ap (option_and_then joining_of) (from_exchanged all) ∙ awaits_so (from here all)

  pub joining_stored : (p : Protocol) → is_joining here (with_stored here stream p) ≡ is_joining here p
  joining_stored p = ap is_some (awaited_exchanged p.allocations)

-- ---- a chunk over the socket of a connection that is to be bound

pub still_joins : (here : SocketAddr) (fresh : Stream) (old first : Protocol) → first ≡ with_stored here fresh old → is_joining here old ≡ true → is_joining here first ≡ true
still_joins here fresh old first is joins = ap (is_joining here) is ∙ joining_stored here fresh old ∙ joins

-- The stream that was returned is the one that the connection had.
pub stored_before : (found : Option Connection) (k : Connection) (stream : Stream) → found ≡ Some k → Some stream ≡ option_map (λ (c : Connection). c.stream) found → stream ≡ k.stream
stored_before None k stream at given = absurd (Prim.cc at)
stored_before (Some c) k stream at given = Prim.cc (given ∙ ap (option_map (λ (c : Connection). c.stream)) at)

pub none_before : (found : Option Connection) (k : Connection) → found ≡ Some k → None ≡ option_map (λ (c : Connection). c.stream) found → ⊥
none_before None k at given = Prim.cc at
none_before (Some c) k at given = Prim.cc given

pub taken_for : {T : Type 0} (items : T → List ℕ) (k : Connection) (now : ℕ) (old first middle new : Protocol) (came : Transmit T) (answer : TurnRecvRet T) (stream fresh left : Stream)
    → from came.to old.allocations ≡ Some k → Some stream ≡ option_map (λ (c : Connection). c.stream) (from came.to old.allocations) → fresh ≡ alive [] → first ≡ with_stored came.to fresh old
    → IsChunkFed items came.to now stream first came answer left middle → new ≡ with_stored came.to left middle → IsTakenFor items k now old came answer new
taken_for items k now old first middle new came answer stream fresh left at given is_fresh first_is fed after = record {
  left = left;
  middle = middle;
  fed = subst (λ (s : Stream). IsChunkFed items came.to now s (with_stored came.to (alive []) old) came answer left middle) (stored_before (from came.to old.allocations) k stream at given)
      (subst (λ (p : Protocol). IsChunkFed items came.to now stream p came answer left middle) (first_is ∙ ap (λ (s : Stream). with_stored came.to s old) is_fresh) fed);
  after = after;
}

-- ---- bytes of a peer over the socket of a connection that is bound

found_from : {T : Type 0} (p : Protocol) (came : Transmit T) (k : Connection) → socket_of p came ≡ Some k → from came.to p.allocations ≡ Some k
found_from p came k found = by (is_same_transport came.transport p.agent.transport && is_same_address came.from p.server) found
  where
    by : (b : Bool) → (if b then from came.to p.allocations else None) ≡ Some k → from came.to p.allocations ≡ Some k
    by true is = is
    by false is = absurd (Prim.cc is)

is_bound : (o : Option Binding) → is_some o ≡ false → o ≡ None
is_bound None is = refl
is_bound (Some b) is = absurd (Prim.cc is)

not_nothing : (l : List ℕ) → eqb (length l) 0 ≡ false → l ≢ []
not_nothing [] is none = Prim.cc is
not_nothing (b ∷ l) is none = Prim.cc none

-- What is known of the connection on whose socket bytes came, if bytes were buffered.
pub raw_joined : {T : Type 0} (items : T → List ℕ) (old new : Protocol) (came : Transmit T) (answer : TurnRecvRet T) (k : Connection) → socket_of old came ≡ Some k
    → eqb (length k.stream.stored) 0 ≡ false → ((c : Connection) → from came.to old.allocations ≡ Some c → c.stream.stored ≢ [] → c.peer ≡ k.peer → IsRawTaken items c old came answer new) → IsRawTaken items k old came answer new
raw_joined items old new came answer k found waits gives = gives k (found_from old came k found) (not_nothing k.stream.stored waits) refl

pub given_joined : {T : Type 0} (items : T → List ℕ) (now : ℕ) (old new : Protocol) (came : Transmit T) (answer : TurnRecvRet T) (k : Connection) → socket_of old came ≡ Some k → eqb (length (items came.bytes)) 0 ≡ false → is_some k.awaited ≡ false
    → eqb (length k.stream.stored) 0 ≡ false → ((c : Connection) → from came.to old.allocations ≡ Some c → c.stream.stored ≢ [] → c.peer ≡ k.peer → IsRawTaken items c old came answer new) → IsReceivedAt items now old came answer new
given_joined items now old new came answer k found some bound waits gives =
    subst (λ (o : Option Connection). MatchOption o (IsGivenBack old came answer new) (λ c. IsTakenBy items c now old came answer new)) (sym found)
    (subst (λ (b : Bool). MatchBool b (IsEnded old came answer new) (IsBytesTaken items k.awaited k now old came answer new)) (sym some)
    (subst (λ (o : Option Binding). IsBytesTaken items o k now old came answer new) (sym (is_bound k.awaited bound))
    (gives k (found_from old came k found) (not_nothing k.stream.stored waits) refl)))
