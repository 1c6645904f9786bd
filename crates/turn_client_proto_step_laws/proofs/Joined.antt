-- What each call does to the connections of an allocation.
use Rattle.std.proofs.Common.{◌≡◌, ℕ, not, List, [], ◌∷◌, Option, Some, map, refl, sym, ap, ◌∙◌, inl, inr}
use Rattle.std.specs.List.{find}
use Rattle.std.specs.declared.net.socket_addr.SocketAddr.{SocketAddr}
use Rattle.turn_client_proto_timers.specs.Allocation.Awaited.{is_connecting}
use Rattle.turn_client_proto_timers.specs.Allocation.PendingRequests.{connected_again, connecting_by}
use Rattle.turn_client_proto_timers.specs.Peers.Channel.Numbers.{AreDistinct}
use Rattle.turn_client_proto_timers.specs.Connection.Asking.{connecting}
use Rattle.turn_client_proto_timers.specs.Connection.Reported.{connected, given_up, is_over, waiting_for}
use Rattle.turn_client_proto_timers.specs.Connection.Waiting.{requested, requested_in, is_unasked}
use Rattle.turn_client_proto_step_laws.specs.Held.{Allocation, Connecting, Waiting}
use Rattle.turn_client_proto_step_laws.proofs.Joining.{AskingFor, IsJoining, IsUnattempted, Learning, none_connects, none_learnt, waited_itself}
use Rattle.turn_client_proto_step_laws.proofs.Lessening.{IsAlike, same_distinct}
use Rattle.turn_client_proto_step_laws.proofs.Lists.{found_in, in_either, in_filter, in_first, inside}

-- The request with this transaction ID asks for a connection to this peer.
abbrev pub asks_to : SocketAddr → ℕ → AskingFor
asks_to peer number c = c ≡ record { number = number; peer = peer }

-- A connection with this ID and peer becomes known.
abbrev pub learns : ℕ → SocketAddr → Learning
learns connection peer w = w ≡ waiting_for connection peer

pub learns_unattempted : (connection : ℕ) (peer : SocketAddr) → IsUnattempted (learns connection peer)
learns_unattempted connection peer w same = ap (λ (x : Waiting). x.attempt) same

-- ---- as time passes

-- Connections whose request ended are removed.
pub given_up_joining : (over : Option ℕ) (a : Allocation) → IsJoining none_connects none_learnt a (given_up over a)
unfolding given_up
given_up_joining over a = record {
  others = refl;
  connecting = λ c listed. inl (in_filter (λ x. not (is_over over x)) c a.connecting listed).0;
  waiting = λ w listed. inl (waited_itself a.waiting w listed);
}

given_up_alike : (over : Option ℕ) (a : Allocation) → IsAlike a (given_up over a)
unfolding given_up
given_up_alike over a = (refl, refl)

pub given_up_distinct : (over : Option ℕ) (all : List Allocation) → AreDistinct all → AreDistinct (map (given_up over) all)
given_up_distinct over all distinct = same_distinct (given_up over) (given_up_alike over) all distinct

-- The socket of a connection is requested.
pub requested_joining : (a : Allocation) → IsJoining none_connects none_learnt a (requested_in a)
requested_joining a = record {
  others = refl;
  connecting = λ c listed. inl listed;
  waiting = λ w listed. elim (in_first is_unasked requested w a.waiting listed) [
    | inl was ↦ inl (waited_itself a.waiting w was)
    | inr changed ↦ inl (record {
      before = changed.0;
      listed = found_in is_unasked a.waiting changed.0 changed.1;
      connection = ap (λ (x : Waiting). x.connection) changed.2;
      peer = ap (λ (x : Waiting). x.peer) changed.2;
      attempt = ap (λ (x : Waiting). x.attempt) changed.2;
    })
  ];
}

-- ---- a request

pub connecting_joining : (peer : SocketAddr) (number : ℕ) (a : Allocation) → IsJoining (asks_to peer number) none_learnt a (connecting (record { number = number; peer = peer }) a)
connecting_joining peer number a = record {
  others = refl;
  connecting = λ c listed. elim (in_either c a.connecting (record { number = number; peer = peer } ∷ []) listed) [
    | inl was ↦ inl was
    | inr own ↦ elim own [ inl same ↦ inr (sym same) | inr none ↦ absurd none ]
  ];
  waiting = λ w listed. inl (waited_itself a.waiting w listed);
}

-- The request replaces another one.
pub again_joining : (before number : ℕ) (a : Allocation) (first : Connecting) → find (is_connecting before) a.connecting ≡ Some first
    → IsJoining (asks_to first.peer number) none_learnt a (record a { connecting = connected_again before number a.connecting })
again_joining before number a first at = record {
  others = refl;
  connecting = λ c listed. elim (in_first (is_connecting before) (connecting_by number) c a.connecting listed) [
    | inl was ↦ inl was
    | inr changed ↦ let same : changed.0 ≡ first = inside (sym changed.1 ∙ at) in inr (changed.2 ∙ ap (connecting_by number) same)
  ];
  waiting = λ w listed. inl (waited_itself a.waiting w listed);
}

-- ---- a response

pub connected_joining : (connection : ℕ) (peer : SocketAddr) (number : ℕ) (a : Allocation) → IsJoining none_connects (learns connection peer) a (connected connection peer number a)
connected_joining connection peer number a = record {
  others = refl;
  connecting = λ c listed. inl (in_filter (λ x. not (is_over (Some number) x)) c a.connecting listed).0;
  waiting = λ w listed. elim (in_either w a.waiting (waiting_for connection peer ∷ []) listed) [
    | inl was ↦ inl (waited_itself a.waiting w was)
    | inr own ↦ elim own [
      | inl same ↦ inr (sym same)
      | inr none ↦ absurd none
    ]
  ];
}
