-- The connections that a client lists as bound are held.
use Rattle.std.proofs.Common.{◌≡◌, ℕ, Bool, true, false, List, [], ◌∷◌, Option, Some, None, refl, sym, ap, subst, inl, inr}
use Rattle.std.proofs.lemmas.Bool.{cases_Bool}
use Rattle.std.specs.Prelude.{is_none}
use Rattle.std.specs.declared.net.socket_addr.SocketAddr.{SocketAddr}
use Rattle.turn_client_proto_timers.specs.Connection.Visible.{connections_of, connections_listed, row_of, rows_of}
use Rattle.turn_client_proto_timers.specs.TurnRuns.Members.{IsIn}
use Rattle.turn_client_proto_timers.specs.TurnRuns.Messages as run
use Rattle.turn_client_proto_step_laws.specs.ClientWords.{Has, HasConnection, IsHeld}
use Rattle.turn_client_proto_step_laws.specs.Held.{Allocation, Binding, Connection}
use Rattle.turn_client_proto_step_laws.proofs.Lists.{in_either, in_map}

abbrev Row : Type 0
Row = SocketAddr × SocketAddr × ℕ × Bool

bound_so : (o : Option Binding) → is_none o ≡ true → o ≡ None
bound_so None is = refl
bound_so (Some b) is = absurd (Prim.cc is)

-- What is listed of a bound connection.
row_held : (a : Allocation) (c : Connection) (here peer : SocketAddr) (number : ℕ) → IsIn c a.connections → (here, peer, number, true) ≡ row_of c → Has a (run.Connection here peer number)
row_held a c here peer number listed is =
    let bound = bound_so c.awaited (sym (ap (λ (r : Row). r.3) is)) in
    subst (λ (r : Row). Has a (run.Connection r.0 r.1 r.2)) (sym is) (HasConnection c listed bound)

one_held : (a : Allocation) (here peer : SocketAddr) (number : ℕ) → IsIn (here, peer, number, true) (rows_of (connections_of a)) → (a.is_expired ≡ false) × Has a (run.Connection here peer number)
one_held a here peer number h = elim (cases_Bool a.is_expired) [
  | inl over ↦
      let none : connections_of a ≡ [] = rw over refl in
      absurd (subst (λ (l : List Connection). IsIn (here, peer, number, true) (rows_of l)) none h)
  | inr occurs ↦
      let all : connections_of a ≡ a.connections = rw occurs refl in
      let image = in_map row_of (here, peer, number, true) a.connections (subst (λ (l : List Connection). IsIn (here, peer, number, true) (rows_of l)) all h) in
      (occurs, row_held a image.source here peer number image.listed image.is)
]

pub connection_held : (allocations : List Allocation) (here peer : SocketAddr) (number : ℕ) → IsIn (here, peer, number, true) (connections_listed allocations) → IsHeld allocations (run.Connection here peer number)
connection_held [] here peer number h = absurd h
connection_held (a ∷ rest) here peer number h = elim (in_either (here, peer, number, true) (rows_of (connections_of a)) (connections_listed rest) h) [
  | inl own ↦
      let is = one_held a here peer number own in
      record { allocation = a; listed = inl refl; occurs = is.0; has = is.1 }
  | inr later ↦
      let is = connection_held rest here peer number later in
      record { allocation = is.allocation; listed = inr is.listed; occurs = is.occurs; has = is.has }
]
