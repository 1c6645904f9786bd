-- A message from the socket of a connection leaves the client's own address unchanged.
use Rattle.std.proofs.Common.{◌≡◌, ℕ, true, false, List, Option, Some, None, Ok, Err, refl, ap, ◌∙◌}
use Rattle.std.specs.Prelude.{if◌then◌else◌}
use Rattle.std.specs.declared.net.socket_addr.SocketAddr.{SocketAddr}
use Rattle.turn_client_proto_timers.specs.StunTypesWire.Attributes.{kind_at}
use Rattle.turn_client_proto_timers.specs.StunTypesWire.Types.{class_of}
use Rattle.turn_client_proto_timers.specs.StunTypesBase.declared.transport.TransportType.{TransportType}
use Rattle.turn_client_proto_timers.specs.StunTypesBase.declared.transport.TransportType.TheVariants.{Udp, Tcp}
use Rattle.turn_client_proto_recv.specs.StunProtoClient.declared.error.LongTermClientAuthError.TheVariants.{Unauthorized, IntegrityFailed, UnsupportedFeature, NoMemory}
use Rattle.turn_client_proto_recv.specs.StunProtoClient.declared.validation.LongTermClientValidation.TheVariants.{ResendRequest, Validated}
use Rattle.turn_client_proto_timers.specs.StunProtoAgent.Handling.{after_message, answered as ended_one, ends_one, is_awaited}
use Rattle.turn_client_proto_timers.specs.StunProtoAgent.State.{Agent}
use Rattle.turn_client_proto_timers.specs.Core.Responding.{accepted, answered, judged}
use Rattle.turn_client_proto_timers.specs.Core.declared.protocol.Protocol.{Protocol}
use Rattle.turn_client_proto_recv.specs.Processing.{IsAnswerProcessed, IsAnswerJudged, IsRequestedAnew, IsProcessedAt, IsOfBinding, IsSettled, requested_anew, awaited_at, bound_at, aborted, is_answer, is_of_binding, is_success_class}
use Rattle.turn_client_proto_timers.specs.Allocation.Same.{is_same_transport}
use Rattle.turn_client_proto_step_laws.proofs.Once.Judging.{Verdict}
use Rattle.turn_client_proto_step_laws.proofs.Polling.{by_test}

-- ---- a transport is the same as itself

pub same_way : (t : TransportType) → is_same_transport t t ≡ true
same_way Udp = refl
same_way Tcp = refl

-- ---- the client's own address

same_agent : (agent : Agent) (bytes : List ℕ) (from : SocketAddr) → (after_message agent bytes from).here ≡ agent.here
same_agent agent bytes from =
    elim (ends_one agent bytes) as (λ b. (if b then ended_one agent bytes from else agent).here ≡ agent.here) [ true ↦ refl | false ↦ refl ]

module _ (here : SocketAddr) (bytes : List ℕ) (now : ℕ) (new : Protocol) where
  abbrev Same : Protocol → Type 0
  Same p = new.agent.here ≡ p.agent.here

  breaks : (peer : SocketAddr) (p : Protocol) → new ≡ aborted here peer p → Same p
  unfolding aborted
  breaks peer p is = ap (λ (x : Protocol). x.agent.here) is

  breaks_accepted : (peer : SocketAddr) (p : Protocol) → new ≡ aborted here peer (accepted bytes p) → Same p
  unfolding aborted accepted
  breaks_accepted peer p is = ap (λ (x : Protocol). x.agent.here) is ∙ same_agent p.agent bytes p.server

  breaks_answered : (peer : SocketAddr) (p : Protocol) → new ≡ aborted here peer (answered bytes p) → Same p
  unfolding aborted answered
  breaks_answered peer p is = ap (λ (x : Protocol). x.agent.here) is ∙ same_agent p.agent bytes p.server

  binds : (peer : SocketAddr) (p : Protocol) → new ≡ bound_at here peer (accepted bytes p) → Same p
  unfolding bound_at accepted
  binds peer p is = ap (λ (x : Protocol). x.agent.here) is ∙ same_agent p.agent bytes p.server

  asks_anew : (connection : ℕ) (p : Protocol) → IsRequestedAnew here connection now p new → Same p
  unfolding requested_anew
  asks_anew connection p is = ap (λ (x : Protocol). x.agent.here) is.after

  settles : (peer : SocketAddr) (p : Protocol) → IsSettled here peer p bytes new → Same p
  settles peer p h =
      by_test (is_awaited p.agent bytes)
      (λ (_ : is_awaited p.agent bytes ≡ true) one. by_test (is_success_class (class_of (kind_at bytes)))
      (λ (_ : is_success_class (class_of (kind_at bytes)) ≡ true) (o : new ≡ bound_at here peer (accepted bytes p)). binds peer p o)
      (λ (_ : is_success_class (class_of (kind_at bytes)) ≡ false) (o : new ≡ aborted here peer (accepted bytes p)). breaks_accepted peer p o)
      one)
      (λ (_ : is_awaited p.agent bytes ≡ false) (o : new ≡ aborted here peer p). breaks peer p o) h

  judges : (verdict : Verdict) (j : _) (p : Protocol) → IsAnswerJudged verdict here j p bytes now new → Same p
  judges (Ok (ResendRequest choice)) j p h = asks_anew j.connection p h
  judges (Ok (Validated algorithm)) j p h = settles j.peer p h
  judges (Err NoMemory) j p h = absurd h
  judges (Err Unauthorized) j p h = breaks_answered j.peer p h
  judges (Err (IntegrityFailed algorithm)) j p h = breaks_answered j.peer p h
  judges (Err UnsupportedFeature) j p h = breaks_answered j.peer p h

  module _ (old : Protocol) where
    of_binding : (o : Option _) → IsOfBinding o here old bytes now new → Same old
    of_binding None h = ap (λ (x : Protocol). x.agent.here) h
    of_binding (Some j) h =
        by_test (is_answer j.number bytes)
        (λ (_ : is_answer j.number bytes ≡ true) (o : IsAnswerProcessed here j old bytes now new). judges o.verdict j (judged o.auth old) o.outcome)
        (λ (_ : is_answer j.number bytes ≡ false) (o : new ≡ aborted here j.peer old). breaks j.peer old o) h

    pub processed_here : IsProcessedAt here old bytes now new → Same old
    processed_here is =
        by_test (is_of_binding old bytes)
        (λ (_ : is_of_binding old bytes ≡ true) (o : IsOfBinding (awaited_at here old.allocations) here old bytes now new). of_binding (awaited_at here old.allocations) o)
        (λ (_ : is_of_binding old bytes ≡ false) (o : new ≡ old). ap (λ (x : Protocol). x.agent.here) o) is
