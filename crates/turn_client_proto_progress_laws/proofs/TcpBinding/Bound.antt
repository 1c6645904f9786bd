-- A response to a client's CONNECTION_BIND comes over the socket, by the relation `IsProcessedAt` alone.
use Rattle.std.proofs.Common.{◌≡◌, ℕ, ◌++◌, Bool, true, List, [], ◌∷◌, Option, Some, None, refl, sym, ap, ◌∙◌, subst}
use Rattle.std.specs.Prelude.{◌&&◌, ◌==◌, Result, Ok, Err, option_and_then}
use Rattle.std.specs.Bool.{MatchBool}
use Rattle.std.specs.declared.net.socket_addr.SocketAddr.{SocketAddr}
use Rattle.std.proofs.lemmas.Bool.{eq-eqb}
use Rattle.turn_client_proto_messages.specs.StunTypesWire.Attributes.{kind_at}
use Rattle.turn_client_proto_messages.specs.StunTypesWire.Grammar.{number_at}
use Rattle.turn_client_proto_messages.specs.StunTypesWire.Types.{class_of, method_of}
use Rattle.turn_client_proto_messages.specs.StunProtoClient.Client as auth
use Rattle.turn_client_proto_messages.specs.StunProtoClient.declared.error.LongTermClientAuthError.{LongTermClientAuthError}
use Rattle.turn_client_proto_messages.specs.StunProtoClient.declared.validation.LongTermClientValidation.{LongTermClientValidation}
use Rattle.turn_client_proto_messages.specs.StunProtoClient.declared.validation.LongTermClientValidation.TheVariants.{ResendRequest, Validated}
use Rattle.turn_client_proto_messages.specs.StunProtoAgent.Handling.{is_awaited, is_response}
use Rattle.turn_client_proto_messages.specs.StunProtoAgent.State as agents
use Rattle.turn_client_proto_messages.specs.TurnTypesFrame.Streams.{alive}
use Rattle.turn_client_proto_messages.specs.TurnTypesAttributes.TurnRegistry.{connection_bind_method}
use Rattle.turn_client_proto_messages.specs.Allocation.declared.allocation.Allocation.{Allocation}
use Rattle.turn_client_proto_messages.specs.Allocation.declared.connection.Binding.{Binding}
use Rattle.turn_client_proto_messages.specs.Allocation.declared.permission.Permission.{Permission}
use Rattle.turn_client_proto_messages.specs.Api.declared.event.TurnEvent.{TurnEvent}
use Rattle.turn_client_proto_messages.specs.Api.declared.event.TurnEvent.TheVariants.{TcpConnected}
use Rattle.turn_client_proto_step_laws.specs.Connection.Streams.{from, waits_from}
use Rattle.turn_client_proto_handshake_laws.specs.Core.Deleting.{is_authenticated}
use Rattle.turn_client_proto_handshake_laws.specs.Core.Responding.{accepted, judged}
use Rattle.turn_client_proto_handshake_laws.specs.Core.declared.protocol.Phase.{Phase}
use Rattle.turn_client_proto_handshake_laws.specs.Core.declared.protocol.Protocol.{Protocol}
use Rattle.turn_client_proto_messages.specs.Judging.{IsJudged}
use Rattle.turn_client_proto_step_laws.specs.Recv.Processing.{IsAnswerProcessed, IsAnswerJudged, IsProcessedAt, IsOfBinding, IsSettled, awaited_at, bound_at, aborted, is_answer, is_of_binding, is_success_class}
use Rattle.turn_client_proto_step_laws.specs.Recv.declared.processing.Joining.{Joining}
use Rattle.turn_client_proto_handshake_laws.specs.Requested.{Requested}
use Rattle.turn_client_proto_progress_laws.proofs.TcpBinding.Tools.{where_true}
use Rattle.turn_client_proto_step_laws.proofs.SameSockets.{same_itself}
use Rattle.turn_client_proto_progress_laws.specs.Holders.{Holder}
use Rattle.turn_client_proto_progress_laws.specs.TcpBinding.{HasSentBind, IsBound, allocation_of, bind_request, joined_by, joining}
use Rattle.turn_client_proto_progress_laws.specs.Replies.{IsSuccessOf}
use Rattle.turn_client_proto_progress_laws.proofs.TcpBinding.Processes.{accepted_so, after_success, agent_after, awaited_is, stored_auth, responds}

module _ (h : Holder) (older : List Requested) (permissions : List Permission) (here peer : SocketAddr) (connection number made last : ℕ) (head : List ℕ) (events : List TurnEvent) (p : Protocol)
    (w : HasSentBind h older permissions here peer connection number made last head events p) where
  abbrev one : Requested
  one = bind_request h connection number made

  abbrev held : Allocation
  held = allocation_of h permissions (joining here peer connection number made head)

  abbrev pub expected : Joining
  expected = record { number = number; peer = peer; connection = connection }

  -- The connection is the one with this own address.
  pub connection_from : from here p.allocations ≡ Some (joining here peer connection number made head)
  connection_from = ap (from here) w.allocations ∙ rw (same_itself here) (rw (same_itself here) refl)

  pub awaited_here : awaited_at here p.allocations ≡ Some expected
  awaited_here = ap (option_and_then Rattle.turn_client_proto_step_laws.specs.Recv.Processing.joining_of) connection_from

  of_binding : (bytes : List ℕ) → method_of (kind_at bytes) ≡ connection_bind_method → is_of_binding p bytes ≡ true
  of_binding bytes same =
      ap (λ (f : Phase). is_authenticated f && (method_of (kind_at bytes) == connection_bind_method)) w.phase
      ∙ ap (λ (m : ℕ). m == connection_bind_method) same

  -- A response to its newest request is judged.
  pub answer_processed : (bytes : List ℕ) (now : ℕ) (q : Protocol) → method_of (kind_at bytes) ≡ connection_bind_method → is_response bytes ≡ true → number_at bytes ≡ number
      → IsProcessedAt here p bytes now q → IsAnswerProcessed here expected p bytes now q
  answer_processed bytes now q method response same processed =
      let binds = where_true (IsOfBinding (awaited_at here p.allocations) here p bytes now q) (q ≡ p) (is_of_binding p bytes) (of_binding bytes method) processed in
      let some : IsOfBinding (Some expected) here p bytes now q = subst (λ (o : Option Joining). IsOfBinding o here p bytes now q) awaited_here binds in
      let answers : is_answer number bytes ≡ true =
      ap (λ (b : Bool). b && (number_at bytes == number)) response ∙ eq-eqb (number_at bytes) number same in
      where_true (IsAnswerProcessed here expected p bytes now q) (q ≡ aborted here peer p) (is_answer number bytes) answers some

  pub waits_so : (awaited : Option Binding) → waits_from here awaited p.allocations ≡ allocation_of h permissions (record (joining here peer connection number made head) { awaited = awaited }) ∷ []
  waits_so awaited = ap (waits_from here awaited) w.allocations ∙ rw (same_itself here) refl

  -- ---- a success

  module _ (bytes : List ℕ) (is : IsSuccessOf h connection_bind_method number bytes) (now : ℕ) (q : Protocol) where
    settled : (client : auth.Client) → client ≡ h.auth → IsSettled here peer (judged client p) bytes q
        → IsBound h older permissions here peer connection last (alive head) (events ++ TcpConnected peer ∷ []) q
    unfolding bound_at accepted
    settled client client_is out =
        let k = judged client p in
        let counts = where_true (MatchBool (is_success_class (class_of (kind_at bytes))) (q ≡ bound_at here peer (accepted bytes k)) (q ≡ aborted here peer (accepted bytes k))) (q ≡ aborted here peer k)
        (is_awaited p.agent bytes) (awaited_is h one older held [] last events p w connection_bind_method bytes is) out in
        let after = where_true (q ≡ bound_at here peer (accepted bytes k)) (q ≡ aborted here peer (accepted bytes k)) (is_success_class (class_of (kind_at bytes))) (ap is_success_class is.success) counts in
        let agent = agent_after h one older held [] last events p w connection_bind_method bytes is in
        subst (λ (x : Protocol). IsBound h older permissions here peer connection last (alive head) (events ++ TcpConnected peer ∷ []) x)
        (sym (after ∙ ap (λ (y : agents.Agent). bound_at here peer (record p { auth = client; agent = y; resends = 0 })) agent))
        (after_success h one older held [] last events p w connection_bind_method bytes is
        (allocation_of h permissions (joined_by here peer connection (alive head))) (waits_from here None p.allocations) (waits_so None)
        (events ++ TcpConnected peer ∷ []) (p.events ++ TcpConnected peer ∷ []) (ap (λ (l : List TurnEvent). l ++ TcpConnected peer ∷ []) w.events_are) client client_is 0)

    by_verdict : (verdict : Result LongTermClientValidation LongTermClientAuthError) (client : auth.Client) → IsJudged p.auth bytes verdict client → IsAnswerJudged verdict here expected (judged client p) bytes now q
        → IsBound h older permissions here peer connection last (alive head) (events ++ TcpConnected peer ∷ []) q
    by_verdict (Ok (ResendRequest choice)) client j out = absurd (Prim.cc (accepted_so h one older held [] last events p w connection_bind_method bytes is (Ok (ResendRequest choice)) client j))
    by_verdict (Ok (Validated algorithm)) client j out =
        settled client (stored_auth h one older held [] last events p w connection_bind_method bytes is client algorithm (accepted_so h one older held [] last events p w connection_bind_method bytes is (Ok (Validated algorithm)) client j) j.stored) out
    by_verdict (Err error) client j out = absurd (Prim.cc (accepted_so h one older held [] last events p w connection_bind_method bytes is (Err error) client j))

    pub bound_processed : IsProcessedAt here p bytes now q → IsBound h older permissions here peer connection last (alive head) (events ++ TcpConnected peer ∷ []) q
    bound_processed processed =
        let a = answer_processed bytes now q is.method_is (responds h one older held [] last events p w connection_bind_method bytes is) is.number_is processed in
        by_verdict a.verdict a.auth a.is_judged a.outcome
