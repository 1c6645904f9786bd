-- Without a limit on addresses, no call of a server core makes room.
use Rattle.std.proofs.Common.{◌≡◌, ℕ, List, [], ◌∷◌, None, ap, ◌∙◌, inl, inr}
use Rattle.std.specs.declared.net.socket_addr.SocketAddr.{SocketAddr}
use Rattle.rand_core.specs.Stream.{Stream}
use Rattle.stun_proto_server.specs.AuthRuns.{CallSetsNoLimit}
use Rattle.stun_proto_server.specs.Server.{Server}
use Rattle.stun_proto_server.proofs.Unlimited.{call_makes_no_room, called_limit, no_room, refreshed_limit}
use Rattle.turn_desk_core.specs.declared.decision.Decision.{Decision}
use Rattle.turn_desk_core.specs.DeskCalls.{IsServerCalled, IsServerRun, MakeNoRoom, ServerAnswer, ServerCall, ServerMakesNoRoom, SetNoLimit, auth_call}
use Rattle.turn_desk_core.specs.DeskCalls as call
use Rattle.turn_desk_core.specs.State.{State}
use Rattle.turn_desk_core.specs.Steps.{IsAnswer}

-- A reply keeps the limit.
pub answered_limit : (old new : State) (from : SocketAddr) (bytes : List ℕ) (now : ℕ) (stream : Stream) (decision : Decision) (reply : List ℕ) → IsAnswer old from bytes now stream decision reply new
    → new.auth.max_clients ≡ old.auth.max_clients
answered_limit old new from bytes now stream decision reply (inl away) = ap (λ (s : Server). s.max_clients) away.judged.after ∙ refreshed_limit old.auth from now stream
answered_limit old new from bytes now stream decision reply (inr v) = ap (λ (s : Server). s.max_clients) v.judged.after ∙ refreshed_limit old.auth from now stream

-- A call sets none.
served_limit : (one : ServerCall) (answer : ServerAnswer) (old new : State) → old.auth.max_clients ≡ None → CallSetsNoLimit (auth_call one) → IsServerCalled one answer old new → new.auth.max_clients ≡ None
served_limit (call.Handle bytes from now decision stream) (call.Reply reply) old new none sets is = answered_limit old new from bytes now stream decision reply is.answer ∙ none
served_limit (call.Handle bytes from now decision stream) call.NoReply old new none sets is = ap (λ (d : State). d.auth.max_clients) is.1 ∙ none
served_limit (call.Handle bytes from now decision stream) (call.Reported answer) old new none sets is = absurd is
served_limit (call.Auth one) (call.Reported answer) old new none sets is = called_limit one answer old.auth new.auth none sets is.0
served_limit (call.Auth one) _ old new none sets is = absurd is

call_makes_none : (old : State) (one : ServerCall) → old.auth.max_clients ≡ None → ServerMakesNoRoom old one
call_makes_none old (call.Handle bytes from now decision stream) none = no_room old.auth from none
call_makes_none old (call.Auth one) none = call_makes_no_room old.auth one none

pub makes_no_room : (address : SocketAddr) (pairs : List (ServerCall × ServerAnswer)) (old new : State) → old.auth.max_clients ≡ None → SetNoLimit pairs → (run : IsServerRun old pairs new) → MakeNoRoom address old pairs new run
unfolding IsServerRun MakeNoRoom
makes_no_room address [] old new none sets run = tt
makes_no_room address (pair ∷ pairs) old new none sets run =
    ((λ other. call_makes_none old pair.0 none), makes_no_room address pairs run.0 new (served_limit pair.0 pair.1 old run.0 none sets.0 run.1) sets.1 run.2)
