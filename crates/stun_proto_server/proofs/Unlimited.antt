-- Without a limit on addresses, no call makes room.
use Rattle.std.proofs.Common.{◌≡◌, ℕ, List, [], ◌∷◌, Bool, true, false, if◌then◌else◌, None, Option, refl, ap, ◌∙◌}
use Rattle.std.specs.declared.net.socket_addr.SocketAddr.{SocketAddr}
use Rattle.rand_core.specs.Stream.{Stream}
use Rattle.stun_proto_verify.specs.Judgement.{is_response}
use Rattle.stun_proto_server.specs.declared.validation.LongTermServerValidation.TheVariants.{Validated}
use Rattle.stun_proto_server.specs.AuthCalls.{AuthAnswer, AuthCall, IsCalled, IsJudged}
use Rattle.stun_proto_server.specs.AuthCalls as call
use Rattle.stun_proto_server.specs.AuthRuns.{CallMakesNoRoom, CallSetsNoLimit, IsAuthRun, MakeNoRoom, SetNoLimit}
use Rattle.stun_proto_server.specs.Server.{Server, has_standing_nonce, is_full, makes_room, refreshed, with_new_nonce, with_outcome}
use Rattle.stun_proto_server.specs.ServerValidation.{after_refusal}

abbrev limit : Server → Option ℕ
limit server = server.max_clients

-- ---- a call keeps the limit, if it sets none

pub refreshed_limit : (old : Server) (from : SocketAddr) (now : ℕ) (stream : Stream) → (refreshed old from now stream).max_clients ≡ old.max_clients
refreshed_limit old from now stream =
    elim (has_standing_nonce old from now) as (λ (b : Bool). (if b then old else with_new_nonce old from now stream).max_clients ≡ old.max_clients) [
      | true ↦ refl
      | false ↦ refl
    ]

refusal_limit : (old : Server) (from : SocketAddr) (bytes : List ℕ) (now : ℕ) (stream : Stream) → (after_refusal old from bytes now stream).max_clients ≡ old.max_clients
refusal_limit old from bytes now stream =
    elim (is_response bytes) as (λ (b : Bool). (if b then old else with_outcome (refreshed old from now stream) from None).max_clients ≡ old.max_clients) [
      | true ↦ refl
      | false ↦ refreshed_limit old from now stream
    ]

judged_limit : (old : Server) (bytes : List ℕ) (from : SocketAddr) (now : ℕ) (stream : Stream) (answer : AuthAnswer) (new : Server) → IsJudged answer old bytes from now stream new → new.max_clients ≡ old.max_clients
judged_limit old bytes from now stream (call.Valid (Validated algorithm) left) new is = ap limit is.0.stored ∙ refreshed_limit old from now stream
judged_limit old bytes from now stream (call.Refused error left) new is = ap limit is.2 ∙ refusal_limit old from bytes now stream
judged_limit old bytes from now stream _ new is = absurd is

pub called_limit : (one : AuthCall) (answer : AuthAnswer) (old new : Server) → old.max_clients ≡ None → CallSetsNoLimit one → IsCalled one answer old new → new.max_clients ≡ None
called_limit (call.Validate bytes from now stream) answer old new none sets is = judged_limit old bytes from now stream answer new is ∙ none
called_limit (call.Sign draft to) answer old new none sets is = ap limit is.2 ∙ none
called_limit (call.SizeRequested to is_request) answer old new none sets is = ap limit is.1 ∙ none
called_limit (call.NonceRequested client) answer old new none sets is = ap limit is.1 ∙ none
called_limit (call.UserRequested client) answer old new none sets is = ap limit is.1 ∙ none
called_limit (call.Refresh from now stream) answer old new none sets is = ap limit is.1 ∙ (refreshed_limit old from now stream ∙ none)
called_limit (call.RemoveClient client) answer old new none sets is = ap limit is.1 ∙ none
called_limit call.RealmRequested answer old new none sets is = ap limit is.1 ∙ none
called_limit (call.AddUser name password) answer old new none sets is = ap limit is.1 ∙ none
called_limit (call.RemoveUser name) answer old new none sets is = ap limit is.1 ∙ none
called_limit call.AlgorithmsRequested answer old new none sets is = ap limit is.1 ∙ none
called_limit (call.AddAlgorithm algorithm) answer old new none sets is = ap limit is.1 ∙ none
called_limit (call.SetAlgorithm algorithm) answer old new none sets is = ap limit is.1 ∙ none
called_limit call.AnonymityRequested answer old new none sets is = ap limit is.1 ∙ none
called_limit (call.SetAnonymity feature) answer old new none sets is = ap limit is.1 ∙ none
called_limit (call.SetExpiry expiry) answer old new none sets is = ap limit is.2 ∙ none
called_limit call.LimitRequested answer old new none sets is = ap limit is.1 ∙ none
called_limit (call.SetLimit most) answer old new none sets is = ap limit is.2 ∙ sets

-- ---- no room is made

pub no_room : (server : Server) (from : SocketAddr) → server.max_clients ≡ None → makes_room server from ≡ false
no_room server from none = ap (λ (most : Option ℕ). is_full most server.clients from) none

pub call_makes_no_room : (server : Server) (one : AuthCall) → server.max_clients ≡ None → CallMakesNoRoom server one
call_makes_no_room server (call.Validate bytes from now stream) none = no_room server from none
call_makes_no_room server (call.Refresh from now stream) none = no_room server from none
call_makes_no_room server _ none = tt

pub makes_no_room : (address : SocketAddr) (pairs : List (AuthCall × AuthAnswer)) (old new : Server) → old.max_clients ≡ None → SetNoLimit pairs → (run : IsAuthRun old pairs new) → MakeNoRoom address old pairs new run
unfolding IsAuthRun MakeNoRoom
makes_no_room address [] old new none sets run = tt
makes_no_room address (pair ∷ pairs) old new none sets run =
    ((λ other. call_makes_no_room old pair.0 none), makes_no_room address pairs run.0 new (called_limit pair.0 pair.1 old run.0 none sets.0 run.1) sets.1 run.2)
