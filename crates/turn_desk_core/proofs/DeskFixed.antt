-- The calls that concern an address fix the results that a server core gives it.
use Rattle.std.proofs.Common.{◌≡◌, ℕ, List, [], ◌∷◌, Bool, true, false, if◌then◌else◌, Option, Some, None, map, refl, sym, ap, ◌∙◌, subst, inl, inr}
use Rattle.std.specs.FinMap as finite
use Rattle.std.specs.declared.net.socket_addr.SocketAddr.{SocketAddr}
use Rattle.rand_core.specs.Stream.{Stream}
use Rattle.stun_proto_server.specs.AuthCalls.{AuthAnswer, AuthCall, IsCalled, IsJudged}
use Rattle.stun_proto_server.specs.AuthCalls as auth
use Rattle.stun_proto_server.specs.AuthRuns.{CallNamesOne, EachNamesOne, with_users_of}
use Rattle.stun_proto_verify.specs.Auth.Claims.{Claimed, claimed}
use Rattle.stun_proto_verify.specs.Judgement.{is_response}
use Rattle.stun_proto_verify.specs.Knowledge.{Outcome}
use Rattle.stun_proto_server.specs.Server.{Server, has_standing_nonce, refreshed, with_new_nonce, with_outcome}
use Rattle.stun_proto_server.specs.ServerValidation.{after_refusal}
use Rattle.stun_proto_server.specs.declared.validation.LongTermServerValidation.TheVariants.{Validated}
use Rattle.stun_proto_server.specs.Users.{NamesOne}
use Rattle.stun_proto_server.proofs.Definite.{called_same}
use Rattle.turn_desk_core.specs.declared.decision.Decision.{Decision}
use Rattle.turn_desk_core.specs.DeskCalls.{AreAlike, AreAnsweredAlike, IsAuthCalled, IsHandledBy, IsServerCalled, IsServerRun, MakeNoRoom, NameOneUser, ServerAnswer, ServerCall, auth_call, calls_concerning, concerning}
use Rattle.turn_desk_core.specs.DeskCalls as call
use Rattle.turn_desk_core.specs.State.{State}
use Rattle.turn_desk_core.specs.Steps.{IsAnswer}
use Rattle.turn_desk_core.proofs.Definite.{answer_same}
use Rattle.turn_desk_core.proofs.DeskAlone.{alike-refl, alike_then, alike_turned, is_isolated}

-- ---- users

-- Two servers have the same users in the same realm.
record HaveSameUsers (old new : Server) : Type 0 where
  users : new.users ≡ old.users
  realm : new.realm ≡ old.realm

same_users_by : (old middle new : Server) → new ≡ middle → HaveSameUsers old middle → HaveSameUsers old new
same_users_by old middle new is same = subst (λ (s : Server). HaveSameUsers old s) (sym is) same

unchanged : (old new : Server) → new ≡ old → HaveSameUsers old new
unchanged old new is = same_users_by old old new is (record { users = refl; realm = refl })

-- Generating a nonce and storing an outcome change no user.
refreshed_users : (old : Server) (from : SocketAddr) (now : ℕ) (stream : Stream) → HaveSameUsers old (refreshed old from now stream)
refreshed_users old from now stream =
    elim (has_standing_nonce old from now) as (λ (b : Bool). HaveSameUsers old (if b then old else with_new_nonce old from now stream)) [
      | true ↦ record { users = refl; realm = refl }
      | false ↦ record { users = refl; realm = refl }
    ]

outcome_users : (old : Server) (from : SocketAddr) (now : ℕ) (stream : Stream) (outcome : Option Outcome) → HaveSameUsers old (with_outcome (refreshed old from now stream) from outcome)
outcome_users old from now stream outcome =
    let same = refreshed_users old from now stream in record { users = same.users; realm = same.realm }

refusal_users : (old : Server) (from : SocketAddr) (bytes : List ℕ) (now : ℕ) (stream : Stream) → HaveSameUsers old (after_refusal old from bytes now stream)
refusal_users old from bytes now stream =
    elim (is_response bytes) as (λ (b : Bool). HaveSameUsers old (if b then old else with_outcome (refreshed old from now stream) from None)) [
      | true ↦ record { users = refl; realm = refl }
      | false ↦ outcome_users old from now stream None
    ]

judged_users : (old : Server) (bytes : List ℕ) (from : SocketAddr) (now : ℕ) (stream : Stream) (answer : AuthAnswer) (new : Server) → IsJudged answer old bytes from now stream new → HaveSameUsers old new
judged_users old bytes from now stream (auth.Valid (Validated algorithm) left) new is =
    same_users_by old (with_outcome (refreshed old from now stream) from (Some (record { name = is.0.name; algorithm = algorithm }))) new is.0.stored
    (outcome_users old from now stream (Some (record { name = is.0.name; algorithm = algorithm })))
judged_users old bytes from now stream (auth.Refused error left) new is =
    same_users_by old (after_refusal old from bytes now stream) new is.2 (refusal_users old from bytes now stream)
judged_users old bytes from now stream _ new is = absurd is

-- The users that a call of the authenticator leaves.
auth_users : (one : AuthCall) (answer : AuthAnswer) (old new : Server) → IsCalled one answer old new → HaveSameUsers (with_users_of one old) new
auth_users (auth.Validate bytes from now stream) answer old new is = judged_users old bytes from now stream answer new is
auth_users (auth.Sign draft to) answer old new is = unchanged old new is.2
auth_users (auth.SizeRequested to is_request) answer old new is = unchanged old new is.1
auth_users (auth.NonceRequested client) answer old new is = unchanged old new is.1
auth_users (auth.UserRequested client) answer old new is = unchanged old new is.1
auth_users (auth.Refresh from now stream) answer old new is = same_users_by old (refreshed old from now stream) new is.1 (refreshed_users old from now stream)
auth_users (auth.RemoveClient client) answer old new is =
    same_users_by old (record old { clients = finite.remove old.clients client }) new is.1 (record { users = refl; realm = refl })
auth_users auth.RealmRequested answer old new is = unchanged old new is.1
auth_users (auth.AddUser name password) answer old new is = unchanged (record old { users = finite.insert old.users name password }) new is.1
auth_users (auth.RemoveUser name) answer old new is = unchanged (record old { users = finite.remove old.users name }) new is.1
auth_users auth.AlgorithmsRequested answer old new is = unchanged old new is.1
auth_users (auth.AddAlgorithm algorithm) answer old new is = record { users = ap (λ (s : Server). s.users) is.1; realm = ap (λ (s : Server). s.realm) is.1 }
auth_users (auth.SetAlgorithm algorithm) answer old new is = record { users = ap (λ (s : Server). s.users) is.1; realm = ap (λ (s : Server). s.realm) is.1 }
auth_users auth.AnonymityRequested answer old new is = unchanged old new is.1
auth_users (auth.SetAnonymity feature) answer old new is = record { users = ap (λ (s : Server). s.users) is.1; realm = ap (λ (s : Server). s.realm) is.1 }
auth_users auth.LimitRequested answer old new is = unchanged old new is.1
auth_users (auth.SetLimit most) answer old new is = record { users = ap (λ (s : Server). s.users) is.2; realm = ap (λ (s : Server). s.realm) is.2 }
auth_users (auth.SetExpiry expiry) answer old new is = record { users = ap (λ (s : Server). s.users) is.2; realm = ap (λ (s : Server). s.realm) is.2 }

handled_users : (old new : State) (bytes : List ℕ) (from : SocketAddr) (now : ℕ) (decision : Decision) (stream : Stream) (reply : List ℕ) → IsAnswer old from bytes now stream decision reply new → HaveSameUsers old.auth new.auth
handled_users old new bytes from now decision stream reply (inl away) =
    same_users_by old.auth (with_outcome (refreshed old.auth from now stream) from None) new.auth away.judged.after (outcome_users old.auth from now stream None)
handled_users old new bytes from now decision stream reply (inr v) =
    let outcome : Option Outcome = Some (record { name = v.name; algorithm = v.algorithm }) in
    same_users_by old.auth (with_outcome (refreshed old.auth from now stream) from outcome) new.auth v.judged.after (outcome_users old.auth from now stream outcome)

-- The users that a call leaves.
served_users : (one : ServerCall) (answer : ServerAnswer) (old new : State) → IsServerCalled one answer old new → HaveSameUsers (with_users_of (auth_call one) old.auth) new.auth
served_users (call.Handle bytes from now decision stream) (call.Reply reply) old new is = handled_users old new bytes from now decision stream reply is.answer
served_users (call.Handle bytes from now decision stream) call.NoReply old new is = unchanged old.auth new.auth (ap (λ (d : State). d.auth) is.1)
served_users (call.Handle bytes from now decision stream) (call.Reported answer) old new is = absurd is
served_users (call.Auth one) (call.Reported answer) old new is = auth_users one answer old.auth new.auth is.0
served_users (call.Auth one) _ old new is = absurd is

-- A claim that does not name two users of one server does not name two users of another with the same users.
claim_moved : (s t : Server) (claim : Claimed) → HaveSameUsers s t → NamesOne s claim → NamesOne t claim
claim_moved s t claim same one =
    let users : NamesOne (record s { users = t.users }) claim = subst (λ u. NamesOne (record s { users = u }) claim) (sym same.users) one in
    subst (λ (r : List ℕ). NamesOne (record s { users = t.users; realm = r }) claim) (sym same.realm) users

call_moved : (s t : Server) (one : AuthCall) → HaveSameUsers s t → CallNamesOne s one → CallNamesOne t one
call_moved s t (auth.Validate bytes from now stream) same names_one = claim_moved s t (claimed bytes) same names_one
call_moved s t _ same names_one = tt

users_moved : (s t : Server) (one : AuthCall) → HaveSameUsers s t → HaveSameUsers (with_users_of one s) (with_users_of one t)
users_moved s t (auth.AddUser name password) same = record { users = ap (λ u. finite.insert u name password) same.users; realm = same.realm }
users_moved s t (auth.RemoveUser name) same = record { users = ap (λ u. finite.remove u name) same.users; realm = same.realm }
users_moved s t _ same = same

-- This holds for the claims of a list of calls.
each_moved : (calls : List AuthCall) (s t : Server) → HaveSameUsers s t → EachNamesOne s calls → EachNamesOne t calls
unfolding EachNamesOne
each_moved [] s t same each = tt
each_moved (one ∷ calls) s t same each =
    (call_moved s t one same each.0, each_moved calls (with_users_of one s) (with_users_of one t) (users_moved s t one same) each.1)

-- ---- one call

-- Two results are equal, and so are the states that they leave.
abbrev AreOne : ServerAnswer → ServerAnswer → State → State → Type 0
AreOne answer again new other = (answer ≡ again) × (new ≡ other)

handled_same : (old new other : State) (bytes : List ℕ) (from : SocketAddr) (now : ℕ) (decision : Decision) (stream : Stream) (answer again : ServerAnswer) → NamesOne old.auth (claimed bytes)
    → IsHandledBy answer old bytes from now decision stream new → IsHandledBy again old bytes from now decision stream other → AreOne answer again new other
handled_same old new other bytes from now decision stream (call.Reply reply) (call.Reply again) names a b =
    let same = answer_same old from bytes now stream names decision reply again new other a.answer b.answer in
    (ap (λ (r : List ℕ). call.Reply r) same.0, same.1)
handled_same old new other bytes from now decision stream (call.Reply reply) call.NoReply names a b = absurd (b.0 a.served)
handled_same old new other bytes from now decision stream call.NoReply (call.Reply again) names a b = absurd (a.0 b.served)
handled_same old new other bytes from now decision stream call.NoReply call.NoReply names a b = (refl, a.1 ∙ sym b.1)
handled_same old new other bytes from now decision stream (call.Reply reply) (call.Reported again) names a b = absurd b
handled_same old new other bytes from now decision stream call.NoReply (call.Reported again) names a b = absurd b
handled_same old new other bytes from now decision stream (call.Reported answer) again names a b = absurd a

auth_same : (old new other : State) (one : AuthCall) (answer again : ServerAnswer) → CallNamesOne old.auth one → IsAuthCalled answer one old new → IsAuthCalled again one old other → AreOne answer again new other
auth_same old new other one (call.Reported answer) (call.Reported again) names a b =
    let same = called_same old.auth one answer again new.auth other.auth names a.0 b.0 in
    let auths : new.auth ≡ other.auth = same.1 in
    let grants : new.grants ≡ other.grants = a.1 ∙ sym b.1 in
    (ap (λ (t : AuthAnswer). call.Reported t) same.0, λ i. record { auth = auths i; grants = grants i })
auth_same old new other one (call.Reported answer) _ names a b = absurd b
auth_same old new other one _ again names a b = absurd a

-- The result of a call and the state that it leaves are unique.
served_same : (old new other : State) (one : ServerCall) (answer again : ServerAnswer) → CallNamesOne old.auth (auth_call one) → IsServerCalled one answer old new → IsServerCalled one again old other
    → AreOne answer again new other
served_same old new other (call.Handle bytes from now decision stream) answer again names a b = handled_same old new other bytes from now decision stream answer again names a b
served_same old new other (call.Auth one) answer again names a b = auth_same old new other one answer again names a b

-- ---- a run

abbrev calls_of : List (ServerCall × ServerAnswer) → List ServerCall
calls_of pairs = map (λ pair. pair.0) pairs

-- The results of a list of calls from one state, and the state that they leave, are unique.
only_run : (pairs others : List (ServerCall × ServerAnswer)) (old new left : State) → IsServerRun old pairs new → IsServerRun old others left
    → calls_of pairs ≡ calls_of others → NameOneUser old.auth (calls_of pairs) → (pairs ≡ others) × (new ≡ left)
unfolding IsServerRun EachNamesOne
only_run [] [] old new left a b same each = (refl, a ∙ sym b)
only_run [] (other ∷ others) old new left a b same each = absurd (Prim.cc same)
only_run (pair ∷ pairs) [] old new left a b same each = absurd (Prim.cc same)
only_run (pair ∷ pairs) (other ∷ others) old new left a b same each =
    let heads : pair.0 ≡ other.0 = Prim.cc same in
    let tails : calls_of pairs ≡ calls_of others = Prim.cc same in
    let again = subst (λ (one : ServerCall). IsServerCalled one other.1 old b.0) (sym heads) b.1 in
    let step = served_same old a.0 b.0 pair.0 pair.1 other.1 each.0 a.1 again in
    let onward = subst (λ (d : State). IsServerRun d others left) (sym step.1) b.2 in
    let names = each_moved (map auth_call (calls_of pairs)) (with_users_of (auth_call pair.0) old.auth) a.0.auth (served_users pair.0 pair.1 old a.0 a.1) each.1 in
    let rest = only_run pairs others a.0 new left a.2 onward tails names in
    let answers : pair.1 ≡ other.1 = step.0 in
    ((λ i. (heads i, answers i) ∷ rest.0 i), rest.1)

-- Two runs from server cores that an address can't distinguish, with equal calls that concern it, give it
-- equal results.
pub answers_are_fixed : (address : SocketAddr) (old other new left : State) (pairs others : List (ServerCall × ServerAnswer)) → AreAlike address old other → (run : IsServerRun old pairs new) → MakeNoRoom address old pairs new run
    → (again : IsServerRun other others left) → MakeNoRoom address other others left again
    → calls_concerning address pairs ≡ calls_concerning address others → NameOneUser old.auth (calls_concerning address pairs) → AreAnsweredAlike address pairs others new left
answers_are_fixed address old other new left pairs others same run none again none_again calls each =
    let one = is_isolated address pairs old old new (alike-refl address old) run none in
    let two = is_isolated address others other old left (alike_turned address old other same) again none_again in
    let both = only_run (concerning address pairs) (concerning address others) old one.left two.left one.run two.run calls each in
    record {
      answers = both.0;
      alike = alike_then address new one.left left one.alike
          (alike_turned address left one.left (subst (λ (d : State). AreAlike address left d) (sym both.1) two.alike));
    }
