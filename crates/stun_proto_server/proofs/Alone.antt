-- Addresses are isolated over whole runs of an authenticator's calls.
use Rattle.std.proofs.Common.{◌≡◌, ℕ, List, [], ◌∷◌, Bool, true, false, if◌then◌else◌, None, Option, Some, filter, map, refl, sym, ap, ◌∙◌, subst, ◌⊎◌, inl, inr}
use Rattle.std.specs.FinMap as finite
use Rattle.std.specs.declared.net.socket_addr.SocketAddr.{SocketAddr}
use Rattle.rand_core.specs.Stream.{Stream}
use Rattle.stun_proto_verify.specs.Auth.Claims.{Claimed, claimed}
use Rattle.stun_proto_verify.specs.Judgement.{is_response}
use Rattle.stun_proto_verify.specs.Knowledge.{Outcome}
use Rattle.stun_proto_server.specs.declared.validation.LongTermServerValidation.TheVariants.{Validated}
use Rattle.stun_proto_server.specs.AuthCalls.{AuthAnswer, AuthCall, IsCalled, IsJudged}
use Rattle.stun_proto_server.specs.AuthCalls as call
use Rattle.stun_proto_server.specs.AuthRuns.{AreAnsweredAlike, CallNamesOne, EachNamesOne, IsAuthRun, IsIsolated, MakeNoRoom, calls_concerning, concerning, concerns, with_users_of}
use Rattle.stun_proto_server.specs.Server.{SameFor, Server, has_standing_nonce, refreshed, with_new_nonce, with_outcome}
use Rattle.stun_proto_server.specs.ServerValidation.{after_refusal}
use Rattle.stun_proto_server.specs.Users.{NamesOne}
use Rattle.stun_proto_server.proofs.Apart.{same_for-refl, same_for-then}
use Rattle.stun_proto_server.proofs.Calls.{called_alike, called_unseen}
use Rattle.stun_proto_server.proofs.Definite.{called_same}
use Rattle.stun_proto_server.proofs.Isolated.{turned}

-- ---- lists

-- A test is true or false.
pub bool_is : (b : Bool) → (b ≡ true) ⊎ (b ≡ false)
bool_is true = inl refl
bool_is false = inr refl

-- An element that passes the test stays in the filtered list.
pub filter_yes : {X : Type 0} (test : X → Bool) (x : X) (xs : List X) → test x ≡ true → filter test (x ∷ xs) ≡ x ∷ filter test xs
filter_yes test x xs e = ap (λ (b : Bool). if b then x ∷ filter test xs else filter test xs) e

-- An element that fails the test is left out.
pub filter_no : {X : Type 0} (test : X → Bool) (x : X) (xs : List X) → test x ≡ false → filter test (x ∷ xs) ≡ filter test xs
filter_no test x xs e = ap (λ (b : Bool). if b then x ∷ filter test xs else filter test xs) e

-- ---- the calls that concern an address alone

abbrev test : SocketAddr → AuthCall × AuthAnswer → Bool
test address = λ pair. concerns address pair.0

-- From a server that an address can't distinguish from the run's, the calls that concern the address return
-- the same results.
pub is_isolated : (address : SocketAddr) (pairs : List (AuthCall × AuthAnswer)) (a b new : Server) → SameFor address a b → (run : IsAuthRun a pairs new) → MakeNoRoom address a pairs new run → IsIsolated address b pairs new
unfolding IsAuthRun MakeNoRoom
is_isolated address [] a b new same run none = record { left = b; run = refl; alike = subst (λ (s : Server). SameFor address s b) (sym run) same }
is_isolated address (pair ∷ pairs) a b new same run none =
    elim (bool_is (concerns address pair.0)) [
      | inl is ↦ (
          let step = called_alike address a b run.0 pair.0 pair.1 same is run.1 in
          let rest = is_isolated address pairs run.0 step.left new step.alike run.2 none.1 in
          record {
            left = rest.left;
            run = subst (λ (list : List (AuthCall × AuthAnswer)). IsAuthRun b list rest.left) (sym (filter_yes (test address) pair pairs is)) (step.left, step.called, rest.run);
            alike = rest.alike;
          })
      | inr isnt ↦ (
          let unseen = called_unseen address a run.0 pair.0 pair.1 isnt (none.0 isnt) run.1 in
          let rest = is_isolated address pairs run.0 b new (same_for-then address run.0 a b (turned address a run.0 unseen) same) run.2 none.1 in
          record {
            left = rest.left;
            run = subst (λ (list : List (AuthCall × AuthAnswer)). IsAuthRun b list rest.left) (sym (filter_no (test address) pair pairs isnt)) rest.run;
            alike = rest.alike;
          })
    ]

-- ---- users

-- Two servers have the same users in the same realm.
record HaveSameUsers (old new : Server) : Type 0 where
  users : new.users ≡ old.users
  realm : new.realm ≡ old.realm

same_users_by : (old middle new : Server) → new ≡ middle → HaveSameUsers old middle → HaveSameUsers old new
same_users_by old middle new is same = subst (λ (s : Server). HaveSameUsers old s) (sym is) same

unchanged : (old new : Server) → new ≡ old → HaveSameUsers old new
unchanged old new is = same_users_by old old new is (record { users = refl; realm = refl })

-- Generating a nonce and storing an outcome change no user.
refreshed_users : (old : Server) (from : SocketAddr) (now : ℕ) (stream : Stream) → HaveSameUsers old (refreshed old from now stream)
refreshed_users old from now stream =
    elim (has_standing_nonce old from now) as (λ (b : Bool). HaveSameUsers old (if b then old else with_new_nonce old from now stream)) [
      | true ↦ record { users = refl; realm = refl }
      | false ↦ record { users = refl; realm = refl }
    ]

outcome_users : (old : Server) (from : SocketAddr) (now : ℕ) (stream : Stream) (outcome : Option Outcome) → HaveSameUsers old (with_outcome (refreshed old from now stream) from outcome)
outcome_users old from now stream outcome =
    let same = refreshed_users old from now stream in record { users = same.users; realm = same.realm }

refusal_users : (old : Server) (from : SocketAddr) (bytes : List ℕ) (now : ℕ) (stream : Stream) → HaveSameUsers old (after_refusal old from bytes now stream)
refusal_users old from bytes now stream =
    elim (is_response bytes) as (λ (b : Bool). HaveSameUsers old (if b then old else with_outcome (refreshed old from now stream) from None)) [
      | true ↦ record { users = refl; realm = refl }
      | false ↦ outcome_users old from now stream None
    ]

judged_users : (old : Server) (bytes : List ℕ) (from : SocketAddr) (now : ℕ) (stream : Stream) (answer : AuthAnswer) (new : Server) → IsJudged answer old bytes from now stream new → HaveSameUsers old new
judged_users old bytes from now stream (call.Valid (Validated algorithm) left) new is =
    same_users_by old (with_outcome (refreshed old from now stream) from (Some (record { name = is.0.name; algorithm = algorithm }))) new is.0.stored
    (outcome_users old from now stream (Some (record { name = is.0.name; algorithm = algorithm })))
judged_users old bytes from now stream (call.Refused error left) new is =
    same_users_by old (after_refusal old from bytes now stream) new is.2 (refusal_users old from bytes now stream)
judged_users old bytes from now stream _ new is = absurd is

-- The users after a call.
called_users : (one : AuthCall) (answer : AuthAnswer) (old new : Server) → IsCalled one answer old new → HaveSameUsers (with_users_of one old) new
called_users (call.Validate bytes from now stream) answer old new is = judged_users old bytes from now stream answer new is
called_users (call.Sign draft to) answer old new is = unchanged old new is.2
called_users (call.SizeRequested to is_request) answer old new is = unchanged old new is.1
called_users (call.NonceRequested client) answer old new is = unchanged old new is.1
called_users (call.UserRequested client) answer old new is = unchanged old new is.1
called_users (call.Refresh from now stream) answer old new is = same_users_by old (refreshed old from now stream) new is.1 (refreshed_users old from now stream)
called_users (call.RemoveClient client) answer old new is =
    same_users_by old (record old { clients = finite.remove old.clients client }) new is.1 (record { users = refl; realm = refl })
called_users call.RealmRequested answer old new is = unchanged old new is.1
called_users (call.AddUser name password) answer old new is = unchanged (record old { users = finite.insert old.users name password }) new is.1
called_users (call.RemoveUser name) answer old new is = unchanged (record old { users = finite.remove old.users name }) new is.1
called_users call.AlgorithmsRequested answer old new is = unchanged old new is.1
called_users (call.AddAlgorithm algorithm) answer old new is = record { users = ap (λ (s : Server). s.users) is.1; realm = ap (λ (s : Server). s.realm) is.1 }
called_users (call.SetAlgorithm algorithm) answer old new is = record { users = ap (λ (s : Server). s.users) is.1; realm = ap (λ (s : Server). s.realm) is.1 }
called_users call.AnonymityRequested answer old new is = unchanged old new is.1
called_users (call.SetAnonymity feature) answer old new is = record { users = ap (λ (s : Server). s.users) is.1; realm = ap (λ (s : Server). s.realm) is.1 }
called_users call.LimitRequested answer old new is = unchanged old new is.1
called_users (call.SetLimit most) answer old new is = record { users = ap (λ (s : Server). s.users) is.2; realm = ap (λ (s : Server). s.realm) is.2 }
called_users (call.SetExpiry expiry) answer old new is = record { users = ap (λ (s : Server). s.users) is.2; realm = ap (λ (s : Server). s.realm) is.2 }

-- If a claim does not name two users of a server, it does not name two of a server with the same users.
claim_moved : (s t : Server) (claim : Claimed) → HaveSameUsers s t → NamesOne s claim → NamesOne t claim
claim_moved s t claim same one =
    let users : NamesOne (record s { users = t.users }) claim = subst (λ u. NamesOne (record s { users = u }) claim) (sym same.users) one in
    subst (λ (r : List ℕ). NamesOne (record s { users = t.users; realm = r }) claim) (sym same.realm) users

call_moved : (s t : Server) (one : AuthCall) → HaveSameUsers s t → CallNamesOne s one → CallNamesOne t one
call_moved s t (call.Validate bytes from now stream) same names_one = claim_moved s t (claimed bytes) same names_one
call_moved s t _ same names_one = tt

users_moved : (s t : Server) (one : AuthCall) → HaveSameUsers s t → HaveSameUsers (with_users_of one s) (with_users_of one t)
users_moved s t (call.AddUser name password) same = record { users = ap (λ u. finite.insert u name password) same.users; realm = same.realm }
users_moved s t (call.RemoveUser name) same = record { users = ap (λ u. finite.remove u name) same.users; realm = same.realm }
users_moved s t _ same = same

-- If no call of a list names two users of a server, none names two of a server with the same users.
each_moved : (calls : List AuthCall) (s t : Server) → HaveSameUsers s t → EachNamesOne s calls → EachNamesOne t calls
unfolding EachNamesOne
each_moved [] s t same each = tt
each_moved (one ∷ calls) s t same each =
    (call_moved s t one same each.0, each_moved calls (with_users_of one s) (with_users_of one t) (users_moved s t one same) each.1)

-- ---- results are determined

abbrev calls_of : List (AuthCall × AuthAnswer) → List AuthCall
calls_of pairs = map (λ pair. pair.0) pairs

-- The same calls from one server have unique results, and leave one server.
pub only_run : (pairs others : List (AuthCall × AuthAnswer)) (old new left : Server) → IsAuthRun old pairs new → IsAuthRun old others left
    → calls_of pairs ≡ calls_of others → EachNamesOne old (calls_of pairs) → (pairs ≡ others) × (new ≡ left)
unfolding IsAuthRun EachNamesOne
only_run [] [] old new left a b same each = (refl, a ∙ sym b)
only_run [] (other ∷ others) old new left a b same each = absurd (Prim.cc same)
only_run (pair ∷ pairs) [] old new left a b same each = absurd (Prim.cc same)
only_run (pair ∷ pairs) (other ∷ others) old new left a b same each =
    let heads : pair.0 ≡ other.0 = Prim.cc same in
    let tails : calls_of pairs ≡ calls_of others = Prim.cc same in
    let again = subst (λ (one : AuthCall). IsCalled one other.1 old b.0) (sym heads) b.1 in
    let step = called_same old pair.0 pair.1 other.1 a.0 b.0 each.0 a.1 again in
    let onward = subst (λ (s : Server). IsAuthRun s others left) (sym step.1) b.2 in
    let names = each_moved (calls_of pairs) (with_users_of pair.0 old) a.0 (called_users pair.0 pair.1 old a.0 a.1) each.1 in
    let rest = only_run pairs others a.0 new left a.2 onward tails names in
    let answers : pair.1 ≡ other.1 = step.0 in
    ((λ i. (heads i, answers i) ∷ rest.0 i), rest.1)

-- Two runs from servers that an address can't distinguish return it the same results for the same calls.
pub answers_are_fixed : (address : SocketAddr) (old other new left : Server) (pairs others : List (AuthCall × AuthAnswer)) → SameFor address old other → (run : IsAuthRun old pairs new) → MakeNoRoom address old pairs new run → (again : IsAuthRun other others left) → MakeNoRoom address other others left again
    → calls_concerning address pairs ≡ calls_concerning address others → EachNamesOne old (calls_concerning address pairs) → AreAnsweredAlike address pairs others new left
answers_are_fixed address old other new left pairs others same run none again none_again calls each =
    let one = is_isolated address pairs old old new (same_for-refl address old old refl) run none in
    let two = is_isolated address others other old left (turned address old other same) again none_again in
    let both = only_run (concerning address pairs) (concerning address others) old one.left two.left one.run two.run calls each in
    record {
      answers = both.0;
      alike = same_for-then address new one.left left one.alike
          (turned address left one.left (subst (λ (s : Server). SameFor address left s) (sym both.1) two.alike));
    }
