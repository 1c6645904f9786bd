-- Non-interference of addresses over whole runs of a server core's calls.
use Rattle.std.proofs.Common.{◌≡◌, ◌≢◌, ℕ, Bool, true, false, List, [], ◌∷◌, ◌++◌, Option, None, Some, filter, refl, sym, ap, ◌∙◌, subst, inl, inr}
use Rattle.std.proofs.lemmas.List.{append-nil}
use Rattle.std.specs.declared.net.socket_addr.SocketAddr.{SocketAddr}
use Rattle.rand_core.specs.Stream.{Stream}
use Rattle.stun_proto_server.specs.AuthCalls.{AuthCall}
use Rattle.stun_proto_server.specs.AuthRuns.{CallMakesNoRoom, concerns as concerns_auth, is_same_address}
use Rattle.stun_proto_verify.specs.Knowledge.{Outcome}
use Rattle.stun_proto_server.specs.Server.{SameFor, Server, makes_room, refreshed, with_outcome}
use Rattle.stun_proto_server.proofs.Alone.{bool_is, filter_no, filter_yes}
use Rattle.stun_proto_server.proofs.Apart.{same_for-refl, same_for-then}
use Rattle.stun_proto_server.proofs.Calls.{called_alike, called_unseen, other_address_is, same_address_is}
use Rattle.stun_proto_server.proofs.Isolated.{leaves_alone, turned}
use Rattle.turn_desk_core.specs.Verdicts.{bare_grant, grants_of, verdict_on}
use Rattle.turn_desk_core.specs.declared.decision.Decision.{Decision}
use Rattle.turn_desk_core.specs.declared.grant.Grant as granted
use Rattle.turn_desk_core.specs.declared.verdict.Verdict.{Verdict}
use Rattle.turn_desk_core.specs.declared.verdict.Verdict.TheVariants.{Fails, Allocates, Refreshes, Permits, Binds, Connects, Joins}
use Rattle.turn_desk_core.specs.DeskCalls.{AreAlike, IsAuthCalled, IsHandled, IsHandledBy, IsServerCalled, IsServerRun, MakeNoRoom, ServerAnswer, ServerCall, ServerMakesNoRoom, IsIsolated, concerning, concerns, grants_to}
use Rattle.turn_desk_core.specs.DeskCalls as call
use Rattle.turn_desk_core.specs.State.{State}
use Rattle.turn_desk_core.specs.Steps.{IsAnswer}
use Rattle.turn_desk_core.proofs.Alike.{answered_alike}
use Rattle.turn_desk_core.proofs.Grants.{exactly_granted}

-- ---- grants

filter_joined : {X : Type 0} (test : X → Bool) (xs ys : List X) → filter test (xs ++ ys) ≡ filter test xs ++ filter test ys
filter_joined test [] ys = refl
filter_joined test (x ∷ xs) ys = elim (bool_is (test x)) [
  | inl t ↦ filter_yes test x (xs ++ ys) t ∙ (ap (λ (l : List _). x ∷ l) (filter_joined test xs ys) ∙ ap (λ (l : List _). l ++ filter test ys) (sym (filter_yes test x xs t)))
  | inr f ↦ filter_no test x (xs ++ ys) f ∙ (filter_joined test xs ys ∙ ap (λ (l : List _). l ++ filter test ys) (sym (filter_no test x xs f)))
]

abbrev is_to : SocketAddr → granted.Grant → Bool
is_to address = λ (g : granted.Grant). is_same_address address g.from

-- What one address's request is granted is not granted to any other address.
none_granted : (address from : SocketAddr) (bytes : List ℕ) (what : Verdict) → is_same_address address from ≡ false → grants_to address (grants_of bytes from what) ≡ []
none_granted address from bytes (Fails code) is = refl
none_granted address from bytes (Allocates transport relayed lifetime) is = filter_no (is_to address) (record (bare_grant bytes from) { transport = Some transport; relayed = relayed; lifetime = Some lifetime }) [] is
none_granted address from bytes (Refreshes lifetime) is = filter_no (is_to address) (record (bare_grant bytes from) { lifetime = Some lifetime }) [] is
none_granted address from bytes (Permits peers) is = filter_no (is_to address) (record (bare_grant bytes from) { peers = peers }) [] is
none_granted address from bytes (Binds channel peer) is = filter_no (is_to address) (record (bare_grant bytes from) { peers = peer ∷ []; channel = Some channel }) [] is
none_granted address from bytes (Connects peer connection) is = filter_no (is_to address) (record (bare_grant bytes from) { peers = peer ∷ []; connection = Some connection }) [] is
none_granted address from bytes (Joins connection) is = filter_no (is_to address) (record (bare_grant bytes from) { connection = Some connection }) [] is

-- So another address has the same grants after the request as before.
same_grants : (address from : SocketAddr) (bytes : List ℕ) (what : Verdict) (old new : List granted.Grant) → is_same_address address from ≡ false
    → new ≡ old ++ grants_of bytes from what → grants_to address new ≡ grants_to address old
same_grants address from bytes what old new is more =
    ap (grants_to address) more ∙ (filter_joined (is_to address) old (grants_of bytes from what)
    ∙ (ap (λ (l : List granted.Grant). grants_to address old ++ l) (none_granted address from bytes what is) ∙ append-nil (grants_to address old)))

answer_grants : (address : SocketAddr) (old new : State) (from : SocketAddr) (bytes : List ℕ) (now : ℕ) (stream : Stream) (decision : Decision) (reply : List ℕ) → is_same_address address from ≡ false
    → IsAnswer old from bytes now stream decision reply new → grants_to address new.grants ≡ grants_to address old.grants
answer_grants address old new from bytes now stream decision reply is (inl away) = ap (grants_to address) away.granted
answer_grants address old new from bytes now stream decision reply is (inr v) = same_grants address from bytes (verdict_on bytes decision) old.grants new.grants is v.granted

-- Adding equal grants to lists with equal grants for an address leaves lists with equal grants for it.
more_alike : (address : SocketAddr) (a b more new left : List granted.Grant) → grants_to address b ≡ grants_to address a → new ≡ a ++ more → left ≡ b ++ more → grants_to address left ≡ grants_to address new
more_alike address a b more new left same here there =
    ap (grants_to address) there ∙ (filter_joined (is_to address) b more ∙ (ap (λ (l : List granted.Grant). l ++ grants_to address more) same
    ∙ (sym (filter_joined (is_to address) a more) ∙ sym (ap (grants_to address) here))))

-- ---- other addresses

outcome_unseen : (other from : SocketAddr) (old new : Server) (now : ℕ) (stream : Stream) (outcome : Option Outcome) → other ≢ from → makes_room old from ≡ false
    → new ≡ with_outcome (refreshed old from now stream) from outcome → SameFor other old new
outcome_unseen other from old new now stream outcome different none is =
    subst (λ (s : Server). SameFor other old s) (sym is)
    (same_for-then other old (refreshed old from now stream) (with_outcome (refreshed old from now stream) from outcome)
    ((leaves_alone other from old different).refreshes now stream none) ((leaves_alone other from (refreshed old from now stream) different).keeps outcome))

-- A reply to one address changes nothing that other addresses can observe of the authenticator.
answer_unseen : (old new : State) (from : SocketAddr) (bytes : List ℕ) (now : ℕ) (stream : Stream) (decision : Decision) (reply : List ℕ) → IsAnswer old from bytes now stream decision reply new
    → (other : SocketAddr) → other ≢ from → makes_room old.auth from ≡ false → SameFor other old.auth new.auth
answer_unseen old new from bytes now stream decision reply (inl away) other different none =
    outcome_unseen other from old.auth new.auth now stream None different none away.judged.after
answer_unseen old new from bytes now stream decision reply (inr v) other different none =
    outcome_unseen other from old.auth new.auth now stream (Some (record { name = v.name; algorithm = v.algorithm })) different none v.judged.after

-- ---- one call

-- `AreAlike` is reflexive, symmetric and transitive.
pub alike-refl : (address : SocketAddr) (d : State) → AreAlike address d d
alike-refl address d = record { auth = same_for-refl address d.auth d.auth refl; grants = refl }

pub alike_turned : (address : SocketAddr) (a b : State) → AreAlike address a b → AreAlike address b a
alike_turned address a b same = record { auth = turned address a.auth b.auth same.auth; grants = sym same.grants }

pub alike_then : (address : SocketAddr) (a b c : State) → AreAlike address a b → AreAlike address b c → AreAlike address a c
alike_then address a b c first second = record {
  auth = same_for-then address a.auth b.auth c.auth first.auth second.auth;
  grants = second.grants ∙ first.grants;
}

-- The server core `b` can return this result too, and the address can't distinguish the states that are left.
record IsServedAlike (address : SocketAddr) (one : ServerCall) (answer : ServerAnswer) (b new : State) : Type 0 where
  left : State
  called : IsServerCalled one answer b left
  alike : AreAlike address new left

-- A request of the address is served alike.
handled_alike : (from : SocketAddr) (a b new : State) (bytes : List ℕ) (now : ℕ) (decision : Decision) (stream : Stream) (answer : ServerAnswer) → AreAlike from a b
    → IsHandledBy answer a bytes from now decision stream new → IsServedAlike from (call.Handle bytes from now decision stream) answer b new
handled_alike from a b new bytes now decision stream (call.Reply reply) same is =
    let l = answered_alike a b from bytes now stream decision reply new same.auth is.answer in
    record {
      left = l.left;
      called = record {
        served = is.served;
        answer = l.answer;
        grants = λ g. exactly_granted b l.left from bytes now stream decision reply g is.served l.answer;
        others = answer_unseen b l.left from bytes now stream decision reply l.answer;
      };
      alike = record { auth = l.same; grants = more_alike from a.grants b.grants l.grants new.grants l.left.grants same.grants l.here l.there };
    }
handled_alike from a b new bytes now decision stream call.NoReply same is = record {
  left = b;
  called = (is.0, refl);
  alike = subst (λ (d : State). AreAlike from d b) (sym is.1) same;
}
handled_alike from a b new bytes now decision stream (call.Reported answer) same is = absurd is

-- A call of the authenticator that concerns the address is served alike.
auth_alike : (address : SocketAddr) (a b new : State) (one : AuthCall) (answer : ServerAnswer) → AreAlike address a b → concerns_auth address one ≡ true
    → IsAuthCalled answer one a new → IsServedAlike address (call.Auth one) answer b new
auth_alike address a b new one (call.Reported answer) same own is =
    let l = called_alike address a.auth b.auth new.auth one answer same.auth own is.0 in
    record {
      left = record { auth = l.left; grants = b.grants };
      called = (l.called, refl);
      alike = record { auth = l.alike; grants = same.grants ∙ sym (ap (grants_to address) is.1) };
    }
auth_alike address a b new one _ same own is = absurd is

-- A call that concerns the address is served alike.
served_alike : (address : SocketAddr) (a b new : State) (one : ServerCall) (answer : ServerAnswer) → AreAlike address a b → concerns address one ≡ true
    → IsServerCalled one answer a new → IsServedAlike address one answer b new
served_alike address a b new (call.Handle bytes from now decision stream) answer same own is =
    let e : address ≡ from = same_address_is address from own in
    subst (λ (x : SocketAddr). IsServedAlike x (call.Handle bytes from now decision stream) answer b new) (sym e)
    (handled_alike from a b new bytes now decision stream answer (subst (λ (x : SocketAddr). AreAlike x a b) e same) is)
served_alike address a b new (call.Auth one) answer same own is = auth_alike address a b new one answer same own is

-- Another address's request changes nothing that the address can observe.
handled_unseen : (address from : SocketAddr) (a new : State) (bytes : List ℕ) (now : ℕ) (decision : Decision) (stream : Stream) (answer : ServerAnswer) → is_same_address address from ≡ false → makes_room a.auth from ≡ false
    → IsHandledBy answer a bytes from now decision stream new → AreAlike address a new
handled_unseen address from a new bytes now decision stream (call.Reply reply) isnt none is = record {
  auth = is.others address (other_address_is address from isnt) none;
  grants = answer_grants address a new from bytes now stream decision reply isnt is.answer;
}
handled_unseen address from a new bytes now decision stream call.NoReply isnt none is = subst (λ (d : State). AreAlike address a d) (sym is.1) (alike-refl address a)
handled_unseen address from a new bytes now decision stream (call.Reported answer) isnt none is = absurd is

auth_unseen : (address : SocketAddr) (a new : State) (one : AuthCall) (answer : ServerAnswer) → concerns_auth address one ≡ false → CallMakesNoRoom a.auth one → IsAuthCalled answer one a new → AreAlike address a new
auth_unseen address a new one (call.Reported answer) isnt none is = record {
  auth = called_unseen address a.auth new.auth one answer isnt none is.0;
  grants = ap (grants_to address) is.1;
}
auth_unseen address a new one _ isnt none is = absurd is

-- A call that does not concern the address changes nothing that it can observe.
served_unseen : (address : SocketAddr) (a new : State) (one : ServerCall) (answer : ServerAnswer) → concerns address one ≡ false → ServerMakesNoRoom a one → IsServerCalled one answer a new → AreAlike address a new
served_unseen address a new (call.Handle bytes from now decision stream) answer isnt none is = handled_unseen address from a new bytes now decision stream answer isnt none is
served_unseen address a new (call.Auth one) answer isnt none is = auth_unseen address a new one answer isnt none is

-- ---- a run

abbrev test : SocketAddr → ServerCall × ServerAnswer → Bool
test address = λ pair. concerns address pair.0

-- Premises: `pairs` is a run from `a`, and the address can't distinguish `a` from `b`. Conclusion: the calls
-- that concern the address can have these results from `b` too.
pub is_isolated : (address : SocketAddr) (pairs : List (ServerCall × ServerAnswer)) (a b new : State) → AreAlike address a b → (run : IsServerRun a pairs new) → MakeNoRoom address a pairs new run → IsIsolated address b pairs new
unfolding IsServerRun MakeNoRoom
is_isolated address [] a b new same run none = record { left = b; run = refl; alike = subst (λ (d : State). AreAlike address d b) (sym run) same }
is_isolated address (pair ∷ pairs) a b new same run none =
    elim (bool_is (concerns address pair.0)) [
      | inl t ↦ (
          let step = served_alike address a b run.0 pair.0 pair.1 same t run.1 in
          let rest = is_isolated address pairs run.0 step.left new step.alike run.2 none.1 in
          record {
            left = rest.left;
            run = subst (λ (list : List (ServerCall × ServerAnswer)). IsServerRun b list rest.left) (sym (filter_yes (test address) pair pairs t)) (step.left, step.called, rest.run);
            alike = rest.alike;
          })
      | inr f ↦ (
          let unseen = served_unseen address a run.0 pair.0 pair.1 f (none.0 f) run.1 in
          let rest = is_isolated address pairs run.0 b new (alike_then address run.0 a b (alike_turned address a run.0 unseen) same) run.2 none.1 in
          record {
            left = rest.left;
            run = subst (λ (list : List (ServerCall × ServerAnswer)). IsServerRun b list rest.left) (sym (filter_no (test address) pair pairs f)) rest.run;
            alike = rest.alike;
          })
    ]
