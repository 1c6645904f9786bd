-- One call of an authenticator on two servers that an address can't distinguish.
use Rattle.std.proofs.Common.{◌≡◌, ◌≢◌, ℕ, List, [], ◌∷◌, Bool, true, false, Option, Some, None, refl, sym, ap, ◌∙◌, subst}
use Rattle.std.specs.Prelude.{if◌then◌else◌}
use Rattle.std.specs.FinMap as map
use Rattle.std.specs.declared.net.socket_addr.SocketAddr.{SocketAddr}
use Rattle.rand_core.specs.Stream.{Stream}
use Rattle.stun_proto_verify.specs.Auth.Addition.{Addition}
use Rattle.stun_proto_verify.specs.Wire.Attributes.{kind_at}
use Rattle.stun_proto_verify.specs.Write.Drafts.{Draft}
use Rattle.stun_proto_verify.specs.Base.GeneratorWords.{stream_after}
use Rattle.stun_proto_verify.specs.Wire.declared.algorithm.IntegrityAlgorithm.{IntegrityAlgorithm}
use Rattle.stun_proto_verify.specs.Base.SocketAddrs.{socket_addr_cmp, socket_addr_cmp-IsAntisymmetric}
use Rattle.stun_proto_verify.specs.Wire.Types.{class_of}
use Rattle.stun_proto_verify.specs.Judgement.{is_response}
use Rattle.stun_proto_verify.specs.Knowledge.{Outcome}
use Rattle.stun_proto_verify.specs.Auth.SupportedAlgorithms.{with_algorithm}
use Rattle.stun_proto_verify.specs.Auth.declared.feature.Feature.{Feature}
use Rattle.stun_proto_server.specs.declared.validation.LongTermServerValidation.TheVariants.{Validated}
use Rattle.stun_proto_server.specs.AuthCalls.{AuthAnswer, AuthCall, IsCalled, IsJudged, IsSignedBy}
use Rattle.stun_proto_server.specs.AuthCalls as call
use Rattle.stun_proto_server.specs.AuthRuns.{CallMakesNoRoom, concerns, is_same_address}
use Rattle.stun_proto_server.specs.Server.{SameFor, Server, makes_room, refreshed, with_outcome, words_generated}
use Rattle.stun_proto_server.specs.ServerSigning.{addition_for, class_requested, size_for}
use Rattle.stun_proto_server.specs.ServerValidation.{after_refusal, words_of_validation}
use Rattle.stun_proto_server.proofs.Apart.{same_for-refl, same_for-then, tie}
use Rattle.stun_proto_server.proofs.Isolated.{answers_alike, leaves_alike, leaves_alone, sets_alike, same_itself}

-- ---- addresses

-- Addresses that pass the test for equality are equal.
pub same_address_is : (a b : SocketAddr) → is_same_address a b ≡ true → a ≡ b
same_address_is a b is = socket_addr_cmp-IsAntisymmetric a b (tie (socket_addr_cmp a b) is)

-- Addresses that fail the test for equality differ.
pub other_address_is : (a b : SocketAddr) → is_same_address a b ≡ false → a ≢ b
other_address_is a b is same =
    let itself : is_same_address a b ≡ true = subst (λ (x : SocketAddr). is_same_address a x ≡ true) same (same_itself a) in
    let clash : true ≡ false = sym itself ∙ is in Prim.cc clash

-- ---- a call that concerns the address

-- On another server the call returns the same result, and the address can't distinguish the servers that are
-- left.
pub record IsCalledAlike (address : SocketAddr) (one : AuthCall) (answer : AuthAnswer) (b new : Server) : Type 0 where
  pub left : Server
  pub called : IsCalled one answer b left
  pub alike : SameFor address new left

-- If the server that is left equals one that the address can't distinguish from another, it can't distinguish
-- that one either.
left_so : (address : SocketAddr) (a new after other : Server) → new ≡ after → SameFor address after other → SameFor address new other
left_so address a new after other is same = subst (λ (s : Server). SameFor address s other) (sym is) same

module _ (from : SocketAddr) (a b : Server) (same : SameFor from a b) where
  refreshed_so : (now : ℕ) (stream : Stream) → SameFor from (refreshed a from now stream) (refreshed b from now stream)
  refreshed_so now stream = (leaves_alike from a b same).refreshes now stream

  outcome_so : (now : ℕ) (stream : Stream) (outcome : Option Outcome)
      → SameFor from (with_outcome (refreshed a from now stream) from outcome) (with_outcome (refreshed b from now stream) from outcome)
  outcome_so now stream outcome =
      (leaves_alike from (refreshed a from now stream) (refreshed b from now stream) (refreshed_so now stream)).keeps outcome

  refusal_so : (bytes : List ℕ) (now : ℕ) (stream : Stream) → SameFor from (after_refusal a from bytes now stream) (after_refusal b from bytes now stream)
  refusal_so bytes now stream =
      elim (is_response bytes) as (λ (x : Bool). SameFor from (if x then a else with_outcome (refreshed a from now stream) from None)
      (if x then b else with_outcome (refreshed b from now stream) from None)) [
        | true ↦ same
        | false ↦ outcome_so now stream None
      ]

  generated_so : (now : ℕ) → words_generated a from now ≡ words_generated b from now
  generated_so now = sym ((answers_alike from a b same).generated now)

  left_of_validation : (bytes : List ℕ) (now : ℕ) (stream left : Stream)
      → left ≡ stream_after (words_of_validation a from bytes now) stream → left ≡ stream_after (words_of_validation b from bytes now) stream
  left_of_validation bytes now stream left is = is ∙ ap (λ (n : ℕ). stream_after (if is_response bytes then 0 else n) stream) (generated_so now)

  judged_alike : (bytes : List ℕ) (now : ℕ) (stream : Stream) (answer : AuthAnswer) (new : Server)
      → IsJudged answer a bytes from now stream new → IsCalledAlike from (call.Validate bytes from now stream) answer b new
  judged_alike bytes now stream (call.Valid (Validated algorithm) left) new is =
      let outcome : Option Outcome = Some (record { name = is.0.name; algorithm = algorithm }) in
      record {
        left = with_outcome (refreshed b from now stream) from outcome;
        called = (
          record {
            name = is.0.name;
            accepts = ((answers_alike from (refreshed a from now stream) (refreshed b from now stream) (refreshed_so now stream)).accepts bytes algorithm is.0.name).0 is.0.accepts;
            stored = refl;
          },
          left_of_validation bytes now stream left is.1,
        );
        alike = left_so from a new (with_outcome (refreshed a from now stream) from outcome) (with_outcome (refreshed b from now stream) from outcome)
            is.0.stored (outcome_so now stream outcome);
      }
  judged_alike bytes now stream (call.Refused error left) new is = record {
    left = after_refusal b from bytes now stream;
    called = (
      is.0,
      ((answers_alike from (refreshed a from now stream) (refreshed b from now stream) (refreshed_so now stream)).refuses bytes error).0 is.1,
      refl,
      left_of_validation bytes now stream left is.3,
    );
    alike = left_so from a new (after_refusal a from bytes now stream) (after_refusal b from bytes now stream) is.2 (refusal_so bytes now stream);
  }
  judged_alike bytes now stream _ new is = absurd is

  added_alike : (draft : Draft) → addition_for a from (class_of (kind_at draft.bytes)) ≡ addition_for b from (class_of (kind_at draft.bytes))
  added_alike draft = sym ((answers_alike from a b same).adds (class_of (kind_at draft.bytes)))

  signed_alike : (draft : Draft) (answer : AuthAnswer) (new : Server) → IsCalled (call.Sign draft from) answer a new → IsCalledAlike from (call.Sign draft from) answer b new
  signed_alike draft answer new is = record {
    left = b;
    called = (is.0, subst (λ (made : Option Addition). IsSignedBy answer made draft) (added_alike draft) is.1, refl);
    alike = left_so from a new a b is.2 same;
  }

  -- A getter leaves the server unchanged.
  decoded_alike : (one : AuthCall) (answer here there : AuthAnswer) (new : Server) → here ≡ there → (answer ≡ here) × (new ≡ a)
      → ((answer ≡ there) × (b ≡ b) → IsCalled one answer b b) → IsCalledAlike from one answer b new
  decoded_alike one answer here there new equal is gives = record {
    left = b;
    called = gives (is.0 ∙ equal, refl);
    alike = left_so from a new a b is.1 same;
  }

  refreshed_alike : (now : ℕ) (stream : Stream) (answer : AuthAnswer) (new : Server) → IsCalled (call.Refresh from now stream) answer a new → IsCalledAlike from (call.Refresh from now stream) answer b new
  refreshed_alike now stream answer new is = record {
    left = refreshed b from now stream;
    called = (is.0 ∙ ap (λ (n : ℕ). call.Refreshed (stream_after n stream)) (generated_so now), refl);
    alike = left_so from a new (refreshed a from now stream) (refreshed b from now stream) is.1 (refreshed_so now stream);
  }

  removed_alike : (answer : AuthAnswer) (new : Server) → IsCalled (call.RemoveClient from) answer a new → IsCalledAlike from (call.RemoveClient from) answer b new
  removed_alike answer new is = record {
    left = record b { clients = map.remove b.clients from };
    called = (is.0, refl);
    alike = left_so from a new (record a { clients = map.remove a.clients from }) (record b { clients = map.remove b.clients from })
        is.1 (leaves_alike from a b same).forgets;
  }

-- The address for which a call is made is the one that it concerns.
at_address : (address from : SocketAddr) (a b new : Server) (one : AuthCall) (answer : AuthAnswer) → is_same_address address from ≡ true → SameFor address a b
    → (SameFor from a b → IsCalledAlike from one answer b new) → IsCalledAlike address one answer b new
at_address address from a b new one answer is same gives =
    let e : address ≡ from = same_address_is address from is in
    subst (λ (x : SocketAddr). IsCalledAlike x one answer b new) (sym e) (gives (subst (λ (x : SocketAddr). SameFor x a b) e same))

-- A call that concerns an address returns the same result on both servers, and leaves servers that the
-- address can't distinguish.
pub called_alike : (address : SocketAddr) (a b new : Server) (one : AuthCall) (answer : AuthAnswer) → SameFor address a b → concerns address one ≡ true
    → IsCalled one answer a new → IsCalledAlike address one answer b new
called_alike address a b new (call.Validate bytes from now stream) answer same is called =
    at_address address from a b new (call.Validate bytes from now stream) answer is same
    (λ own. judged_alike from a b own bytes now stream answer new called)
called_alike address a b new (call.Sign draft to) answer same is called =
    at_address address to a b new (call.Sign draft to) answer is same (λ own. signed_alike to a b own draft answer new called)
called_alike address a b new (call.SizeRequested to is_request) answer same is called =
    at_address address to a b new (call.SizeRequested to is_request) answer is same
    (λ own. decoded_alike to a b own (call.SizeRequested to is_request) answer _ _ new
    (ap (λ (made : Option Addition). call.Size (size_for made)) (sym ((answers_alike to a b own).adds (class_requested is_request)))) called (λ x. x))
called_alike address a b new (call.NonceRequested client) answer same is called =
    at_address address client a b new (call.NonceRequested client) answer is same
    (λ own. decoded_alike client a b own (call.NonceRequested client) answer _ _ new
    (ap (λ (n : Option (List ℕ)). call.Nonce n) (sym (answers_alike client a b own).nonce)) called (λ x. x))
called_alike address a b new (call.UserRequested client) answer same is called =
    at_address address client a b new (call.UserRequested client) answer is same
    (λ own. decoded_alike client a b own (call.UserRequested client) answer _ _ new
    (ap (λ (u : Option Outcome). call.User u) (sym (answers_alike client a b own).outcome)) called (λ x. x))
called_alike address a b new (call.Refresh from now stream) answer same is called =
    at_address address from a b new (call.Refresh from now stream) answer is same (λ own. refreshed_alike from a b own now stream answer new called)
called_alike address a b new (call.RemoveClient client) answer same is called =
    at_address address client a b new (call.RemoveClient client) answer is same (λ own. removed_alike client a b own answer new called)
called_alike address a b new call.RealmRequested answer same is called =
    decoded_alike address a b same call.RealmRequested answer _ _ new (ap (λ (r : List ℕ). call.Realm r) (sym same.realm)) called (λ x. x)
called_alike address a b new call.AlgorithmsRequested answer same is called =
    decoded_alike address a b same call.AlgorithmsRequested answer _ _ new (ap (λ (l : List IntegrityAlgorithm). call.Algorithms l) (sym same.algorithms)) called (λ x. x)
called_alike address a b new call.AnonymityRequested answer same is called =
    decoded_alike address a b same call.AnonymityRequested answer _ _ new (ap (λ (f : Feature). call.Anonymity f) (sym same.anonymous_username)) called (λ x. x)
called_alike address a b new (call.AddUser name password) answer same is called = record {
  left = record b { users = map.insert b.users name password };
  called = (called.0, refl);
  alike = left_so address a new (record a { users = map.insert a.users name password }) (record b { users = map.insert b.users name password })
      called.1 ((sets_alike address a b same).user_added name password);
}
called_alike address a b new (call.RemoveUser name) answer same is called = record {
  left = record b { users = map.remove b.users name };
  called = (called.0, refl);
  alike = left_so address a new (record a { users = map.remove a.users name }) (record b { users = map.remove b.users name })
      called.1 ((sets_alike address a b same).user_removed name);
}
called_alike address a b new (call.AddAlgorithm algorithm) answer same is called = record {
  left = record b { algorithms = with_algorithm b.algorithms algorithm };
  called = (called.0, refl);
  alike = left_so address a new (record a { algorithms = with_algorithm a.algorithms algorithm }) (record b { algorithms = with_algorithm b.algorithms algorithm })
      called.1 ((sets_alike address a b same).algorithm_added algorithm);
}
called_alike address a b new (call.SetAlgorithm algorithm) answer same is called = record {
  left = record b { algorithms = algorithm ∷ [] };
  called = (called.0, refl);
  alike = left_so address a new (record a { algorithms = algorithm ∷ [] }) (record b { algorithms = algorithm ∷ [] })
      called.1 ((sets_alike address a b same).algorithm_set algorithm);
}
called_alike address a b new (call.SetAnonymity feature) answer same is called = record {
  left = record b { anonymous_username = feature };
  called = (called.0, refl);
  alike = left_so address a new (record a { anonymous_username = feature }) (record b { anonymous_username = feature })
      called.1 ((sets_alike address a b same).anonymity_set feature);
}
called_alike address a b new (call.SetExpiry expiry) answer same is called = record {
  left = record b { nonce_expiry = expiry };
  called = (called.0, called.1, refl);
  alike = left_so address a new (record a { nonce_expiry = expiry }) (record b { nonce_expiry = expiry })
      called.2 ((sets_alike address a b same).expiry_set expiry);
}
called_alike address a b new call.LimitRequested answer same is called =
    decoded_alike address a b same call.LimitRequested answer _ _ new (ap (λ (n : Option ℕ). call.Limit n) (sym same.max_clients)) called (λ x. x)
called_alike address a b new (call.SetLimit most) answer same is called = record {
  left = record b { max_clients = most };
  called = (called.0, called.1, refl);
  alike = left_so address a new (record a { max_clients = most }) (record b { max_clients = most })
      called.2 ((sets_alike address a b same).limit_set most);
}

-- ---- a call that doesn't

module _ (client other : SocketAddr) (a : Server) (different : client ≢ other) (none : makes_room a other ≡ false) where
  -- An outcome stored for another address, after a nonce that was due, is not visible.
  outcome_unseen : (now : ℕ) (stream : Stream) (outcome : Option Outcome) → SameFor client a (with_outcome (refreshed a other now stream) other outcome)
  outcome_unseen now stream outcome =
      same_for-then client a (refreshed a other now stream) (with_outcome (refreshed a other now stream) other outcome)
      ((leaves_alone client other a different).refreshes now stream none) ((leaves_alone client other (refreshed a other now stream) different).keeps outcome)

  refusal_unseen : (bytes : List ℕ) (now : ℕ) (stream : Stream) → SameFor client a (after_refusal a other bytes now stream)
  refusal_unseen bytes now stream =
      elim (is_response bytes) as (λ (x : Bool). SameFor client a (if x then a else with_outcome (refreshed a other now stream) other None)) [
        | true ↦ same_for-refl client a a refl
        | false ↦ outcome_unseen now stream None
      ]

  judged_unseen : (bytes : List ℕ) (now : ℕ) (stream : Stream) (answer : AuthAnswer) (new : Server) → IsJudged answer a bytes other now stream new → SameFor client a new
  judged_unseen bytes now stream (call.Valid (Validated algorithm) left) new is =
      subst (λ (s : Server). SameFor client a s) (sym is.0.stored) (outcome_unseen now stream (Some (record { name = is.0.name; algorithm = algorithm })))
  judged_unseen bytes now stream (call.Refused error left) new is = subst (λ (s : Server). SameFor client a s) (sym is.2) (refusal_unseen bytes now stream)
  judged_unseen bytes now stream _ new is = absurd is

-- A call that does not concern an address is not visible to it.
pub called_unseen : (address : SocketAddr) (a new : Server) (one : AuthCall) (answer : AuthAnswer) → concerns address one ≡ false → CallMakesNoRoom a one → IsCalled one answer a new → SameFor address a new
called_unseen address a new (call.Validate bytes from now stream) answer is none called =
    judged_unseen address from a (other_address_is address from is) none bytes now stream answer new called
called_unseen address a new (call.Sign draft to) answer is none called = same_for-refl address a new called.2
called_unseen address a new (call.SizeRequested to is_request) answer is none called = same_for-refl address a new called.1
called_unseen address a new (call.NonceRequested client) answer is none called = same_for-refl address a new called.1
called_unseen address a new (call.UserRequested client) answer is none called = same_for-refl address a new called.1
called_unseen address a new (call.Refresh from now stream) answer is none called =
    subst (λ (s : Server). SameFor address a s) (sym called.1) ((leaves_alone address from a (other_address_is address from is)).refreshes now stream none)
called_unseen address a new (call.RemoveClient client) answer is none called =
    subst (λ (s : Server). SameFor address a s) (sym called.1) (leaves_alone address client a (other_address_is address client is)).forgets
called_unseen address a new _ answer is none called = absurd (Prim.cc is)
