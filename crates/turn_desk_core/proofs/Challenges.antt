-- The reply to a party that was not validated: ERROR-CODE, and what the server adds to it.
use Rattle.std.specs.Prelude.{◌≡◌, ◌≢◌, ℕ, ◌+◌, ◌*◌, ◌≤◌, ◌<◌, slice_index, Bool, true, false, List, [], ◌∷◌, length, Option, Some, None, IfSome, IsSome, IsSomeAnd, map as map_list}
use Rattle.std.proofs.Common.{Bor, refl, ap, ◌∙◌, subst, arith}
use Rattle.std.proofs.lemmas.List.{append-nil}
use Rattle.std.specs.List.{AllByRecursion, IsDistinct}
use Rattle.std.specs.Option.{option_and_then, option_copied, option_map, option_or}
use Rattle.std.specs.FinMap as map
use Rattle.std.specs.declared.net.socket_addr.SocketAddr.{SocketAddr}
use Rattle.rand_core.specs.Stream.{Stream}
use Rattle.stun_types_wire.specs.declared.algorithm.IntegrityAlgorithm.{IntegrityAlgorithm}
use Rattle.stun_types_wire.specs.declared.class.MessageClass.{MessageClass}
use Rattle.stun_types_wire.specs.declared.class.MessageClass.TheVariants.{Error}
use Rattle.stun_types_wire.specs.Attributes.{Attr, kind_at}
use Rattle.stun_types_wire.specs.Types.{class_of, method_of, type_of}
use Rattle.stun_types_wire.specs.Shape.{rank}
use Rattle.stun_types_wire.specs.declared.error.StunWriteError.{StunWriteError}
use Rattle.stun_types_write.specs.Adding.{IsStarted, add_refusal}
use Rattle.stun_types_write.specs.Drafts.{Draft, empty}
use Rattle.stun_types_wire.specs.Text.{header_text, message_text}
use Rattle.stun_types_attributes.specs.AuthAttributes.Entries.{entries}
use Rattle.stun_types_wire.specs.Grammar.{number_at}
use Rattle.stun_types_add.specs.Calls.{Add, IsOrdinary, IsWritten, Ordinary}
use Rattle.stun_types_wire.specs.MessageReading.{IsReadAs}
use Rattle.stun_types_write.specs.ValueReading.{utf8_refusal}
use Rattle.stun_types_message.specs.Objections.{error_attribute, error_type}
use Rattle.stun_types_message.proofs.Composed.{composed_read, written_text}
use Rattle.stun_proto_verify.specs.Auth.Addition.{Addition, PartOf, algorithms_of, attrs, calls_of_parts, nonce_of, parts_refusal, realm_of, size_of_part}
use Rattle.stun_proto_verify.specs.Auth.AdditionStages.{FitsAfter, IsMade}
use Rattle.stun_proto_verify.specs.Auth.Nonce.{features_in}
use Rattle.stun_proto_verify.specs.Auth.SupportedAlgorithms.{is_same_algorithm, list_of}
use Rattle.stun_proto_server.specs.Server.{Client, Server, nonce_at, outcome_at, refreshed, with_outcome}
use Rattle.stun_proto_verify.specs.declared.error.LongTermServerAuthError.{LongTermServerAuthError}
use Rattle.stun_proto_server.specs.ServerSigning.{Party, addition, addition_for, challenge_parts, list_for, party_by_client, party_by_outcome, signing_refusal_for}
use Rattle.stun_proto_verify.proofs.Auth.Keeping.{few as three_at_most}
use Rattle.stun_proto_verify.proofs.Auth.Making.{made_written, parts_accept}
use Rattle.stun_proto_verify.proofs.Auth.Reaching.{reached_end, reached_first, reached_step}
use Rattle.turn_desk_core.specs.Replies.{IsReply, failure_attributes}
use Rattle.turn_desk_core.proofs.Room.{room_left, text_accepted}
use Rattle.turn_desk_core.proofs.Sizes.{failure-length}
use Rattle.turn_desk_core.specs.Requests.{IsServed}
use Rattle.turn_desk_core.proofs.Methods.{by_method}
use Rattle.turn_desk_core.specs.State.{State}
use Rattle.turn_desk_core.specs.Steps.{FitsChallenge, IsChallenge, IsUnauthenticated, IsTurnedReply, challenge_attributes, refusal_attributes, unvalidated_party}
use Rattle.turn_desk_core.proofs.Keys.{stored_outcome}
use Rattle.turn_desk_core.proofs.Nonces.{refreshed_algorithms, refreshed_nonce, refreshed_realm}
use Rattle.turn_desk_core.proofs.Numbers.{error_type_fits, number_fits}
use Rattle.turn_desk_core.proofs.Ordinary.{ordinary_after}

-- ---- the party

-- If a nonce and no user are stored for an address, its party is one that was not validated.
party_by_stored : (server : Server) (nonce : List ℕ) (found : Option Client) → option_map (λ (c : Client). c.nonce) found ≡ Some nonce → option_and_then (λ (c : Client). c.outcome) found ≡ None
    → party_by_client server found ≡ Some (unvalidated_party server nonce)
party_by_stored server nonce None has none = absurd (Prim.cc has)
party_by_stored server nonce (Some stored) has none =
    ap (party_by_outcome server stored.nonce) none ∙ ap (λ (n : List ℕ). Some (unvalidated_party server n)) (inside has)
  where
    inside : {a b : List ℕ} → Some a ≡ Some b → a ≡ b
    inside p = Prim.cc p

-- The nonce that is stored for an address.
pub record KeepsNonce (server : Server) (from : SocketAddr) : Type 0 where
  pub nonce : List ℕ
  pub stored : nonce_at server from ≡ Some nonce

pub keeps_nonce : (server : Server) (from : SocketAddr) → IsSome (nonce_at server from) → KeepsNonce server from
keeps_nonce server from has = by_found (nonce_at server from) refl has
  where
    by_found : (found : Option (List ℕ)) → nonce_at server from ≡ found → IsSome found → KeepsNonce server from
    by_found None is some = absurd (Prim.cc some)
    by_found (Some nonce) is some = record { nonce = nonce; stored = is }

-- What the server adds to an error response to this party: the attributes of a challenge, and no integrity
-- attribute.
abbrev listed_to : Party → Addition
listed_to party = record { parts = challenge_parts party; signer = None }

added_to : (server : Server) (from : SocketAddr) (nonce : List ℕ) (class : MessageClass) → class ≡ Error → nonce_at server from ≡ Some nonce → outcome_at server from ≡ None
    → addition_for server from class ≡ Some (listed_to (unvalidated_party server nonce))
added_to server from nonce class is has none =
    ap (λ (c : MessageClass). addition_for server from c) is
    ∙ ap (option_and_then (λ (p : Party). addition p Error)) (party_by_stored server nonce (map.get server.clients from) has none)

-- ---- the error response

-- The error response to a request that is served has the class of an error.
error_class : (bytes : List ℕ) (number : ℕ) (attributes : List Attr) → IsServed bytes → class_of (kind_at (message_text (error_type bytes) number attributes)) ≡ Error
unfolding message_text header_text
error_class bytes number attributes served = by_method (λ (m : ℕ). class_of (kind_at (message_text (type_of Error m) number attributes)) ≡ Error)
    (record { allocate = refl; refresh = refl; create_permission = refl; channel_bind = refl; connect = refl; connection_bind = refl }) (method_of (kind_at bytes)) served.method

failure_class : (bytes : List ℕ) (code : ℕ) (draft : Draft) → IsServed bytes → IsReply (error_type bytes) (number_at bytes) (failure_attributes code) draft → class_of (kind_at draft.bytes) ≡ Error
failure_class bytes code draft served is =
    ap (λ (b : List ℕ). class_of (kind_at b)) is.composed.text ∙ error_class bytes (number_at bytes) (failure_attributes code) served

-- An error response has room for 4096 bytes more.
failure_room : (kind number code : ℕ) (draft : Draft) → IsReply kind number (failure_attributes code) draft → (size : ℕ) → size ≤ 4096 → add_refusal draft size ≡ None
failure_room kind number code draft is size small =
    room_left kind number (failure_attributes code) (empty [] None) draft size refl is.composed (failure-length kind number code) small

-- ---- room for what is added

-- The nonce that a look-up finds is short.
nonce_short : (found : Option (Bor (List ℕ))) (nonce : List ℕ) → option_copied found ≡ Some nonce → IfSome found (λ n. length n.now ≤ 763) → length nonce ≤ 763
nonce_short None nonce is short = absurd (Prim.cc is)
nonce_short (Some n) nonce is short = subst (λ (l : List ℕ). length l ≤ 763) (inside is) short
  where
    inside : {a b : List ℕ} → Some a ≡ Some b → a ≡ b
    inside p = Prim.cc p

-- The nonce that a look-up finds is UTF-8.
nonce_reads : (found : Option (Bor (List ℕ))) (nonce : List ℕ) → option_copied found ≡ Some nonce → IfSome found (λ n. utf8_refusal n.now ≡ None) → utf8_refusal nonce ≡ None
nonce_reads None nonce is reads = absurd (Prim.cc is)
nonce_reads (Some n) nonce is reads = subst (λ (l : List ℕ). utf8_refusal l ≡ None) (inside is) reads
  where
    inside : {a b : List ℕ} → Some a ≡ Some b → a ≡ b
    inside p = Prim.cc p

-- What the server adds to a challenge fits.
pub server_fits : (server : Server) (from : SocketAddr) (realm nonce : List ℕ) (found : Option (Bor (List ℕ))) (algorithms : List IntegrityAlgorithm) → realm ≡ server.realm → length realm ≤ 763 → option_copied found ≡ nonce_at server from
    → IfSome found (λ n. length n.now ≤ 763) → algorithms ≡ server.algorithms → IsDistinct is_same_algorithm algorithms
    → algorithms ≢ [] → utf8_refusal realm ≡ None → IfSome found (λ n. utf8_refusal n.now ≡ None) → nonce_at server from ≡ Some nonce → FitsChallenge (unvalidated_party server nonce)
server_fits server from realm nonce found algorithms realm-is realm-short is short algorithms-are distinct some realm-reads reads has =
    let few = three_at_most algorithms distinct in
    record {
      realm = subst (λ (r : List ℕ). length r ≤ 763) realm-is realm-short;
      nonce = nonce_short found nonce (is ∙ has) short;
      algorithms = subst (λ (a : List IntegrityAlgorithm). length a ≤ 8) algorithms-are (omega (arith, few));
      realm_is_text = subst (λ (r : List ℕ). utf8_refusal r ≡ None) realm-is realm-reads;
      nonce_is_text = nonce_reads found nonce (is ∙ has) reads;
      never_empty = subst (λ (a : List IntegrityAlgorithm). a ≢ []) algorithms-are some;
      distinct = subst (λ (a : List IntegrityAlgorithm). IsDistinct is_same_algorithm a) algorithms-are distinct;
    }

-- The length of the list of algorithms.
list-length : (algorithms : List IntegrityAlgorithm) → length (list_of algorithms) ≡ 4 * length algorithms
unfolding entries
list-length [] = refl
list-length (a ∷ algorithms) = let rest = list-length algorithms in omega (arith, rest)

-- A short part fits after others.
fits_after : (draft : Draft) (before : ℕ) (p : PartOf) → ((size : ℕ) → size ≤ 4096 → add_refusal draft size ≡ None) → rank p.kind ≡ 0 → length p.value ≤ p.most → before + size_of_part p ≤ 4096
    → FitsAfter draft before p (before + size_of_part p)
fits_after draft before p room plain short small = record {
  accepted = ap (λ (o : Option StunWriteError). option_or o (add_refusal draft (before + size_of_part p))) (text_accepted p.most p.value short) ∙ room (before + size_of_part p) small;
  grown = refl;
  short = omega (arith, small);
  plain = plain;
}

-- The realm and the nonce fit, and so does the list of algorithms if there is one.
parts_room : (party : Party) (draft : Draft) (lists : Bool) → IsStarted draft.bytes → ((size : ℕ) → size ≤ 4096 → add_refusal draft size ≡ None) → FitsChallenge party
    → parts_refusal draft (realm_of party.realm ∷ nonce_of party.nonce ∷ list_for lists party.algorithms) ≡ None
parts_room party draft false started room fits =
    let r = realm_of party.realm in
    let n = nonce_of party.nonce in
    let all : List PartOf = r ∷ n ∷ [] in
    let realm = fits.realm in
    let nonce = fits.nonce in
    let s1 = 0 + size_of_part r in
    let s2 = s1 + size_of_part n in
    let one = reached_step draft all 0 r r 0 s1 (omega arith) refl (reached_first draft all started) (fits_after draft 0 r room refl realm (omega (arith, realm))) in
    let two = reached_step draft all 1 n r s1 s2 (omega arith) refl one (fits_after draft s1 n room refl nonce (omega (arith, realm, nonce))) in
    (reached_end draft all 2 s2 (omega arith) two).accepted
parts_room party draft true started room fits =
    let r = realm_of party.realm in
    let n = nonce_of party.nonce in
    let l = algorithms_of (list_of party.algorithms) in
    let all : List PartOf = r ∷ n ∷ l ∷ [] in
    let realm = fits.realm in
    let nonce = fits.nonce in
    let few = fits.algorithms in
    let long = list-length party.algorithms in
    let s1 = 0 + size_of_part r in
    let s2 = s1 + size_of_part n in
    let s3 = s2 + size_of_part l in
    let one = reached_step draft all 0 r r 0 s1 (omega arith) refl (reached_first draft all started) (fits_after draft 0 r room refl realm (omega (arith, realm))) in
    let two = reached_step draft all 1 n r s1 s2 (omega arith) refl one (fits_after draft s1 n room refl nonce (omega (arith, realm, nonce))) in
    let three = reached_step draft all 2 l r s2 s3 (omega arith) refl two (fits_after draft s2 l room refl (omega (arith, few, long)) (omega (arith, realm, nonce, few, long))) in
    (reached_end draft all 3 s3 (omega arith) three).accepted

-- Adding the attributes of a challenge to an error response can fail only if an allocation fails.
pub challenge_accepted : (server : Server) (from : SocketAddr) (bytes nonce : List ℕ) (code : ℕ) (draft : Draft) → IsServed bytes → nonce_at server from ≡ Some nonce → outcome_at server from ≡ None
    → FitsChallenge (unvalidated_party server nonce) → IsReply (error_type bytes) (number_at bytes) (failure_attributes code) draft
    → signing_refusal_for (addition_for server from (class_of (kind_at draft.bytes))) draft ≡ None
challenge_accepted server from bytes nonce code draft served has none fits is =
    let party = unvalidated_party server nonce in
    let added = added_to server from nonce (class_of (kind_at draft.bytes)) (failure_class bytes code draft served is) has none in
    let room = failure_room (error_type bytes) (number_at bytes) code draft is in
    ap (λ (a : Option Addition). signing_refusal_for a draft) added
    ∙ parts_accept (challenge_parts party) draft (parts_room party draft (features_in nonce).password_algorithms is.composed.started room fits)

-- ---- the reply

-- The attributes that are added are ordinary ones.
list_ordinary : (lists : Bool) (algorithms : List IntegrityAlgorithm) → length algorithms ≤ 8 → AllByRecursion IsOrdinary (attrs (list_for lists algorithms))
list_ordinary false algorithms few = tt
list_ordinary true algorithms few =
    let long = list-length algorithms in
    (record { fits = record { kind = omega arith; value = omega (arith, few, long) }; ordinary = refl }, tt)

challenge_ordinary : (party : Party) (code : ℕ) → FitsChallenge party → AllByRecursion IsOrdinary (failure_attributes code) → AllByRecursion IsOrdinary (challenge_attributes code party)
challenge_ordinary party code fits lawful =
    let realm = fits.realm in
    let nonce = fits.nonce in (
      lawful.0,
      (
        record { fits = record { kind = omega arith; value = omega (arith, realm) }; ordinary = refl },
        (
          record { fits = record { kind = omega arith; value = omega (arith, nonce) }; ordinary = refl },
          list_ordinary (features_in party.nonce).password_algorithms party.algorithms fits.algorithms,
        ),
      ),
    )

-- The error response with the added attributes has the attributes of a challenge.
challenge_written : (kind number code : ℕ) (party : Party) (old new : Draft) → IsReply kind number (failure_attributes code) old → IsMade (listed_to party) old new → IsWritten kind number (map_list Ordinary (challenge_attributes code party)) new
challenge_written kind number code party old new is made =
    subst (λ (calls : List Add). IsWritten kind number (Ordinary (error_attribute code) ∷ calls) new) (append-nil (calls_of_parts (challenge_parts party)))
    (made_written kind number (map_list Ordinary (failure_attributes code)) (listed_to party) old new is.composed.written made)

pub challenge_reply : (server : Server) (from : SocketAddr) (bytes nonce : List ℕ) (code : ℕ) (old new : Draft) (text : List ℕ) → IsServed bytes → nonce_at server from ≡ Some nonce → outcome_at server from ≡ None
    → FitsChallenge (unvalidated_party server nonce) → IsReply (error_type bytes) (number_at bytes) (failure_attributes code) old
    → IsSomeAnd (addition_for server from (class_of (kind_at old.bytes))) (λ made. IsMade made old new) → text ≡ new.bytes
    → IsTurnedReply server from bytes (challenge_attributes code) text
challenge_reply server from bytes nonce code old new text served has none fits is made reported =
    let kind = error_type bytes in
    let number = number_at bytes in
    let party = unvalidated_party server nonce in
    let added = added_to server from nonce (class_of (kind_at old.bytes)) (failure_class bytes code old served is) has none in
    let own : IsMade (listed_to party) old new = subst (λ (a : Option Addition). IsSomeAnd a (λ made. IsMade made old new)) added made in
    let written = challenge_written kind number code party old new is own in
    rw reported (record {
      nonce = nonce;
      stored = has;
      fits = fits;
      text = written_text kind number (map_list Ordinary (challenge_attributes code party)) new written
          ∙ ap (λ (all : List Attr). message_text kind number all) (ordinary_after kind number (challenge_attributes code party) []);
      read = λ k n. composed_read kind number (challenge_attributes code party) new k n (challenge_ordinary party code fits is.lawful) written;
    })

-- An error response to which nothing is added.
pub plain_reply : (server : Server) (from : SocketAddr) (bytes nonce : List ℕ) (code : ℕ) (draft : Draft) (text : List ℕ) → nonce_at server from ≡ Some nonce → FitsChallenge (unvalidated_party server nonce)
    → IsReply (error_type bytes) (number_at bytes) (failure_attributes code) draft → text ≡ draft.bytes → IsTurnedReply server from bytes (λ party. failure_attributes code) text
plain_reply server from bytes nonce code draft text has fits is reported = rw reported (record {
  nonce = nonce;
  stored = has;
  fits = fits;
  text = is.composed.text;
  read = λ k n. composed_read (error_type bytes) (number_at bytes) (failure_attributes code) draft k n is.lawful is.composed.written;
})

-- ---- the result

-- After a rejection no user is stored for the address.
pub refused_outcome : (old : Server) (from : SocketAddr) (now : ℕ) (stream : Stream) (new : Server) → new ≡ with_outcome (refreshed old from now stream) from None → outcome_at new from ≡ None
refused_outcome old from now stream new is =
    by_nonce (nonce_at (refreshed old from now stream) from) refl (refreshed_nonce old from now stream)
  where
    by_nonce : (found : Option (List ℕ)) → nonce_at (refreshed old from now stream) from ≡ found → IsSome found → outcome_at new from ≡ None
    by_nonce None has some = absurd (Prim.cc some)
    by_nonce (Some nonce) has some =
        let stored = stored_outcome (refreshed old from now stream) from nonce None has in
        ap (λ (s : Server). outcome_at s from) is ∙ ap (option_and_then (λ (c : Client). c.outcome)) stored.found ∙ stored.same_outcome

-- The reply to a request that failed validation.
pub challenged : (old new : State) (from : SocketAddr) (bytes : List ℕ) (now : ℕ) (stream : Stream) (error : LongTermServerAuthError) (reply : List ℕ) → ((i : ℕ) → slice_index bytes i < 256) → IsServed bytes
    → IsUnauthenticated old.auth from bytes now stream error new.auth → new.grants ≡ old.grants → IsTurnedReply new.auth from bytes (refusal_attributes error) reply
    → IsChallenge old from bytes now stream reply new
challenged old new from bytes now stream error reply are served away grants reported =
    let realm : new.auth.realm ≡ old.auth.realm = ap (λ (s : Server). s.realm) away.after ∙ refreshed_realm old.auth from now stream in
    let algorithms : new.auth.algorithms ≡ old.auth.algorithms = ap (λ (s : Server). s.algorithms) away.after ∙ refreshed_algorithms old.auth from now stream in
    let same : unvalidated_party new.auth reported.nonce ≡ unvalidated_party old.auth reported.nonce =
    ap (λ (r : List ℕ). record { realm = r; nonce = reported.nonce; algorithms = new.auth.algorithms; user = None }) realm
    ∙ ap (λ (a : List IntegrityAlgorithm). record { realm = old.auth.realm; nonce = reported.nonce; algorithms = a; user = None }) algorithms in
    record {
      error = error;
      judged = away;
      nonce = reported.nonce;
      stored = reported.stored;
      fits = subst FitsChallenge same reported.fits;
      text = reported.text ∙ ap (λ (p : Party). message_text (error_type bytes) (number_at bytes) (refusal_attributes error p)) same;
      read = subst (λ (p : Party). IsReadAs (error_type bytes) (number_at bytes) (refusal_attributes error p) reply) same (reported.read (error_type_fits bytes served) (number_fits bytes are served));
      granted = grants;
    }
