-- What a validation stores for its address, and the key that replies to it are signed with.
use Rattle.std.specs.Prelude.{◌≡◌, ℕ, ◌<◌, slice_index, Bool, true, false, cond, List, [], ◌∷◌, ◌++◌, Option, Some, None, IsSome, IsSomeAnd, if◌then◌else◌, map as map_list}
use Rattle.std.proofs.Common.{refl, sym, ap, ◌∙◌, subst, inl, inr}
use Rattle.std.proofs.lemmas.Bool.{cases_Bool}
use Rattle.std.specs.Ordering.{is_eq}
use Rattle.std.specs.Option.{option_map, option_and_then}
use Rattle.std.specs.Cmp.{eq_by_cmp_equiv}
use Rattle.std.specs.FinMap as map
use Rattle.std.specs.declared.net.socket_addr.SocketAddr.{SocketAddr}
use Rattle.rand_core.specs.Stream.{Stream}
use Rattle.stun_types_base.specs.SocketAddrs.{socket_addr_cmp, socket_addr_cmp_total}
use Rattle.stun_types_wire.specs.declared.algorithm.IntegrityAlgorithm.{IntegrityAlgorithm}
use Rattle.stun_types_wire.specs.declared.class.MessageClass.{MessageClass}
use Rattle.stun_types_wire.specs.declared.class.MessageClass.TheVariants.{Request, Indication, Success, Error}
use Rattle.stun_types_wire.specs.Attributes.{Attr}
use Rattle.stun_types_wire.specs.Types.{is_response_class}
use Rattle.stun_types_write.specs.Drafts.{Draft}
use Rattle.stun_types_add.specs.Integrity.Credentials.{Key}
use Rattle.stun_types_add.specs.Integrity.Integrity.{Validates}
use Rattle.stun_types_add.specs.Integrity.Signing.{signing_refusal, text_to_sign}
use Rattle.stun_types_wire.specs.Text.{message_text}
use Rattle.stun_types_add.specs.Calls.{Integrity, IsWritten, Ordinary, after_calls}
use Rattle.stun_types_wire.specs.MessageReading.{IsReadAs}
use Rattle.stun_types_message.proofs.Composed.{signed_read, signed_text_of}
use Rattle.stun_proto_verify.specs.Auth.Addition.{Addition, parts_refusal}
use Rattle.stun_proto_verify.specs.Auth.AdditionStages.{IsMade}
use Rattle.stun_proto_verify.proofs.Auth.Making.{made_written}
use Rattle.stun_proto_verify.specs.Judgement.{is_response, user_key}
use Rattle.stun_proto_verify.specs.Knowledge.{Outcome}
use Rattle.stun_proto_server.specs.Server.{Client, Server, nonce_at, has_standing_nonce, refreshed, with_outcome, set_outcome}
use Rattle.stun_proto_server.specs.ServerSigning.{Party, Signer, addition, addition_by, addition_for, key_in, party_at, party_by_client, party_by_outcome, party_by_password, signing_refusal_for}
use Rattle.stun_proto_server.specs.ServerValidation.{IsValidated, after_refusal}
use Rattle.stun_types_wire.specs.Grammar.{number_at}
use Rattle.stun_proto_server.specs.declared.validation.LongTermServerValidation.{LongTermServerValidation}
use Rattle.stun_proto_server.specs.declared.validation.LongTermServerValidation.TheVariants.{Validated}
use Rattle.turn_desk_core.specs.Replies.{IsReply, signed_attributes, signed_text}
use Rattle.turn_desk_core.specs.declared.verdict.Verdict.{Verdict}
use Rattle.turn_desk_core.specs.Requests.{IsServed}
use Rattle.turn_desk_core.specs.State.{State}
use Rattle.turn_desk_core.specs.Steps.{IsSignedFor, IsTaken, IsVerdict, key_at, key_of_party}
use Rattle.turn_desk_core.specs.Verdicts.{grants_of, reply_attributes, reply_type}
use Rattle.turn_desk_core.proofs.Numbers.{number_fits, reply_type_fits}
use Rattle.turn_desk_core.proofs.Nonces.{refreshed_nonce, refreshed_realm}
use Rattle.turn_desk_core.proofs.Ordinary.{signed_valid}

-- ---- what is stored

-- An outcome is stored for an address, together with its known nonce.
pub record Stored (clients : map.FinMap socket_addr_cmp Client) (from : SocketAddr) (nonce : List ℕ) (outcome : Option Outcome) : Type 0 where
  pub client : Client
  pub found : map.get clients from ≡ Some client
  pub same_nonce : client.nonce ≡ nonce
  pub same_outcome : client.outcome ≡ outcome

stored_by : (clients : map.FinMap socket_addr_cmp Client) (from : SocketAddr) (nonce : List ℕ) (outcome : Option Outcome) (found : Option Client) → map.get clients from ≡ found
    → option_map (λ (c : Client). c.nonce) found ≡ Some nonce → Stored (set_outcome clients from outcome found) from nonce outcome
stored_by clients from nonce outcome None is has = absurd (Prim.cc has)
stored_by clients from nonce outcome (Some old) is has =
    let new : Client = record old { outcome = outcome } in
    let same : is_eq (socket_addr_cmp from from) ≡ true = (eq_by_cmp_equiv socket_addr_cmp_total).refl from in
    record {
      client = new;
      found = map.get-insert socket_addr_cmp_total clients from new from ∙ ap (λ b. cond b (Some new) (map.get clients from)) same;
      same_nonce = some_injective has;
      same_outcome = refl;
    }
  where
    some_injective : {a b : List ℕ} → Some a ≡ Some b → a ≡ b
    some_injective p = Prim.cc p

pub stored_outcome : (server : Server) (from : SocketAddr) (nonce : List ℕ) (outcome : Option Outcome) → nonce_at server from ≡ Some nonce → Stored (with_outcome server from outcome).clients from nonce outcome
stored_outcome server from nonce outcome has = stored_by server.clients from nonce outcome (map.get server.clients from) refl has

-- Storing an outcome leaves the nonce unchanged.
pub outcome_nonce : (server : Server) (from : SocketAddr) (nonce : List ℕ) (outcome : Option Outcome) → nonce_at server from ≡ Some nonce → nonce_at (with_outcome server from outcome) from ≡ Some nonce
outcome_nonce server from nonce outcome has =
    let stored = stored_outcome server from nonce outcome has in
    ap (option_map (λ (c : Client). c.nonce)) stored.found ∙ ap Some stored.same_nonce

-- ---- what a refresh leaves

pub refreshed_users : (server : Server) (from : SocketAddr) (now : ℕ) (stream : Stream) → (refreshed server from now stream).users ≡ server.users
refreshed_users server from now stream =
    elim (cases_Bool (has_standing_nonce server from now)) [
      | inl occurs ↦ rw occurs refl
      | inr occurs ↦ rw occurs refl
    ]

-- ---- the key

party_stored : (server : Server) (from : SocketAddr) (nonce name password : List ℕ) (algorithm : IntegrityAlgorithm) → Stored server.clients from nonce (Some (record { name = name; algorithm = algorithm })) → map.get server.users name ≡ Some password
    → party_at server from ≡ Some (record { realm = server.realm; nonce = nonce; algorithms = server.algorithms; user = Some (record { name = name; password = password; algorithm = algorithm }) })
party_stored server from nonce name password algorithm stored present =
    ap (party_by_client server) stored.found
    ∙ ap (λ (n : List ℕ). party_by_outcome server n stored.client.outcome) stored.same_nonce
    ∙ ap (party_by_outcome server nonce) stored.same_outcome
    ∙ ap (party_by_password server nonce (record { name = name; algorithm = algorithm })) present

-- The user whose request was accepted exists, and replies are signed with that user's key.
pub record IsKeyOf (old new : Server) (from : SocketAddr) (name : List ℕ) (algorithm : IntegrityAlgorithm) : Type 0 where
  pub password : List ℕ
  pub present : map.get old.users name ≡ Some password
  pub key : key_at new from ≡ Some (record { bytes = user_key old.realm name password algorithm; algorithm = algorithm })

pub taken_key : (old : Server) (from : SocketAddr) (bytes : List ℕ) (now : ℕ) (stream : Stream) (name : List ℕ) (algorithm : IntegrityAlgorithm) (new : Server) → (refreshed old from now stream).realm ≡ old.realm
    → IsTaken old from bytes now stream name algorithm new → IsKeyOf old new from name algorithm
taken_key old from bytes now stream name algorithm new realm taken =
    let r = refreshed old from now stream in
    let users = refreshed_users old from now stream in
    let present : map.get r.users name ≡ Some taken.accepts.password = taken.accepts.named.present in
    let stored = stored_outcome r from taken.accepts.judged.nonce (Some (record { name = name; algorithm = algorithm })) taken.accepts.judged.occurs in
    let party = party_stored (with_outcome r from (Some (record { name = name; algorithm = algorithm }))) from taken.accepts.judged.nonce name taken.accepts.password algorithm stored present in
    record {
      password = taken.accepts.password;
      present = ap (λ u. map.get u name) (sym users) ∙ present;
      key = ap (λ (s : Server). key_at s from) taken.after ∙ ap key_of_party party
          ∙ ap (λ (realm' : List ℕ). Some (record { bytes = user_key realm' name taken.accepts.password algorithm; algorithm = algorithm })) realm;
    }

-- ---- what is added to a reply

-- What is added to a message that is only signed.
abbrev sealed : Option Key → Addition
sealed key = record { parts = []; signer = key }

added_class : (party : Party) (user : Signer) (class : MessageClass) → is_response_class class ≡ true → addition_by party (Some user) class ≡ Some (sealed (Some (key_in party.realm user)))
added_class party user Request response = absurd (Prim.cc response)
added_class party user Indication response = absurd (Prim.cc response)
added_class party user Success response = refl
added_class party user Error response = refl

added_user : (party : Party) (user : Option Signer) (class : MessageClass) → is_response_class class ≡ true → IsSome (option_map (key_in party.realm) user)
    → addition_by party user class ≡ Some (sealed (option_map (key_in party.realm) user))
added_user party None class response has = absurd (Prim.cc has)
added_user party (Some user) class response has = added_class party user class response

added : (party : Option Party) (class : MessageClass) → is_response_class class ≡ true → IsSome (key_of_party party) → option_and_then (λ (p : Party). addition p class) party ≡ Some (sealed (key_of_party party))
added None class response has = absurd (Prim.cc has)
added (Some party) class response has = added_user party party.user class response has

-- A response to an address with a validated user gets the integrity attribute alone.
pub added_for : (server : Server) (from : SocketAddr) (class : MessageClass) → is_response_class class ≡ true → IsSome (key_at server from) → addition_for server from class ≡ Some (sealed (key_at server from))
added_for server from class response has = added (party_at server from) class response has

sealed_refusal : (key : Option Key) (draft : Draft) → ((algorithm : IntegrityAlgorithm) → signing_refusal draft algorithm algorithm ≡ None) → signing_refusal_for (Some (sealed key)) draft ≡ None
unfolding parts_refusal after_calls
sealed_refusal None draft signable = refl
sealed_refusal (Some key) draft signable = signable key.algorithm

pub accepted_for : (server : Server) (from : SocketAddr) (class : MessageClass) (draft : Draft) → is_response_class class ≡ true → IsSome (key_at server from)
    → ((algorithm : IntegrityAlgorithm) → signing_refusal draft algorithm algorithm ≡ None) → signing_refusal_for (addition_for server from class) draft ≡ None
accepted_for server from class draft response has signable =
    ap (λ (a : Option Addition). signing_refusal_for a draft) (added_for server from class response has) ∙ sealed_refusal (key_at server from) draft signable

signed_by : (server : Server) (from : SocketAddr) (signer : Option Key) (old new : Draft) (kind number : ℕ) (attributes : List Attr) → key_at server from ≡ signer → IsSome signer
    → IsMade (sealed signer) old new → IsReply kind number attributes old → IsSignedFor server from kind number attributes new.bytes
signed_by server from None old new kind number attributes is has made reply = absurd (Prim.cc has)
signed_by server from (Some key) old new kind number attributes is has made reply =
    let written : IsWritten kind number (map_list Ordinary attributes ++ Integrity key.algorithm key.bytes ∷ []) new =
    made_written kind number (map_list Ordinary attributes) (sealed (Some key)) old new reply.composed.written made in
    record {
      key = key;
      own = is;
      text = signed_text_of kind number attributes key.algorithm key.bytes new written;
      read = λ k n. signed_read kind number attributes key.algorithm key.bytes new k n reply.lawful written;
      valid = λ k n. signed_valid kind number attributes key.algorithm key.bytes new k n reply.lawful written;
    }

pub signed_for : (server : Server) (from : SocketAddr) (class : MessageClass) (old new : Draft) (text : List ℕ) → is_response_class class ≡ true → IsSome (key_at server from) → text ≡ new.bytes
    → IsSomeAnd (addition_for server from class) (λ made. IsMade made old new) → (kind number : ℕ) (attributes : List Attr) → IsReply kind number attributes old → IsSignedFor server from kind number attributes text
signed_for server from class old new text response has reported made kind number attributes reply =
    let own = subst (λ (a : Option Addition). IsSomeAnd a (λ made. IsMade made old new)) (added_for server from class response has) made in
    rw reported (signed_by server from (key_at server from) old new kind number attributes refl has own reply)

-- ---- a validation

-- What a successful validation says, and the state that it leaves.
pub record Takes (old : Server) (from : SocketAddr) (bytes : List ℕ) (now : ℕ) (stream : Stream) (new : Server) : Type 0 where
  pub name : List ℕ
  pub algorithm : IntegrityAlgorithm
  pub taken : IsTaken old from bytes now stream name algorithm new

pub takes : (old : Server) (from : SocketAddr) (bytes : List ℕ) (now : ℕ) (stream : Stream) (answer : LongTermServerValidation) (new : Server) → IsValidated (refreshed old from now stream) from bytes answer new → Takes old from bytes now stream new
takes old from bytes now stream (Validated algorithm) new valid = record {
  name = valid.name;
  algorithm = algorithm;
  taken = record { accepts = valid.accepts; after = valid.stored };
}

-- After it there is a key for its address.
pub takes_key : (old : Server) (from : SocketAddr) (bytes : List ℕ) (now : ℕ) (stream : Stream) (new : Server) → Takes old from bytes now stream new → IsSome (key_at new from)
takes_key old from bytes now stream new t =
    let key = (taken_key old from bytes now stream t.name t.algorithm new (refreshed_realm old from now stream) t.taken).key in
    rw key refl

-- The reply that is signed for its address is that of the verdict.
pub answered : (old new : State) (from : SocketAddr) (bytes : List ℕ) (now : ℕ) (stream : Stream) (what : Verdict) (after : Server) (reply : List ℕ) → ((i : ℕ) → slice_index bytes i < 256) → IsServed bytes
    → Takes old.auth from bytes now stream after
    → IsSignedFor after from (reply_type bytes what) (number_at bytes) (reply_attributes bytes from what) reply → new ≡ record { auth = after; grants = old.grants ++ grants_of bytes from what } → IsVerdict old from bytes now stream what reply new
answered old new from bytes now stream what after reply are served t signed is =
    let k = taken_key old.auth from bytes now stream t.name t.algorithm after (refreshed_realm old.auth from now stream) t.taken in
    let same = inside (sym signed.own ∙ k.key) in
    let key = user_key old.auth.realm t.name k.password t.algorithm in
    let text : reply ≡ signed_text (reply_type bytes what) (number_at bytes) (reply_attributes bytes from what) key t.algorithm =
    signed.text ∙ ap (λ (own : Key). signed_text (reply_type bytes what) (number_at bytes) (reply_attributes bytes from what) own.bytes own.algorithm) same in
    record {
      name = t.name;
      algorithm = t.algorithm;
      judged = record { accepts = t.taken.accepts; after = ap (λ (s : State). s.auth) is ∙ t.taken.after };
      password = k.password;
      present = k.present;
      text = text;
      read = subst (λ (own : Key). IsReadAs (reply_type bytes what) (number_at bytes) (signed_attributes (reply_type bytes what) (number_at bytes) (reply_attributes bytes from what) own.bytes own.algorithm) reply) same
          (signed.read (reply_type_fits bytes what served) (number_fits bytes are served));
      valid = subst (λ (own : Key). Validates reply own.bytes own.algorithm (text_to_sign own.algorithm (message_text (reply_type bytes what) (number_at bytes) (reply_attributes bytes from what)))) same
          (signed.valid (reply_type_fits bytes what served) (number_fits bytes are served));
      granted = ap (λ (s : State). s.grants) is;
    }
  where
    inside : {x y : Key} → Some x ≡ Some y → x ≡ y
    inside p = Prim.cc p

-- ---- a refusal

-- A request is not a response.
pub request_class : (bytes : List ℕ) → IsServed bytes → is_response bytes ≡ false
request_class bytes served = ap is_response_class served.request

pub refusal_after : (old : Server) (from : SocketAddr) (bytes : List ℕ) (now : ℕ) (stream : Stream) (new : Server) → IsServed bytes → new ≡ after_refusal old from bytes now stream → new ≡ with_outcome (refreshed old from now stream) from None
refusal_after old from bytes now stream new served is =
    is ∙ ap (λ (b : Bool). if b then old else with_outcome (refreshed old from now stream) from None) (request_class bytes served)

-- After a rejection the nonce that is valid for the address is still stored.
pub refused_nonce : (old : Server) (from : SocketAddr) (now : ℕ) (stream : Stream) (new : Server) → new ≡ with_outcome (refreshed old from now stream) from None → IsSome (nonce_at new from)
refused_nonce old from now stream new is =
    elim_nonce (nonce_at (refreshed old from now stream) from) refl (refreshed_nonce old from now stream)
  where
    elim_nonce : (found : Option (List ℕ)) → nonce_at (refreshed old from now stream) from ≡ found → IsSome found → IsSome (nonce_at new from)
    elim_nonce None has some = absurd (Prim.cc some)
    elim_nonce (Some nonce) has some = rw (is, outcome_nonce (refreshed old from now stream) from nonce None has) refl
