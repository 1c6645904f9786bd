-- A server core challenges a request that is not signed, from an address for which it stores nothing.
use Rattle.std.specs.Prelude.{◌≢◌, MatchOption, cond, nat_lt}
use Rattle.std.proofs.Common.{◌≡◌, ℕ, Bool, true, false, if◌then◌else◌, List, Option, Some, None, refl, sym, ap, ◌∙◌, subst, inl, inr}
use Rattle.std.proofs.lemmas.Bool.{lt-ltb}
use Rattle.std.specs.Cmp.{eq_by_cmp_equiv}
use Rattle.std.specs.FinMap as map
use Rattle.std.specs.Option.{option_map, option_or}
use Rattle.std.specs.Ordering.{is_eq}
use Rattle.std.specs.declared.net.socket_addr.SocketAddr.{SocketAddr}
use Rattle.rand_core.specs.Stream.{Stream}
use Rattle.turn_desk_core.specs.StunTypesWire.declared.algorithm.IntegrityAlgorithm.{IntegrityAlgorithm}
use Rattle.turn_desk_core.specs.StunTypesBase.SocketAddrs.{socket_addr_cmp, socket_addr_cmp_total}
use Rattle.turn_desk_core.specs.StunTypesWire.Types.{is_response_class}
use Rattle.turn_client_proto_messages.proofs.StunProtoAuth.NonceLemmas.{features_in-nonce_text}
use Rattle.turn_client_proto_messages.specs.StunProtoAuth.Claims.{claimed}
use Rattle.turn_desk_core.specs.StunProtoVerify.Judgement.{HasWrongDigest, IsRefused, algorithms_refusal, claim_refusal, integrity_refusal, is_response, judgement, nonce_refusal, parts_refusal, unnamed_refusal, user_refusal}
use Rattle.turn_desk_core.specs.StunProtoVerify.Knowledge.{Knowledge}
use Rattle.turn_desk_core.specs.StunTypesBase.Times.{time_after}
use Rattle.turn_client_proto_messages.specs.StunProtoAuth.Nonce.{features_offered, features_in}
use Rattle.turn_desk_core.specs.StunProtoServer.Server.{Client, Server, has_standing_nonce, is_standing, new_client, nonce_at, refreshed, room_for, set_outcome, with_new_nonce, with_outcome}
use Rattle.turn_desk_core.specs.StunProtoVerify.declared.error.LongTermServerAuthError.{LongTermServerAuthError}
use Rattle.turn_desk_core.specs.StunProtoVerify.declared.error.LongTermServerAuthError.TheVariants.{Unauthorized, BadRequest}
use Rattle.turn_desk_core.specs.StunProtoServer.ServerSigning.{Party}
use Rattle.turn_desk_core.specs.StunProtoServer.ServerValidation.{known_of}
use Rattle.turn_desk_core.specs.declared.decision.Decision.{Decision}
use Rattle.turn_desk_core.specs.Requests.{IsServed}
use Rattle.turn_desk_core.specs.State.{State}
use Rattle.turn_desk_core.specs.Steps.{IsAnswer, IsChallenge, IsVerdict, unvalidated_party}
use Rattle.turn_desk_core.specs.Verdicts.{verdict_on}
use Rattle.turn_desk_step_laws.specs.Challenged.{HasSameSettings, IsFirstChallenge, challenge_of}
use Rattle.turn_desk_core.proofs.StunProtoServer.Named.{inside}
use Rattle.turn_desk_step_laws.proofs.Reported.{challenge_read, chosen_list, takes_chosen}

-- ---- why it is refused

-- A request without an integrity attribute is unauthorized, whatever is known.
unsigned_judged : (known : Knowledge) (bytes : List ℕ) → is_response bytes ≡ false → (claimed bytes).integrity ≡ None → judgement known bytes ≡ Some Unauthorized
unfolding judgement claim_refusal unnamed_refusal
unsigned_judged known bytes request unsigned =
    let claim = claimed bytes in
    let rest = option_or (parts_refusal known.anonymous_username claim) (option_or (nonce_refusal claim.nonce known.nonce) (algorithms_refusal claim known.algorithms)) in
    ap (λ (b : Bool). option_or (if b then Some BadRequest else None) (claim_refusal known (claimed bytes))) request
    ∙ ap (λ (i : Option IntegrityAlgorithm). option_or (option_or (integrity_refusal i) rest) (user_refusal known.user)) unsigned

unauthorized : (known : Knowledge) (bytes : List ℕ) (error : LongTermServerAuthError) → IsServed bytes → (claimed bytes).integrity ≡ None → IsRefused known bytes error → error ≡ Unauthorized
unauthorized known bytes error served unsigned is =
    subst (λ (o : Option LongTermServerAuthError). MatchOption o (HasWrongDigest known bytes error) (λ c. error ≡ c))
    (unsigned_judged known bytes (ap is_response_class served.request) unsigned) is

not_bad : (error : LongTermServerAuthError) → error ≡ Unauthorized → error ≢ BadRequest
not_bad error is bad = let p : ◌≡◌ {A = LongTermServerAuthError} Unauthorized BadRequest = sym is ∙ bad in Prim.cc p

-- ---- what is stored

abbrev client_of : ℕ → List ℕ → Client
client_of now nonce = record { nonce = nonce; generated = now; outcome = None }

put_there : (clients : map.FinMap socket_addr_cmp Client) (from : SocketAddr) (c : Client) → map.get (map.insert clients from c) from ≡ Some c
put_there clients from c =
    let same : is_eq (socket_addr_cmp from from) ≡ true = (eq_by_cmp_equiv socket_addr_cmp_total).refl from in
    map.get-insert socket_addr_cmp_total clients from c from ∙ ap (λ b. cond b (Some c) (map.get clients from)) same

module _ (old : Server) (from : SocketAddr) (now : ℕ) (stream : Stream) (none : map.get old.clients from ≡ None) where
  abbrev transmitted : Client
  transmitted = new_client old now stream

  abbrev clients : map.FinMap socket_addr_cmp Client
  clients = map.insert (room_for old.max_clients old.clients from) from transmitted

  draws : refreshed old from now stream ≡ with_new_nonce old from now stream
  draws = ap (λ (b : Bool). if b then old else with_new_nonce old from now stream) (ap (is_standing old.nonce_expiry now) none)

  keeps_transmitted : map.get (with_outcome (refreshed old from now stream) from None).clients from ≡ Some transmitted
  keeps_transmitted =
      ap (λ (s : Server). map.get (with_outcome s from None).clients from) draws
      ∙ (ap (λ (found : Option Client). map.get (set_outcome clients from None found) from) (put_there (room_for old.max_clients old.clients from) from transmitted)
      ∙ put_there clients from transmitted)

-- ---- settings

-- A new nonce and an outcome change no user and no setting.
settings_stay : (old new : Server) (from : SocketAddr) (now : ℕ) (stream : Stream) → new ≡ with_outcome (refreshed old from now stream) from None → HasSameSettings old new
settings_stay old new from now stream is =
    subst (λ (s : Server). HasSameSettings old s) (sym is)
    (elim (has_standing_nonce old from now) as (λ b. HasSameSettings old (with_outcome (if b then old else with_new_nonce old from now stream) from None)) [
      | true ↦ record { realm = refl; users = refl; nonce_expiry = refl; algorithms = refl; anonymous_username = refl; max_clients = refl }
      | false ↦ record { realm = refl; users = refl; nonce_expiry = refl; algorithms = refl; anonymous_username = refl; max_clients = refl }
    ])

-- ---- the challenge

module _ (old new : State) (from : SocketAddr) (bytes reply : List ℕ) (now : ℕ) (stream : Stream) (served : IsServed bytes) (none : map.get old.auth.clients from ≡ None) (unsigned : (claimed bytes).integrity ≡ None) where
  first_challenge : IsChallenge old from bytes now stream reply new → IsFirstChallenge old from bytes now reply new
  first_challenge is =
      let r = refreshed old.auth from now stream in
      let error = unauthorized (known_of r from is.judged.refused.found) bytes is.error served unsigned is.judged.refused.refused in
      let party : Party = unvalidated_party old.auth is.nonce in
      let made = transmitted old.auth from now stream none in
      let stored : map.get new.auth.clients from ≡ Some made = ap (λ (s : Server). map.get s.clients from) is.judged.after ∙ keeps_transmitted old.auth from now stream none in
      let same : made.nonce ≡ is.nonce = inside (sym (ap (option_map (λ (c : Client). c.nonce)) stored) ∙ is.stored) in
      let features : features_in is.nonce ≡ features_offered old.auth.algorithms old.auth.anonymous_username =
      ap features_in (sym same) ∙ features_in-nonce_text (features_offered old.auth.algorithms old.auth.anonymous_username) _ in
      let settings = settings_stay old.auth new.auth from now stream is.judged.after in
      record {
        reported = challenge_of party;
        visible = challenge_read old new from bytes reply now stream served is (not_bad is.error error);
        number = is.read.number;
        realm = refl;
        features = features;
        takes_own = λ hardened algorithm. takes_chosen hardened party algorithm (ap (λ f. f.password_algorithms) features);
        list = λ hardened. chosen_list hardened party;
        stored = stored ∙ ap (λ (n : List ℕ). Some (client_of now n)) same;
        occurs = λ later before.
            ap (λ (o : Option Client). is_standing new.auth.nonce_expiry later o) stored
            ∙ ap (λ (e : ℕ). nat_lt later (time_after now e)) settings.nonce_expiry
            ∙ lt-ltb later (time_after now old.auth.nonce_expiry) before;
        settings = settings;
        granted = is.granted;
      }

  no_verdict : {A : Type 0} (decision : Decision) → IsVerdict old from bytes now stream (verdict_on bytes decision) reply new → A
  no_verdict decision is = absurd (Prim.cc (sym unsigned ∙ is.judged.accepts.judged.last))

  pub stranger_challenged : (decision : Decision) → IsAnswer old from bytes now stream decision reply new → IsFirstChallenge old from bytes now reply new
  stranger_challenged decision (inl is) = first_challenge is
  stranger_challenged decision (inr is) = no_verdict decision is
