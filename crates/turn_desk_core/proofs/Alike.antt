-- Two server cores that an address can't distinguish reply to it alike.
use Rattle.std.proofs.Common.{◌≡◌, ℕ, List, [], ◌++◌, Option, None, Some, refl, sym, ap, ◌∙◌, subst, inl, inr}
use Rattle.std.proofs.lemmas.List.{append-nil}
use Rattle.std.specs.FinMap as map
use Rattle.std.specs.declared.net.socket_addr.SocketAddr.{SocketAddr}
use Rattle.rand_core.specs.Stream.{Stream}
use Rattle.stun_types_wire.specs.Grammar.{number_at}
use Rattle.stun_types_add.specs.Integrity.Integrity.{Validates}
use Rattle.stun_types_wire.specs.MessageReading.{IsReadAs}
use Rattle.stun_types_message.specs.Objections.{error_type}
use Rattle.stun_types_add.specs.Integrity.Signing.{text_to_sign}
use Rattle.stun_types_wire.specs.Text.{message_text}
use Rattle.stun_proto_verify.specs.Judgement.{user_key}
use Rattle.stun_proto_verify.specs.Knowledge.{Outcome}
use Rattle.stun_proto_server.specs.Server.{SameFor, Server, refreshed, with_outcome}
use Rattle.stun_proto_server.specs.ServerSigning.{Party}
use Rattle.stun_proto_server.proofs.Isolated.{answers_alike, leaves_alike}
use Rattle.turn_desk_core.specs.Replies.{signed_attributes, signed_text}
use Rattle.turn_desk_core.specs.declared.decision.Decision.{Decision}
use Rattle.turn_desk_core.specs.declared.verdict.Verdict.{Verdict}
use Rattle.turn_desk_core.specs.Verdicts.{grants_of, reply_attributes, reply_type, verdict_on}
use Rattle.turn_desk_core.specs.DeskIsolation.{IsAnsweredAlike}
use Rattle.turn_desk_core.specs.State.{State}
use Rattle.turn_desk_core.specs.Steps.{FitsChallenge, IsAnswer, IsChallenge, IsVerdict, refusal_attributes, unvalidated_party}

-- ---- the authenticators

-- If the address can't distinguish two servers, it can't after both have refreshed its nonce either.
refreshes : (from : SocketAddr) (a b : Server) (now : ℕ) (stream : Stream) → SameFor from a b → SameFor from (refreshed a from now stream) (refreshed b from now stream)
refreshes from a b now stream same = (leaves_alike from a b same).refreshes now stream

-- Nor can it after both have also stored the same outcome of a validation.
judges : (from : SocketAddr) (a b : Server) (now : ℕ) (stream : Stream) (outcome : Option Outcome) → SameFor from a b
    → SameFor from (with_outcome (refreshed a from now stream) from outcome) (with_outcome (refreshed b from now stream) from outcome)
judges from a b now stream outcome same =
    (leaves_alike from (refreshed a from now stream) (refreshed b from now stream) (refreshes from a b now stream same)).keeps outcome

-- ---- a challenge

party_alike : (from : SocketAddr) (a b : Server) (nonce : List ℕ) → SameFor from a b → unvalidated_party a nonce ≡ unvalidated_party b nonce
party_alike from a b nonce same = sym (λ i. record { realm = same.realm i; nonce = nonce; algorithms = same.algorithms i; user = None })

challenged_alike : (a b : State) (from : SocketAddr) (bytes : List ℕ) (now : ℕ) (stream : Stream) (decision : Decision) (reply : List ℕ) (new : State) → SameFor from a.auth b.auth
    → IsChallenge a from bytes now stream reply new → IsAnsweredAlike a b from bytes now stream decision reply new
challenged_alike a b from bytes now stream decision reply new same is =
    let after : Server = with_outcome (refreshed b.auth from now stream) from None in
    let alike : SameFor from new.auth after =
    subst (λ (s : Server). SameFor from s after) (sym is.judged.after) (judges from a.auth b.auth now stream None same) in
    let party = party_alike from a.auth b.auth is.nonce same in
    let fresh = refreshes from a.auth b.auth now stream same in
    record {
      left = record { auth = after; grants = b.grants };
      answer = inl (record {
        error = is.error;
        judged = record {
          ample = is.judged.ample;
          refused = ((answers_alike from (refreshed a.auth from now stream) (refreshed b.auth from now stream) fresh).refuses bytes is.error).0 is.judged.refused;
          after = refl;
        };
        nonce = is.nonce;
        stored = (answers_alike from new.auth after alike).nonce ∙ is.stored;
        fits = subst FitsChallenge party is.fits;
        text = is.text ∙ ap (λ (p : Party). message_text (error_type bytes) (number_at bytes) (refusal_attributes is.error p)) party;
        read = subst (λ (p : Party). IsReadAs (error_type bytes) (number_at bytes) (refusal_attributes is.error p) reply) party is.read;
        granted = refl;
      });
      same = alike;
      grants = [];
      here = is.granted ∙ sym (append-nil a.grants);
      there = sym (append-nil b.grants);
    }

-- ---- a verdict

verdict_alike : (a b : State) (from : SocketAddr) (bytes : List ℕ) (now : ℕ) (stream : Stream) (decision : Decision) (reply : List ℕ) (new : State) → SameFor from a.auth b.auth
    → IsVerdict a from bytes now stream (verdict_on bytes decision) reply new → IsAnsweredAlike a b from bytes now stream decision reply new
verdict_alike a b from bytes now stream decision reply new same is =
    let what : Verdict = verdict_on bytes decision in
    let outcome : Outcome = record { name = is.name; algorithm = is.algorithm } in
    let after : Server = with_outcome (refreshed b.auth from now stream) from (Some outcome) in
    let fresh = refreshes from a.auth b.auth now stream same in
    let realm : a.auth.realm ≡ b.auth.realm = sym same.realm in
    record {
      left = record { auth = after; grants = b.grants ++ grants_of bytes from what };
      answer = inr (record {
        name = is.name;
        algorithm = is.algorithm;
        judged = record {
          accepts = ((answers_alike from (refreshed a.auth from now stream) (refreshed b.auth from now stream) fresh).accepts bytes is.algorithm is.name).0 is.judged.accepts;
          after = refl;
        };
        password = is.password;
        present = ap (λ users. map.get users is.name) same.users ∙ is.present;
        text = is.text ∙ ap (λ (r : List ℕ). signed_text (reply_type bytes what) (number_at bytes) (reply_attributes bytes from what) (user_key r is.name is.password is.algorithm) is.algorithm) realm;
        read = subst (λ (r : List ℕ). IsReadAs (reply_type bytes what) (number_at bytes)
            (signed_attributes (reply_type bytes what) (number_at bytes) (reply_attributes bytes from what) (user_key r is.name is.password is.algorithm) is.algorithm) reply) realm is.read;
        valid = subst (λ (r : List ℕ). Validates reply (user_key r is.name is.password is.algorithm) is.algorithm
            (text_to_sign is.algorithm (message_text (reply_type bytes what) (number_at bytes) (reply_attributes bytes from what)))) realm is.valid;
        granted = refl;
      });
      same = subst (λ (s : Server). SameFor from s after) (sym is.judged.after) (judges from a.auth b.auth now stream (Some outcome) same);
      grants = grants_of bytes from what;
      here = is.granted;
      there = refl;
    }

pub answered_alike : (a b : State) (from : SocketAddr) (bytes : List ℕ) (now : ℕ) (stream : Stream) (decision : Decision) (reply : List ℕ) (new : State) → SameFor from a.auth b.auth
    → IsAnswer a from bytes now stream decision reply new → IsAnsweredAlike a b from bytes now stream decision reply new
answered_alike a b from bytes now stream decision reply new same (inl is) = challenged_alike a b from bytes now stream decision reply new same is
answered_alike a b from bytes now stream decision reply new same (inr is) = verdict_alike a b from bytes now stream decision reply new same is
