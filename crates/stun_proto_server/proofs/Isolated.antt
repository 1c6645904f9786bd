-- Two servers that an address can't distinguish treat it alike.
use Rattle.std.proofs.Common.{◌≡◌, ◌≢◌, ℕ, List, Bool, true, false, Option, Some, None, cond, refl, sym, ap, ◌∙◌, subst, inl, inr}
use Rattle.std.specs.Prelude.{if◌then◌else◌}
use Rattle.std.specs.Cmp.{eq_by_cmp_equiv}
use Rattle.std.specs.FinMap as map
use Rattle.std.specs.Ordering.{is_eq}
use Rattle.std.specs.Option.{option_and_then, option_map}
use Rattle.std.specs.declared.net.socket_addr.SocketAddr.{SocketAddr}
use Rattle.rand_core.specs.Stream.{Stream}
use Rattle.stun_proto_verify.specs.Wire.declared.algorithm.IntegrityAlgorithm.{IntegrityAlgorithm}
use Rattle.stun_proto_verify.specs.Base.GeneratorWords.{words_of}
use Rattle.stun_proto_verify.specs.Base.SocketAddrs.{socket_addr_cmp, socket_addr_cmp_total}
use Rattle.stun_proto_verify.specs.Auth.Nonce.{features_offered, nonce_text}
use Rattle.stun_proto_verify.specs.Auth.SupportedAlgorithms.{with_algorithm}
use Rattle.stun_proto_verify.specs.Auth.declared.nonce.TheConstants.{NONCE_WORDS}
use Rattle.stun_proto_verify.specs.Auth.Claims.{Claimed, claimed}
use Rattle.stun_proto_verify.specs.declared.error.LongTermServerAuthError.{LongTermServerAuthError}
use Rattle.stun_proto_verify.specs.Knowledge.{Knowledge, Named, Outcome}
use Rattle.stun_proto_verify.specs.Judgement.{IsRefused, ServerAccepts}
use Rattle.stun_proto_server.specs.Isolation.{AnswersAlike, LeavesAlike, LeavesAlone, SetsAlike}
use Rattle.stun_proto_server.specs.Server.{Client, SameFor, Server, has_standing_nonce, is_standing, makes_room, new_client, room_for, refreshed, set_outcome, with_new_nonce, with_outcome}
use Rattle.stun_proto_server.specs.ServerSigning.{Party, addition, party_at, party_by_client, party_by_outcome, party_by_password}
use Rattle.stun_proto_server.specs.ServerValidation.{Accepts, AcceptsSome, Refuses, WantsMemory, known_of}
use Rattle.stun_proto_server.specs.Users.{IsClaimedName, IsFound, IsUser}
use Rattle.stun_proto_server.proofs.Apart.{generated_others, outcome_others, removed_others, same_for-refl}

-- Indistinguishability for an address is symmetric.
pub turned : (client : SocketAddr) (a b : Server) → SameFor client a b → SameFor client b a
turned client a b same = record {
  realm = sym same.realm;
  users = sym same.users;
  nonce_expiry = sym same.nonce_expiry;
  algorithms = sym same.algorithms;
  anonymous_username = sym same.anonymous_username;
  max_clients = sym same.max_clients;
  stored = sym same.stored;
}

-- An address compares as equal to itself.
pub same_itself : (client : SocketAddr) → is_eq (socket_addr_cmp client client) ≡ true
same_itself client = (eq_by_cmp_equiv socket_addr_cmp_total).refl client

-- ---- what is stored for the address

-- What is stored for an address is found for it.
own_inserted : (m : map.FinMap socket_addr_cmp Client) (client : SocketAddr) (stored : Client) → map.get (map.insert m client stored) client ≡ Some stored
own_inserted m client stored =
    let same : is_eq (socket_addr_cmp client client) ≡ true = (eq_by_cmp_equiv socket_addr_cmp_total).refl client in
    map.get-insert socket_addr_cmp_total m client stored client ∙ ap (λ b. cond b (Some stored) (map.get m client)) same

-- After its removal nothing is found for an address.
own_removed : (m : map.FinMap socket_addr_cmp Client) (client : SocketAddr) → map.get (map.remove m client) client ≡ None
own_removed m client =
    let same : is_eq (socket_addr_cmp client client) ≡ true = (eq_by_cmp_equiv socket_addr_cmp_total).refl client in
    map.get-remove socket_addr_cmp_total m client client ∙ ap (λ b. cond b None (map.get m client)) same

-- An outcome is stored with what is found for the address.
own_outcome : (m : map.FinMap socket_addr_cmp Client) (client : SocketAddr) (outcome : Option Outcome) (found : Option Client) → map.get m client ≡ found
    → map.get (set_outcome m client outcome found) client ≡ option_map (λ (stored : Client). record stored { outcome = outcome }) found
own_outcome m client outcome None is = is
own_outcome m client outcome (Some stored) is = own_inserted m client (record stored { outcome = outcome })

standing_alike : (client : SocketAddr) (a b : Server) (now : ℕ) → SameFor client a b → has_standing_nonce b client now ≡ has_standing_nonce a client now
standing_alike client a b now same = λ i. is_standing (same.nonce_expiry i) now (same.stored i)

-- ---- what its calls leave

generated_alike : (client : SocketAddr) (a b : Server) (now : ℕ) (stream : Stream) → SameFor client a b → SameFor client (with_new_nonce a client now stream) (with_new_nonce b client now stream)
generated_alike client a b now stream same =
    let new : new_client b now stream ≡ new_client a now stream =
    (λ i. record { nonce = nonce_text (features_offered (same.algorithms i) (same.anonymous_username i)) (words_of NONCE_WORDS stream); generated = now; outcome = None }) in
    record {
      realm = same.realm;
      users = same.users;
      nonce_expiry = same.nonce_expiry;
      algorithms = same.algorithms;
      anonymous_username = same.anonymous_username;
      max_clients = same.max_clients;
      stored = own_inserted (room_for b.max_clients b.clients client) client (new_client b now stream) ∙ ap Some new
          ∙ sym (own_inserted (room_for a.max_clients a.clients client) client (new_client a now stream));
    }

by_standing : (client : SocketAddr) (a b new_a new_b : Server) (x y : Bool) → y ≡ x → SameFor client a b → SameFor client new_a new_b
    → SameFor client (if x then a else new_a) (if y then b else new_b)
by_standing client a b new_a new_b true true is old new = old
by_standing client a b new_a new_b false false is old new = new
by_standing client a b new_a new_b true false is old new = absurd (Prim.cc is)
by_standing client a b new_a new_b false true is old new = absurd (Prim.cc is)

refreshed_alike : (client : SocketAddr) (a b : Server) (now : ℕ) (stream : Stream) → SameFor client a b → SameFor client (refreshed a client now stream) (refreshed b client now stream)
refreshed_alike client a b now stream same =
    by_standing client a b (with_new_nonce a client now stream) (with_new_nonce b client now stream) (has_standing_nonce a client now) (has_standing_nonce b client now)
    (standing_alike client a b now same) same (generated_alike client a b now stream same)

stored_alike : (client : SocketAddr) (a b : Server) (outcome : Option Outcome) → SameFor client a b → SameFor client (with_outcome a client outcome) (with_outcome b client outcome)
stored_alike client a b outcome same = record {
  realm = same.realm;
  users = same.users;
  nonce_expiry = same.nonce_expiry;
  algorithms = same.algorithms;
  anonymous_username = same.anonymous_username;
  max_clients = same.max_clients;
  stored = own_outcome b.clients client outcome (map.get b.clients client) refl
      ∙ ap (option_map (λ (stored : Client). record stored { outcome = outcome })) same.stored
      ∙ sym (own_outcome a.clients client outcome (map.get a.clients client) refl);
}

pub leaves_alike : (client : SocketAddr) (a b : Server) → SameFor client a b → LeavesAlike client a b
leaves_alike client a b same = record {
  refreshes = λ now stream. refreshed_alike client a b now stream same;
  keeps = λ outcome. stored_alike client a b outcome same;
  forgets = record {
    realm = same.realm;
    users = same.users;
    nonce_expiry = same.nonce_expiry;
    algorithms = same.algorithms;
    anonymous_username = same.anonymous_username;
    max_clients = same.max_clients;
    stored = own_removed b.clients client ∙ sym (own_removed a.clients client);
  };
}

pub sets_alike : (client : SocketAddr) (a b : Server) → SameFor client a b → SetsAlike client a b
sets_alike client a b same = record {
  user_added = λ name password. record {
    realm = same.realm;
    users = ap (λ m. map.insert m name password) same.users;
    nonce_expiry = same.nonce_expiry;
    algorithms = same.algorithms;
    anonymous_username = same.anonymous_username;
    max_clients = same.max_clients;
    stored = same.stored;
  };
  user_removed = λ name. record {
    realm = same.realm;
    users = ap (λ m. map.remove m name) same.users;
    nonce_expiry = same.nonce_expiry;
    algorithms = same.algorithms;
    anonymous_username = same.anonymous_username;
    max_clients = same.max_clients;
    stored = same.stored;
  };
  expiry_set = λ expiry. record {
    realm = same.realm;
    users = same.users;
    nonce_expiry = refl;
    algorithms = same.algorithms;
    anonymous_username = same.anonymous_username;
    max_clients = same.max_clients;
    stored = same.stored;
  };
  algorithm_added = λ algorithm. record {
    realm = same.realm;
    users = same.users;
    nonce_expiry = same.nonce_expiry;
    algorithms = ap (λ all. with_algorithm all algorithm) same.algorithms;
    anonymous_username = same.anonymous_username;
    max_clients = same.max_clients;
    stored = same.stored;
  };
  algorithm_set = λ algorithm. record {
    realm = same.realm;
    users = same.users;
    nonce_expiry = same.nonce_expiry;
    algorithms = refl;
    anonymous_username = same.anonymous_username;
    max_clients = same.max_clients;
    stored = same.stored;
  };
  anonymity_set = λ feature. record {
    realm = same.realm;
    users = same.users;
    nonce_expiry = same.nonce_expiry;
    algorithms = same.algorithms;
    anonymous_username = refl;
    max_clients = same.max_clients;
    stored = same.stored;
  };
  limit_set = λ most. record {
    realm = same.realm;
    users = same.users;
    nonce_expiry = same.nonce_expiry;
    algorithms = same.algorithms;
    anonymous_username = same.anonymous_username;
    max_clients = refl;
    stored = same.stored;
  };
}

-- ---- its result

known_alike : (client : SocketAddr) (a b : Server) (found : Option Named) → SameFor client a b → known_of a client found ≡ known_of b client found
known_alike client a b found same = sym (λ i. record {
  realm = same.realm i;
  algorithms = same.algorithms i;
  anonymous_username = same.anonymous_username i;
  nonce = option_map (λ (stored : Client). stored.nonce) (same.stored i);
  user = found;
})

users_alike : (client : SocketAddr) (a b : Server) (claim : Claimed) (user : Named) → SameFor client a b
    → IsUser a (IsClaimedName a.realm claim.username claim.user_hash) user → IsUser b (IsClaimedName b.realm claim.username claim.user_hash) user
users_alike client a b claim user same is = record {
  present = ap (λ users. map.get users user.name) same.users ∙ is.present;
  named = subst (λ realm. IsClaimedName realm claim.username claim.user_hash user.name) (sym same.realm) is.named;
}

found_alike : (client : SocketAddr) (a b : Server) (claim : Claimed) (found : Option Named) → SameFor client a b → IsFound a claim found → IsFound b claim found
found_alike client a b claim None same is = λ user other. is user (users_alike client b a claim user (turned client a b same) other)
found_alike client a b claim (Some user) same is = users_alike client a b claim user same is

accepts_alike : (client : SocketAddr) (a b : Server) (bytes : List ℕ) (algorithm : IntegrityAlgorithm) (name : List ℕ) → SameFor client a b → Accepts a client bytes algorithm name → Accepts b client bytes algorithm name
accepts_alike client a b bytes algorithm name same is =
    let user : Named = record { name = name; password = is.password } in
    record {
      password = is.password;
      named = users_alike client a b (claimed bytes) user same is.named;
      judged = subst (λ (known : Knowledge). ServerAccepts known bytes algorithm name) (known_alike client a b (Some user) same) is.judged;
    }

refuses_alike : (client : SocketAddr) (a b : Server) (bytes : List ℕ) (error : LongTermServerAuthError) → SameFor client a b → Refuses a client bytes error → Refuses b client bytes error
refuses_alike client a b bytes error same is = record {
  found = is.found;
  is_found = λ no_response. found_alike client a b (claimed bytes) is.found same (is.is_found no_response);
  refused = subst (λ (known : Knowledge). IsRefused known bytes error) (known_alike client a b is.found same) is.refused;
}

some_alike : (client : SocketAddr) (a b : Server) (bytes : List ℕ) → SameFor client a b → AcceptsSome a client bytes → AcceptsSome b client bytes
some_alike client a b bytes same is = record {
  algorithm = is.algorithm;
  name = is.name;
  accepts = accepts_alike client a b bytes is.algorithm is.name same is.accepts;
}

wants_alike : (client : SocketAddr) (a b : Server) (bytes : List ℕ) (now : ℕ) (stream : Stream) → SameFor client a b → WantsMemory a client bytes now stream → WantsMemory b client bytes now stream
wants_alike client a b bytes now stream same is = record {
  no_response = is.no_response;
  due = elim is.due [
    | inl none ↦ inl (standing_alike client a b now same ∙ none)
    | inr some ↦ inr (some_alike client (refreshed a client now stream) (refreshed b client now stream) bytes (refreshed_alike client a b now stream same) some)
  ];
}

-- ---- what is added for it

by_password : (client : SocketAddr) (a b : Server) (nonce : List ℕ) (outcome : Outcome) (password : Option (List ℕ)) → SameFor client a b → party_by_password b nonce outcome password ≡ party_by_password a nonce outcome password
by_password client a b nonce outcome None same = refl
by_password client a b nonce outcome (Some password) same = λ i. Some (record {
  realm = same.realm i;
  nonce = nonce;
  algorithms = same.algorithms i;
  user = Some (record { name = outcome.name; password = password; algorithm = outcome.algorithm });
})

by_outcome : (client : SocketAddr) (a b : Server) (nonce : List ℕ) (outcome : Option Outcome) → SameFor client a b → party_by_outcome b nonce outcome ≡ party_by_outcome a nonce outcome
by_outcome client a b nonce None same = λ i. Some (record { realm = same.realm i; nonce = nonce; algorithms = same.algorithms i; user = None })
by_outcome client a b nonce (Some outcome) same =
    ap (party_by_password b nonce outcome) (ap (λ users. map.get users outcome.name) same.users) ∙ by_password client a b nonce outcome (map.get a.users outcome.name) same

by_client : (client : SocketAddr) (a b : Server) (stored : Option Client) → SameFor client a b → party_by_client b stored ≡ party_by_client a stored
by_client client a b None same = refl
by_client client a b (Some stored) same = by_outcome client a b stored.nonce stored.outcome same

party_alike : (client : SocketAddr) (a b : Server) → SameFor client a b → party_at b client ≡ party_at a client
party_alike client a b same = ap (party_by_client b) same.stored ∙ by_client client a b (map.get a.clients client) same

pub answers_alike : (client : SocketAddr) (a b : Server) → SameFor client a b → AnswersAlike client a b
answers_alike client a b same =
    let back = turned client a b same in
    record {
      nonce = ap (option_map (λ (stored : Client). stored.nonce)) same.stored;
      outcome = ap (option_and_then (λ (stored : Client). stored.outcome)) same.stored;
      generated = λ now. ap (λ (b : Bool). if b then 0 else NONCE_WORDS) (standing_alike client a b now same);
      accepts = λ bytes algorithm name. (accepts_alike client a b bytes algorithm name same, accepts_alike client b a bytes algorithm name back);
      refuses = λ bytes error. (refuses_alike client a b bytes error same, refuses_alike client b a bytes error back);
      wants = λ bytes now stream. (wants_alike client a b bytes now stream same, wants_alike client b a bytes now stream back);
      adds = λ class. ap (option_and_then (λ (p : Party). addition p class)) (party_alike client a b same);
    }

-- ---- what others do

refreshed_others : (client other : SocketAddr) (server : Server) (now : ℕ) (stream : Stream) → client ≢ other → makes_room server other ≡ false → SameFor client server (refreshed server other now stream)
refreshed_others client other server now stream different none =
    elim (has_standing_nonce server other now) as (λ b. SameFor client server (if b then server else with_new_nonce server other now stream)) [
      | true ↦ same_for-refl client server server refl
      | false ↦ generated_others server (with_new_nonce server other now stream) other client now stream refl different none
    ]

pub leaves_alone : (client other : SocketAddr) (server : Server) → client ≢ other → LeavesAlone client other server
leaves_alone client other server different = record {
  refreshes = λ now stream none. refreshed_others client other server now stream different none;
  keeps = λ outcome. outcome_others server (with_outcome server other outcome) other client outcome refl different;
  forgets = removed_others server (record server { clients = map.remove server.clients other }) other client refl different;
}
