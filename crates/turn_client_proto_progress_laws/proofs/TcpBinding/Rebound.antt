-- A challenge to a client's CONNECTION_BIND comes over the socket, by the relation `IsProcessedAt` alone.
use Rattle.std.proofs.Common.{◌≡◌, ℕ, ◌<◌, ◌^◌, List, [], ◌∷◌, Option, Some, None, refl, sym, ap, ◌∙◌, subst, inl, inr}
use Rattle.std.specs.Option.{option_or}
use Rattle.std.specs.Prelude.{Result, Ok, Err}
use Rattle.std.specs.declared.net.socket_addr.SocketAddr.{SocketAddr}
use Rattle.turn_client_proto_messages.specs.StunTypesIntegrity.Credentials.{NameAndPassword}
use Rattle.turn_client_proto_messages.specs.StunTypesWire.declared.algorithm.IntegrityAlgorithm.{IntegrityAlgorithm}
use Rattle.turn_client_proto_messages.specs.StunProtoClient.Challenges.{ChallengeFields, challenge_visible, is_anonymous_enough, is_listed_enough, list_for_choice}
use Rattle.turn_client_proto_messages.specs.StunProtoClient.Choice.{is_common}
use Rattle.turn_client_proto_messages.specs.StunProtoClient.Client as auth
use Rattle.turn_client_proto_messages.specs.StunProtoClient.declared.error.LongTermClientAuthError.{LongTermClientAuthError}
use Rattle.turn_client_proto_messages.specs.StunProtoClient.declared.error.LongTermClientAuthError.TheVariants.{Unauthorized, IntegrityFailed, UnsupportedFeature, NoMemory}
use Rattle.turn_client_proto_messages.specs.StunProtoClient.ClientValidation.{IsAnswerable, IsTaken, IsUnanswerable, keeping}
use Rattle.turn_client_proto_messages.specs.StunProtoClient.declared.validation.LongTermClientValidation.{LongTermClientValidation}
use Rattle.turn_client_proto_messages.specs.StunProtoClient.declared.validation.LongTermClientValidation.TheVariants.{ResendRequest, Validated}
use Rattle.turn_client_proto_messages.specs.TurnTypesAttributes.TurnRegistry.{connection_bind_method}
use Rattle.turn_client_proto_messages.specs.Allocation.declared.allocation.Allocation.{Allocation}
use Rattle.turn_client_proto_messages.specs.Allocation.declared.permission.Permission.{Permission}
use Rattle.turn_client_proto_messages.specs.Api.declared.event.TurnEvent.{TurnEvent}
use Rattle.turn_client_proto_step_laws.specs.Connection.Streams.{waits_from}
use Rattle.turn_client_proto_handshake_laws.specs.Core.Numbering.{after_draw}
use Rattle.turn_client_proto_handshake_laws.specs.Core.Responding.{judged}
use Rattle.turn_client_proto_handshake_laws.specs.Core.declared.protocol.Protocol.{Protocol}
use Rattle.turn_client_proto_messages.specs.Judging.{IsJudged}
use Rattle.turn_client_proto_messages.specs.declared.request.TurnRequest.TheVariants.{ConnectionBind}
use Rattle.turn_client_proto_step_laws.specs.Recv.Processing.{IsAnswerJudged, IsRequestedAnew, IsProcessedAt, requested_anew}
use Rattle.turn_client_proto_handshake_laws.specs.Requested.{Requested}
use Rattle.turn_client_proto_progress_laws.proofs.TcpBinding.Tools.{challenges_respond}
use Rattle.turn_client_proto_progress_laws.proofs.TcpBinding.Tools.{clash}
use Rattle.turn_client_proto_progress_laws.proofs.TcpBinding.Tools.{AreNumbered, StayRead, StayShort}
use Rattle.turn_client_proto_progress_laws.specs.Holders.{CanSign, Holder}
use Rattle.turn_client_proto_progress_laws.specs.TcpBinding.{HasRequestedBind, HasSentBind, IsTcpBinding, allocation_of, awaited_of, bind_request, joining}
use Rattle.turn_client_proto_progress_laws.specs.Replies.{CanAnswer, IsChallengeOf, challenged_by}
use Rattle.turn_client_proto_progress_laws.proofs.TcpBinding.Asks.{has_requested, number_fits}
use Rattle.turn_client_proto_progress_laws.proofs.TcpBinding.Bound.{answer_processed, expected, waits_so}

-- A challenge that can be answered isn't one that can't.
none_barred : {A : Type 0} (client : auth.Client) (reported : ChallengeFields) (choice : IntegrityAlgorithm) → IsAnswerable client reported choice → IsUnanswerable client reported → A
none_barred client reported choice is (inl none) = clash (is_common client.algorithms client.hardened (list_for_choice client.hardened reported) choice) is.strongest.common (none choice)
none_barred client reported choice is (inr (inl named)) = clash (is_anonymous_enough client.anonymous_username reported.nonce) is.anonymous named
none_barred client reported choice is (inr (inr bare)) = clash (is_listed_enough client.hardened reported) is.listed bare

-- The client's account is that of the credentials in use.
account_is : (client : auth.Client) (s : auth.Standing) → auth.standing_of client ≡ Some s → client.account ≡ Some s.account
account_is client s is = by client.account client.challenge is
  where
    by : (a : Option NameAndPassword) (c : Option auth.Challenge) → auth.standing_by a c ≡ Some s → a ≡ Some s.account
    by (Some account) (Some challenge) is = ap (λ (o : Option auth.Standing). account_of o) is
      where
        account_of : Option auth.Standing → Option NameAndPassword
        account_of None = None
        account_of (Some x) = Some x.account
    by (Some account) None is = absurd (Prim.cc is)
    by None (Some challenge) is = absurd (Prim.cc is)
    by None None is = absurd (Prim.cc is)

module _ (h : Holder) (older : List Requested) (permissions : List Permission) (here peer : SocketAddr) (connection number made last : ℕ) (events : List TurnEvent) (p : Protocol)
    (w : HasSentBind h older permissions here peer connection number made last [] events p) (reported : ChallengeFields) (bytes : List ℕ) (is : IsChallengeOf reported connection_bind_method number bytes)
    (numbered : AreNumbered) (stay_short : StayShort) (stay_read : StayRead) where
  abbrev one : Requested
  one = bind_request h connection number made

  abbrev held : Allocation
  held = allocation_of h permissions (joining here peer connection number made [])

  -- The client that stores the challenge.
  module _ (choice : IntegrityAlgorithm) (answerable : CanAnswer h reported choice) (visible : challenge_visible bytes ≡ Some reported) where
    abbrev h2 : Holder
    h2 = challenged_by h reported choice

    taken : IsTaken h.auth bytes (ResendRequest choice) h2.auth
    taken = record { reported = reported; visible = visible; answerable = answerable; stored = refl }

    signs : CanSign h2
    signs = record {
      over = w.signs.over;
      relays = w.signs.relays;
      short = stay_short h.auth h2.auth bytes (Ok (ResendRequest choice)) taken w.signs.short;
      read = stay_read h.auth h2.auth bytes (Ok (ResendRequest choice)) taken w.signs.read;
      occurs = ap (λ (o : Option NameAndPassword). auth.standing_by o h2.auth.challenge) (ap (λ (o : Option NameAndPassword). option_or o h.auth.account) w.signs.settled ∙ account_is h.auth h.standing w.signs.occurs);
      settled = refl;
      goes_by = refl;
    }

    keeps : (client : auth.Client) → client ≡ h2.auth → IsTcpBinding h2 (Some one) older held [] last events (judged client p)
    keeps client client_is = record {
      settings = record {
        server = w.settings.server;
        remote = w.settings.remote;
        transport = w.settings.transport;
        here = w.settings.here;
        waits = w.settings.waits;
        allocates = w.settings.allocates;
        families = w.settings.families;
        options = w.settings.options;
        pace = w.settings.pace;
        indications = w.settings.indications;
        usual = w.settings.usual;
      };
      signs = signs;
      outstanding = w.outstanding;
      phase = w.phase;
      auth_is = client_is;
      allocations = w.allocations;
      queue_is = w.queue_is;
      last_send = w.last_send;
      events_are = w.events_are;
      closing = w.closing;
    }

  -- Another request is queued.
  pub record IsRequestedAgain (now : ℕ) (q : Protocol) : Type 0 where
    pub choice : IntegrityAlgorithm
    pub answerable : CanAnswer h reported choice
    pub next : ℕ
    pub fits : next < 2 ^ 96
    pub requested_is : HasRequestedBind (challenged_by h reported choice) (one ∷ older) permissions here peer connection next now last events q

  again : (now : ℕ) (q : Protocol) (choice : IntegrityAlgorithm) (answerable : CanAnswer h reported choice) (client : auth.Client) → client ≡ keeping h.auth reported choice → IsRequestedAnew here connection now (judged client p) q → IsRequestedAgain now q
  unfolding requested_anew
  again now q choice answerable client client_is k =
      let fits = number_fits (judged client p) k.number k.is_next in
      record {
        choice = choice;
        answerable = answerable;
        next = k.number;
        fits = fits;
        requested_is = subst (λ (x : Protocol). HasRequestedBind (challenged_by h reported choice) (one ∷ older) permissions here peer connection k.number now last events x) (sym k.after)
            (has_requested (challenged_by h reported choice) (Some one) older held [] last events (judged client p) (keeps choice answerable is.visible client client_is) (ConnectionBind connection) k.number now fits k.lawful numbered
            (allocation_of h permissions (joining here peer connection k.number now [])) (waits_from here (Some (awaited_of k.number now)) p.allocations)
            (waits_so h older permissions here peer connection number made last [] events p w (Some (awaited_of k.number now))) here here refl (after_draw p.rng));
      }

  none_decoded : {A : Type 0} → challenge_visible bytes ≡ None → A
  none_decoded none = absurd (Prim.cc (sym is.visible ∙ none))

  same_decoded : (other : ChallengeFields) → challenge_visible bytes ≡ Some other → other ≡ reported
  same_decoded other e = Prim.cc (sym e ∙ is.visible)

  by_verdict : (now : ℕ) (q : Protocol) (some : IntegrityAlgorithm) → CanAnswer h reported some → (verdict : Result LongTermClientValidation LongTermClientAuthError) (client : auth.Client) → IsJudged p.auth bytes verdict client
      → IsAnswerJudged verdict here (expected h older permissions here peer connection number made last [] events p w) (judged client p) bytes now q → IsRequestedAgain now q
  by_verdict now q some can (Ok (ResendRequest choice)) client j out =
      let same = same_decoded j.reported j.visible in
      let stored : client ≡ keeping h.auth reported choice = j.stored ∙ (ap (λ (t : ChallengeFields). keeping p.auth t choice) same ∙ ap (λ (x : auth.Client). keeping x reported choice) w.auth_is) in
      again now q choice (subst (λ (x : auth.Client). IsAnswerable x reported choice) w.auth_is (subst (λ (t : ChallengeFields). IsAnswerable p.auth t choice) same j.answerable)) client stored out
  by_verdict now q some can (Ok (Validated algorithm)) client j out = none_decoded j.no_challenge
  by_verdict now q some can (Err Unauthorized) client j out = none_decoded j.no_challenge
  by_verdict now q some can (Err (IntegrityFailed algorithm)) client j out = none_decoded j.no_challenge
  by_verdict now q some can (Err UnsupportedFeature) client j out =
      none_barred h.auth reported some can (subst (λ (x : auth.Client). IsUnanswerable x reported) w.auth_is (subst (λ (t : ChallengeFields). IsUnanswerable p.auth t) (same_decoded j.reported j.visible) j.unanswerable))
  by_verdict now q some can (Err NoMemory) client j out = absurd out

  pub challenge_processed : (now : ℕ) (q : Protocol) (some : IntegrityAlgorithm) → CanAnswer h reported some → IsProcessedAt here p bytes now q → IsRequestedAgain now q
  challenge_processed now q some can processed =
      let a = answer_processed h older permissions here peer connection number made last [] events p w bytes now q is.method_is (challenges_respond bytes reported is.visible) is.number_is processed in
      by_verdict now q some can a.verdict a.auth a.is_judged a.outcome
