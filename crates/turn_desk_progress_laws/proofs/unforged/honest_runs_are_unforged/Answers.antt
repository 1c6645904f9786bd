use Rattle.std.proofs.Common.{◌≡◌, ℕ, ◌≤◌, ◌^◌, List, [], ◌∷◌, ◌++◌, Option, Some, None, refl, sym, ap, ◌∙◌, subst, inl, inr, append_assoc}
use Rattle.std.proofs.lemmas.List.{append-nil}
use Rattle.std.specs.List.{AllByRecursion}
use Rattle.std.specs.Option.{option_map}
use Rattle.std.specs.Prelude.{Vec}
use Rattle.std.specs.declared.alloc.Global.{Global}
use Rattle.std.specs.declared.net.socket_addr.SocketAddr.{SocketAddr}
use Rattle.turn_client_proto_messages.specs.StunTypesIntegrity.Credentials.{Key}
use Rattle.turn_desk_core.specs.StunTypesWire.Grammar.{number_at}
use Rattle.turn_desk_core.specs.StunTypesWire.Headers.{AreBytes}
use Rattle.turn_client_proto_messages.specs.StunTypesIntegrity.Integrity.{Validates}
use Rattle.turn_desk_core.specs.StunTypesWire.declared.algorithm.IntegrityAlgorithm.{IntegrityAlgorithm}
use Rattle.turn_desk_core.specs.StunTypesBase.declared.transport.TransportType.{TransportType}
use Rattle.turn_desk_core.specs.StunTypesBase.declared.transport.TransportType.TheVariants.{Udp, Tcp}
use Rattle.turn_client_proto_messages.specs.StunProtoClient.Challenges.{ChallengeFields, challenge_visible}
use Rattle.turn_client_proto_messages.specs.StunProtoClient.Client.{account_key, standing_key}
use Rattle.turn_client_proto_messages.specs.declared.request.TurnRequest.TheVariants.{FirstAllocate}
use Rattle.turn_client_proto_api.specs.TurnTypesFrame.Streams.{alive}
use Rattle.turn_client_proto_api.specs.declared.event.TurnEvent.{TurnEvent}
use Rattle.turn_client_proto_handshake_laws.specs.Requested.{Requested as SentRequest, sent_of as requested_sent}
use Rattle.turn_client_proto_handshake_laws.specs.Choosing.{signed_requested, standing_by}
use Rattle.turn_client_proto_handshake_laws.specs.Coming.{IsPartOf, IsUnserved}
use Rattle.turn_client_proto_api.specs.Sent.{Sent, sent_of}
use Rattle.turn_client_proto_messages.specs.Judging.{signer_of}
use Rattle.turn_client_proto_handshake_laws.specs.Sent.{Begins, first_number, first_request}
use Rattle.turn_client_proto_handshake_laws.specs.Stages.{first_requested}
use Rattle.turn_desk_step_laws.proofs.Requesting.{is_unsigned}
use Rattle.turn_client_proto_messages.specs.TurnRuns.Chains.{steps_of}
use Rattle.turn_desk_step_laws.specs.DeskRun.{DeskCall}
use Rattle.turn_client_proto_step_laws.specs.Recv.Control.{Datagrams, Open}
use Rattle.turn_desk_world_laws.specs.World.Desks.{IsReply}
use Rattle.turn_client_proto_step_laws.specs.Recv.ClientState.{ClientState, Protocol}
use Rattle.turn_client_proto_messages.specs.TurnRuns.Members.{IsIn}
use Rattle.turn_desk_world_laws.specs.World.Model.{World}
use Rattle.turn_client_proto_step_laws.specs.RunClient.{Client}
use Rattle.turn_desk_world_laws.specs.World.Runs.{IsRun, IsStep}
use Rattle.turn_client_proto_messages.specs.TurnRuns.Runs.{AtClient, AtDesk, AtEach, AtSome, IsAuthentic, IsKeyOf, IsRealmOf, IsSigned, IsSignedByDesk, NamesRealm, NoForgery, Step, WasSigned}
use Rattle.turn_desk_world_laws.specs.Safety.{BeginsNew, words}
use Rattle.turn_desk_core.specs.State.{State}
use Rattle.turn_desk_core.specs.Steps.{key_at}
use Rattle.turn_client_proto_messages.specs.TurnRuns.Steps.{Call as RunCall}
use Rattle.turn_client_proto_messages.specs.TurnRuns.StunWire.{AreValid, key_in, stun_wire}
use Rattle.turn_desk_world_laws.specs.Reported.{AreCallsBy, AreCallsOfBytes, AreStepsBy, AreStepsOfClient, IsFair, IsReportedBy, desk_call, raw_requested}
use Rattle.turn_desk_event.specs.declared.answer.Answer.{Answer}
use Rattle.turn_desk_event.specs.declared.answer.Answer.TheVariants as answer
use Rattle.turn_desk_core.specs.declared.decision.Decision.{Decision}
use Rattle.turn_desk_core.specs.declared.decision.Decision.TheVariants as by
use Rattle.turn_desk_event.specs.declared.event.ClientCall.TheVariants as call
use Rattle.turn_desk_event.specs.declared.event.Event.{Event}
use Rattle.turn_desk_event.specs.declared.event.Event.TheVariants.{Call, Draw, ToClient, ToDesk}
use Rattle.turn_desk_progress_laws.specs.Promises.{IsFresh, IsStrongestOf, control_at, event_in, over}
use Rattle.turn_desk_progress_laws.specs.Scripts.{AskFirst, AskSecond, Requested, Barred, BringsOn, Came, Challenged, Done, DrawFirst, DrawSecond, DrawsOn, Follows, GiveFirst, GiveSecond, Granted, IsScript, Looks, Progress, Plan, Polls, Receives, Signed, Silent, Start, brought_first, brought_second, transmitted_first, transmitted_second, replied_first, replied_second}
use Rattle.turn_desk_progress_laws.specs.Standing.{IsReplied, IsAtStage}
use Rattle.turn_desk_progress_laws.specs.Unforged.{ArrivesSigned, IsReplySigned, IsReportedUnforged, first_of}
use Rattle.turn_desk_progress_laws.proofs.Arriving.{Arrives, NoneArrive, arrives, looks_bring_none, one_call, waiting_brings_none}
use Rattle.turn_desk_progress_laws.proofs.Simulation.{strongest_of_both}
use Rattle.turn_desk_progress_laws.proofs.Indexes.{first_fits, first_in_range}
use Rattle.turn_desk_progress_laws.proofs.Replying.{IsUnsigned, challenge_unsigned, never_valid, one_algorithm}
use Rattle.turn_desk_progress_laws.proofs.Serving.{choice_of, unserved_of}
use Rattle.turn_desk_progress_laws.proofs.unforged.honest_runs_are_unforged.Goals as goal

abbrev Steps : Type 0
Steps = List (Step Client DeskCall)

-- ---- lists of steps

some_after : (P : Step Client DeskCall → Steps → Type 0) (more done : Steps) → AtSome P done → AtSome P (more ++ done)
some_after P [] done is = is
some_after P (s ∷ more) done is = inr (some_after P more done is)

some_follow : (P Q : Step Client DeskCall → Steps → Type 0) (run : Steps) → ((s : Step Client DeskCall) (earlier : Steps) → P s earlier → Q s earlier) → AtSome P run → AtSome Q run
some_follow P Q [] each is = absurd is
some_follow P Q (s ∷ run) each (inl is) = inl (each s run is)
some_follow P Q (s ∷ run) each (inr is) = inr (some_follow P Q run each is)

each_follow : (P Q : Step Client DeskCall → Steps → Type 0) (run : Steps) → ((s : Step Client DeskCall) (earlier : Steps) → P s earlier → Q s earlier) → AtEach P run → AtEach Q run
each_follow P Q [] each is = tt
each_follow P Q (s ∷ run) each is = (each s run is.0, each_follow P Q run each is.1)

-- A message arrives in the oldest of some calls.
some_arrives : (P : Step Client DeskCall → Steps → Type 0) (later : List (RunCall Client)) (call : RunCall Client) (done : Steps) → P (AtClient call) done → AtSome P (steps_of (later ++ call ∷ []) ++ done)
some_arrives P [] call done is = inl is
some_arrives P (one ∷ later) call done is = inr (some_arrives P later call done is)

only_one : (bytes message : List ℕ) → IsIn bytes (message ∷ []) → message ≡ bytes
only_one bytes message (inl is) = is
only_one bytes message (inr none) = absurd none

module _ (plan : Plan) (old : World) (core : Protocol) where
  abbrev realm : List ℕ
  realm = old.desk.auth.realm

  -- The client's key in the server core's realm.
  abbrev own_key : IntegrityAlgorithm → List ℕ
  own_key a = key_in plan.client.config.credentials realm a

  -- ---- what no step of an honest run breaks

  -- What validates under a key of the client's was signed before.
  abbrev WereSigned : (bytes : List ℕ) → Steps → Type 0
  WereSigned bytes earlier = (key text : List ℕ) (a : IntegrityAlgorithm) → key ≡ own_key a → AreValid bytes key a text → WasSigned words key a text earlier

  -- No other realm than the server core's is named.
  abbrev NamesNoOther : (bytes : List ℕ) → Type 0
  NamesNoOther bytes = (r : List ℕ) → stun_wire.reported_realm bytes ≡ Some r → r ≡ realm

  abbrev IsHonest : Step Client DeskCall → Steps → Type 0
  IsHonest (AtClient call) earlier = (bytes : List ℕ) → IsIn bytes call.came → NamesNoOther bytes × WereSigned bytes earlier
  IsHonest (AtDesk d) earlier = (d.before.auth.realm ≡ realm) × WereSigned d.bytes earlier

  none_honest : (call : RunCall Client) (done : Steps) → call.came ≡ [] → IsHonest (AtClient call) done
  none_honest call done none = λ bytes is. absurd (subst (λ (l : List (List ℕ)). IsIn bytes l) none is)

  none_arrive : (calls : List (RunCall Client)) (done : Steps) → NoneArrive calls → AtEach IsHonest done → AtEach IsHonest (steps_of calls ++ done)
  none_arrive [] done none each = each
  none_arrive (call ∷ calls) done none each = (none_honest call (steps_of calls ++ done) none.0, none_arrive calls done none.1 each)

  one_arrives : (message : List ℕ) (later : List (RunCall Client)) (call : RunCall Client) (done : Steps) → NoneArrive later → call.came ≡ message ∷ [] → NamesNoOther message × WereSigned message done → AtEach IsHonest done
      → AtEach IsHonest (steps_of (later ++ call ∷ []) ++ done)
  one_arrives message [] call done none came is each =
      (λ bytes there. subst (λ (l : List ℕ). NamesNoOther l × WereSigned l done) (only_one bytes message (subst (λ (l : List (List ℕ)). IsIn bytes l) came there)) is, each)
  one_arrives message (one ∷ later) call done none came is each = (none_honest one (steps_of (later ++ call ∷ []) ++ done) none.0, one_arrives message later call done none.1 came is each)

  -- ---- what is so at an index

  -- The server core signed this reply in some step, under the client's key, by one algorithm.
  record IsSealed (request : Sent) (reply : List ℕ) (done : Steps) : Type 0 where
    algorithm : IntegrityAlgorithm
    strongest : IsStrongestOf plan.client.config.algorithms old.desk.auth.algorithms algorithm
    number : number_at reply ≡ number_at request.bytes
    text : List ℕ
    valid : AreValid reply (own_key algorithm) algorithm text
    no_challenge : challenge_visible reply ≡ None
    named : AtSome (λ s _. NamesRealm words realm s) done
    signed : (key covered : List ℕ) (a : IntegrityAlgorithm) → key ≡ own_key a → AreValid reply key a covered → AtSome (λ one _. IsSignedByDesk words key a covered one) done

  -- The client transmitted these bytes in this step.
  abbrev Draws : (bytes : List ℕ) → Step Client DeskCall → Type 0
  Draws bytes (AtClient call) = call.transmitted ≡ Some bytes
  Draws bytes (AtDesk d) = ⊥

  abbrev IsSo : Progress → Steps → Type 0
  IsSo Start done = Unit {0}
  IsSo (Requested request) done = IsUnsigned request.bytes
  IsSo (Challenged request reply head) done = IsUnsigned reply × NamesNoOther reply
  IsSo Came done = Unit {0}
  IsSo (Signed request) done = AtSome (λ s _. Draws request.bytes s) done
  IsSo (Granted request address lifetime reply head) done = IsSealed request reply done
  IsSo (Done request address lifetime reply) done = IsReplySigned plan old (first_of plan core) request reply done
  IsSo Barred done = Unit {0}
  IsSo Silent done = Unit {0}

  realm_after : (r : List ℕ) (more done : Steps) → IsRealmOf words (first_of plan core) done r → IsRealmOf words (first_of plan core) (more ++ done) r
  realm_after r more done (inl is) = inl is
  realm_after r more done (inr is) = inr (some_after (λ s _. NamesRealm words r s) more done is)

  grows : (progress : Progress) (more done : Steps) → IsSo progress done → IsSo progress (more ++ done)
  grows Start more done is = tt
  grows (Requested request) more done is = is
  grows (Challenged request reply head) more done is = is
  grows Came more done is = tt
  grows (Signed request) more done is = some_after (λ s _. Draws request.bytes s) more done is
  grows (Granted request address lifetime reply head) more done is = record {
    algorithm = is.algorithm;
    strongest = is.strongest;
    number = is.number;
    text = is.text;
    valid = is.valid;
    no_challenge = is.no_challenge;
    named = some_after (λ s _. NamesRealm words realm s) more done is.named;
    signed = λ key covered a own valid. some_after (λ one _. IsSignedByDesk words key a covered one) more done (is.signed key covered a own valid);
  }
  grows (Done request address lifetime reply) more done is = record {
    algorithm = is.algorithm;
    strongest = is.strongest;
    number = is.number;
    counts = (is.counts.0, realm_after is.counts.0 more done is.counts.1, is.counts.2);
    text = is.text;
    valid = is.valid;
    arrives = some_after (ArrivesSigned reply (own_key is.algorithm) is.algorithm is.text) more done is.arrives;
  }
  grows Barred more done is = tt
  grows Silent more done is = tt

  -- ---- one event

  module _ (c : goal.After-stages_are_unserved) (fresh : IsFresh plan old) (w v : World) (reported : List TurnEvent) (ret : Answer) (steps done : Steps) (each : AtEach IsHonest done) where
    abbrev Goes : Progress → Type 0
    Goes to = AtEach IsHonest (steps ++ done) × IsSo to (steps ++ done)

    -- The steps are those of some calls.
    of_calls : (to : Progress) (calls : List (RunCall Client)) → steps ≡ steps_of calls → AtEach IsHonest (steps_of calls ++ done) → IsSo to (steps_of calls ++ done) → Goes to
    of_calls to calls are is so = subst (λ (l : Steps). AtEach IsHonest (l ++ done) × IsSo to (l ++ done)) (sym are) (is, so)

    quiet : (happening : Event) (progress : Progress) → ((k : ClientState) (first last : Client) (calls : List (RunCall Client)) → AreCallsBy happening k ret first calls last → NoneArrive calls) → AreStepsOfClient happening ret w.client v.client steps
        → IsSo progress done → Goes progress
    quiet happening progress none is so = of_calls progress is.calls is.steps_are (none_arrive is.calls done (none is.stored is.first is.last is.calls is.are) each) (grows progress (steps_of is.calls) done so)

    -- The first request is not signed.
    first_request_unsigned : IsUnsigned (first_request plan.client)
    first_request_unsigned = is_unsigned (signer_of plan.client.config) plan.client.config.transport plan.client.config.families plan.client.config.options (first_number plan.client)
        (c.proof_requests_are_read.ensures.read (signer_of plan.client.config) (FirstAllocate plan.client.config.transport plan.client.config.families plan.client.config.options) (first_number plan.client)
        (c.new_clients_ask.ensures.short plan.client fresh.room) fresh.room.1 (first_fits plan.client))

    first_unsigned_so : (request : Sent) → request ≡ requested_sent plan.client (first_requested plan.client) → IsUnsigned request.bytes
    first_unsigned_so request is = subst (λ (r : Sent). IsUnsigned r.bytes) (sym is) first_request_unsigned

    draw_first : (ret : Answer) (all : Steps) → IsAtStage plan old (reported ++ event_in ret) (transmitted_first ret) v → IsSo (transmitted_first ret) all
    draw_first (answer.Transmit sent) all after = first_unsigned_so (sent_of sent) after.1.request_is
    draw_first _ all after = tt

    draws_first : AreStepsOfClient (Draw plan.client.made) ret w.client v.client steps → IsAtStage plan old (reported ++ event_in ret) (transmitted_first ret) v → Goes (transmitted_first ret)
    draws_first is after = of_calls (transmitted_first ret) is.calls is.steps_are (none_arrive is.calls done (one_call (Draw plan.client.made) ret is.first is.last is.calls refl is.are) each)
        (draw_first ret (steps_of is.calls ++ done) after)

    -- The second request is transmitted.
    draw_second : (ret : Answer) (first last : Client) (calls : List (RunCall Client)) → AreCallsBy (Draw plan.second) (over (control_at plan.client.transport []) core) ret first calls last → IsSo (transmitted_second ret) (steps_of calls ++ done)
    draw_second (answer.Transmit sent) first last calls is = subst (λ (l : List (RunCall Client)). AtSome (λ s _. Draws (sent_of sent).bytes s) (steps_of l ++ done)) (sym is.1) (inl is.4.transmitted_is)
    draw_second _ first last calls is = tt

    draws_second : AreStepsOfClient (Draw plan.second) ret w.client v.client steps → Goes (transmitted_second ret)
    draws_second is = of_calls (transmitted_second ret) is.calls is.steps_are (none_arrive is.calls done (one_call (Draw plan.second) ret is.first is.last is.calls refl is.are) each)
        (draw_second ret is.first is.last is.calls is.are)

    -- ---- at the desk

    at_desk : (to : Progress) (d : DeskCall) → steps ≡ AtDesk d ∷ [] → IsHonest (AtDesk d) done → IsSo to (AtDesk d ∷ done) → Goes to
    at_desk to d are is so = subst (λ (l : Steps). AtEach IsHonest (l ++ done) × IsSo to (l ++ done)) (sym are) ((is, each), so)

    ask_first : (request : Sent) (bytes : List ℕ) (decision : Decision) (seed : List ℕ) (all : Steps) → IsUnsigned bytes → (ret : Answer) → IsAtStage plan old (reported ++ event_in ret) (replied_first request ret) v
        → IsReply ret w.desk bytes request.from plan.client.made decision seed v.desk → IsSo (replied_first request ret) all
    ask_first request bytes decision seed all unsigned (answer.Reply reply) after is = (
      challenge_unsigned w.desk v.desk request.from bytes reply.items plan.client.made seed decision unsigned is.answer,
      λ r names. named_there r after.1.challenge.reported reply.items after.1.challenge.visible names ∙ after.1.challenge.realm,
    )
      where
        named_there : (r : List ℕ) (t : ChallengeFields) (l : List ℕ) → challenge_visible l ≡ Some t → stun_wire.reported_realm l ≡ Some r → r ≡ t.realm
        named_there r t l visible names =
            let same : Some r ≡ Some t.realm = sym names ∙ ap (option_map (λ (x : ChallengeFields). x.realm)) visible in
            Prim.cc same
    ask_first request bytes decision seed all unsigned _ after is = tt

    asks_first : (request : Sent) (bytes : Vec ℕ Global) (decision : Decision) (seed : List ℕ) → IsSo (Requested request) done → bytes.items ≡ request.bytes → IsAtStage plan old reported (Requested request) w
        → IsAtStage plan old (reported ++ event_in ret) (replied_first request ret) v → IsStep (ToDesk bytes request.from plan.client.made decision seed) w ret v
        → AreStepsBy (ToDesk bytes request.from plan.client.made decision seed) ret w steps v → Goes (replied_first request ret)
    asks_first request bytes decision seed unsigned same occurs after step are =
        let d = desk_call w bytes.items request.from plan.client.made decision seed ret v in
        let unsigned_too = subst (λ (l : List ℕ). IsUnsigned l) (sym same) unsigned in
        at_desk (replied_first request ret) d are
        (ap (λ (x : State). x.auth.realm) occurs.1.desk_is, λ key text a own valid. never_valid bytes.items key text a unsigned_too valid)
        (ask_first request bytes.items decision seed (AtDesk d ∷ done) unsigned_too ret after step.0.reply)

    -- The key that the server core has stored is the client's.
    stored_key : (alg a : IntegrityAlgorithm) (key there : List ℕ) (found : Option Key) → found ≡ Some (account_key plan.client.config.credentials there alg) → there ≡ realm → alg ≡ a → key ≡ own_key a → found ≡ Some (record { bytes = key; algorithm = a })
    stored_key alg a key there found is in_realm by_it own =
        is
        ∙ ap (λ (r : List ℕ). Some (account_key plan.client.config.credentials r alg)) in_realm
        ∙ ap (λ (x : IntegrityAlgorithm). Some (account_key plan.client.config.credentials realm x)) by_it
        ∙ ap (λ (k : List ℕ). Some (record { bytes = k; algorithm = a })) (sym own)

    sealed : (request : Sent) (bytes : List ℕ) (address : SocketAddr) (lifetime : ℕ) (seed reply : List ℕ) (answered : Vec ℕ Global) → AreBytes answered.items → w.desk.auth.realm ≡ realm → request.from ≡ plan.client.here
        → (is : IsReplied plan old request address lifetime answered.items [] v)
        → IsSealed request answered.items (AtDesk (desk_call w bytes request.from plan.second (by.Allocate (address ∷ []) lifetime) seed (answer.Reply answered) v) ∷ done)
    sealed request bytes address lifetime seed reply answered are_bytes in_realm from is =
        let b = plan.client in
        let g = is.is in
        let choice = is.choice in
        let requested = c.signed_allocates_answer.ensures.request b choice fresh.room fresh.text (choice_of plan choice is.client.core is.client.is) in
        let right = g.grant.right in
        record {
          algorithm = choice.algorithm;
          strongest = strongest_of_both b.config old.desk.auth choice.reported g.of choice.algorithm g.answered;
          number = g.grant.number ∙ sym (ap (λ (r : Sent). number_at r.bytes) g.request_is ∙ requested.number);
          text = right.text;
          valid = record {
            are_bytes = are_bytes;
            validates = subst (λ (r : List ℕ). Validates answered.items (account_key b.config.credentials r choice.algorithm).bytes choice.algorithm right.text) g.of.realm right.validates;
          };
          no_challenge = g.no_challenge;
          named = inl in_realm;
          signed = λ key covered a own valid. inl (
            answered.items,
            refl,
            record { key = key; signed = valid.validates.signed },
            record {
              reply = answered.items;
              replied = refl;
              stored = ap (λ (x : SocketAddr). key_at v.desk.auth x) from
                  ∙ stored_key choice.algorithm a key choice.reported.realm (key_at v.desk.auth b.here) g.keeps g.of.realm
                  (one_algorithm answered.items (standing_key (standing_by b choice)).bytes key right.text covered choice.algorithm a right.validates valid.validates) own;
            },
          );
        }

    ask_second : (request : Sent) (bytes : List ℕ) (address : SocketAddr) (lifetime : ℕ) (seed : List ℕ) → w.desk.auth.realm ≡ realm → request.from ≡ plan.client.here → (ret : Answer)
        → IsAtStage plan old (reported ++ event_in ret) (replied_second request address lifetime ret) v → IsReply ret w.desk bytes request.from plan.second (by.Allocate (address ∷ []) lifetime) seed v.desk
        → IsSo (replied_second request address lifetime ret) (AtDesk (desk_call w bytes request.from plan.second (by.Allocate (address ∷ []) lifetime) seed ret v) ∷ done)
    ask_second request bytes address lifetime seed in_realm from (answer.Reply reply) after is = sealed request bytes address lifetime seed reply.items reply is.are_bytes in_realm from after.1
    ask_second request bytes address lifetime seed in_realm from _ after is = tt

    transmitted_signed : (bytes key text : List ℕ) (a : IntegrityAlgorithm) → AreValid bytes key a text → (s : Step Client DeskCall) (earlier : Steps) → Draws bytes s → IsSigned words key a text s
    transmitted_signed bytes key text a valid (AtClient call) earlier is = inl (bytes, is, valid)
    transmitted_signed bytes key text a valid (AtDesk d) earlier is = absurd is

    asks_second : (request : Sent) (bytes : Vec ℕ Global) (address : SocketAddr) (lifetime : ℕ) (seed : List ℕ) → IsSo (Signed request) done → bytes.items ≡ request.bytes → IsAtStage plan old reported (Signed request) w
        → IsAtStage plan old (reported ++ event_in ret) (replied_second request address lifetime ret) v → IsStep (ToDesk bytes request.from plan.second (by.Allocate (address ∷ []) lifetime) seed) w ret v
        → AreStepsBy (ToDesk bytes request.from plan.second (by.Allocate (address ∷ []) lifetime) seed) ret w steps v → Goes (replied_second request address lifetime ret)
    asks_second request bytes address lifetime seed transmitted same occurs after step are =
        let in_realm : w.desk.auth.realm ≡ realm = occurs.1.chosen.under.challenge.settings.realm in
        at_desk (replied_second request address lifetime ret) (desk_call w bytes.items request.from plan.second (by.Allocate (address ∷ []) lifetime) seed ret v) are (
          in_realm,
          λ key text a own valid.
              some_follow (λ s _. Draws request.bytes s) (λ one _. IsSigned words key a text one) done (transmitted_signed request.bytes key text a (subst (λ (l : List ℕ). AreValid l key a text) same valid)) transmitted,
        )
        (ask_second request bytes.items address lifetime seed in_realm (ap (λ (r : Sent). r.from) occurs.1.request_is) ret after step.0.reply)

    -- ---- a reply comes to the client

    arrived : (reply head rest : List ℕ) (bytes : Vec ℕ Global) (now : ℕ) (request : Sent) (a : SentRequest) (p : Protocol) → request ≡ requested_sent plan.client a → w.client ≡ Some (over (control_at plan.client.transport head) p)
        → IsUnserved plan.client p → now ≤ 2 ^ 62 → IsPartOf head reply → BringsOn plan.client.transport reply head bytes.items rest → (is : AreStepsOfClient (ToClient bytes request.to request.from now) ret w.client v.client steps)
        → Arrives reply rest is.calls
    arrived reply head rest bytes now request a p request_is there u early part on is =
        let same : is.stored ≡ over (control_at plan.client.transport head) p = stored_same is.stored (sym is.stored_is ∙ there) in
        let own = subst (λ (r : Sent). AreCallsBy (ToClient bytes r.to r.from now) is.stored ret is.first is.calls is.last) request_is is.are in
        arrives plan.client p u reply head part.is_message part bytes now early ret is.first is.last is.calls plan.client.transport rest on
        (subst (λ (k : ClientState). AreCallsOfBytes k.control k bytes plan.client.server plan.client.here now ret is.first is.calls is.last) same own)
      where
        stored_same : (k : ClientState) → Some k ≡ Some (over (control_at plan.client.transport head) p) → k ≡ over (control_at plan.client.transport head) p
        stored_same k is = Prim.cc is

    gives_first : (request : Sent) (reply head rest : List ℕ) (calls : List (RunCall Client)) → steps ≡ steps_of calls → IsSo (Challenged request reply head) done → (next : List ℕ) → Arrives reply rest calls → Goes (brought_first request reply next rest)
    gives_first request reply head [] calls are so next is =
        of_calls Came calls are
        (subst (λ (l : List (RunCall Client)). AtEach IsHonest (steps_of l ++ done)) (sym is.calls_are)
        (one_arrives reply is.later is.call done is.none is.came_is (so.1, λ key text a own valid. never_valid reply key text a so.0 valid) each))
        tt
    gives_first request reply head (byte ∷ rest) calls are so next is = of_calls (Challenged request reply next) calls are (none_arrive calls done is each) so

    no_realm : (reply : List ℕ) → challenge_visible reply ≡ None → NamesNoOther reply
    no_realm reply none r names =
        let clash : None ≡ Some r = sym (ap (option_map (λ (t : ChallengeFields). t.realm)) none) ∙ names in
        absurd (Prim.cc clash)

    by_desk : (key text : List ℕ) (a : IntegrityAlgorithm) → AtSome (λ one _. IsSignedByDesk words key a text one) done → WasSigned words key a text done
    by_desk key text a is = some_follow (λ one _. IsSignedByDesk words key a text one) (λ one _. IsSigned words key a text one) done (λ one earlier signed. inr signed) is

    gives_second : (request : Sent) (address : SocketAddr) (lifetime : ℕ) (reply head rest : List ℕ) (calls : List (RunCall Client)) → steps ≡ steps_of calls → IsSo (Granted request address lifetime reply head) done → (next : List ℕ)
        → Arrives reply rest calls → Goes (brought_second request address lifetime reply next rest)
    gives_second request address lifetime reply head [] calls are so next is =
        let key = own_key so.algorithm in
        let arriving = subst (λ (l : List (List ℕ)). IsIn reply l) (sym is.came_is) (inl refl) in
        of_calls (Done request address lifetime reply) calls are
        (subst (λ (l : List (RunCall Client)). AtEach IsHonest (steps_of l ++ done)) (sym is.calls_are)
        (one_arrives reply is.later is.call done is.none is.came_is (no_realm reply so.no_challenge, λ k text a own valid. by_desk k text a (so.signed k text a own valid)) each))
        (record {
          algorithm = so.algorithm;
          strongest = so.strongest;
          number = so.number;
          counts = (realm, inr (some_after (λ s _. NamesRealm words realm s) (steps_of calls) done so.named), refl);
          text = so.text;
          valid = so.valid;
          arrives = subst (λ (l : List (RunCall Client)). AtSome (ArrivesSigned reply key so.algorithm so.text) (steps_of l ++ done)) (sym is.calls_are)
              (some_arrives (ArrivesSigned reply key so.algorithm so.text) is.later is.call done (arriving, so.signed key so.text so.algorithm refl so.valid));
        })
    gives_second request address lifetime reply head (byte ∷ rest) calls are so next is =
        of_calls (Granted request address lifetime reply next) calls are (none_arrive calls done is each) (grows (Granted request address lifetime reply next) (steps_of calls) done so)

    -- ---- by what happens

    abbrev At : Progress → Event → Progress → Type 0
    At from happening to = IsAtStage plan old reported from w → IsAtStage plan old (reported ++ event_in ret) to v → IsStep happening w ret v → AreStepsBy happening ret w steps v → IsSo from done → Goes to

    module _ (progress next : Progress) (event : Event) where
      as_said : (from : Progress) (happening : Event) (to : Progress) → progress ≡ from → event ≡ happening → next ≡ to → At from happening to → At progress event next
      as_said from happening to one two three is = λ occurs after step are so.
          subst (λ (n : Progress). Goes n) (sym three)
          (is (subst (λ (p : Progress). IsAtStage plan old reported p w) one occurs) (subst (λ (n : Progress). IsAtStage plan old (reported ++ event_in ret) n v) three after) (subst (λ (e : Event). IsStep e w ret v) two step)
          (subst (λ (e : Event). AreStepsBy e ret w steps v) two are) (subst (λ (p : Progress). IsSo p done) one so))

      one : Follows plan progress event ret next → At progress event next
      one (DrawFirst at is to) = as_said _ _ _ at is to (λ occurs after step are so. draws_first are after)
      one (AskFirst request bytes decision seed at same is to) = as_said _ _ _ at is to (λ occurs after step are so. asks_first request bytes decision seed so same occurs after step are)
      one (GiveFirst request reply head rest bytes at on is to) = as_said _ _ _ at is to (λ occurs after step are so.
          let s = occurs.1 in
          gives_first request reply head rest are.calls are.steps_are so (head ++ bytes.items)
          (arrived reply head rest bytes plan.client.made request (first_requested plan.client) s.client.core s.request_is s.client.there
          (c.stages_are_unserved.ensures.asking plan.client 1 plan.client.made s.client.core s.client.is) (first_in_range plan fresh.timely) s.part on are))
      one (DrawSecond at is to) = as_said _ _ _ at is to (λ occurs after step are so. draws_second are)
      one (AskSecond request bytes address lifetime seed at same asks whole is to) =
          as_said _ _ _ at is to (λ occurs after step are so. asks_second request bytes address lifetime seed so same occurs after step are)
      one (GiveSecond request address lifetime reply head rest bytes at on is to) = as_said _ _ _ at is to (λ occurs after step are so.
          let s = occurs.1 in
          gives_second request address lifetime reply head rest are.calls are.steps_are so (head ++ bytes.items)
          (arrived reply head rest bytes plan.second request (signed_requested plan.client s.choice) s.client.core s.is.request_is s.client.there
          (unserved_of plan s.choice s.client.core s.client.is c.stages_are_unserved.ensures.signing) fresh.timely.in_range s.part on are))
      one (Looks what now look is to) = as_said _ _ _ refl is to (λ occurs after step are so. quiet (Call what now) progress (λ k first last calls by_it. looks_bring_none what now k ret first last calls look by_it) are so)
      one (Polls now at before is to) = as_said _ _ _ refl is to (λ occurs after step are so. quiet (Call call.Poll now) progress (λ k first last calls by_it. one_call (Call call.Poll now) ret first last calls refl by_it) are so)
      one (Receives now is to) = as_said _ _ _ refl is to (λ occurs after step are so. quiet (Call call.PollRecv now) progress (λ k first last calls by_it. waiting_brings_none (raw_requested now k) now k ret first last calls by_it) are so)
      one (DrawsOn now at is to) = as_said _ _ _ at is to (λ occurs after step are so. quiet (Draw now) Barred (λ k first last calls by_it. one_call (Draw now) ret first last calls refl by_it) are so)

  -- ---- all of them

  module _ (c : goal.After-stages_are_unserved) (fresh : IsFresh plan old) where
    abbrev Ends : Progress → Steps → Type 0
    Ends last run = AtEach IsHonest run × IsSo last run

    all : (w new : World) (reported : List TurnEvent) (progress last : Progress) (pairs : List (Event × Answer)) (run done : Steps) → IsAtStage plan old reported progress w → Ends progress done → IsScript plan progress pairs last → IsReportedBy w pairs run new → Ends last (run ++ done)
    unfolding IsScript IsReportedBy
    all w new reported progress last [] run done occurs ends script is =
        subst (λ (l : Steps). Ends last (l ++ done)) (sym is.0) (subst (λ (p : Progress). Ends p done) (sym script) ends)
    all w new reported progress last (pair ∷ pairs) run done occurs ends script is =
        let next = is.0 in
        let steps = is.1 in
        let later = is.2 in
        let after = c.events_lead_on.ensures plan old w next reported progress script.0 pair.0 pair.1 fresh script.1 occurs is.4 in
        let so = one c fresh w next reported pair.1 steps done ends.0 progress script.0 pair.0 script.1 occurs after is.4 is.5 ends.1 in
        let rest = all next new (reported ++ event_in pair.1) script.0 last pairs later (steps ++ done) after so script.2 is.6 in
        subst (λ (l : Steps). Ends last l) (sym (append_assoc later steps done) ∙ ap (λ (l : Steps). l ++ done) (sym is.3)) rest

    ends : (new : World) (progress : Progress) (pairs : List (Event × Answer)) (run : Steps) → IsScript plan Start pairs progress → IsReportedBy old pairs run new → Ends progress run
    ends new progress pairs run script is =
        subst (λ (l : Steps). Ends progress l) (append-nil run) (all old new [] Start progress pairs run [] (refl, record { client = fresh.client; desk_is = refl }) (tt, tt) script is)

  -- ---- the premise

  module _ (begins : Begins plan.client core) where
    no_realm_first : words.client.realm (first_of plan core) ≡ None
    no_realm_first = rw (begins.phase, begins.auth) refl

    named_by : (r : List ℕ) (run : Steps) → AtEach IsHonest run → AtSome (λ s _. NamesRealm words r s) run → r ≡ realm
    named_by r [] each is = absurd is
    named_by r (AtClient call ∷ run) each (inl is) = (each.0 is.0 is.1).0 r is.2
    named_by r (AtDesk d ∷ run) each (inl is) = sym is ∙ each.0.0
    named_by r (s ∷ run) each (inr is) = named_by r run each.1 is

    realm_is : (r : List ℕ) (run : Steps) → AtEach IsHonest run → IsRealmOf words (first_of plan core) run r → r ≡ realm
    realm_is r run each (inl is) =
        let clash : None ≡ Some r = sym no_realm_first ∙ is in
        absurd (Prim.cc clash)
    realm_is r run each (inr is) = named_by r run each is

    own : (run : Steps) (key : List ℕ) (a : IntegrityAlgorithm) → AtEach IsHonest run → IsKeyOf words (first_of plan core) run a key → key ≡ own_key a
    own run key a each is = is.2 ∙ ap (λ (r : List ℕ). key_in plan.client.config.credentials r a) (realm_is is.0 run each is.1)

    authentic : (count : ℕ) (whole : Steps) (all : AtEach IsHonest whole) (s : Step Client DeskCall) (earlier : Steps) → IsHonest s earlier → IsAuthentic words (first_of plan core) count whole s earlier
    authentic count whole all (AtClient call) earlier is = λ bytes key text a m came counts valid shows for. (is bytes came).1 key text a (own whole key a all counts) valid
    authentic count whole all (AtDesk d) earlier is = λ key text a m counts valid shows number. is.1 key text a (own whole key a all counts) valid

    no_forgery : (count : ℕ) (run : Steps) → AtEach IsHonest run → NoForgery words (first_of plan core) count run
    no_forgery count run each = each_follow IsHonest (IsAuthentic words (first_of plan core) count run) run (authentic count run each) each

-- ---- there is an account

module _ (c : goal.After-stages_are_unserved) (plan : Plan) (old new : World) (pairs : List (Event × Answer)) (progress : Progress) (fresh : IsFresh plan old) where
  abbrev core : Protocol
  core = fresh.client.core

  abbrev first : Client
  first = first_of plan core

  begins_new : (transport : TransportType) → old.client ≡ Some (over (control_at transport []) core) → BeginsNew plan.client.transport plan.client.here plan.client.server plan.client.config plan.client.seed core old
  begins_new Udp there = c.new_clients_begin_new.ensures.udp plan.client.transport plan.client.here plan.client.server plan.client.config plan.client.seed (over Datagrams core) old there fresh.client.is fresh.room.0 fresh.room.1.few refl
  begins_new Tcp there =
      c.new_clients_begin_new.ensures.tcp plan.client.transport plan.client.here plan.client.server plan.client.config plan.client.seed (over (Open (alive [])) core) old there fresh.client.is fresh.room.0 fresh.room.1.few refl

  reported_unforged : IsRun old pairs new → IsScript plan Start pairs progress → AllByRecursion IsFair pairs → IsReportedUnforged plan old pairs new
  reported_unforged run script fair =
      let is = (c.runs_of_a_world_are_safe.ensures old new pairs run plan.client.transport plan.client.here plan.client.server plan.client.config plan.client.seed core (begins_new plan.client.transport fresh.client.there) fair).one in
      record {
        core = core;
        begins = fresh.client.is;
        run = is.run;
        last = is.last;
        account = record { reported = is.reported; left = is.left; leads = is.leads; lawful = is.lawful };
        unforged = no_forgery plan old core fresh.client.is (words.client.count is.last) is.run (ends plan old core c fresh new progress pairs is.run script is.reported).0;
      }

pub returns-clause-unforged : goal.returns-clause-unforged
returns-clause-unforged c = λ plan old new pairs progress fresh script core run count begins is. no_forgery plan old core begins count run (ends plan old core c fresh new progress pairs run script is).0

pub returns-clause-reported : goal.returns-clause-reported
returns-clause-reported c = λ plan old new pairs progress fresh run script fair. reported_unforged c plan old new pairs progress fresh run script fair

pub returns-clause-signed : goal.returns-clause-signed
returns-clause-signed c = λ plan old new pairs request address lifetime reply core run fresh script is. (ends plan old core c fresh new (Done request address lifetime reply) pairs run script is).1
