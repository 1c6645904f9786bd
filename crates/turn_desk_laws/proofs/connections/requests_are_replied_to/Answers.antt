use Rattle.std.proofs.Common.{◌≡◌, ℕ, List, [], Some, None, refl, sym, ap, ◌∙◌, subst}
use Rattle.std.specs.Prelude.{Vec}
use Rattle.std.specs.declared.alloc.Global.{Global}
use Rattle.std.specs.declared.net.socket_addr.SocketAddr.{SocketAddr}
use Rattle.turn_desk_core.specs.StunTypesWire.Attributes.{kind_at}
use Rattle.turn_desk_core.specs.StunTypesWire.Grammar.{refusal}
use Rattle.turn_desk_core.specs.StunTypesWire.Types.{method_of, type_of}
use Rattle.turn_desk_core.specs.StunTypesWire.declared.class.MessageClass.TheVariants.{Request as RequestClass}
use Rattle.turn_desk_core.specs.Requests.{IsServed}
use Rattle.turn_desk_core.specs.Steps.{IsAnswer}
use Rattle.turn_desk_core.specs.declared.decision.Decision.{Decision}
use Rattle.turn_client_proto_messages.specs.StunProtoClient.Challenges.{ChallengeFields, challenge_visible}
use Rattle.turn_client_proto_messages.specs.declared.request.TurnRequest.{TurnRequest}
use Rattle.turn_client_proto_api.specs.Sent.{Sent}
use Rattle.turn_client_proto_api.specs.declared.event.TurnEvent.{TurnEvent}
use Rattle.turn_client_proto_step_laws.specs.Recv.ClientState.{Protocol}
use Rattle.turn_client_proto_progress_laws.specs.Holders.{Holder, IsSignedBy}
use Rattle.turn_desk_event.specs.declared.answer.Answer.TheVariants as answer
use Rattle.turn_desk_event.specs.declared.event.Event.TheVariants.{ToDesk}
use Rattle.turn_desk_world_laws.specs.World.Desks.{HasFourBytes, words_of}
use Rattle.turn_desk_world_laws.specs.World.Model.{World}
use Rattle.turn_desk_world_laws.specs.World.Runs.{IsStep}
use Rattle.turn_desk_progress_laws.specs.Links.{IsSuccess}
use Rattle.turn_desk_progress_laws.specs.Loops.{MayBegin}
use Rattle.turn_desk_progress_laws.specs.Scripts.{Plan}
use Rattle.turn_desk_progress_laws.specs.Standing.{IsOfSettings}
use Rattle.turn_desk_progress_laws.proofs.Challenged as challenges
use Rattle.turn_desk_progress_laws.proofs.Coming.{none_yet}
use Rattle.turn_desk_progress_laws.proofs.Successes.{shows_number}
use Rattle.turn_desk_progress_laws.proofs.Worlds.{IsServedOn, served_on}
use Rattle.turn_desk_laws.specs.ConnectionLoops.{Answered, Bind, Challenged, Connect, IsDecided, MayChallenge, Method, Permission, Target, Timing, Transmitted}
use Rattle.turn_desk_laws.specs.ConnectionPromises.{request_made_for, from_of, number_of}
use Rattle.turn_desk_laws.specs.ConnectionStages.{HasConnectionId, IsAnswered, IsRequestMade, IsChallenged, IsHeldFor, IsSameServer, IsStage, IsTransmitted, ReportsFirst, holder_at, own_head, request_at}
use Rattle.turn_desk_laws.proofs.ConnectionTools.{answered, error_so, is_method, message_so, method_so, part_so, reports_from, request_so, server_step, signs_so, stays_so, success_so}
use Rattle.turn_desk_laws.proofs.connections.requests_are_replied_to.Goals as goal

module _ (c : goal.After-holders_can_ask) (plan : Plan) (old w v : World) (target : Target) (address : SocketAddr) (lifetime since : ℕ) (t : Timing) (method : Method) (request : Sent) (bytes reply : Vec ℕ Global) (now : ℕ) (decision : Decision) (seed : List ℕ)
    (same : bytes.items ≡ request.bytes) (s : IsStage plan old target address lifetime since (Transmitted method request) t w) (given : IsStep (ToDesk bytes request.from now decision seed) w (answer.Reply reply) v) where
  abbrev h : Holder
  h = holder_at plan address lifetime since s.auth s.standing

  abbrev n : ℕ
  n = s.client.is.transaction_id

  abbrev request_made : IsRequestMade plan target method t [] [] h s.events s.client.core n
  request_made = s.client.is.request_made

  abbrev what : TurnRequest
  what = request_made_for target method

  abbrev from : SocketAddr
  from = from_of plan target method

  abbrev text : List ℕ
  text = (request_at target method h t n).bytes

  same_text : bytes.items ≡ text
  same_text = same ∙ ap (λ (r : Sent). r.bytes) s.client.is.request_is

  step : IsStep (ToDesk bytes from now decision seed) w (answer.Reply reply) v
  step = subst (λ (r : Sent). IsStep (ToDesk bytes r.from now decision seed) w (answer.Reply reply) v) s.client.is.request_is given

  signed : IsSignedBy h what n text
  signed = c.holders_can_ask.ensures.signs h what n request_made.is.signs request_made.lawful (signs_so target method) request_made.fits

  method_is : method_of (kind_at text) ≡ number_of method
  method_is =
      ap method_of (c.proof_requests_are_read.ensures.read h.auth what n request_made.is.signs.short request_made.lawful request_made.fits).kind
      ∙ (ap (λ (x : ℕ). method_of (type_of RequestClass x)) (method_so target method) ∙ request_so method)

  abbrev Was : Holder → List TurnEvent → Protocol → Type 0
  Was h events p = IsTransmitted plan target method t request [] h events p

  -- Nothing of the reply has come.
  at_first : (m : Method) → own_head m [] ≡ []
  at_first Permission = refl
  at_first Connect = refl
  at_first Bind = refl

  -- ---- it is granted

  module _ (may : MayBegin plan old) (success : IsSuccess reply.items) where
    pub granted_so : HasConnectionId target method reply.items → IsStage plan old target address lifetime since (Answered method request reply.items []) t v
    granted_so decodes =
        let is : IsAnswered plan target method t request reply.items [] h s.events s.client.core = record {
          transmitted = s.client.is;
          message = message_so plan old w v target address lifetime since [] Was s may what n text signed (number_of method) (is_method method) method_is bytes reply same_text from now decision seed success step;
          success = success_so plan old w v target address lifetime since [] Was s may what n text signed (number_of method) (is_method method) method_is bytes reply same_text from now decision seed success step;
          decodes = decodes;
          part = part_so plan old w v target address lifetime since [] Was s may what n text signed (number_of method) (is_method method) method_is bytes reply same_text from now decision seed success step;
        } in
        subst (λ (head : List ℕ). IsHeldFor plan old target address lifetime since head (λ h events p. IsAnswered plan target method t request reply.items [] h events p) v) (sym (at_first method))
        (stays_so plan old w v target address lifetime since [] Was (λ h events p. IsAnswered plan target method t request reply.items [] h events p) s bytes reply from now decision seed step is)

    -- The success response to a CONNECT has the decided connection ID.
    pub answer_is : IsAnswer w.desk from text now (words_of seed) decision reply.items v.desk
    answer_is = answered plan old w v target address lifetime since [] Was s may what n text signed (number_of method) (is_method method) method_is bytes reply same_text from now decision seed success step

    pub four_bytes : HasFourBytes decision
    four_bytes = (served_on w v bytes reply from now decision seed (answer.Reply reply) refl step).four_bytes

  -- ---- it is challenged

  module _ (reported : ChallengeFields) (allowed : MayChallenge method t) (shows : challenge_visible reply.items ≡ Some reported) where
    on : IsServedOn w v bytes.items reply.items from now decision seed
    on = served_on w v bytes reply from now decision seed (answer.Reply reply) refl step

    replied : IsAnswer w.desk from text now (words_of seed) decision reply.items v.desk
    replied = subst (λ (l : List ℕ). IsAnswer w.desk from l now (words_of seed) decision reply.items v.desk) same_text on.replied.answer

    served : IsServed text
    served = subst IsServed same_text on.replied.served

    server : IsSameServer plan target old v
    server = server_step plan old target (ToDesk bytes from now decision seed) w v (answer.Reply reply) step s.server

    reports : ReportsFirst old from v
    reports = reports_from plan old target method v server

    settings : IsOfSettings old.desk.auth reported
    settings = record {
      realm = challenges.realm_is w.desk v.desk from text reply.items now (words_of seed) decision (number_of method) (is_method method) (error_so method) method_is served replied reported shows ∙ s.server.realm;
      takes_own = challenges.takes_so w.desk v.desk from text reply.items now (words_of seed) decision (number_of method) (is_method method) (error_so method) method_is served replied reported shows
          old.desk.auth.algorithms old.desk.auth.anonymous_username s.server.algorithms reports;
      hides = challenges.hides_so w.desk v.desk from text reply.items now (words_of seed) decision (number_of method) (is_method method) (error_so method) method_is served replied reported shows
          old.desk.auth.algorithms old.desk.auth.anonymous_username s.server.algorithms reports;
      listed = challenges.list_there w.desk v.desk from text reply.items now (words_of seed) decision (number_of method) (is_method method) (error_so method) method_is served replied reported shows;
    }

    message : refusal reply.items ≡ None
    message = challenges.message_is w.desk v.desk from text reply.items now (words_of seed) decision (number_of method) (is_method method) (error_so method) method_is served replied reported shows

    pub challenged_so : IsStage plan old target address lifetime since (Challenged method request reply.items []) t v
    challenged_so =
        let is : IsChallenged plan old target method t request reply.items [] h s.events s.client.core = record {
          transmitted = s.client.is;
          message = message;
          reported = reported;
          challenge = record {
            number_is = challenges.number_same w.desk v.desk from text reply.items now (words_of seed) decision (number_of method) (is_method method) (error_so method) method_is served replied reported shows ∙ signed.number_is;
            method_is = challenges.method_same w.desk v.desk from text reply.items now (words_of seed) decision (number_of method) (is_method method) (error_so method) method_is served replied reported shows;
            visible = shows;
          };
          of = settings;
          choice = s.of.choice;
          can = challenges.answers_other old.desk.auth s.auth s.of.reported reported s.of.of settings s.of.choice s.of.answered;
          may = allowed;
          part = none_yet reply.items message;
        } in
        subst (λ (head : List ℕ). IsHeldFor plan old target address lifetime since head (λ h events p. IsChallenged plan old target method t request reply.items [] h events p) v) (sym (at_first method))
        (stays_so plan old w v target address lifetime since [] Was (λ h events p. IsChallenged plan old target method t request reply.items [] h events p) s bytes reply from now decision seed step is)

-- By the method.
granted_by : goal.After-holders_can_ask → (plan : Plan) (old w v : World) (target : Target) (address : SocketAddr) (lifetime since : ℕ) (t : Timing) (method : Method) (request : Sent) (bytes reply : Vec ℕ Global) (now : ℕ) (decision : Decision) (seed : List ℕ) → MayBegin plan old
    → bytes.items ≡ request.bytes → IsDecided target method decision → IsSuccess reply.items → IsStage plan old target address lifetime since (Transmitted method request) t w → IsStep (ToDesk bytes request.from now decision seed) w (answer.Reply reply) v
    → IsStage plan old target address lifetime since (Answered method request reply.items []) t v
granted_by c plan old w v target address lifetime since t Permission request bytes reply now decision seed may same decided success s step = granted_so c plan old w v target address lifetime since t Permission request bytes reply now decision seed same s step may success tt
granted_by c plan old w v target address lifetime since t Bind request bytes reply now decision seed may same decided success s step = granted_so c plan old w v target address lifetime since t Bind request bytes reply now decision seed same s step may success tt
granted_by c plan old w v target address lifetime since t Connect request bytes reply now decision seed may same decided success s step =
    let h = holder_at plan address lifetime since s.auth s.standing in
    let text = (request_at target Connect h t s.client.is.transaction_id).bytes in
    granted_so c plan old w v target address lifetime since t Connect request bytes reply now decision seed same s step may success
    (c.messages_are_reported_alike.ensures.connection reply.items
    ∙ shows_number w.desk v.desk plan.client.here text reply.items now (words_of seed) target.number (number_of Connect) (is_method Connect) (method_is c plan old w v target address lifetime since t Connect request bytes reply now decision seed same s step)
    (subst (λ (d : Decision). IsAnswer w.desk plan.client.here text now (words_of seed) d reply.items v.desk) decided (answer_is c plan old w v target address lifetime since t Connect request bytes reply now decision seed same s step may success))
    success (subst HasFourBytes decided (four_bytes c plan old w v target address lifetime since t Connect request bytes reply now decision seed same s step may success)))

pub returns-clause-granted : goal.returns-clause-granted
returns-clause-granted c = λ plan old w v target address lifetime since t method request bytes reply now decision seed may same decided success s step.
    granted_by c plan old w v target address lifetime since t method request bytes reply now decision seed may same decided success s step

pub returns-clause-challenged : goal.returns-clause-challenged
returns-clause-challenged c = λ plan old w v target address lifetime since t method request bytes reply now decision seed reported same allowed shows s step.
    challenged_so c plan old w v target address lifetime since t method request bytes reply now decision seed same s step reported allowed shows
