use Rattle.std.proofs.Common.{◌≡◌, ℕ, [], Option, Some, None, ap, refl, sym, ◌∙◌, subst}
use Rattle.std.specs.Prelude.{IfSome}
use Rattle.std.specs.declared.net.socket_addr.SocketAddr.{SocketAddr}
use Rattle.turn_client_proto_messages.specs.StunTypesIntegrity.Credentials.{NameAndPassword}
use Rattle.turn_desk_core.specs.StunTypesWire.Grammar.{number_at}
use Rattle.turn_desk_core.specs.StunTypesWire.Types.{method_of, type_of}
use Rattle.turn_desk_core.specs.StunTypesWire.declared.class.MessageClass.TheVariants.{Request as RequestClass}
use Rattle.turn_client_proto_api.specs.StunProtoAuth.Claims.{Claimed, claimed}
use Rattle.turn_client_proto_messages.specs.StunProtoClient.Client.{account_key}
use Rattle.turn_client_proto_messages.specs.StunProtoClient.Digests.{IsRight}
use Rattle.turn_client_proto_messages.specs.ReportedRequests.{CanBeRead, reported_request}
use Rattle.turn_client_proto_messages.specs.declared.request.TurnRequest.{TurnRequest}
use Rattle.turn_client_proto_api.specs.Sent.{Sent}
use Rattle.turn_client_proto_progress_laws.specs.Holders.{Holder, IsSignedBy}
use Rattle.turn_client_proto_progress_laws.specs.TcpBinding.{IsTcpBinding}
use Rattle.turn_desk_world_laws.specs.World.Model.{World}
use Rattle.turn_desk_progress_laws.specs.Linked.{Asks, IsSigned}
use Rattle.turn_desk_progress_laws.specs.Scripts.{Plan}
use Rattle.turn_desk_laws.specs.ConnectionLoops.{Bind, Challenge, Connect, Method, Permission, Target, Timing, Transmitted}
use Rattle.turn_desk_laws.specs.ConnectionPromises.{CanCarry, IsAnew, IsOther, IsRequest, request_made_for, from_of, number_of}
use Rattle.turn_desk_laws.specs.ConnectionStages.{HasStored, IsRequestMade, IsStage, IsTransmitted, holder_at, request_at}
use Rattle.turn_desk_laws.proofs.ConnectionTools.{method_so, request_so, signs_so}
use Rattle.turn_desk_laws.proofs.connections.transmitted_requests_are_signed.Goals as goal

module _ (c : goal.After-holders_can_ask) (plan : Plan) (old w : World) (target : Target) (address : SocketAddr) (lifetime since : ℕ) (t : Timing) (method : Method) (request : Sent)
    (s : IsStage plan old target address lifetime since (Transmitted method request) t w) where
  abbrev h : Holder
  h = holder_at plan address lifetime since s.auth s.standing

  abbrev n : ℕ
  n = s.client.is.transaction_id

  abbrev request_made : IsRequestMade plan target method t [] [] h s.events s.client.core n
  request_made = s.client.is.request_made

  abbrev what : TurnRequest
  what = request_made_for target method

  k : IsSignedBy h what n (request_at target method h t n).bytes
  k = c.holders_can_ask.ensures.signs h what n request_made.is.signs request_made.lawful (signs_so target method) request_made.fits

  signed : IsSigned plan old (from_of plan target method) (number_of method) request
  signed =
      let read = c.proof_requests_are_read.ensures.read h.auth what n request_made.is.signs.short request_made.lawful request_made.fits in
      subst (λ (r : Sent). IsSigned plan old (from_of plan target method) (number_of method) r) (sym s.client.is.request_is) (record {
        transport = refl;
        from = refl;
        to = refl;
        message = k.message;
        request_is = k.request_is;
        method_is = ap method_of read.kind ∙ (ap (λ (x : ℕ). method_of (type_of RequestClass x)) (method_so target method) ∙ request_so method);
        algorithm = s.standing.challenge.choice;
        claims = ap (λ (x : Claimed). x.integrity) k.claims;
        right = subst (λ r. IsRight (request_at target method h t n).bytes (account_key plan.client.config.credentials r s.standing.challenge.choice)) s.of.realm
            (subst (λ (x : NameAndPassword). IsRight (request_at target method h t n).bytes (account_key x s.standing.challenge.realm s.standing.challenge.choice)) s.of.account k.valid);
      })

  readable : (m : Method) → CanCarry target m → CanBeRead (request_made_for target m) n
  readable Permission carries = tt
  readable Connect carries = c.addresses_are_read_back.ensures n target.peer carries.own carries.flow carries.scope
  readable Bind carries = tt

  asks_so : CanCarry target method → Asks what request
  asks_so carries = subst (λ (r : Sent). Asks what r) (sym s.client.is.request_is) (k.reported (readable method carries) ∙ ap (reported_request what) (sym k.number_is))

  number_so : number_at request.bytes ≡ n
  number_so = ap (λ (r : Sent). number_at r.bytes) s.client.is.request_is ∙ k.number_is

  anew_so : (o : Option Challenge) → IfSome o (λ challenge. HasStored method challenge h n) → IfSome o (λ challenge. IsAnew method challenge request)
  anew_so None is = tt
  anew_so (Some challenge) is = record {
    other = subst (λ (x : ℕ). IsOther method (number_at challenge.request.bytes) x) (sym number_so) is.other;
    nonce = λ reported visible. ap (λ (r : Sent). (claimed r.bytes).nonce) s.client.is.request_is ∙ (ap (λ (x : Claimed). x.nonce) k.claims ∙ ap Some (is.nonce reported visible));
  }

  pub request_so_far : IsRequest plan old target method t request
  request_so_far = record { signed = signed; asks = asks_so; anew = anew_so t.again request_made.again }

pub returns : goal.returns
returns c = λ plan old w target address lifetime since t method request s. request_so_far c plan old w target address lifetime since t method request s
