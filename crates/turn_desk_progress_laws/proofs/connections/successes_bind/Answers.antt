use Rattle.std.proofs.Common.{◌≡◌, ℕ, List, [], Some, ap, refl, sym, ◌∙◌, subst}
use Rattle.std.specs.declared.net.socket_addr.SocketAddr.{SocketAddr}
use Rattle.turn_client_proto_messages.specs.StunTypesIntegrity.Credentials.{NameAndPassword}
use Rattle.turn_desk_core.specs.StunTypesWire.Grammar.{number_at}
use Rattle.turn_desk_core.specs.StunTypesWire.declared.algorithm.IntegrityAlgorithm.{IntegrityAlgorithm}
use Rattle.turn_client_proto_api.specs.StunProtoAuth.Claims.{Claimed, claimed}
use Rattle.turn_client_proto_messages.specs.StunProtoClient.Client.{account_key}
use Rattle.turn_client_proto_messages.specs.StunProtoClient.Digests.{IsRight}
use Rattle.turn_desk_core.specs.TurnTypesAttributes.TurnRegistry.{connection_bind_method}
use Rattle.turn_client_proto_api.specs.Sent.{Sent}
use Rattle.turn_client_proto_progress_laws.specs.Holders.{Holder}
use Rattle.turn_client_proto_messages.specs.declared.request.TurnRequest.TheVariants.{ConnectionBind}
use Rattle.turn_desk_world_laws.specs.World.Model.{World}
use Rattle.turn_desk_progress_laws.specs.Scripts.{Plan}
use Rattle.turn_desk_progress_laws.proofs.Coming.{none_yet}
use Rattle.turn_desk_progress_laws.specs.Joining.{IsBinding, IsAtStep, holder_in}
use Rattle.turn_desk_progress_laws.specs.Linked.{IsSigned, IsSuccessTo}
use Rattle.turn_desk_progress_laws.specs.Links.{Answered, Binding, Link}
use Rattle.turn_desk_progress_laws.proofs.connections.successes_bind.Goals as goal

module _ (c : goal.After-holders_can_ask) (plan : Plan) (old w : World) (address : SocketAddr) (lifetime : ℕ) (link : Link) (sent : ℕ) (request : Sent) (s : IsAtStep plan old address lifetime link (Binding sent request) w) (reply : List ℕ) (is : IsSuccessTo plan old request reply) where
  abbrev h : Holder
  h = holder_in plan address lifetime s.auth s.standing

  abbrev b : IsBinding link sent request [] h s.events s.client.core s.client.is.number
  b = s.client.is.is

  -- The algorithm is the one by which the client signs.
  algorithm_is : is.algorithm ≡ s.standing.challenge.choice
  algorithm_is =
      let k = c.holders_can_ask.ensures.signs h (ConnectionBind link.number) s.client.is.number b.is.signs b.lawful refl s.client.is.fits in
      let claims : (claimed request.bytes).integrity ≡ Some s.standing.challenge.choice = ap (λ (r : Sent). (claimed r.bytes).integrity) b.request_is ∙ ap (λ (x : Claimed). x.integrity) k.claims in
      Prim.cc (sym is.claims ∙ claims)

  number_is : number_at request.bytes ≡ s.client.is.number
  number_is = ap (λ (r : Sent). number_at r.bytes) b.request_is
      ∙ (c.holders_can_ask.ensures.signs h (ConnectionBind link.number) s.client.is.number b.is.signs b.lawful refl s.client.is.fits).number_is

  pub answered_so : IsSigned plan old link.local connection_bind_method request → IsAtStep plan old address lifetime link (Answered sent request reply []) w
  answered_so signed = record {
    auth = s.auth;
    standing = s.standing;
    of = s.of;
    desk = s.desk;
    events = s.events;
    client = record {
      core = s.client.core;
      there = s.client.there;
      is = record {
        number = s.client.is.number;
        fits = s.client.is.fits;
        is = record {
          binding = b;
          message = is.message;
          success = record {
            number_is = is.number ∙ number_is;
            success = is.success;
            method_is = is.method ∙ signed.method_is;
            right = subst (λ (a : IntegrityAlgorithm). IsRight reply (account_key s.standing.account s.standing.challenge.realm a)) algorithm_is
                (subst (λ (x : NameAndPassword). IsRight reply (account_key x s.standing.challenge.realm is.algorithm)) (sym s.of.account)
                (subst (λ (r : List ℕ). IsRight reply (account_key plan.client.config.credentials r is.algorithm)) (sym s.of.realm) is.right));
          };
          part = none_yet reply is.message;
        };
      };
    };
  }

pub returns : goal.returns
returns c = λ plan old one two new first pairs more requested request address lifetime granted reply link sent progress fresh tcp run script timely go is success on then_.
    let s = c.connections_are_bound.ensures.occurs plan old one two first pairs requested address lifetime granted link (Binding sent request) fresh tcp run script timely go is in
    let promised = c.connections_are_bound.ensures.promised plan old one two first pairs requested address lifetime granted link (Binding sent request) fresh tcp run script timely go is in
    c.links_lead_on.ensures.promised plan old new address lifetime link progress fresh tcp timely
    (c.links_lead_on.ensures.occurs plan old two new address lifetime link (Answered sent request reply []) progress more fresh tcp timely
    (answered_so c plan old two address lifetime link sent request s reply success promised.0) on then_)
