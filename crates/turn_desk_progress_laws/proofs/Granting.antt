-- A server core grants what a client that holds an allocation requests, and the client accepts its success
-- response.
use Rattle.std.proofs.Common.{◌≡◌, ℕ, List, [], Some, None, refl, sym, ap, ◌∙◌, subst}
use Rattle.std.specs.Prelude.{IsSome, Vec}
use Rattle.std.specs.FinMap as map
use Rattle.std.specs.declared.alloc.Global.{Global}
use Rattle.std.specs.declared.net.socket_addr.SocketAddr.{SocketAddr}
use Rattle.turn_desk_core.specs.StunTypesWire.Attributes.{kind_at}
use Rattle.turn_client_proto_messages.specs.StunTypesIntegrity.Credentials.{NameAndPassword}
use Rattle.turn_desk_core.specs.StunTypesWire.Grammar.{refusal}
use Rattle.turn_desk_core.specs.StunTypesWire.declared.class.MessageClass.TheVariants.{Success}
use Rattle.turn_desk_core.specs.StunTypesWire.Types.{class_of, method_of}
use Rattle.turn_desk_core.specs.StunTypesAuthAttributes.Userhashes.{userhash_of}
use Rattle.turn_desk_core.specs.StunProtoServer.Users.{HashesDiffer}
use Rattle.turn_client_proto_api.specs.declared.event.TurnEvent.{TurnEvent}
use Rattle.turn_client_proto_handshake_laws.specs.Coming.{IsPartOf}
use Rattle.turn_client_proto_progress_laws.specs.Holders.{Holder, IsSignedBy}
use Rattle.turn_client_proto_progress_laws.specs.Replies.{IsSuccessOf}
use Rattle.turn_client_proto_messages.specs.declared.request.TurnRequest.{TurnRequest}
use Rattle.turn_desk_world_laws.specs.World.Desks.{words_of}
use Rattle.turn_client_proto_step_laws.specs.Recv.ClientState.{Protocol}
use Rattle.turn_desk_world_laws.specs.World.Model.{World}
use Rattle.turn_desk_world_laws.specs.World.Runs.{IsStep}
use Rattle.turn_desk_core.specs.Steps.{IsAnswer}
use Rattle.turn_desk_event.specs.declared.answer.Answer.TheVariants as answer
use Rattle.turn_desk_core.specs.declared.decision.Decision.{Decision}
use Rattle.turn_desk_event.specs.declared.event.Event.TheVariants.{ToDesk}
use Rattle.turn_desk_progress_laws.specs.Promises.{IsFresh}
use Rattle.turn_desk_progress_laws.specs.Scripts.{Plan}
use Rattle.turn_desk_progress_laws.proofs.Coming.{none_yet}
use Rattle.turn_desk_progress_laws.specs.Joining.{IsHeldBy, holder_in}
use Rattle.turn_desk_progress_laws.specs.Links.{Link}
use Rattle.turn_desk_progress_laws.proofs.Same.{step_same}
use Rattle.turn_desk_progress_laws.proofs.Successes.{IsMethod, message_is, method_same, number_same, reply_right}
use Rattle.turn_desk_progress_laws.proofs.Worlds.{IsServedOn, served_on}

module _ (plan : Plan) (old w v : World) (address : SocketAddr) (lifetime : ℕ) (link : Link) (head : List ℕ) (Is : Holder → List TurnEvent → Protocol → Type 0) (s : IsHeldBy plan old address lifetime link head Is w) (fresh : IsFresh plan old)
    (what : TurnRequest) (number : ℕ) (text : List ℕ) (signed : IsSignedBy (holder_in plan address lifetime s.auth s.standing) what number text) (m : ℕ) (is_method : IsMethod m) (method_is : method_of (kind_at text) ≡ m)
    (bytes reply : Vec ℕ Global) (same : bytes.items ≡ text) (from : SocketAddr) (now : ℕ) (decision : Decision) (seed : List ℕ) (success : class_of (kind_at reply.items) ≡ Success)
    (step : IsStep (ToDesk bytes from now decision seed) w (answer.Reply reply) v) where
  abbrev h : Holder
  h = holder_in plan address lifetime s.auth s.standing

  on : IsServedOn w v bytes.items reply.items from now decision seed
  on = served_on w v bytes reply from now decision seed (answer.Reply reply) refl step

  pub answered : IsAnswer w.desk from text now (words_of seed) decision reply.items v.desk
  answered = subst (λ (l : List ℕ). IsAnswer w.desk from l now (words_of seed) decision reply.items v.desk) same on.replied.answer

  differ : HashesDiffer w.desk.auth
  differ = λ a b one other alike. fresh.hashes a b
      (subst (λ u. IsSome (map.get u a)) s.desk.users one)
      (subst (λ u. IsSome (map.get u b)) s.desk.users other)
      (subst (λ (r : List ℕ). userhash_of a r ≡ userhash_of b r) s.desk.realm alike)

  present : map.get w.desk.auth.users s.standing.account.username ≡ Some s.standing.account.password
  present =
      ap (λ u. map.get u s.standing.account.username) s.desk.users
      ∙ (ap (λ (x : NameAndPassword). map.get old.desk.auth.users x.username) s.of.account ∙ (fresh.user ∙ ap (λ (x : NameAndPassword). Some x.password) (sym s.of.account)))

  pub message_so : refusal reply.items ≡ None
  message_so = message_is w.desk v.desk from text reply.items now (words_of seed) decision m is_method method_is answered success

  pub success_so : IsSuccessOf h m number reply.items
  success_so = record {
    number_is = number_same w.desk v.desk from text reply.items now (words_of seed) decision m is_method method_is answered success ∙ signed.number_is;
    success = success;
    method_is = method_same w.desk v.desk from text reply.items now (words_of seed) decision m is_method method_is answered success;
    right = reply_right w.desk v.desk from text reply.items now (words_of seed) decision m is_method method_is answered success s.auth.anonymous_username s.standing signed.claims present
        (s.of.realm ∙ sym s.desk.realm) differ;
  }

  pub part_so : IsPartOf [] reply.items
  part_so = none_yet reply.items message_so

  -- The client is unchanged, and meets this statement too.
  pub stays_so : (IsNow : Holder → List TurnEvent → Protocol → Type 0) → IsNow h s.events s.client.core → IsHeldBy plan old address lifetime link head IsNow v
  stays_so IsNow is = record {
    auth = s.auth;
    standing = s.standing;
    of = s.of;
    desk = step_same link old (ToDesk bytes from now decision seed) w v (answer.Reply reply) step s.desk;
    events = s.events;
    client = record { core = s.client.core; there = on.client ∙ s.client.there; is = is };
  }
