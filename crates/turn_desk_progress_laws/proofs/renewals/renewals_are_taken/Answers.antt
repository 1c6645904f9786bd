use Rattle.std.proofs.Common.{◌≡◌, ℕ, arith, Bool, List, [], ◌∷◌, ◌++◌, ◌⊎◌, inl, inr, Some, refl, sym, ap, ◌∙◌, subst, append-nil}
use Rattle.std.specs.Prelude.{Vec}
use Rattle.std.specs.Borrow.{Bor}
use Rattle.std.specs.declared.alloc.Global.{Global}
use Rattle.std.specs.declared.net.socket_addr.SocketAddr.{SocketAddr}
use Rattle.turn_desk_core.specs.StunTypesBase.declared.transmit.Transmit.{Transmit}
use Rattle.turn_desk_core.specs.StunTypesBase.declared.transport.TransportType.{TransportType}
use Rattle.turn_desk_core.specs.StunTypesBase.declared.transport.TransportType.TheVariants.{Udp, Tcp}
use Rattle.turn_client_proto_api.specs.TurnTypesFrame.Streams.{alive}
use Rattle.turn_client_proto_api.specs.declared.answer.TurnRecvRet.{TurnRecvRet}
use Rattle.turn_client_proto_handshake_laws.specs.Coming.{IsFromServer, IsProcessedAs, IsLost, IsPartOf}
use Rattle.turn_client_proto_api.specs.Sent.{Sent}
use Rattle.turn_client_proto_step_laws.specs.Recv.Receipts.{IsReceived}
use Rattle.turn_client_proto_handshake_laws.specs.Core.Receiving.{IsProcessed}
use Rattle.turn_client_proto_handshake_laws.specs.Sent.{Beginning}
use Rattle.turn_client_proto_handshake_laws.specs.Stages.{IsOf}
use Rattle.turn_client_proto_progress_laws.specs.Keeping.{IsTerm, Term}
use Rattle.turn_client_proto_progress_laws.specs.Reaching.{IsSuccess}
use Rattle.turn_desk_world_laws.specs.World.Calls.{IsFed, IsReported}
use Rattle.turn_client_proto_step_laws.specs.Recv.Control.{Control, Datagrams, Open}
use Rattle.turn_client_proto_step_laws.specs.Recv.ClientState.{ClientState}
use Rattle.turn_desk_event.specs.declared.answer.Answer.{Answer}
use Rattle.turn_desk_event.specs.declared.event.Event.TheVariants.{ToClient}
use Rattle.turn_desk_world_laws.specs.World.Model.{World}
use Rattle.turn_desk_world_laws.specs.World.Runs.{IsStep}
use Rattle.turn_desk_progress_laws.specs.Promises.{control_at, over}
use Rattle.turn_desk_progress_laws.specs.Scripts.{BringsOn, Plan}
use Rattle.turn_desk_progress_laws.proofs.Clients.{done, done_so, same_desk, stays}
use Rattle.turn_desk_progress_laws.specs.Turns.{brought}
use Rattle.turn_desk_progress_laws.specs.Watched.{IsAnswered, IsAtStep, term_of}
use Rattle.turn_desk_progress_laws.proofs.RenewalServing.{same_serving}
use Rattle.turn_desk_progress_laws.proofs.renewals.renewals_are_taken.Goals as goal

-- ---- bytes of it come

-- All of the reply has come and is handled, or these first bytes of it are buffered.
abbrev IsBrought : ClientState → ClientState → TransportType → (now : ℕ) (reply head rest : List ℕ) → Type 0
IsBrought k k2 transport now reply head [] = (handled : Bool) × IsProcessed k.core reply now handled k2.core × (k2.control ≡ control_at transport [])
IsBrought k k2 transport now reply head (byte ∷ rest) = (k2.core ≡ k.core) × (k2.control ≡ control_at transport head) × IsPartOf head reply

module _ (c : goal.After-successes_reach_clients) (b : Beginning) (k k2 : ClientState) (u : IsOf b k.core) (came : Transmit (Bor (List ℕ))) (from : IsFromServer b came) (now : ℕ) (took : TurnRecvRet (Bor (List ℕ))) (ret : Answer) (reported : IsReported took ret) where
  -- A failed allocation has no result.
  never_lost : {A : Type 0} → IsLost k came took k2 → A
  never_lost lost = absurd (subst (λ (t : TurnRecvRet (Bor (List ℕ))). IsReported t ret) lost.0 reported)

  all_processed : (message : List ℕ) (control : Control) → IsProcessedAs k message came now control took k2 ⊎ IsLost k came took k2 → (handled : Bool) × IsProcessed k.core message now handled k2.core × (k2.control ≡ control)
  all_processed message control (inl is) = (is.handled, is.processed, is.control_is)
  all_processed message control (inr lost) = never_lost lost

  brings : (transport : TransportType) (reply head rest : List ℕ) → IsSuccess reply → k.control ≡ control_at transport head → BringsOn transport reply head came.bytes.now rest
      → IsReceived (λ (x : Bor (List ℕ)). x.now) k came now took k2 → IsBrought k k2 transport now reply (head ++ came.bytes.now) rest
  brings Udp reply head [] success at on received =
      let processed = c.successes_reach_clients.ensures.datagram b k k2 came now took u at from (subst (λ (l : List ℕ). IsSuccess l) (sym on.0) success) received in
      all_processed reply Datagrams (subst (λ (l : List ℕ). IsProcessedAs k l came now Datagrams took k2 ⊎ IsLost k came took k2) on.0 processed)
  brings Udp reply head (byte ∷ rest) success at on received = absurd (Prim.cc on.1)
  brings Tcp reply head [] success at on received =
      let all : reply ≡ head ++ came.bytes.now = on.1 ∙ append-nil (head ++ came.bytes.now) in
      let processed = c.successes_reach_clients.ensures.whole b k k2 came now took head u at from on.0 (subst (λ (l : List ℕ). IsSuccess l) all success) received in
      all_processed reply (Open (alive [])) (subst (λ (l : List ℕ). IsProcessedAs k l came now (Open (alive [])) took k2 ⊎ IsLost k came took k2) (sym all) processed)
  brings Tcp reply head (byte ∷ rest) success at on received =
      let part : IsPartOf (head ++ came.bytes.now) reply = record { is_message = success.message; rest = byte ∷ rest; parts = on.1; more = λ none. Prim.cc none } in
      elim (c.successes_reach_clients.ensures.chunk b k k2 came now took head reply u at from on.0 part received) [
        | inl is ↦ (is.1, is.2, part)
        | inr lost ↦ never_lost lost
      ]

-- ---- in a world

module _ (c : goal.After-successes_reach_clients) (plan : Plan) (old w v : World) (address : SocketAddr) (request : Sent) (reply head : List ℕ) (lifetime now : ℕ) (a : IsAnswered plan old address request reply head lifetime now w)
    (after : ClientState) (there : v.client ≡ Some after) (desk : v.desk ≡ w.desk) where
  abbrev t : Term
  t = term_of a.awaits.first a.from a.before

  abbrev next : Term
  next = term_of a.awaits.first now lifetime

  lasts : IsTerm next
  lasts = record { long = a.awaits.lasts.long; enough = a.enough; fits = a.fits; early = a.awaits.in_range }

  by_rest : (so_far rest : List ℕ) → IsBrought (over (control_at plan.client.transport head) a.awaits.client.core) after plan.client.transport now reply so_far rest → IsAtStep plan old address (brought request reply so_far rest lifetime now) v
  by_rest so_far [] is =
      let x = a.awaits in
      let r = c.refreshing_clients_renew.ensures plan.client x.choice address t x.number now x.many now x.events x.client.core after.core lifetime reply now is.0 x.client.is a.renewal a.enough is.1 in
      let enough = a.enough in
      record {
        choice = x.choice;
        agreed = x.agreed;
        serving = same_serving plan old.desk w.desk v.desk desk x.serving;
        first = x.first;
        lasts = lasts;
        last = now;
        queue = [];
        rested = omega (arith, enough);
        left = tt;
        until = omega arith;
        events = x.events;
        reported = tt;
        client = record { core = after.core; there = there ∙ ap Some (stays (control_at plan.client.transport []) after is.2); is = r.1 };
      }
  by_rest so_far (byte ∷ rest) is =
      let x = a.awaits in
      record {
        from = a.from;
        before = a.before;
        awaits = record {
          choice = x.choice;
          agreed = x.agreed;
          serving = same_serving plan old.desk w.desk v.desk desk x.serving;
          first = x.first;
          lasts = x.lasts;
          in_time = x.in_time;
          in_range = x.in_range;
          number = x.number;
          fits = x.fits;
          request_is = x.request_is;
          many = x.many;
          events = x.events;
          client = record {
            core = x.client.core;
            there = there ∙ ap Some (stays (control_at plan.client.transport so_far) after is.1 ∙ ap (over (control_at plan.client.transport so_far)) is.0);
            is = x.client.is;
          };
        };
        enough = a.enough;
        fits = a.fits;
        part = is.2;
        renewal = a.renewal;
      }

pub taken_so : (c : goal.After-successes_reach_clients) (plan : Plan) (old w v : World) (address : SocketAddr) (request : Sent) (reply head rest : List ℕ) (lifetime now : ℕ) (bytes : Vec ℕ Global) (ret : Answer)
    → IsAnswered plan old address request reply head lifetime now w → BringsOn plan.client.transport reply head bytes.items rest → IsStep (ToClient bytes request.to request.from now) w ret v
    → IsAtStep plan old address (brought request reply (head ++ bytes.items) rest lifetime now) v
taken_so c plan old w v address request reply head rest lifetime now bytes ret a on step =
    let x = a.awaits in
    let own = subst (λ (r : Sent). IsStep (ToClient bytes r.to r.from now) w ret v) x.request_is step in
    let control = control_at plan.client.transport head in
    let u = x.client.is.settings in
    let d = done control now _ x.client.core w.client v.client ret x.client.there own.0 in
    let is : IsFed ret (over control x.client.core) bytes.items plan.client.server plan.client.here now d.after = done_so control now _ x.client.core ret v.client x.in_range d in
    let so = brings c plan.client (over control x.client.core) d.after u is.came (record { transport = is.transport_is ∙ u.transport; from = is.from_is; to = is.to_is }) now is.took ret is.reported plan.client.transport reply head rest
    (record { message = a.part.is_message; success = a.renewal.success }) refl (subst (λ (l : List ℕ). BringsOn plan.client.transport reply head l rest) (sym is.bytes_are) on) is.received in
    by_rest c plan old w v address request reply head lifetime now a d.after d.there (same_desk w v own.1) (head ++ bytes.items) rest
    (subst (λ (l : List ℕ). IsBrought (over control x.client.core) d.after plan.client.transport now reply (head ++ l) rest) is.bytes_are so)

pub returns : goal.returns
returns c = λ plan old w v address request reply head rest lifetime now bytes ret a on step. taken_so c plan old w v address request reply head rest lifetime now bytes ret a on step
