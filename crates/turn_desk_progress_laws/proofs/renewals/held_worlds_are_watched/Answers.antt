use Rattle.std.proofs.Common.{◌≤◌, ◌+◌, ℕ, arith, List, [], refl, inl, inr, subst, sym}
use Rattle.turn_client_proto_messages.specs.Waiting.{Queued}
use Rattle.turn_desk_progress_laws.specs.Scripts.{Plan}
use Rattle.turn_client_proto_handshake_laws.specs.Choosing.{Choice}
use Rattle.turn_client_proto_progress_laws.specs.Keeping.{IsTerm, Term, due_of, next_of}
use Rattle.turn_desk_progress_laws.specs.Turns.{least}
use Rattle.turn_desk_progress_laws.specs.Watched.{IsLeft, IsLeftOf, room_of, term_of}
use Rattle.turn_desk_progress_laws.proofs.renewals.held_worlds_are_watched.Goals as goal

module _ (plan : Plan) (choice : Choice) (from lifetime : ℕ) (enough : least ≤ lifetime) (lasts : IsTerm (term_of lifetime from lifetime)) where
  abbrev t : Term
  t = term_of lifetime from lifetime

  record IsStarted (queue : List Queued) : Type 0 where
    pub rested : from + room_of queue ≤ due_of t
    pub left : IsLeftOf plan choice queue []
    pub until : from ≤ next_of t from queue

  started_by : (queue : List Queued) → IsLeft plan choice queue → IsStarted queue
  started_by queue (inl none) = subst (λ (l : List Queued). IsStarted l) (sym none) (record { rested = omega (arith, enough); left = tt; until = omega (arith, enough) })
  started_by queue (inr one) = let early = lasts.early in
      subst (λ (l : List Queued). IsStarted l) (sym one) (record { rested = omega (arith, enough); left = (refl, refl, refl); until = omega (arith, enough, early) })

pub returns : goal.returns
returns c = λ plan old w reported address lifetime fresh is enough.
    let range = fresh.timely.in_range in
    let lasts : IsTerm (term_of lifetime plan.second lifetime) = record { long = omega (arith, enough); enough = omega (arith, enough); fits = is.fits; early = omega (arith, range) } in
    let b = started_by plan is.choice plan.second lifetime enough lasts is.queue is.left in
    record {
      choice = is.choice;
      agreed = is.agreed;
      serving = is.serving;
      first = lifetime;
      lasts = lasts;
      last = plan.second;
      queue = is.queue;
      rested = b.rested;
      left = b.left;
      until = b.until;
      events = is.events;
      reported = tt;
      client = record {
        core = is.client.core;
        there = is.client.there;
        is = c.holding_clients_keep.ensures plan.client is.choice address lifetime plan.second plan.second is.queue is.events is.client.core is.client.is;
      };
    }
