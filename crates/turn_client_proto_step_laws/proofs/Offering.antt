-- An indication that announces a connection which a peer opened is a step of a run, if the client accepts such (RFC
-- 6062, section 4.4).
use Rattle.std.proofs.Common.{◌≡◌, ℕ, ◌==◌, ◌&&◌, Bool, true, false, List, [], ◌∷◌, ◌++◌, length, Option, Some, None, if◌then◌else◌, refl, sym, ap, ◌∙◌, subst, arith, inl, inr}
use Rattle.std.proofs.lemmas.Bool.{cases_Bool, eqb-true}
use Rattle.std.specs.List.{find}
use Rattle.std.specs.Prelude.{nat_le}
use Rattle.std.specs.declared.net.socket_addr.SocketAddr.{SocketAddr}
use Rattle.turn_client_proto_timers.specs.StunTypesWire.Attributes.{kind_at}
use Rattle.turn_client_proto_timers.specs.StunTypesWire.Grammar.{refusal}
use Rattle.turn_client_proto_timers.specs.StunTypesWire.declared.class.MessageClass.{MessageClass}
use Rattle.turn_client_proto_timers.specs.StunTypesWire.declared.class.MessageClass.TheVariants.{Request, Indication, Success, Error}
use Rattle.turn_client_proto_timers.specs.StunTypesWire.Types.{class_of, method_of}
use Rattle.turn_client_proto_recv.specs.TurnTypesAttributes.TurnRegistry.{connection_attempt_method}
use Rattle.turn_client_proto_timers.specs.StunTypesBase.declared.transport.TransportType.TheVariants.{Tcp}
use Rattle.turn_client_proto_timers.specs.Allocation.Changes.{change_first}
use Rattle.turn_client_proto_timers.specs.Allocation.Same.{is_same_transport}
use Rattle.turn_client_proto_timers.specs.Peers.Channel.Numbers.{AreDistinct}
use Rattle.turn_client_proto_timers.specs.Connection.Attempts.{is_joining, offered}
use Rattle.turn_client_proto_timers.specs.Connection.Reported.{waiting_for}
use Rattle.turn_client_proto_timers.specs.Messages.Reported.{connection_reported, peer_reported}
use Rattle.turn_client_proto_timers.specs.TurnRuns.Indications.{is_indication}
use Rattle.turn_client_proto_timers.specs.TurnRuns.Messages as run
use Rattle.turn_client_proto_timers.specs.TurnRuns.Steps.{ClientStep, IsOffered}
use Rattle.turn_client_proto_timers.specs.TurnRuns.StunWire.{decoded_by}
use Rattle.turn_client_proto_timers.specs.Core.Attempting.{IsIndicationTaken, after_offer, after_offer_in, after_offer_of, may_join, offers_limit, takes_offer}
use Rattle.turn_client_proto_timers.specs.Core.declared.protocol.Protocol.{Protocol}
use Rattle.turn_client_proto_step_laws.specs.ClientWords.{Waits, client_words}
use Rattle.turn_client_proto_step_laws.specs.Held.{Allocation}
use Rattle.turn_client_proto_step_laws.specs.RunClient.{Client, moved, parts_of}
use Rattle.turn_client_proto_step_laws.specs.RunSteps.{IsRunStep, call_of}
use Rattle.turn_client_proto_step_laws.specs.Sound.{CanAsk, IsSound}
use Rattle.turn_client_proto_step_laws.proofs.Agents.{message_listed}
use Rattle.turn_client_proto_step_laws.proofs.Connecting.{number_decoded}
use Rattle.turn_client_proto_step_laws.proofs.Ending.{still}
use Rattle.turn_client_proto_step_laws.proofs.Joined.{learns, learns_unattempted}
use Rattle.turn_client_proto_step_laws.proofs.Joining.{AreJoining, IsJoining, attempted_joining, first_joining, joining_orderly, none_connects, stored_joining, taken_joining, waited_itself, waits_joining}
use Rattle.turn_client_proto_step_laws.proofs.Lessening.{same_first_distinct}
use Rattle.turn_client_proto_step_laws.proofs.Lists.{both_so, in_either, nothing_after}
use Rattle.turn_client_proto_step_laws.proofs.Orderly.{until_all}
use Rattle.turn_client_proto_step_laws.proofs.Peers.{first_peer}
use Rattle.turn_client_proto_step_laws.proofs.Plain.{counts_none, held_is_stored, notices}
use Rattle.turn_client_proto_step_laws.proofs.Polling.{by_test}

-- ---- the outcomes of an indication

-- What holds of the client as it was, and of the client with one more waiting connection, holds afterwards.
module _ (bytes : List ℕ) (p : Protocol) (Is : Protocol → Type 0) (same : Is p)
    (begun : (connection : ℕ) (peer : SocketAddr) (a : Allocation) → connection_reported bytes ≡ Some connection → peer_reported bytes ≡ Some peer
    → find (may_join peer p) p.allocations ≡ Some a → nat_le (offers_limit p.max_connection_attempts) (length a.waiting) ≡ false
    → Is (record p { allocations = change_first (may_join peer p) (offered connection peer) p.allocations })) where
  by_allocation : (connection : ℕ) (peer : SocketAddr) → connection_reported bytes ≡ Some connection → peer_reported bytes ≡ Some peer
      → (found : Option Allocation) → find (may_join peer p) p.allocations ≡ found → Is (after_offer_in found connection peer p)
  by_allocation connection peer one other None at = same
  by_allocation connection peer one other (Some a) at = elim (cases_Bool (is_joining peer a)) [
    | inl joins ↦ rw joins same
    | inr new ↦ elim (cases_Bool (nat_le (offers_limit p.max_connection_attempts) (length a.waiting))) [
      | inl full ↦ rw (new, full) same
      | inr room ↦ rw (new, room) (begun connection peer a one other at room)
    ]
  ]

  by_names : (connection : Option ℕ) (peer : Option SocketAddr) → connection_reported bytes ≡ connection → peer_reported bytes ≡ peer → Is (after_offer_of connection peer p)
  by_names None peer one other = same
  by_names (Some connection) None one other = same
  by_names (Some connection) (Some peer) one other = by_allocation connection peer one other (find (may_join peer p) p.allocations) refl

  pub offer_so : Is (after_offer bytes p)
  offer_so = by_names (connection_reported bytes) (peer_reported bytes) refl refl

-- ---- a connection that is announced

pub offered_joining : (connection : ℕ) (peer : SocketAddr) (a : Allocation) → IsJoining none_connects (learns connection peer) a (offered connection peer a)
offered_joining connection peer a = record {
  others = refl;
  connecting = λ c listed. inl listed;
  waiting = λ w listed. elim (in_either w a.waiting (waiting_for connection peer ∷ []) listed) [
    | inl was ↦ inl (waited_itself a.waiting w was)
    | inr own ↦ elim own [ inl same ↦ inr (sym same) | inr none ↦ absurd none ]
  ];
}

indication_class : (class : MessageClass) → is_indication class ≡ true → class ≡ Indication
indication_class Indication is = refl
indication_class Request is = absurd (Prim.cc is)
indication_class Success is = absurd (Prim.cc is)
indication_class Error is = absurd (Prim.cc is)

module _ (c : Client) (bytes : List ℕ) (message : refusal bytes ≡ None) (sound : IsSound c) (can : CanAsk c) (indication : is_indication (class_of (kind_at bytes)) ≡ true) (taken : takes_offer c.core bytes ≡ true) where
  abbrev is_own : Bool
  is_own = method_of (kind_at bytes) == connection_attempt_method

  both : (c.core.attempt_indications ≡ true) × ((is_same_transport c.core.allocates Tcp && is_own) ≡ true)
  both = both_so c.core.attempt_indications (is_same_transport c.core.allocates Tcp && is_own) taken

  own_method : method_of (kind_at bytes) ≡ connection_attempt_method
  own_method = eqb-true (method_of (kind_at bytes)) connection_attempt_method (both_so (is_same_transport c.core.allocates Tcp) is_own both.1).1

  module _ (connection : ℕ) (peer : SocketAddr) (reported : connection_reported bytes ≡ Some connection) (named : peer_reported bytes ≡ Some peer) where
    abbrev left : List Allocation
    left = change_first (may_join peer c.core) (offered connection peer) c.core.allocations

    abbrev core : Protocol
    core = record c.core { allocations = left }

    are : AreJoining none_connects (learns connection peer) c.core.allocations left
    are = first_joining none_connects (learns connection peer) (may_join peer c.core) (offered connection peer) c.core.allocations (λ a found. offered_joining connection peer a)

    offers : (n : ℕ) (to : SocketAddr) → connection ≡ n → peer ≡ to → IsOffered client_words (call_of c (bytes ∷ []) None [] (moved c c.transmitted core)) n to
    offers n to same alike =
        let first = first_peer bytes peer named in record {
          accepts = sym can.settings.1 ∙ both.0;
          bytes = bytes;
          handled = inl refl;
          offer = decoded_by bytes;
          shows = message_listed bytes message;
          class_is = indication_class (class_of (kind_at bytes)) indication;
          method_is = own_method;
          connection_is = number_decoded bytes connection reported ∙ ap Some same;
          others = first.0;
          peers_are = first.1 ∙ ap (λ (x : SocketAddr). x ∷ first.0) alike;
        }

    step : ClientStep client_words (call_of c (bytes ∷ []) None [] (moved c c.transmitted core))
    step = record {
      account = refl;
      seed = refl;
      accepts = λ a. a;
      realms = λ realm h. inl h;
      counted = (counts_none c core refl).counted;
      few = (counts_none c core refl).few;
      started = [];
      requests = λ m h. absurd h;
      numbered = omega arith;
      outstanding = λ m h. inl h;
      queued = λ m h. inl h;
      taken = λ n h. inl (elim (taken_joining none_connects (learns connection peer) (parts_of c.core) left are (learns_unattempted connection peer) n h) [ inl was ↦ was | inr now ↦ absurd now.1 ]);
      draws = λ generated m h shows. absurd (Prim.cc h);
      handles = λ x h. inl h;
      buffers = λ x h. inr h;
      gained = [];
      gains = λ h k. inl (stored_joining none_connects (learns connection peer) (parts_of c.core) left are h k);
      answers = λ x h. absurd h;
      once = tt;
      spent = λ x m h. absurd h;
      known = λ x h. absurd h;
      is_of = λ x h. absurd h;
      decodes = nothing_after (notices c.core.events);
      shows = λ h k. held_is_stored left h k;
      visible = λ h i. absurd i;
      waits = λ n p w. elim (waits_joining none_connects (learns connection peer) (parts_of c.core) left are n p w) [
        | inl was ↦ inl was
        | inr learnt ↦ inr (inr (inr (offers n p (ap (λ x. x.connection) (sym learnt.1) ∙ learnt.2) (ap (λ x. x.peer) (sym learnt.1) ∙ learnt.3))))
      ];
      attempted = λ n h. inl (attempted_joining none_connects (learns connection peer) (parts_of c.core) left are (learns_unattempted connection peer) n h);
      delivers = λ p h. absurd h;
      names = λ p h. absurd h;
    }

    offered_step : IsRunStep c (bytes ∷ []) None [] core
    offered_step = record {
      after = moved c c.transmitted core;
      core_is = refl;
      waits = refl;
      step = step;
      sound = record {
        orderly = joining_orderly none_connects (learns connection peer) (parts_of c.core) left are (λ k h. absurd h) (λ k h. absurd h)
            (same_first_distinct (may_join peer c.core) (offered connection peer) (λ a. (refl, refl)) c.core.allocations sound.orderly.distinct) sound.orderly;
        can_ask = until_all c.core.phase (record {
          account = can.account;
          settled = can.settled;
          texts = can.texts;
          settings = can.settings;
          words = can.words;
        });
      };
    }

-- An indication is a step, accepted or not.
pub indication_step : (c : Client) (bytes : List ℕ) (handled : Bool) (new : Protocol) → IsSound c → CanAsk c → refusal bytes ≡ None → is_indication (class_of (kind_at bytes)) ≡ true
    → IsIndicationTaken c.core bytes handled new → IsRunStep c (bytes ∷ []) None [] new
indication_step c bytes handled new sound can message indication is =
    by_test (takes_offer c.core bytes)
    (λ (taken : takes_offer c.core bytes ≡ true) (o : (handled ≡ true) × (new ≡ after_offer bytes c.core)).
    subst (λ (p : Protocol). IsRunStep c (bytes ∷ []) None [] p) (sym o.1)
    (offer_so bytes c.core (λ p. IsRunStep c (bytes ∷ []) None [] p) (still c (bytes ∷ []) c.core sound refl)
    (λ connection peer a reported named found room. offered_step c bytes message sound can indication taken connection peer reported named)))
    (λ (_ : takes_offer c.core bytes ≡ false) (o : (handled ≡ false) × (new ≡ c.core)). still c (bytes ∷ []) new sound o.1) is
