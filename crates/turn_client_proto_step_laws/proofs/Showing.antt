-- A call that returns items as held is also a step, if they are held. So is a call that delivers payloads, if
-- each was received and names something that the client has.
use Rattle.std.proofs.Common.{◌≡◌, ℕ, List, refl, sym, ap, ◌∙◌, subst, inl, inr}
use Rattle.turn_client_proto_timers.specs.TurnRuns.Members.{IsIn}
use Rattle.turn_client_proto_timers.specs.TurnRuns.Messages.{Message, Held, Gain, Holds, Knows, NamesHeld, Payload, FromPeer, Reported, FromChannel, FromConnection}
use Rattle.turn_client_proto_timers.specs.TurnRuns.Names.{SocketAddr}
use Rattle.turn_client_proto_timers.specs.TurnRuns.Words.{Wire, ClientWords}
use Rattle.turn_client_proto_timers.specs.TurnRuns.Steps.{Arrives, Call, ClientStep, IsAnswered, IsDelivered, IsOffered, IsTried}

-- A call that handles the same bytes, with the same account, realm and algorithm, and at least as much
-- outstanding.
module _ {V : Wire} {C : Type 0} (K : ClientWords V C) (call other : Call C) (same : call.handled ≡ other.handled) (account : K.account call.before ≡ K.account other.before)
    (realm : K.realm call.before ≡ K.realm other.before) (algorithm : K.algorithm call.before ≡ K.algorithm other.before)
    (outstanding : (m : Message) → K.IsOutstanding call.before m → K.IsOutstanding other.before m) where
  pub arrives : (bytes : List ℕ) (m : Message) → Arrives K call bytes m → Arrives K other bytes m
  arrives bytes m is = record {
    handled = subst (IsIn bytes) same is.handled;
    shows = is.shows;
    key = is.key;
    algorithm = is.algorithm;
    own = (is.own.0, sym realm ∙ is.own.1, sym algorithm ∙ is.own.2, is.own.3 ∙ ap (λ (a : V.Account). V.key a is.own.0 is.algorithm) account);
    text = is.text;
    valid = is.valid;
  }

  pub tried : IsTried K call → IsTried K other
  tried is = record { bytes = is.bytes; attempt = is.attempt; arrives = arrives is.bytes is.attempt is.arrives; class_is = is.class_is; method_is = is.method_is }

  pub answered : (started : List Message) (gain : Gain) (number : ℕ) → IsAnswered K call started gain number → IsAnswered K other started gain number
  answered started gain number is = record {
    bytes = is.bytes;
    response = is.response;
    arrives = arrives is.bytes is.response is.arrives;
    number_is = is.number_is;
    request = is.request;
    waited = elim is.waited [ inl before ↦ inl (outstanding is.request before) | inr now ↦ inr now ];
    request_is = is.request_is;
    asks = is.asks;
    brings = is.brings;
  }

-- An indication that a call handled, any call handles that handles the same bytes.
pub offered : {V : Wire} {C : Type 0} (K : ClientWords V C) (call other : Call C) → call.handled ≡ other.handled → (K.AcceptsOffers call.before → K.AcceptsOffers other.before)
    → (number : ℕ) (peer : SocketAddr) → IsOffered K call number peer → IsOffered K other number peer
offered K call other same accepts number peer is = record {
  accepts = accepts is.accepts;
  bytes = is.bytes;
  handled = subst (IsIn is.bytes) same is.handled;
  offer = is.offer;
  shows = is.shows;
  class_is = is.class_is;
  method_is = is.method_is;
  connection_is = is.connection_is;
  others = is.others;
  peers_are = is.peers_are;
}

module _ {V : Wire} {C : Type 0} (K : ClientWords V C) (call : Call C) (held : List Held) (payloads : List Payload) where
  abbrev reporting : Call C
  reporting = record call { visible = held; payloads = payloads }

  reports_step : ((h : Held) → IsIn h held → K.IsHeld call.after h) → ((p : Payload) → IsIn p payloads → IsDelivered K reporting p)
      → ((p : Payload) → IsIn p payloads → (h : Held) × NamesHeld p h × K.IsStored call.after h) → ClientStep K call → ClientStep K reporting
  reports_step are delivers names is = record {
    account = is.account;
    seed = is.seed;
    accepts = is.accepts;
    realms = is.realms;
    counted = is.counted;
    few = is.few;
    started = is.started;
    requests = is.requests;
    numbered = is.numbered;
    outstanding = is.outstanding;
    queued = is.queued;
    taken = λ n h. elim (is.taken n h) [
      | inl was ↦ inl was
      | inr now ↦ elim now [ inl made ↦ inr (inl made) | inr came ↦ inr (inr (tried K call reporting refl refl refl refl (λ m is. is) came)) ]
    ];
    draws = is.draws;
    handles = is.handles;
    buffers = is.buffers;
    gained = is.gained;
    gains = is.gains;
    answers = λ t h. answered K call reporting refl refl refl refl (λ m is. is) is.started (Holds t.held) t.number (is.answers t h);
    once = is.once;
    spent = is.spent;
    known = is.known;
    is_of = is.is_of;
    decodes = is.decodes;
    shows = is.shows;
    visible = are;
    waits = λ n peer h. elim (is.waits n peer h) [
      | inl was ↦ inl was
      | inr now ↦ elim now [
        | inl known ↦ inr (inl (known.0, answered K call reporting refl refl refl refl (λ m is. is) is.started (Knows n peer) known.0 known.1))
        | inr announced ↦ elim announced [
          | inl came ↦ inr (inr (inl (tried K call reporting refl refl refl refl (λ m is. is) came)))
          | inr offer ↦ inr (inr (inr (offered K call reporting refl (λ a. a) n peer offer)))
        ]
      ]
    ];
    attempted = λ n h. elim (is.attempted n h) [ inl was ↦ inl was | inr came ↦ inr (tried K call reporting refl refl refl refl (λ m is. is) came) ];
    delivers = delivers;
    names = names;
  }

-- What was delivered in a call is delivered in any call that handles the same bytes.
pub delivered : {V : Wire} {C : Type 0} (K : ClientWords V C) (call other : Call C) → call.handled ≡ other.handled → (p : Payload) → IsDelivered K call p → IsDelivered K other p
delivered K call other same (FromPeer transport peer bytes) is = (is.0, subst (IsIn is.0) same is.1, is.2)
delivered K call other same (Reported transport peer report) is = (is.0, subst (IsIn is.0) same is.1, is.2)
delivered K call other same (FromChannel number peer bytes) is = (is.0, subst (IsIn is.0) same is.1, is.2)
delivered K call other same (FromConnection local peer bytes) is = tt

module _ {V : Wire} {C : Type 0} (K : ClientWords V C) (call : Call C) where
  pub shows_step : (held : List Held) → ((h : Held) → IsIn h held → K.IsHeld call.after h) → ClientStep K call → ClientStep K (record call { visible = held })
  shows_step held are is =
      reports_step K call held call.payloads are (λ p i. delivered K call (record call { visible = held }) refl p (is.delivers p i)) is.names is

  pub gives_step : (payloads : List Payload) → ((p : Payload) → IsIn p payloads → IsDelivered K call p)
      → ((p : Payload) → IsIn p payloads → (h : Held) × NamesHeld p h × K.IsStored call.after h) → ClientStep K call → ClientStep K (record call { payloads = payloads })
  gives_step payloads delivers names is =
      reports_step K call call.visible payloads is.visible (λ p i. delivered K call (record call { payloads = payloads }) refl p (delivers p i)) names is
