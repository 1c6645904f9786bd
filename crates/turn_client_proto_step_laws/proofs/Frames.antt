-- Over TCP: frames that are received are buffered, and handled one by one.
use Rattle.std.proofs.Common.{◌≡◌, ◌⊎◌, ℕ, Bool, List, [], ◌∷◌, Some, None, refl, sym, subst, inl, inr}
use Rattle.turn_client_proto_timers.specs.StunTypesWire.Grammar.{refusal}
use Rattle.turn_client_proto_timers.specs.StunTypesWire.Headers.{AreBytes}
use Rattle.turn_client_proto_timers.specs.Core.Receiving.{IsProcessed}
use Rattle.turn_client_proto_timers.specs.Core.declared.protocol.Protocol.{Protocol}
use Rattle.turn_client_proto_timers.specs.TurnRuns.Members.{IsIn}
use Rattle.turn_client_proto_timers.specs.TurnRuns.Messages.{Holds, Knows, Payload as Reported}
use Rattle.turn_client_proto_recv.specs.Payload.OfPeers.{reported_of}
use Rattle.turn_client_proto_recv.specs.Payload.Payloads.{payload_of}
use Rattle.turn_client_proto_timers.specs.TurnRuns.Steps.{Call, ClientStep}
use Rattle.turn_client_proto_recv.specs.Payload.declared.payload.Payload.{Payload}
use Rattle.turn_client_proto_step_laws.specs.ClientWords.{client_words}
use Rattle.turn_client_proto_step_laws.specs.RunClient.{Client}
use Rattle.turn_client_proto_step_laws.specs.RunSteps.{IsComing, IsGiving, IsRunStep, IsTakingUp, call_of}
use Rattle.turn_client_proto_step_laws.specs.Sound.{CanAsk, IsSound}
use Rattle.turn_client_proto_step_laws.proofs.Ending.{still}
use Rattle.turn_client_proto_step_laws.proofs.Giving.{giving_step}
use Rattle.turn_client_proto_step_laws.proofs.Orderly.{until_map}
use Rattle.turn_client_proto_step_laws.proofs.Receiving.{receive_step}
use Rattle.turn_client_proto_step_laws.proofs.Showing.{answered, delivered, offered, tried}

-- ---- the same call, with other frames that came and wait

-- A client with these buffered frames.
abbrev waits : List (List ℕ) → Client → Client
waits frames c = record c { waiting = frames }

pub waits_sound : (frames : List (List ℕ)) (c : Client) → IsSound c → IsSound (waits frames c)
waits_sound frames c sound = record {
  orderly = sound.orderly;
  can_ask = until_map c.core.phase (λ (can : CanAsk c). record { account = can.account; settled = can.settled; texts = can.texts; settings = can.settings; words = can.words }) sound.can_ask;
}

module _ (call : Call Client) (came before after : List (List ℕ)) where
  abbrev other : Call Client
  other = record call { before = waits before call.before; came = came; after = waits after call.after }

  -- What is handled was received now or was buffered, and what is buffered afterwards was received now or was
  -- buffered.
  framed_step : ((f : List ℕ) → IsIn f call.handled → IsIn f came ⊎ IsIn f before) → ((f : List ℕ) → IsIn f after → IsIn f came ⊎ IsIn f before)
      → ClientStep client_words call → ClientStep client_words other
  framed_step handles buffers is = record {
    account = is.account;
    seed = is.seed;
    accepts = is.accepts;
    realms = is.realms;
    counted = is.counted;
    few = is.few;
    started = is.started;
    requests = is.requests;
    numbered = is.numbered;
    outstanding = is.outstanding;
    queued = is.queued;
    taken = λ n h. elim (is.taken n h) [
      | inl was ↦ inl was
      | inr now ↦ elim now [ inl made ↦ inr (inl made) | inr attempt ↦ inr (inr (tried client_words call other refl refl refl refl (λ m is. is) attempt)) ]
    ];
    draws = is.draws;
    handles = handles;
    buffers = buffers;
    gained = is.gained;
    gains = is.gains;
    answers = λ t h. answered client_words call other refl refl refl refl (λ m is. is) is.started (Holds t.held) t.number (is.answers t h);
    once = is.once;
    spent = is.spent;
    known = is.known;
    is_of = is.is_of;
    decodes = is.decodes;
    shows = is.shows;
    visible = is.visible;
    waits = λ n peer h. elim (is.waits n peer h) [
      | inl was ↦ inl was
      | inr now ↦ elim now [
        | inl known ↦ inr (inl (known.0, answered client_words call other refl refl refl refl (λ m is. is) is.started (Knows n peer) known.0 known.1))
        | inr announced ↦ elim announced [
          | inl attempt ↦ inr (inr (inl (tried client_words call other refl refl refl refl (λ m is. is) attempt)))
          | inr offer ↦ inr (inr (inr (offered client_words call other refl (λ a. a) n peer offer)))
        ]
      ]
    ];
    attempted = λ n h. elim (is.attempted n h) [ inl was ↦ inl was | inr attempt ↦ inr (tried client_words call other refl refl refl refl (λ m is. is) attempt) ];
    delivers = λ p i. delivered client_words call other refl p (is.delivers p i);
    names = is.names;
  }

-- A step is also one if no frame is buffered any more after it.
pub losing_step : (call : Call Client) → ClientStep client_words call → ClientStep client_words (record call { after = record call.after { waiting = [] } })
losing_step call is = framed_step call call.came call.before.waiting [] is.handles (λ f i. absurd i) is

-- ---- frames come

module _ (c : Client) (sound : IsSound c) where
  pub coming_step : (came waiting : List (List ℕ)) → ((f : List ℕ) → IsIn f waiting → IsIn f came ⊎ IsIn f c.waiting) → IsComing c came waiting
  coming_step came waiting of_these =
      let quiet = still c [] c.core sound refl in
      record {
        after = waits waiting quiet.after;
        core_is = quiet.core_is;
        waits = refl;
        step = framed_step (call_of c [] None [] quiet.after) came c.waiting waiting (λ f i. absurd i) of_these quiet.step;
        sound = waits_sound waiting quiet.after quiet.sound;
      }

-- ---- one that waited is taken up

module _ (c : Client) (sound : IsSound c) (frame : List ℕ) (rest : List (List ℕ)) (waited : c.waiting ≡ frame ∷ rest) where
  -- What is buffered afterwards was buffered before.
  waited_too : (f : List ℕ) → IsIn f rest → IsIn f [] ⊎ IsIn f c.waiting
  waited_too f i = inr (subst (λ (l : List (List ℕ)). IsIn f l) (sym waited) (inr i))

  was_first : (f : List ℕ) → IsIn f (frame ∷ []) → IsIn f [] ⊎ IsIn f c.waiting
  was_first f i = elim i [
    | inl same ↦ inr (subst (λ (l : List (List ℕ)). IsIn f l) (sym waited) (inl same))
    | inr none ↦ absurd none
  ]

  -- The frame is handled as if it came now.
  taken_up : (payloads : List Reported) (new : Protocol) → IsGiving c frame payloads new → IsTakingUp c frame payloads new
  taken_up payloads new is = record {
    after = waits rest is.after;
    core_is = is.core_is;
    waits = waited;
    step = framed_step (record (call_of c (frame ∷ []) None [] is.after) { payloads = payloads }) [] c.waiting rest was_first waited_too is.step;
    sound = waits_sound rest is.after is.sound;
  }

  nothing_given : (new : Protocol) → IsRunStep c (frame ∷ []) None [] new → IsGiving c frame [] new
  nothing_given new is = record { after = is.after; core_is = is.core_is; waits = is.waits; step = is.step; sound = is.sound }

  -- A message is handled.
  pub processing_step : (now : ℕ) (handled : Bool) (new : Protocol) → AreBytes frame → refusal frame ≡ None → IsProcessed c.core frame now handled new → IsTakingUp c frame [] new
  processing_step now handled new are_bytes message is = taken_up [] new (nothing_given new (receive_step c frame now handled new sound are_bytes message is))

  -- The frame has no effect.
  pub passing_step : (new : Protocol) → new ≡ c.core → IsTakingUp c frame [] new
  passing_step new is = taken_up [] new (nothing_given new (still c (frame ∷ []) new sound is))

  -- Something of a peer is delivered.
  pub handing_step : (payload : Payload) → payload_of c.core frame ≡ Some payload → IsTakingUp c frame (reported_of frame payload ∷ []) c.core
  handing_step payload is = taken_up (reported_of frame payload ∷ []) c.core (giving_step c frame payload sound is)
