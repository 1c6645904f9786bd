-- What a client has in addition after it handled a message, that message brings as the response to an
-- outstanding request.
use Rattle.std.proofs.Common.{◌≡◌, ℕ, ◌+◌, ◌≤◌, ◌<◌, Bool, List, [], ◌∷◌, ◌++◌, Some, None, refl, sym, ap, ◌∙◌, subst, arith, inl, inr}
use Rattle.std.specs.declared.net.socket_addr.SocketAddr.{SocketAddr}
use Rattle.turn_client_proto_timers.specs.StunTypesWire.Attributes.{Attr, attr_size, numbered}
use Rattle.turn_client_proto_timers.specs.StunTypesWire.Grammar.{refusal, visible}
use Rattle.turn_client_proto_timers.specs.StunTypesWire.Headers.{AreBytes}
use Rattle.turn_client_proto_timers.specs.StunTypesIntegrity.Integrity.{algorithm_of, attribute_kind}
use Rattle.turn_client_proto_timers.specs.StunTypesWire.declared.algorithm.IntegrityAlgorithm.{IntegrityAlgorithm}
use Rattle.turn_client_proto_timers.specs.StunTypesWire.declared.algorithm.IntegrityAlgorithm.TheVariants.{Sha1, Sha256, Sha512}
use Rattle.turn_client_proto_timers.specs.StunTypesWire.declared.class.MessageClass.TheVariants.{Success}
use Rattle.turn_client_proto_timers.specs.StunTypesWire.Registry.{header_size}
use Rattle.turn_client_proto_recv.specs.Processing.{IsProcessedAt}
use Rattle.turn_client_proto_timers.specs.TurnRuns.Members.{IsIn}
use Rattle.turn_client_proto_timers.specs.TurnRuns.Messages as run
use Rattle.turn_client_proto_timers.specs.TurnRuns.Steps.{AreNumbered, Call, ClientStep, IsAnswered, Reported}
use Rattle.turn_client_proto_timers.specs.TurnRuns.StunWire.{AreValid, stun_wire}
use Rattle.turn_client_proto_timers.specs.Core.Receiving.{IsProcessed}
use Rattle.turn_client_proto_timers.specs.Core.declared.protocol.Phase.{Phase}
use Rattle.turn_client_proto_timers.specs.Core.declared.protocol.Phase.TheVariants.{Initial, InitialSent, Authenticating, Authenticated, Ended}
use Rattle.turn_client_proto_timers.specs.Core.declared.protocol.Protocol.{Protocol}
use Rattle.turn_client_proto_step_laws.specs.Adding.{AddsAnswered, AddsNothing, IsAnsweredBy, IsSignedFor, ShowNoIntegrity}
use Rattle.turn_client_proto_step_laws.specs.ClientWords.{IsStored, IsOutstanding, client_words}
use Rattle.turn_client_proto_step_laws.specs.RunClient.{Client}
use Rattle.turn_client_proto_step_laws.specs.RunSteps.{IsReceiving, call_of}
use Rattle.turn_client_proto_step_laws.specs.Sound.{CanAsk, IsSound, UntilEnded}
use Rattle.turn_client_proto_step_laws.proofs.Answering.{answer_step}
use Rattle.turn_client_proto_step_laws.proofs.Plain.{counts_none}
use Rattle.turn_client_proto_step_laws.proofs.Realms.{IsGoing}
use Rattle.turn_client_proto_step_laws.proofs.Receiving.{receive_step}
use Rattle.turn_client_proto_step_laws.proofs.Signed.{validated_own}
use Rattle.turn_client_proto_step_laws.proofs.Unasked.{Comes, IsAcceptedBy, processed_at_comes, processed_keeps}

-- A response that brings something is a success.
is_success : (m : run.Message) (h : run.Held) → run.Brings m (run.Holds h) → m.class ≡ Success
is_success m (run.Allocation transport address) brings = brings.0
is_success m (run.Permission transport ip) brings = brings
is_success m (run.Channel number peer) brings = brings
is_success m (run.Connection local peer number) brings = brings

-- No index is between a number and itself.
nowhere : (from to index : ℕ) → to ≡ from → from ≤ index → index < to → ⊥
nowhere from to index same after before = omega (arith, same, after, before)

none_started : (c : Client) (to : ℕ) (started : List run.Message) → to ≡ c.transmitted → AreNumbered client_words c [] c.transmitted to started → (m : run.Message) → IsIn m started → ⊥
none_started c to [] same numbered m h = h
none_started c to (x ∷ started) same numbered m h = nowhere c.transmitted to numbered.0 same numbered.1 numbered.2

module _ (c : Client) (bytes : List ℕ) (new : Protocol) (is : IsReceiving c bytes new) (same : new.rng ≡ c.core.rng) (signed : IsSignedFor c bytes) where
  -- No transaction ID was generated, and no request was made.
  none_transmitted : is.after.transmitted ≡ c.transmitted
  none_transmitted =
      let still : is.after.core.rng ≡ c.core.rng = ap (λ (p : Protocol). p.rng) is.core_is ∙ same in
      is.step.counted ∙ sym (counts_none c is.after.core still).counted

  none_made : (m : run.Message) → IsIn m is.step.started → ⊥
  none_made m h = none_started c is.after.transmitted is.step.started none_transmitted is.step.numbered m h

  -- The bytes that answered are these.
  these : (x : List ℕ) → IsIn x (bytes ∷ []) → x ≡ bytes
  these x (inl own) = sym own
  these x (inr none) = absurd none

  by_answer : (t : Reported) → IsIn t is.step.gained → IsAnswered client_words (call_of c (bytes ∷ []) None [] is.after) is.step.started (run.Holds t.held) t.number → IsAnsweredBy c bytes new t.held
  by_answer t listed a =
      let own : a.bytes ≡ bytes = these a.bytes a.arrives.handled in
      record {
        response = a.response;
        shows = ap (λ (x : List ℕ). stun_wire.visible x) (sym own) ∙ a.arrives.shows;
        signed = signed;
        success = is_success a.response t.held a.brings;
        brings = a.brings;
        request = a.request;
        waited = elim a.waited [ inl was ↦ was | inr now ↦ absurd (none_made a.request now) ];
        number_is = a.request_is ∙ sym a.number_is;
        asks = a.asks;
        spent = λ m h e. none_made m (is.step.spent t m listed (subst (λ (p : Protocol). IsOutstanding p.agent m) (sym is.core_is) h) (e ∙ a.number_is));
        known = is.step.known t listed;
      }

  pub answered_adds : AddsAnswered c bytes new
  answered_adds h k = elim (is.step.gains h (subst (λ (p : Protocol). IsStored p.allocations h) (sym is.core_is) k)) [
    | inl was ↦ inl was
    | inr gained ↦ inr (subst (λ (x : run.Held). IsAnsweredBy c bytes new x) gained.2 (by_answer gained.0 gained.1 (is.step.answers gained.0 gained.1)))
  ]

-- A client that has not ended can make requests.
can_while : (c : Client) (phase : Phase) → IsGoing phase → UntilEnded phase (CanAsk c) → CanAsk c
can_while c Initial going can = can
can_while c (InitialSent numbers) going can = can
can_while c (Authenticating numbers) going can = can
can_while c Authenticated going can = can
can_while c Ended going can = absurd (Prim.cc (going (Some (record { realm = []; nonce = []; offered = None; choice = Sha1 }))))

pub signed_by : (c : Client) (bytes : List ℕ) → IsSound c → AreBytes bytes → IsAcceptedBy c.core bytes → IsSignedFor c bytes
signed_by c bytes sound are_bytes is = validated_own c is.signer bytes is.algorithm are_bytes (can_while c c.core.phase is.going sound.can_ask) is.going is.valid

comes_adds : (c : Client) (bytes : List ℕ) (new : Protocol) → IsSound c → AreBytes bytes → IsReceiving c bytes new → Comes (IsAcceptedBy c.core bytes) bytes c.core.allocations c.core.agent c.core.rng new → AddsAnswered c bytes new
comes_adds c bytes new sound are_bytes is (inl more) h k = inl (more h k)
comes_adds c bytes new sound are_bytes is (inr taken) h k = answered_adds c bytes new is taken.1 (signed_by c bytes sound are_bytes taken.2) h k

unsigned : (c : Client) (bytes : List ℕ) (new : Protocol) → (IsSignedFor c bytes → ⊥) → AddsAnswered c bytes new → AddsNothing c.core new
unsigned c bytes new isnt adds h k = elim (adds h k) [ inl was ↦ was | inr gained ↦ absurd (isnt gained.signed) ]

-- ---- where no integrity is visible

in_middle : {X : Type 0} (x : X) (head following : List X) → IsIn x (head ++ x ∷ following)
in_middle x [] following = inl refl
in_middle x (y ∷ head) following = inr (in_middle x head following)

-- An attribute with its position is one of the attributes.
in_numbered : (all : List Attr) (offset : ℕ) (entry : ℕ × Attr) → IsIn entry (numbered offset all) → IsIn entry.1 all
in_numbered [] offset entry h = h
in_numbered (a ∷ all) offset entry (inl own) = inl (ap (λ (e : ℕ × Attr). e.1) own)
in_numbered (a ∷ all) offset entry (inr later) = inr (in_numbered all (offset + attr_size a) entry later)

of_kind : (algorithm : IntegrityAlgorithm) → algorithm_of (attribute_kind algorithm) ≡ None → ⊥
of_kind Sha1 none = Prim.cc none
of_kind Sha256 none = Prim.cc none
of_kind Sha512 none = Prim.cc none

pub none_signed : (bytes key text : List ℕ) (algorithm : IntegrityAlgorithm) → ShowNoIntegrity bytes → AreValid bytes key algorithm text → ⊥
none_signed bytes key text algorithm none is =
    let signed = is.validates.signed in
    let entry : ℕ × Attr = (signed.offset, signed.attribute) in
    let listed : IsIn entry (numbered header_size (visible bytes)) = subst (λ (all : List (ℕ × Attr)). IsIn entry all) (sym signed.shows) (in_middle entry signed.before signed.following) in
    of_kind algorithm (ap algorithm_of (sym signed.kind) ∙ none signed.attribute (in_numbered (visible bytes) header_size entry listed))

-- ---- a message of the server's

module _ (c : Client) (bytes : List ℕ) (now : ℕ) (handled : Bool) (new : Protocol) (sound : IsSound c) (are_bytes : AreBytes bytes) (message : refusal bytes ≡ None) where
  pub processed_adds : IsProcessed c.core bytes now handled new → AddsAnswered c bytes new
  processed_adds is = comes_adds c bytes new sound are_bytes (receive_step c bytes now handled new sound are_bytes message is) ((processed_keeps bytes now c.core).keeps handled new is)

  pub processed_unsigned : (IsSignedFor c bytes → ⊥) → IsProcessed c.core bytes now handled new → AddsNothing c.core new
  processed_unsigned isnt is = unsigned c bytes new isnt (processed_adds is)

-- ---- one that came over the socket of a connection

module _ (c : Client) (here : SocketAddr) (bytes : List ℕ) (now : ℕ) (new : Protocol) (sound : IsSound c) (are_bytes : AreBytes bytes) (message : refusal bytes ≡ None) where
  pub processed_at_adds : IsProcessedAt here c.core bytes now new → AddsAnswered c bytes new
  processed_at_adds is = comes_adds c bytes new sound are_bytes (answer_step c bytes now new here sound are_bytes message is) (processed_at_comes here bytes now new c.core is)

  pub processed_at_unsigned : (IsSignedFor c bytes → ⊥) → IsProcessedAt here c.core bytes now new → AddsNothing c.core new
  processed_at_unsigned isnt is = unsigned c bytes new isnt (processed_at_adds is)

-- ---- no message

pub none_taken_up : (call : Call Client) → ClientStep client_words call → call.handled ≡ [] → AddsNothing call.before.core call.after.core
none_taken_up call step none h k = elim (step.gains h k) [
  | inl was ↦ was
  | inr gained ↦
      let answer = step.answers gained.0 gained.1 in
      absurd (subst (λ (all : List (List ℕ)). IsIn answer.bytes all) none answer.arrives.handled)
]
