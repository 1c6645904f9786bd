-- A grant is stored exactly if it is granted.
use Rattle.std.specs.Prelude.{◌≡◌, ℕ, ◌↔◌, List, [], ◌∷◌, ◌++◌, length}
use Rattle.std.proofs.Common.{sym, ap, ◌∙◌, subst, arith, inl, inr}
use Rattle.std.proofs.lemmas.List.{length-append}
use Rattle.std.specs.declared.net.socket_addr.SocketAddr.{SocketAddr}
use Rattle.rand_core.specs.Stream.{Stream}
use Rattle.stun_types_wire.specs.Grammar.{number_at}
use Rattle.stun_types_wire.specs.MessageReading.{IsReadAs}
use Rattle.stun_proto_verify.specs.Judgement.{user_key}
use Rattle.stun_types_wire.specs.declared.class.MessageClass.TheVariants.{Success, Error}
use Rattle.stun_types_wire.specs.Attributes.{kind_at}
use Rattle.stun_types_wire.specs.Types.{method_of, type_of}
use Rattle.stun_types_message.specs.Objections.{error_type}
use Rattle.turn_desk_core.specs.Replies.{signed_attributes, success_type}
use Rattle.turn_desk_core.proofs.Methods.{by_method}
use Rattle.turn_desk_core.specs.declared.decision.Decision.{Decision}
use Rattle.turn_desk_core.specs.declared.grant.Grant as granted
use Rattle.turn_desk_core.specs.Requests.{IsServed}
use Rattle.turn_desk_core.specs.Verdicts.{grants_of, reply_attributes, verdict_on}
use Rattle.turn_desk_core.proofs.Granting.{granted_stored, verdict_stored}
use Rattle.turn_desk_core.specs.State.{State}
use Rattle.turn_desk_core.specs.Steps.{IsAnswer, IsGranted, IsVerdict}

-- A list differs from itself with one more element.
not_one_more : (all : List granted.Grant) (g : granted.Grant) → all ≡ all ++ g ∷ [] → ⊥
not_one_more all g same = let longer = ap length same in let both = length-append all (g ∷ []) in omega (arith, longer, both)

-- Appending to a list is injective.
same_after : (all one other : List granted.Grant) → all ++ one ≡ all ++ other → one ≡ other
same_after [] one other same = same
same_after (a ∷ all) one other same = same_after all one other (Prim.cc same)

abbrev KeepsMore : State → State → granted.Grant → Type 0
KeepsMore old new g = new.grants ≡ old.grants ++ g ∷ []

-- What a verdict stores is granted.
stored_is_granted : (old new : State) (from : SocketAddr) (bytes : List ℕ) (now : ℕ) (stream : Stream) (decision : Decision) (reply : List ℕ) (g : granted.Grant) → IsServed bytes
    → IsVerdict old from bytes now stream (verdict_on bytes decision) reply new → KeepsMore old new g → IsGranted old from bytes now stream decision reply g
stored_is_granted old new from bytes now stream decision reply g served v more =
    let stored = verdict_stored bytes from decision g served (same_after old.grants (grants_of bytes from (verdict_on bytes decision)) (g ∷ []) (sym v.granted ∙ more)) in
    let shows = reply_attributes bytes from (verdict_on bytes decision) in
    record {
      name = v.name;
      algorithm = v.algorithm;
      accepts = v.judged.accepts;
      password = v.password;
      present = v.present;
      shows = shows;
      granted_by = stored.grant;
      read = subst (λ (kind : ℕ). IsReadAs kind (number_at bytes) (signed_attributes kind (number_at bytes) shows (user_key old.auth.realm v.name v.password v.algorithm) v.algorithm) reply) stored.success v.read;
    }

-- No error response is a success response.
no_success : (bytes : List ℕ) → IsServed bytes → success_type bytes ≡ error_type bytes → ⊥
no_success bytes served = by_method (λ (m : ℕ). type_of Success m ≡ type_of Error m → ⊥)
    (record {
      allocate = λ p. omega (arith, p);
      refresh = λ p. omega (arith, p);
      create_permission = λ p. omega (arith, p);
      channel_bind = λ p. omega (arith, p);
      connect = λ p. omega (arith, p);
      connection_bind = λ p. omega (arith, p);
    }) (method_of (kind_at bytes)) served.method

pub exactly_granted : (old new : State) (from : SocketAddr) (bytes : List ℕ) (now : ℕ) (stream : Stream) (decision : Decision) (reply : List ℕ) (g : granted.Grant) → IsServed bytes → IsAnswer old from bytes now stream decision reply new
    → KeepsMore old new g ↔ IsGranted old from bytes now stream decision reply g
exactly_granted old new from bytes now stream decision reply g served (inl away) = (
  λ more. absurd (not_one_more old.grants g (sym away.granted ∙ more)),
  λ is. absurd (no_success bytes served (sym is.read.kind ∙ away.read.kind)),
)
exactly_granted old new from bytes now stream decision reply g served (inr v) = (
  λ more. stored_is_granted old new from bytes now stream decision reply g served v more,
  λ is. v.granted ∙ ap (λ (one : List granted.Grant). old.grants ++ one) (granted_stored bytes from decision is.shows g is.granted_by),
)
