-- A reply to a request that is served is a response.
use Rattle.std.specs.Prelude.{◌≡◌, ℕ, true, List}
use Rattle.std.proofs.Common.{refl, ap, ◌∙◌}
use Rattle.stun_types_wire.specs.declared.class.MessageClass.TheVariants.{Success, Error}
use Rattle.stun_types_wire.specs.Attributes.{Attr, kind_at}
use Rattle.stun_types_wire.specs.Types.{method_of, type_of}
use Rattle.stun_types_write.specs.Drafts.{Draft}
use Rattle.stun_types_message.specs.Objections.{error_type}
use Rattle.stun_types_wire.specs.Text.{header_text, message_text}
use Rattle.stun_proto_verify.specs.Judgement.{is_response}
use Rattle.turn_desk_core.specs.Replies.{IsReply, success_type}
use Rattle.turn_desk_core.specs.declared.verdict.Verdict.{Verdict}
use Rattle.turn_desk_core.specs.declared.verdict.Verdict.TheVariants.{Fails, Allocates, Refreshes, Permits, Binds, Connects, Joins}
use Rattle.turn_desk_core.specs.Requests.{IsServed}
use Rattle.turn_desk_core.specs.Verdicts.{reply_type}
use Rattle.turn_desk_core.proofs.Methods.{by_method}

error_class : (bytes : List ℕ) (number : ℕ) (attributes : List Attr) → IsServed bytes → is_response (message_text (error_type bytes) number attributes) ≡ true
unfolding message_text header_text
error_class bytes number attributes served = by_method (λ (m : ℕ). is_response (message_text (type_of Error m) number attributes) ≡ true)
    (record { allocate = refl; refresh = refl; create_permission = refl; channel_bind = refl; connect = refl; connection_bind = refl }) (method_of (kind_at bytes)) served.method

success_class : (bytes : List ℕ) (number : ℕ) (attributes : List Attr) → IsServed bytes → is_response (message_text (success_type bytes) number attributes) ≡ true
unfolding message_text header_text
success_class bytes number attributes served = by_method (λ (m : ℕ). is_response (message_text (type_of Success m) number attributes) ≡ true)
    (record { allocate = refl; refresh = refl; create_permission = refl; channel_bind = refl; connect = refl; connection_bind = refl }) (method_of (kind_at bytes)) served.method

reply_class : (bytes : List ℕ) (what : Verdict) (number : ℕ) (attributes : List Attr) → IsServed bytes → is_response (message_text (reply_type bytes what) number attributes) ≡ true
reply_class bytes (Fails code) number attributes served = error_class bytes number attributes served
reply_class bytes (Allocates transport relayed lifetime) number attributes served = success_class bytes number attributes served
reply_class bytes (Refreshes lifetime) number attributes served = success_class bytes number attributes served
reply_class bytes (Permits peers) number attributes served = success_class bytes number attributes served
reply_class bytes (Binds channel peer) number attributes served = success_class bytes number attributes served
reply_class bytes (Connects peer connection) number attributes served = success_class bytes number attributes served
reply_class bytes (Joins connection) number attributes served = success_class bytes number attributes served

pub reply_is_response : (bytes : List ℕ) (what : Verdict) (number : ℕ) (attributes : List Attr) (reply : Draft) → IsServed bytes → IsReply (reply_type bytes what) number attributes reply → is_response reply.bytes ≡ true
reply_is_response bytes what number attributes reply served is = ap is_response is.composed.text ∙ reply_class bytes what number attributes served
