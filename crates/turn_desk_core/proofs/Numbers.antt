-- The message type and the transaction ID of a reply fit into their fields.
use Rattle.std.specs.Prelude.{ℕ, suc, ◌^◌, ◌<◌, slice_index, List, [], ◌∷◌}
use Rattle.std.proofs.Common.{refl, arith, ltb}
use Rattle.std.proofs.lemmas.Bool.{lt-ltb, and_from}
use Rattle.std.specs.List.{list_all}
use Rattle.stun_types_wire.specs.Grammar.{number_at}
use Rattle.stun_types_wire.specs.Headers.{AreBytes}
use Rattle.stun_types_wire.proofs.Converse.{has_text}
use Rattle.stun_types_message.specs.Objections.{error_type}
use Rattle.stun_types_wire.specs.Attributes.{kind_at}
use Rattle.stun_types_wire.specs.declared.class.MessageClass.TheVariants.{Success, Error}
use Rattle.stun_types_wire.specs.Types.{method_of, type_of}
use Rattle.turn_desk_core.specs.Replies.{success_type}
use Rattle.turn_desk_core.proofs.Methods.{by_method}
use Rattle.turn_desk_core.specs.declared.verdict.Verdict.{Verdict}
use Rattle.turn_desk_core.specs.declared.verdict.Verdict.TheVariants.{Fails, Allocates, Refreshes, Permits, Binds, Connects, Joins}
use Rattle.turn_desk_core.specs.Requests.{IsServed}
use Rattle.turn_desk_core.specs.Verdicts.{reply_type}

bytes_are : (bytes : List ℕ) → ((i : ℕ) → slice_index bytes i < 256) → AreBytes bytes
bytes_are [] h = refl
bytes_are (b ∷ bytes) h = and_from (ltb b 256) (list_all (λ n. ltb n 256) bytes) (lt-ltb b 256 (h 0)) (bytes_are bytes (λ i. h (suc i)))

pub number_fits : (bytes : List ℕ) → ((i : ℕ) → slice_index bytes i < 256) → IsServed bytes → number_at bytes < 2 ^ 96
number_fits bytes are served = (has_text bytes (bytes_are bytes are) served.message).number_fits

pub error_type_fits : (bytes : List ℕ) → IsServed bytes → error_type bytes < 2 ^ 14
error_type_fits bytes served = by_method (λ (m : ℕ). type_of Error m < 2 ^ 14)
    (record { allocate = omega arith; refresh = omega arith; create_permission = omega arith; channel_bind = omega arith; connect = omega arith; connection_bind = omega arith }) (method_of (kind_at bytes)) served.method

success_type_fits : (bytes : List ℕ) → IsServed bytes → success_type bytes < 2 ^ 14
success_type_fits bytes served = by_method (λ (m : ℕ). type_of Success m < 2 ^ 14)
    (record { allocate = omega arith; refresh = omega arith; create_permission = omega arith; channel_bind = omega arith; connect = omega arith; connection_bind = omega arith }) (method_of (kind_at bytes)) served.method

pub reply_type_fits : (bytes : List ℕ) (what : Verdict) → IsServed bytes → reply_type bytes what < 2 ^ 14
reply_type_fits bytes (Fails code) served = error_type_fits bytes served
reply_type_fits bytes (Allocates transport relayed lifetime) served = success_type_fits bytes served
reply_type_fits bytes (Refreshes lifetime) served = success_type_fits bytes served
reply_type_fits bytes (Permits peers) served = success_type_fits bytes served
reply_type_fits bytes (Binds channel peer) served = success_type_fits bytes served
reply_type_fits bytes (Connects peer connection) served = success_type_fits bytes served
reply_type_fits bytes (Joins connection) served = success_type_fits bytes served
