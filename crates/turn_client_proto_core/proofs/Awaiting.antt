-- A response to an outstanding request is handled by the client's phase, whether the client is hardened or not.
use Rattle.std.proofs.Common.{◌≡◌, ℕ, Bool, true, false, ◌&&◌, List, refl}
use Rattle.std.specs.Prelude.{not}
use Rattle.std.specs.Bool.{MatchBool}
use Rattle.stun_proto_agent.specs.Handling.{is_awaited, is_response}
use Rattle.turn_client_proto_core.specs.Outcomes.{IsIgnored}
use Rattle.turn_client_proto_core.specs.Receiving.{IsProcessed, IsProcessedIn, is_unawaited}
use Rattle.turn_client_proto_core.specs.declared.protocol.Protocol.{Protocol}

handled_all : (hardened response awaited : Bool) → awaited ≡ true → (hardened && (response && not awaited)) ≡ false
handled_all hardened response false is = absurd (Prim.cc is)
handled_all true true true is = refl
handled_all true false true is = refl
handled_all false response true is = refl

is_handled : (p : Protocol) (bytes : List ℕ) → is_awaited p.agent bytes ≡ true → is_unawaited p bytes ≡ false
unfolding is_unawaited
is_handled p bytes awaited = handled_all p.auth.hardened (is_response bytes) (is_awaited p.agent bytes) awaited

second : (P Q : Type 0) (test : Bool) → test ≡ false → MatchBool test P Q → Q
second P Q false is one = one
second P Q true is one = absurd (Prim.cc is)

pub processed_awaited : (p : Protocol) (bytes : List ℕ) (now : ℕ) (handled : Bool) (new : Protocol) → is_awaited p.agent bytes ≡ true
    → IsProcessed p bytes now handled new → IsProcessedIn p.phase p bytes now handled new
processed_awaited p bytes now handled new awaited =
    second (IsIgnored p handled new) (IsProcessedIn p.phase p bytes now handled new) (is_unawaited p bytes) (is_handled p bytes awaited)
