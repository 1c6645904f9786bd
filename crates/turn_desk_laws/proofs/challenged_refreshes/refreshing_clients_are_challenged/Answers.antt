use Rattle.std.proofs.Common.{◌≡◌, ◌<◌, ◌^◌, ℕ, arith}
use Rattle.turn_client_proto_messages.specs.ShortTexts.{HasShortTexts}
use Rattle.turn_client_proto_messages.specs.StunTypesWire.Grammar.{number_at}
use Rattle.turn_client_proto_handshake_laws.specs.Choosing.{Choice, IsChoice}
use Rattle.turn_client_proto_handshake_laws.specs.Sent.{Beginning, HasRoom}
use Rattle.turn_client_proto_progress_laws.specs.Refreshed.{refresh_for, refresh_request, signed_by}
use Rattle.turn_desk_laws.proofs.RefreshChallenged.{challenge_processed, goes}
use Rattle.turn_desk_laws.proofs.challenged_refreshes.refreshing_clients_are_challenged.Goals as goal

numbered_so : (c : goal.After-signed_allocates_answer) (b : Beginning) → HasRoom b.config → (k : Choice) → IsChoice b k → (n : ℕ) → n < 2 ^ 96 → number_at (refresh_request b k n) ≡ n
numbered_so c b room k chosen n fits =
    let s = c.signed_allocates_answer.ensures.short b k room chosen in
    let short : HasShortTexts (signed_by b k) = record { username = s.username; next = s.next; software = s.software; challenge = s.challenge } in
    c.proof_requests_are_read.ensures.number (signed_by b k) refresh_for n short (omega arith) fits

pub returns : goal.returns
returns c = λ b choice address t earlier number made many last queue events old new reported some bytes now handled room chosen w few is can processed.
    let h = challenge_processed b choice chosen address t earlier number made many last queue events old w few reported bytes is some can now handled new processed in
    (h.is_handled, goes b choice chosen address t earlier number made many last queue events old w few reported bytes is some can now handled new h (λ k other n fits. numbered_so c b room k other n fits))
