use Rattle.std.proofs.Common.{◌≡◌, ℕ, List, [], ◌∷◌, Some, None, refl, ap, ◌∙◌}
use Rattle.std.specs.Prelude.{◌==◌, find, if◌then◌else◌}
use Rattle.std.proofs.lemmas.Bool.{eq-eqb}
use Rattle.std.specs.declared.net.socket_addr.SocketAddr.{SocketAddr}
use Rattle.turn_client_proto_messages.specs.TurnTypesAttributes.TurnRegistry.{connect_method}
use Rattle.turn_client_proto_messages.specs.Allocation.Awaited.{has_number, renews_permission}
use Rattle.turn_client_proto_messages.specs.Allocation.PendingRequests.{all_reissued_under, pending_request, requested_of}
use Rattle.turn_client_proto_messages.specs.Allocation.declared.pending.PendingRequest.TheVariants.{NewConnection}
use Rattle.turn_client_proto_messages.specs.Allocation.declared.permission.Permission.{Permission}
use Rattle.turn_client_proto_messages.specs.declared.request.TurnRequest.TheVariants.{Connect}
use Rattle.turn_client_proto_progress_laws.specs.Holders.{Holder}
use Rattle.turn_client_proto_progress_laws.specs.Resting.{AreUnrenewed}
use Rattle.turn_client_proto_progress_laws.specs.TcpBinding.{connect_request, connecting_to}
use Rattle.turn_desk_laws.proofs.ConnectionAgain.{challenge_processed}
use Rattle.turn_desk_laws.proofs.challenged_connects.challenged_connects_go_again.Goals as goal

unrenewed : (number : ℕ) (permissions : List Permission) → AreUnrenewed permissions → find (renews_permission number) permissions ≡ None
unrenewed number [] is = refl
unrenewed number (x ∷ rest) is =
    ap (λ (l : List ℕ). if has_number number l then Some x else find (renews_permission number) rest) is.0 ∙ unrenewed number rest is.1

module _ (h : Holder) (permissions : List Permission) (settled : AreUnrenewed permissions) (peer : SocketAddr) (number : ℕ) where
  connection_of : requested_of number (connecting_to h permissions peer number) ≡ Some (NewConnection peer)
  unfolding requested_of
  connection_of = rw (unrenewed number permissions settled) (rw (eq-eqb number number refl) refl)

  pub connection_by : pending_request number (connecting_to h permissions peer number ∷ []) ≡ Some (NewConnection peer)
  connection_by = rw connection_of (rw connection_of refl)

  pub reissued : (next : ℕ) → all_reissued_under (NewConnection peer) number next (connecting_to h permissions peer number ∷ []) ≡ connecting_to h permissions peer next ∷ []
  reissued next = rw connection_of (rw (eq-eqb number number refl) refl)

pub returns : goal.returns
returns c = λ h permissions peer id made last events old new bytes now handled reported some settled is fewer challenge can processed.
    let a = challenge_processed h (connect_request h peer id made) (connecting_to h permissions peer id) last events old is fewer connect_method reported bytes challenge
    c.proof_requests_are_read.ensures.number c.proof_texts_stay_short.ensures.stay c.texts_stay_read.ensures.stay
    (NewConnection peer) (Connect peer) refl (connection_by h permissions settled peer id) (λ next. connecting_to h permissions peer next) (reissued h permissions settled peer id) now new handled some can processed in
    record {
      choice = a.choice;
      can = a.answerable;
      transaction_id = a.next;
      fits = a.fits;
      other = a.other;
      counted = a.counted;
      is = a.requested_is;
    }
