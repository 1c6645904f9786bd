-- Requests for the deletion of the allocations.
use Rattle.std.proofs.Common.{◌≡◌, ℕ, true, List, [], ◌∷◌, Option, None, Ok, Err, refl, sym, ap, ◌∙◌, subst}
use Rattle.std.specs.Prelude.{map, IfNone, IfSome}
use Rattle.turn_client_proto_api.specs.declared.error.DeleteError.{DeleteError}
use Rattle.turn_client_proto_messages.specs.declared.request.TurnRequest.TheVariants.{Refresh}
use Rattle.turn_client_proto_core.specs.Asking.{requested}
use Rattle.turn_client_proto_core.specs.Deleting.{IsDeleteAnswered, IsDeleted, after_delete, delete_refusal, is_authenticated}
use Rattle.turn_client_proto_core.specs.Numbering.{IsNextNumber, after_number}
use Rattle.turn_client_proto_core.specs.declared.protocol.Protocol.{Protocol}
use Rattle.turn_client_proto_allocation.specs.Refreshing.{deleted, ended, refreshing}
use Rattle.turn_client_proto_allocation.specs.declared.allocation.Allocation.{Allocation}

-- Awaiting a REFRESH in each allocation and then ending each is deleting each.
pub deleted_each : (number now : ℕ) (all : List Allocation) → map (ended now) (map (refreshing (record { number = number; lifetime = 0 })) all) ≡ map (deleted number now) all
deleted_each number now [] = refl
deleted_each number now (a ∷ all) = ap (λ (l : List Allocation). deleted number now a ∷ l) (deleted_each number now all)

none_refused : (old : Protocol) → is_authenticated old.phase ≡ true → delete_refusal old ≡ None
none_refused old is = rw is refl

-- The result if the deletion was requested.
pub deleted_ok : (old mid new : Protocol) (now number : ℕ) → is_authenticated old.phase ≡ true → IsNextNumber old number → mid ≡ after_number old
    → new ≡ record (requested mid (Refresh 0) number now) { allocations = map (deleted number now) mid.allocations } → IsDeleteAnswered old now (Ok tt) new
unfolding after_delete
deleted_ok old mid new now number occurs next generated after =
    let none = none_refused old occurs in
    record {
      refused = subst (λ (o : Option DeleteError). IfSome o (λ error. (Ok tt ≡ Err error) × (new ≡ old))) (sym none) tt;
      requested = subst (λ (o : Option DeleteError). IfNone o (IsDeleted old now new)) (sym none) (record {
        number = number;
        is_next = next;
        after = after ∙ ap (λ (m : Protocol). record (requested m (Refresh 0) number now) { allocations = map (deleted number now) m.allocations }) generated;
      });
    }
