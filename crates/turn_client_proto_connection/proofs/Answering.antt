-- The borrowed allocations after the response to a request.
use Rattle.std.proofs.Common.{◌≡◌, ℕ, List, ◌++◌, Option, Some, None, drop, length, take}
use Rattle.turn_client_proto_allocation.specs.declared.allocation.Allocation.{Allocation}
use Rattle.turn_client_proto_allocation.proofs.Lent.{each_back, first_back, same_back}
use Rattle.turn_client_proto_allocation.specs.PendingRequests.{awaits_reply}
use Rattle.turn_client_proto_allocation.specs.declared.pending.PendingRequest.{PendingRequest}
use Rattle.turn_client_proto_allocation.specs.declared.pending.PendingRequest.TheVariants.{ChannelRenewal, Lifetime, NewChannel, NewConnection, NewPermission, Renewal}
use Rattle.turn_client_proto_connection.specs.Reported.{answered, connected, given_up}

-- They are as the definition says after the borrow has ended.
pub answered_back : (what : Option PendingRequest) (reported : Option ℕ) (number : ℕ) (all lent left : List Allocation) → lent ≡ all → left ≡ answered what reported number lent
    → take (length all) (left ++ drop (length left) all) ≡ answered what reported number all
answered_back None reported number all lent left same is = same_back all lent left same is
answered_back (Some (Lifetime lifetime)) reported number all lent left same is = same_back all lent left same is
answered_back (Some (NewChannel transport channel peer)) reported number all lent left same is = same_back all lent left same is
answered_back (Some (ChannelRenewal transport channel peer)) reported number all lent left same is = same_back all lent left same is
answered_back (Some (NewPermission transport ip)) reported number all lent left same is = same_back all lent left same is
answered_back (Some (Renewal transport ip)) reported number all lent left same is = same_back all lent left same is
answered_back (Some (NewConnection peer)) (Some connection) number all lent left same is = first_back (awaits_reply number) (connected connection peer number) all lent left same is
answered_back (Some (NewConnection peer)) None number all lent left same is = each_back (given_up (Some number)) all lent left same is
