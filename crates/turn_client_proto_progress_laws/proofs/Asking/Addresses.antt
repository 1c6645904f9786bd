-- A request for one permission, of the only allocation, asks for its address alone.
use Rattle.std.proofs.Common.{◌≡◌, ℕ, true, List, [], ◌∷◌, Option, Some, refl, ap, ◌∙◌}
use Rattle.std.specs.Prelude.{find}
use Rattle.std.specs.declared.net.ip_addr.IpAddr.{IpAddr}
use Rattle.turn_client_proto_messages.specs.Allocation.Awaited.{asks_for_permission}
use Rattle.turn_client_proto_messages.specs.Allocation.PendingRequests.{addresses_for, awaits_reply}
use Rattle.turn_client_proto_messages.specs.Allocation.declared.allocation.Allocation.{Allocation}

pub one_address : (number : ℕ) (ip : IpAddr) (numbers : List ℕ) (a : Allocation) → awaits_reply number a ≡ true
    → find (asks_for_permission number) a.pending_permissions ≡ Some (record { ip = ip; others = []; numbers = numbers }) → addresses_for number (a ∷ []) ≡ ip ∷ []
one_address number ip numbers a awaits requested = rw awaits (rw requested refl)
