-- Success and error responses to a validated address get the same additions.
use Rattle.std.proofs.Common.{◌≡◌, false, true, Option, Some, None, refl}
use Rattle.std.specs.Prelude.{IsSome}
use Rattle.std.specs.Option.{option_and_then}
use Rattle.std.specs.declared.net.socket_addr.SocketAddr.{SocketAddr}
use Rattle.stun_proto_verify.specs.Wire.declared.class.MessageClass.TheVariants.{Success, Error}
use Rattle.stun_proto_server.specs.Server.{Server}
use Rattle.stun_proto_server.specs.ServerSigning.{Party, Signer, addition, addition_by, addition_for, party_at, size_for}

same_by : (party : Party) (user : Option Signer) → IsSome (addition_by party user Success) → size_for (addition_by party user Error) ≡ size_for (addition_by party user Success)
same_by party None some = absurd (let p : false ≡ true = some in cc)
same_by party (Some user) some = refl

same_for_party : (party : Option Party) → IsSome (option_and_then (λ (p : Party). addition p Success) party)
    → size_for (option_and_then (λ (p : Party). addition p Error) party) ≡ size_for (option_and_then (λ (p : Party). addition p Success) party)
same_for_party None some = refl
same_for_party (Some party) some = same_by party party.user some

-- A success response that can be signed grows by as much as an error response.
pub same_size : (server : Server) (to : SocketAddr) → IsSome (addition_for server to Success) → size_for (addition_for server to Error) ≡ size_for (addition_for server to Success)
same_size server to some = same_for_party (party_at server to) some
