-- Data from a peer reaches a client that has a permission for its address, in a Data indication (RFC 8656,
-- sections 11.3 and 18.3).
use Rattle.std.specs.Prelude.{◌≡◌, ℕ, List, [], ◌∷◌, Vec}
use Rattle.std.specs.Net.Socket.{socket_ip}
use Rattle.std.specs.declared.alloc.Global.{Global}
use Rattle.std.specs.declared.net.socket_addr.SocketAddr.{SocketAddr}
use Rattle.std.specs.declared.net.socket_addr.SocketAddr.TheVariants.{V4}
use Rattle.turn_desk_event.specs.declared.answer.Answer.{Answer}
use Rattle.turn_desk_event.specs.declared.event.Event.TheVariants.{ToClient}
use Rattle.turn_desk_world.specs.Model.{World}
use Rattle.turn_desk_world.specs.Runs.{IsStep}
use Rattle.turn_desk_progress_laws.specs.TurnClientProtoProgressLaws.Holding.{IsDataOf}
use Rattle.turn_desk_progress_laws.specs.Scripts.{Plan}
use Rattle.turn_desk_progress_laws.specs.RequestPromises.{IsAnsweredBy}
use Rattle.test_driver.specs.Driving.{Happened}
use Rattle.test_honest_network.specs.Wishes.{HasPermitted}
use Rattle.test_honest_network.specs.declared.asking.Wish.{Wish}
use Rattle.test_honest_network.specs.declared.asking.Wish.TheVariants.{Unheld, Held}
use Rattle.test_honest_network.specs.declared.asking.TheConstants.{TRANSMITTED}

-- A peer, what it sends, and the Data indication for that, with XOR-PEER-ADDRESS and DATA.
abbrev pub peer : SocketAddr
peer = V4 (record { ip = record { octets = 198 ∷ 51 ∷ 100 ∷ 7 ∷ [] }; port = 3000 })

abbrev pub payload : List ℕ
payload = 0x70 ∷ 0x69 ∷ 0x6e ∷ 0x67 ∷ []

abbrev pub indication : List ℕ
indication =
    0x00 ∷ 0x17 ∷ 0x00 ∷ 0x14 ∷ 0x21 ∷ 0x12 ∷ 0xa4 ∷ 0x42 ∷
    0x00 ∷ 0x00 ∷ 0x00 ∷ 0x00 ∷ 0x00 ∷ 0x00 ∷ 0x00 ∷ 0x00 ∷ 0x00 ∷ 0x00 ∷ 0x00 ∷ 0x01 ∷
    0x00 ∷ 0x12 ∷ 0x00 ∷ 0x08 ∷ 0x00 ∷ 0x01 ∷ 0x2a ∷ 0xaa ∷ 0xe7 ∷ 0x21 ∷ 0xc0 ∷ 0x45 ∷
    0x00 ∷ 0x13 ∷ 0x00 ∷ 0x04 ∷ 0x70 ∷ 0x69 ∷ 0x6e ∷ 0x67 ∷ []

-- The indication reached the client next, from the server.
pub record HasCome (here server : SocketAddr) (old new : World) : Type 0 where
  pub bytes : Vec ℕ Global
  pub same : bytes.items ≡ indication
  pub ret : Answer
  pub given : Happened (ToClient bytes server here TRANSMITTED) old ret new

abbrev pub IsProcessed : (here server : SocketAddr) → World → Wish → World → Type 0
IsProcessed here server old Unheld new = Unit {0}
IsProcessed here server old Held new = HasCome here server old new

-- The indication reached the client, which returned what the peer sent.
pub record HasProcessed (plan : Plan) (old new : World) : Type 0 where
  pub bytes : Vec ℕ Global
  pub data_of : IsDataOf peer payload bytes.items
  pub ret : Answer
  pub comes : IsStep (ToClient bytes plan.client.server plan.client.here TRANSMITTED) old ret new
  pub is : IsAnsweredBy plan peer payload ret

-- If the client returned data, a run gave it the permission and then it returned what the peer sent.
abbrev pub IsReceived : Plan → (address : SocketAddr) → World → Wish → World → Type 0
IsReceived plan address old Unheld new = Unit {0}
IsReceived plan address old Held new =
    (w : World) × HasPermitted plan address (socket_ip peer) old w × HasProcessed plan w new
