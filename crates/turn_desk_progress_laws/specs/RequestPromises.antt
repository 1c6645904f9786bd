-- What is then held, and delivered (RFC 8656, sections 10.3, 11.3, 12.3 and 12.6).
use Rattle.std.specs.Prelude.{◌≡◌, ℕ, true, List, [], Vec}
use Rattle.std.specs.Net.Socket.{socket_ip}
use Rattle.std.specs.declared.alloc.Global.{Global}
use Rattle.std.specs.declared.net.ip_addr.IpAddr.{IpAddr}
use Rattle.std.specs.declared.net.socket_addr.SocketAddr.{SocketAddr}
use Rattle.turn_desk_core.specs.StunTypesBase.declared.transport.TransportType.TheVariants.{Udp}
use Rattle.turn_desk_world_laws.specs.TurnClientProto.Getters.{channels_of, has_permission}
use Rattle.turn_client_proto_messages.specs.TurnRuns.Members.{IsIn}
use Rattle.turn_client_proto_api.specs.Payloads.{PeerPayload}
use Rattle.turn_client_proto_progress_laws.specs.Holding.{IsDataOf, IsFrameOf, IsPayloadOf}
use Rattle.turn_desk_world_laws.specs.World.Model.{World}
use Rattle.turn_desk_world_laws.specs.World.Runs.{IsStep}
use Rattle.turn_desk_event.specs.declared.answer.Answer.{Answer}
use Rattle.turn_desk_event.specs.declared.answer.Answer.TheVariants as answer
use Rattle.turn_desk_event.specs.declared.event.Event.TheVariants.{ToClient}
use Rattle.turn_desk_progress_laws.specs.Promises.{HasClient}
use Rattle.turn_desk_progress_laws.specs.Scripts.{Plan}

-- The result is this payload from this peer.
pub record IsAnsweredBy (plan : Plan) (peer : SocketAddr) (payload : List ℕ) (ret : Answer) : Type 0 where
  pub given : PeerPayload
  pub answer_is : ret ≡ answer.Peer given
  pub is : IsPayloadOf plan.client.config.transport peer payload given

-- The client has a permission for this IP address. Over UDP, if an indication of a peer with this address
-- comes next from the server's address to the client's, the result is the data that it shows.
pub record IsPermissionHeld (plan : Plan) (ip : IpAddr) (now : ℕ) (w : World) : Type 0 where
  pub held : HasClient plan [] w (λ p. has_permission plan.client.config.transport ip p ≡ true)
  pub used : (peer : SocketAddr) (payload : List ℕ) (bytes : Vec ℕ Global) (ret : Answer) (next : World)
      → plan.client.transport ≡ Udp → socket_ip peer ≡ ip → IsDataOf peer payload bytes.items
      → IsStep (ToClient bytes plan.client.server plan.client.here now) w ret next
      → IsAnsweredBy plan peer payload ret

-- The client lists a channel to this peer. Over UDP, if a frame of this channel comes next from the server's
-- address to the client's, the result is its data.
pub record IsChannelHeld (plan : Plan) (peer : SocketAddr) (now : ℕ) (w : World) : Type 0 where
  pub number : ℕ
  pub held : HasClient plan [] w (λ p. IsIn (number, peer) (channels_of p))
  pub used : (payload : List ℕ) (bytes : Vec ℕ Global) (ret : Answer) (next : World)
      → plan.client.transport ≡ Udp → IsFrameOf number payload bytes.items
      → IsStep (ToClient bytes plan.client.server plan.client.here now) w ret next
      → IsAnsweredBy plan peer payload ret
