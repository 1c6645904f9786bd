-- A queued message.
use Rattle.std.specs.Prelude.{ℕ, Bool, not, List}
use Rattle.std.specs.declared.net.socket_addr.SocketAddr.{SocketAddr}

-- Its bytes, the own address from which it is sent, and whether it is a request or a response.
pub record Queued : Type 0 where
  pub bytes : List ℕ
  pub from : SocketAddr
  pub is_request : Bool

-- The message is the response to a request of the server.
abbrev pub is_answer : Queued → Bool
is_answer q = not q.is_request
