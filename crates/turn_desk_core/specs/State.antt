-- What contracts see of a server core.
use Rattle.std.specs.Prelude.{List, refl}
use Rattle.std.specs.Coded.{Coded, code_by, coded×, coded_list}
use Rattle.stun_proto_server.specs.Server.{Server, server_code}
use Rattle.turn_desk_core.specs.contracts.grant.Grant as grant
use Rattle.turn_desk_core.specs.declared.grant.Grant.{Grant}

-- The authenticator, and all grants in order.
pub record State : Type 0 where
  pub auth : Server
  pub grants : List Grant

abbrev pub state_code : Coded State
state_code = code_by (Server × List Grant) (coded× server_code (coded_list grant.the_row.coded))
    (λ s. (s.auth, s.grants)) (λ p. record { auth = p.0; grants = p.1 }) (λ _. refl)
