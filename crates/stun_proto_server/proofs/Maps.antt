-- The maps of a server, as its fields store them and as contracts see them.
use Rattle.std.proofs.Common.{◌≡◌, ℕ, Bool, true, false, List, Option, Some, None, MatchOption, refl, sym, ap, ◌∙◌, cond, subst, Bor}
use Rattle.std.specs.Prelude.{IfSome}
use Rattle.std.specs.Prelude as list
use Rattle.std.specs.BTreeMap as tree
use Rattle.std.specs.Cmp.Lexicographic.{slice_cmp, nat_list_cmp_total}
use Rattle.std.specs.FinMap as map
use Rattle.std.specs.FinMap.{slice_cmp-IsAntisymmetric, nat_cmp-IsAntisymmetric}
use Rattle.std.specs.Option.{option_copied, option_map}
use Rattle.std.specs.Ordering.{is_eq, nat_cmp}
use Rattle.std.specs.String.{string_bytes}
use Rattle.std.specs.declared.net.socket_addr.SocketAddr.{SocketAddr}
use Rattle.std.specs.Map.{lookup}
use Rattle.stun_proto_verify.specs.Knowledge.{Outcome}
use Rattle.stun_proto_server.specs.StoredKeys.{AllHaveKeys, HasKeys, IsKeyed, UpdatesUser, UserMap}
use Rattle.stun_proto_server.specs.Server.{Client, Clients, Server, room_for, set_outcome, with_outcome}
use Rattle.stun_proto_server.specs.View.{client_of, clients_of, server_of}
use Rattle.stun_proto_server.specs.declared.long_term.ClientRecord.{ClientRecord}
use Rattle.stun_proto_server.specs.declared.long_term.LongTermServerAuth.TheInside.{Inside}
use Rattle.stun_proto_verify.proofs.Base.MapView.{get-finite_map, insert-finite_map, remove-finite_map}
use Rattle.stun_proto_verify.specs.Base.SocketAddrs.{socket_addr_cmp, socket_addr_cmp_total, socket_addr_cmp-IsAntisymmetric}
use Rattle.stun_proto_server.specs.declared.users.KeyedUser.{KeyedUser}
use Rattle.stun_proto_server.specs.declared.users.Users.{Users}
use Rattle.stun_proto_server.proofs.Texts.{same_name, users_updates}

-- Looking up an address gives the same result in both maps.
pub get-clients : (s : Inside) (server : Server) (client : SocketAddr) (found : Option ClientRecord)
    → server_of s ≡ server → found ≡ tree.get socket_addr_cmp s.clients client → map.get server.clients client ≡ option_map client_of found
get-clients s server client found view_is is =
    ap (λ v. map.get v.clients client) (sym view_is) ∙ get-finite_map (λ key. key) socket_addr_cmp_total client_of s.clients client
    ∙ ap (option_map client_of) (sym is)

-- Storing for an address in the fields stores at the server.
pub insert-clients : (s : Inside) (new : tree.BTreeMap SocketAddr ClientRecord) (server : Server) (client : SocketAddr) (stored : ClientRecord)
    → server_of s ≡ server → tree.Updates socket_addr_cmp s.clients new client (Some stored)
    → server_of (record s { clients = new }) ≡ record server { clients = map.insert server.clients client (client_of stored) }
insert-clients s new server client stored view_is updates =
    ap {A = map.FinMap socket_addr_cmp Client} {B = Server} (λ m. record (server_of s) { clients = m })
    (insert-finite_map (λ key. key) socket_addr_cmp_total client_of socket_addr_cmp-IsAntisymmetric s.clients new client stored updates.0)
    ∙ ap {A = Server} {B = Server} (λ v. record v { clients = map.insert v.clients client (client_of stored) }) view_is

-- Storing for an address within a limit stores it at the server.
pub room-clients : (s : Inside) (new : tree.BTreeMap SocketAddr ClientRecord) (server : Server) (client : SocketAddr) (stored : ClientRecord)
    → server_of s ≡ server → clients_of new ≡ map.insert (room_for s.max_clients (clients_of s.clients) client) client (client_of stored)
    → server_of (record s { clients = new }) ≡ record server { clients = map.insert (room_for server.max_clients server.clients client) client (client_of stored) }
room-clients s new server client stored view_is put =
    ap {A = Clients} {B = Server} (λ m. record (server_of s) { clients = m }) put
    ∙ ap {A = Server} {B = Server} (λ v. record v { clients = map.insert (room_for v.max_clients v.clients client) client (client_of stored) }) view_is

-- Removing an address from the fields removes it from the server.
pub remove-clients : (s : Inside) (new : tree.BTreeMap SocketAddr ClientRecord) (server : Server) (client : SocketAddr)
    → server_of s ≡ server → tree.Updates socket_addr_cmp s.clients new client None
    → server_of (record s { clients = new }) ≡ record server { clients = map.remove server.clients client }
remove-clients s new server client view_is updates =
    ap {A = map.FinMap socket_addr_cmp Client} {B = Server} (λ m. record (server_of s) { clients = m })
    (remove-finite_map (λ key. key) socket_addr_cmp_total client_of socket_addr_cmp-IsAntisymmetric s.clients new client updates.0)
    ∙ ap {A = Server} {B = Server} (λ v. record v { clients = map.remove v.clients client }) view_is

-- Unchanged entries represent the same server.
pub same-clients : (s : Inside) (new : tree.BTreeMap SocketAddr ClientRecord) (server : Server) → server_of s ≡ server → tree.IsUnchanged s.clients new → server_of (record s { clients = new }) ≡ server
same-clients s new server view_is same =
    ap {B = Server} (λ es. record (server_of s) { clients = map.from_entries (list.map (λ e. (e.0, client_of e.1)) es) }) same ∙ view_is

-- An address for which something is stored gets a new outcome.
pub set-outcome : (s : Inside) (new : tree.BTreeMap SocketAddr ClientRecord) (server : Server) (client : SocketAddr) (stored : ClientRecord) (outcome : Option Outcome)
    → server_of s ≡ server → Some stored ≡ tree.get socket_addr_cmp s.clients client → tree.Updates socket_addr_cmp s.clients new client (Some (record stored { outcome = outcome }))
    → server_of (record s { clients = new }) ≡ with_outcome server client outcome
set-outcome s new server client stored outcome view_is found updates =
    insert-clients s new server client (record stored { outcome = outcome }) view_is updates
    ∙ ap {A = Option Client} {B = Server} (λ r. record server { clients = set_outcome server.clients client outcome r }) (sym (get-clients s server client (Some stored) view_is found))

-- If nothing is stored for an address, no outcome is stored.
pub no-outcome : (s : Inside) (server : Server) (client : SocketAddr) (outcome : Option Outcome) → server_of s ≡ server → None ≡ tree.get socket_addr_cmp s.clients client → server ≡ with_outcome server client outcome
no-outcome s server client outcome view_is none =
    ap {A = Option Client} {B = Server} (λ r. record server { clients = set_outcome server.clients client outcome r }) (sym (get-clients s server client None view_is none))

-- What is found for an address decides whether an outcome is stored.
outcome-found : (s : Inside) (new : tree.BTreeMap SocketAddr ClientRecord) (server : Server) (client : SocketAddr) (outcome : Option Outcome) (found : Option ClientRecord)
    → server_of s ≡ server → found ≡ tree.get socket_addr_cmp s.clients client
    → MatchOption found (tree.IsUnchanged s.clients new) (λ stored. tree.Updates socket_addr_cmp s.clients new client (Some (record stored { outcome = outcome })))
    → server_of (record s { clients = new }) ≡ with_outcome server client outcome
outcome-found s new server client outcome None view_is found same = same-clients s new server view_is same ∙ no-outcome s server client outcome view_is found
outcome-found s new server client outcome (Some stored) view_is found updates = set-outcome s new server client stored outcome view_is found updates

-- An outcome is stored if something is stored for the address.
pub put-outcome : (s : Inside) (new : tree.BTreeMap SocketAddr ClientRecord) (server : Server) (client : SocketAddr) (outcome : Option Outcome) → server_of s ≡ server
    → MatchOption (tree.get socket_addr_cmp s.clients client) (tree.IsUnchanged s.clients new) (λ stored. tree.Updates socket_addr_cmp s.clients new client (Some (record stored { outcome = outcome })))
    → server_of (record s { clients = new }) ≡ with_outcome server client outcome
put-outcome s new server client outcome view_is = outcome-found s new server client outcome (tree.get socket_addr_cmp s.clients client) view_is refl

-- The password of a user's credentials.
abbrev pub password_of : KeyedUser → List ℕ
password_of user = user.credentials.password

-- Looking up a name gives the same password in both maps.
pub get-users : (s : Inside) (server : Server) (name : List ℕ) (found : Option KeyedUser) → server_of s ≡ server → found ≡ tree.get_by_text s.users.by_name name → map.get server.users name ≡ option_map password_of found
get-users s server name found view_is is =
    ap (λ v. map.get v.users name) (sym view_is) ∙ get-finite_map string_bytes nat_list_cmp_total password_of s.users.by_name name
    ∙ ap (option_map password_of) (sym is)

-- Adding a user with its own keys to users with theirs: each name has its own keys.
with_keys : (realm name q : List ℕ) (user : KeyedUser) (b : Bool) (old : Option KeyedUser) → (b ≡ true → name ≡ q) → IsKeyed realm name user → IfSome old (IsKeyed realm q) → IfSome (cond b (Some user) old) (IsKeyed realm q)
with_keys realm name q user true old same keys have = subst (λ (n : List ℕ). IsKeyed realm n user) (same refl) keys
with_keys realm name q user false old same keys have = have

-- Each user has its own keys after one was added.
pub keys_inserted : (old new : UserMap) (realm name : List ℕ) (user : KeyedUser) → AllHaveKeys realm old → IsKeyed realm name user → UpdatesUser name old new (Some user) → AllHaveKeys realm new
keys_inserted old new realm name user have keys updates q =
    subst (λ (o : Option KeyedUser). IfSome o (IsKeyed realm q)) (sym (users_updates old new name (Some user) updates q))
    (with_keys realm name q user (is_eq (slice_cmp nat_cmp name q)) (tree.get_by_text old q) (same_name name q) keys (have q))

-- Each remaining user has its own keys after one was removed.
left : (realm q : List ℕ) (b : Bool) (old : Option KeyedUser) → IfSome old (IsKeyed realm q) → IfSome (cond b None old) (IsKeyed realm q)
left realm q true old have = tt
left realm q false old have = have

pub keys_removed : (old new : UserMap) (realm name : List ℕ) → AllHaveKeys realm old → UpdatesUser name old new None → AllHaveKeys realm new
keys_removed old new realm name have updates q =
    subst (λ (o : Option KeyedUser). IfSome o (IsKeyed realm q)) (sym (users_updates old new name None updates q))
    (left realm q (is_eq (slice_cmp nat_cmp name q)) (tree.get_by_text old q) (have q))

-- Unchanged users have their own keys still.
pub keys_unchanged : (old new : UserMap) (realm : List ℕ) → AllHaveKeys realm old → tree.IsUnchanged old new → AllHaveKeys realm new
keys_unchanged old new realm have same q =
    subst (λ es. IfSome (lookup (λ k. is_eq (slice_cmp nat_cmp q (string_bytes k))) es) (IsKeyed realm q)) (sym same) (have q)

-- The password of a user that is found through a reference.
pub found_password : (found : Option (Bor KeyedUser)) → option_map (λ user. user.now.credentials.password) found ≡ option_map password_of (option_copied found)
found_password None = refl
found_password (Some user) = refl

pub found_has : (realm name : List ℕ) (found : Option (Bor KeyedUser)) → IfSome (option_copied found) (IsKeyed realm name) → IfSome found (λ user. HasKeys realm name user.now)
found_has realm name None has = tt
found_has realm name (Some user) has = has.keys

-- A user that is found has its own keys.
pub keys_found : (s : Inside) (server : Server) (name : List ℕ) (found : Option KeyedUser) → server_of s ≡ server → AllHaveKeys (string_bytes s.realm) s.users.by_name → found ≡ tree.get_by_text s.users.by_name name → IfSome found (IsKeyed server.realm name)
keys_found s server name found view_is have is =
    subst (λ (realm : List ℕ). IfSome found (IsKeyed realm name)) (ap (λ v. v.realm) view_is)
    (subst (λ (o : Option KeyedUser). IfSome o (IsKeyed (string_bytes s.realm) name)) (sym is) (have name))

-- Storing a user by name in the fields stores it at the server.
pub insert-users : (s : Inside) (new : Users) (server : Server) (name : List ℕ) (user : KeyedUser)
    → server_of s ≡ server → UpdatesUser name s.users.by_name new.by_name (Some user)
    → server_of (record s { users = new }) ≡ record server { users = map.insert server.users name user.credentials.password }
insert-users s new server name user view_is updates =
    ap {A = map.FinMap (slice_cmp nat_cmp) (List ℕ)} {B = Server} (λ m. record (server_of s) { users = m })
    (insert-finite_map string_bytes nat_list_cmp_total password_of (slice_cmp-IsAntisymmetric nat_cmp-IsAntisymmetric) s.users.by_name new.by_name name user (users_updates s.users.by_name new.by_name name (Some user) updates))
    ∙ ap {A = Server} {B = Server} (λ v. record v { users = map.insert v.users name user.credentials.password }) view_is

-- Removing a user from the fields removes it from the server.
pub remove-users : (s : Inside) (new : Users) (server : Server) (name : List ℕ)
    → server_of s ≡ server → UpdatesUser name s.users.by_name new.by_name None
    → server_of (record s { users = new }) ≡ record server { users = map.remove server.users name }
remove-users s new server name view_is updates =
    ap {A = map.FinMap (slice_cmp nat_cmp) (List ℕ)} {B = Server} (λ m. record (server_of s) { users = m })
    (remove-finite_map string_bytes nat_list_cmp_total password_of (slice_cmp-IsAntisymmetric nat_cmp-IsAntisymmetric) s.users.by_name new.by_name name (users_updates s.users.by_name new.by_name name None updates))
    ∙ ap {A = Server} {B = Server} (λ v. record v { users = map.remove v.users name }) view_is

-- Unchanged users represent the same server.
pub same-users : (s : Inside) (new : Users) (server : Server) → server_of s ≡ server → tree.IsUnchanged s.users.by_name new.by_name → server_of (record s { users = new }) ≡ server
same-users s new server view_is same =
    ap {B = Server} (λ es. record (server_of s) { users = map.from_entries (list.map (λ e. (string_bytes e.0, e.1.credentials.password)) es) }) same ∙ view_is
