-- Room for one more address.
use Rattle.std.proofs.Common.{◌≡◌, ℕ, ◌+◌, ◌/◌, nat_lt, Bool, true, false, List, [], ◌∷◌, Option, Some, None, refl, sym, ap, ◌∙◌, cond, subst, arith, length, suc}
use Rattle.std.specs.Prelude.{◌&&◌, ◌||◌, if◌then◌else◌, is_some, not}
use Rattle.std.specs.Prelude as list
use Rattle.std.specs.BTreeMap.{BTreeMap, btree_map_len}
use Rattle.std.specs.BTreeMap as tree
use Rattle.std.specs.Cmp.{eq_by_cmp_equiv}
use Rattle.std.specs.FinMap as map
use Rattle.std.specs.List.{IsDistinct, filter}
use Rattle.std.specs.Map.{keys_of, lookup}
use Rattle.std.specs.Option.{option_map}
use Rattle.std.specs.Ordering.{eq_by_cmp, is_eq}
use Rattle.std.specs.declared.net.socket_addr.SocketAddr.{SocketAddr}
use Rattle.std.proofs.lemmas.Map.{lookup-none}
use Rattle.std.proofs.lemmas.Map.Entries.{none_past_head, option_filter}
use Rattle.std.proofs.lemmas.Map.Keys.{IsDistinct-from_sorted, IsDistinct-tail}
use Rattle.stun_proto_verify.specs.Base.SocketAddrs.{socket_addr_cmp, socket_addr_cmp_total, socket_addr_cmp-IsAntisymmetric}
use Rattle.stun_proto_server.specs.Rooms.{beside, room_beside, room_by, room_due}
use Rattle.stun_proto_server.specs.Server.{Client, Clients, is_full, is_validated, room_for, staying, staying_by, validated_clients}
use Rattle.stun_proto_server.specs.View.{client_of, clients_of, stays}
use Rattle.stun_proto_server.specs.declared.long_term.ClientRecord.{ClientRecord}
use Rattle.stun_proto_server.proofs.Filters.{lookup-filter_pairs}
use Rattle.stun_proto_verify.proofs.Base.MapView.{get-finite_map, insert-finite_map}

-- ---- what is retained

-- What is found for an address among clients that are retained by a test of addresses.
pub get-retained : (clients : Clients) (p : SocketAddr → Bool) (q : SocketAddr) → map.get (map.retain_keys clients p) q ≡ cond (p q) (map.get clients q) None
get-retained clients p q = map.get-retain_keys clients p q (λ x tie. ap p (sym (socket_addr_cmp-IsAntisymmetric q x tie)))

get-clients_of : (stored : BTreeMap SocketAddr ClientRecord) (q : SocketAddr) → map.get (clients_of stored) q ≡ option_map client_of (tree.get socket_addr_cmp stored q)
get-clients_of stored q = get-finite_map (λ key. key) socket_addr_cmp_total client_of stored q

same : (a b : Clients) → ((q : SocketAddr) → map.get a q ≡ map.get b q) → a ≡ b
same a b each = map.same_map socket_addr_cmp_total socket_addr_cmp-IsAntisymmetric a b each

seen : (b : Bool) (stored : ClientRecord) → option_map client_of (cond b (Some stored) None) ≡ cond b (Some (client_of stored)) None
seen true stored = refl
seen false stored = refl

nothing : (b : Bool) → ◌≡◌ {A = Option Client} None (cond b None None)
nothing true = refl
nothing false = refl

-- The records that stay, as they are stored and as contracts see them.
module _ (others : Bool) (own : SocketAddr) (q : SocketAddr) where
  stay_seen : (found : Option ClientRecord) → option_map client_of (option_filter (λ stored. stays others own q stored) found)
      ≡ cond (eq_by_cmp socket_addr_cmp own q || (others && is_validated (option_map client_of found))) (option_map client_of found) None
  stay_seen None = nothing (eq_by_cmp socket_addr_cmp own q || (others && false))
  stay_seen (Some stored) = seen (stays others own q stored) stored

pub kept : (old new : BTreeMap SocketAddr ClientRecord) (others : Bool) (own : SocketAddr) → tree.IsOrdered socket_addr_cmp old
    → new.entries ≡ filter (λ e. stays others own e.0 e.1) old.entries → clients_of new ≡ beside others own (clients_of old)
kept old new others own ordered filtered =
    same (clients_of new) (beside others own (clients_of old)) (λ q.
    let distinct = IsDistinct-from_sorted socket_addr_cmp (keys_of old.entries) ordered in
    let alike : (k : SocketAddr) (v : ClientRecord) → eq_by_cmp socket_addr_cmp q k ≡ true → stays others own k v ≡ stays others own q v =
    (λ k v tied. ap (λ b. b || (others && is_some v.outcome)) ((eq_by_cmp_equiv socket_addr_cmp_total).symm own k ∙ sym ((eq_by_cmp_equiv socket_addr_cmp_total).congr q k own tied) ∙ (eq_by_cmp_equiv socket_addr_cmp_total).symm q own)) in
    let left : tree.get socket_addr_cmp new q ≡ option_filter (λ stored. stays others own q stored) (tree.get socket_addr_cmp old q) =
    ap (λ es. lookup (eq_by_cmp socket_addr_cmp q) es) filtered ∙ lookup-filter_pairs (eq_by_cmp_equiv socket_addr_cmp_total) (λ e. stays others own e.0 e.1) q alike old.entries distinct in
    get-clients_of new q ∙ ap (option_map client_of) left ∙ stay_seen others own q (tree.get socket_addr_cmp old q)
    ∙ ap (λ (o : Option Client). cond (eq_by_cmp socket_addr_cmp own q || (others && is_validated o)) o None) (sym (get-clients_of old q))
    ∙ sym (get-retained (clients_of old) (λ a. eq_by_cmp socket_addr_cmp own a || (others && is_validated (map.get (clients_of old) a))) q))

-- ---- how many there are

-- A record with its address, as contracts see it.
abbrev seen_entry : SocketAddr × ClientRecord → SocketAddr × Client
seen_entry e = (e.0, client_of e.1)

seen_find : (q : SocketAddr) (es : List (SocketAddr × ClientRecord)) → map.find socket_addr_cmp q (list.map seen_entry es) ≡ option_map client_of (lookup (λ k. is_eq (socket_addr_cmp q k)) es)
seen_find q [] = refl
seen_find q (e ∷ es) =
    elim (eq_by_cmp socket_addr_cmp q e.0) as (λ tie. cond tie (Some (client_of e.1)) (map.find socket_addr_cmp q (list.map seen_entry es))
    ≡ option_map client_of (cond tie (Some e.1) (lookup (λ k. is_eq (socket_addr_cmp q k)) es))) [
      | true ↦ refl
      | false ↦ seen_find q es
    ]

one_longer : (n : ℕ) → n + 1 ≡ suc n
one_longer n = omega arith

count : (entries : List (SocketAddr × ClientRecord)) → IsDistinct (eq_by_cmp socket_addr_cmp) (keys_of entries)
    → map.len (map.from_entries {R = socket_addr_cmp} (list.map seen_entry entries)) ≡ length entries
count [] d = map.len-empty socket_addr_cmp Client
count (e ∷ es) d =
    let m : Clients = map.from_entries {R = socket_addr_cmp} (list.map seen_entry es) in
    let absent : map.get m e.0 ≡ None =
    map.get-from_entries socket_addr_cmp_total (list.map seen_entry es) e.0 ∙ seen_find e.0 es
    ∙ ap (option_map client_of) (lookup-none (eq_by_cmp socket_addr_cmp e.0) es (none_past_head (eq_by_cmp_equiv socket_addr_cmp_total) e.0 e es d ((eq_by_cmp_equiv socket_addr_cmp_total).refl e.0))) in
    map.len-insert socket_addr_cmp_total m e.0 (client_of e.1)
    ∙ ap (λ (o : Option Client). cond (is_some o) (map.len m) (map.len m + 1)) absent
    ∙ ap (λ n. n + 1) (count es (IsDistinct-tail (eq_by_cmp socket_addr_cmp) e.0 (keys_of es) d))
    ∙ one_longer (length es)

pub counted : (stored : BTreeMap SocketAddr ClientRecord) → tree.IsOrdered socket_addr_cmp stored → map.len (clients_of stored) ≡ btree_map_len stored
counted stored ordered = count stored.entries (IsDistinct-from_sorted socket_addr_cmp (keys_of stored.entries) ordered)

-- ---- room beside a record that is stored

module _ (clients : Clients) (own : SocketAddr) (stored : Client) where
  abbrev inserted : Clients
  inserted = map.insert clients own stored

  tied : (q : SocketAddr) → eq_by_cmp socket_addr_cmp own q ≡ eq_by_cmp socket_addr_cmp q own
  tied q = (eq_by_cmp_equiv socket_addr_cmp_total).symm own q

  at : (q : SocketAddr) → map.get inserted q ≡ cond (eq_by_cmp socket_addr_cmp q own) (Some stored) (map.get clients q)
  at q = map.get-insert socket_addr_cmp_total clients own stored q

  with_others : (t : Bool) (o : Option Client) → cond (t || (true && is_validated (cond t (Some stored) o))) (cond t (Some stored) o) None ≡ cond t (Some stored) (cond (is_validated o) o None)
  with_others true o = refl
  with_others false o = refl

  alone : (t : Bool) (o : Option Client) → cond (t || (false && is_validated (cond t (Some stored) o))) (cond t (Some stored) o) None ≡ cond t (Some stored) None
  alone true o = refl
  alone false o = refl

  found : (others : Bool) (q : SocketAddr) → map.get (beside others own inserted) q
      ≡ cond (eq_by_cmp socket_addr_cmp q own || (others && is_validated (cond (eq_by_cmp socket_addr_cmp q own) (Some stored) (map.get clients q)))) (cond (eq_by_cmp socket_addr_cmp q own) (Some stored) (map.get clients q)) None
  found others q =
      get-retained inserted (λ a. eq_by_cmp socket_addr_cmp own a || (others && is_validated (map.get inserted a))) q
      ∙ ap (λ (b : Bool). cond (b || (others && is_validated (map.get inserted q))) (map.get inserted q) None) (tied q)
      ∙ ap (λ (o : Option Client). cond (eq_by_cmp socket_addr_cmp q own || (others && is_validated o)) o None) (at q)

  beside_others : beside true own inserted ≡ map.insert (validated_clients clients) own stored
  beside_others = same _ _ (λ q. found true q ∙ with_others (eq_by_cmp socket_addr_cmp q own) (map.get clients q)
      ∙ ap (λ (o : Option Client). cond (eq_by_cmp socket_addr_cmp q own) (Some stored) o) (sym (get-retained clients (λ a. is_validated (map.get clients a)) q))
      ∙ sym (map.get-insert socket_addr_cmp_total (validated_clients clients) own stored q))

  beside_none : beside false own inserted ≡ map.insert map.empty own stored
  beside_none = same _ _ (λ q. found false q ∙ alone (eq_by_cmp socket_addr_cmp q own) (map.get clients q)
      ∙ ap (λ (o : Option Client). cond (eq_by_cmp socket_addr_cmp q own) (Some stored) o) (sym (map.get-empty socket_addr_cmp q))
      ∙ sym (map.get-insert socket_addr_cmp_total map.empty own stored q))

less_both : (a b : ℕ) → nat_lt (a + 1) (b + 1) ≡ nat_lt a b
less_both a b = grind arith

module _ (most : ℕ) (clients : Clients) (own : SocketAddr) (stored : Client) (absent : map.get clients own ≡ None) where
  abbrev rest : Clients
  rest = validated_clients clients

  one_more : map.len (map.insert rest own stored) ≡ map.len rest + 1
  one_more =
      map.len-insert socket_addr_cmp_total rest own stored
      ∙ ap (λ (o : Option Client). cond (is_some o) (map.len rest) (map.len rest + 1))
      (get-retained clients (λ a. is_validated (map.get clients a)) own ∙ ap (λ (o : Option Client). cond (is_validated o) o None) absent)

  chosen : (b : Bool) → (if b then beside false own (map.insert rest own stored) else map.insert rest own stored) ≡ map.insert (if b then map.empty else rest) own stored
  chosen true = beside_none rest own stored
  chosen false = refl

  -- Room that is made beside a new record is that which is made before it.
  pub room_is : room_beside most own (map.insert clients own stored) ≡ map.insert (staying most clients) own stored
  room_is =
      ap (λ (v : Clients). if nat_lt (most / 2 + 1) (map.len v) then beside false own v else v) (beside_others clients own stored)
      ∙ ap (λ (n : ℕ). if nat_lt (most / 2 + 1) n then beside false own (map.insert rest own stored) else map.insert rest own stored) one_more
      ∙ ap (λ (b : Bool). if b then beside false own (map.insert rest own stored) else map.insert rest own stored) (less_both (most / 2) (map.len rest))
      ∙ chosen (nat_lt (most / 2) (map.len rest))

-- ---- with what is stored

absent_by : (found : Option Client) → is_some found ≡ false → found ≡ None
absent_by None is = refl
absent_by (Some c) is = absurd (Prim.cc is)

first_of : (a b : Bool) → (not a && b) ≡ true → a ≡ false
first_of true b is = absurd (Prim.cc is)
first_of false b is = refl

-- If the clients are full, the address is not among them.
full_absent : (most : Option ℕ) (clients : Clients) (own : SocketAddr) → is_full most clients own ≡ true → map.get clients own ≡ None
full_absent None clients own full = absurd (Prim.cc full)
full_absent (Some most) clients own full = absent_by (map.get clients own) (first_of (map.contains_key clients own) (not (nat_lt (map.len clients) most)) full)

full_room : (most : Option ℕ) (clients : Clients) (own : SocketAddr) (stored : Client) → is_full most clients own ≡ true
    → room_by own most (map.insert clients own stored) ≡ map.insert (staying_by most clients) own stored
full_room None clients own stored full = absurd (Prim.cc full)
full_room (Some most) clients own stored full = room_is most clients own stored (full_absent (Some most) clients own full)

-- Room is made where it is due.
room_made : (most : Option ℕ) (clients : Clients) (own : SocketAddr) (stored : Client) (full : Bool) → is_full most clients own ≡ full
    → room_by own (if full then most else None) (map.insert clients own stored) ≡ map.insert (if full then staying_by most clients else clients) own stored
room_made most clients own stored true full = full_room most clients own stored full
room_made most clients own stored false full = refl

-- A record that was stored, and then room made beside it.
pub put : (old middle : BTreeMap SocketAddr ClientRecord) (most : Option ℕ) (own : SocketAddr) (stored : ClientRecord) → tree.Updates socket_addr_cmp old middle own (Some stored)
    → room_by own (room_due most (clients_of old) own) (clients_of middle) ≡ map.insert (room_for most (clients_of old) own) own (client_of stored)
put old middle most own stored updates =
    ap (room_by own (room_due most (clients_of old) own)) (insert-finite_map (λ key. key) socket_addr_cmp_total client_of socket_addr_cmp-IsAntisymmetric old middle own stored updates.0)
    ∙ room_made most (clients_of old) own (client_of stored) (is_full most (clients_of old) own) refl

-- An address is stored in both maps, or in neither.
pub stored_is : (stored : BTreeMap SocketAddr ClientRecord) (own : SocketAddr) → is_some (tree.get socket_addr_cmp stored own) ≡ map.contains_key (clients_of stored) own
stored_is stored own = sym (ap is_some (get-clients_of stored own) ∙ seen_some (tree.get socket_addr_cmp stored own))
  where
    seen_some : (found : Option ClientRecord) → is_some (option_map client_of found) ≡ is_some found
    seen_some None = refl
    seen_some (Some r) = refl
