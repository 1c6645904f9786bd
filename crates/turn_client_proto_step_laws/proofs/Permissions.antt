-- The permissions of an allocation after each call correspond to those before it.
use Rattle.std.proofs.Common.{◌≡◌, ℕ, Bool, true, false, not, List, [], ◌∷◌, ◌++◌, Option, Some, if◌then◌else◌, map, refl, sym, ap, ◌∙◌, subst, inl, inr}
use Rattle.std.specs.List.{filter, find}
use Rattle.std.specs.declared.net.ip_addr.IpAddr.{IpAddr}
use Rattle.turn_client_proto_timers.specs.StunTypesBase.declared.transport.TransportType.{TransportType}
use Rattle.turn_client_proto_timers.specs.TurnRuns.Members.{IsIn}
use Rattle.turn_client_proto_timers.specs.Allocation.Awaited.{asks_for_permission, is_among, renews_permission}
use Rattle.turn_client_proto_timers.specs.Allocation.Changes.{change_first}
use Rattle.turn_client_proto_timers.specs.Allocation.Permissions.{addresses_of, each_once, requested_again, awaiting, has_expired, is_over, not_pending_request, not_over, not_renewed_by, polled_permission, polled_permissions, renewed_again, renewed_first, renewed_permission, standing, wants_renewal, with_number}
use Rattle.turn_client_proto_timers.specs.Peers.Permission.Asking.{asking}
use Rattle.turn_client_proto_timers.specs.Allocation.PendingRequests.{reissued_under}
use Rattle.turn_client_proto_timers.specs.Allocation.declared.pending.PendingRequest.TheVariants.{NewPermission, Renewal}
use Rattle.turn_client_proto_timers.specs.Peers.Permission.Granted.{granted_for, permission_end, permitted_all, renewed, rejected}
use Rattle.turn_client_proto_timers.specs.Peers.Permission.Reporting.{polled}
use Rattle.turn_client_proto_timers.specs.Peers.Permission.Wanting.{renewing}
use Rattle.turn_client_proto_step_laws.specs.Held.{Allocation, PendingPermission, Permission}
use Rattle.turn_client_proto_step_laws.proofs.Lists.{found_in, in_changed, in_either, in_filter, in_first, in_map, inside}
use Rattle.turn_client_proto_step_laws.proofs.Permitting.{ArePermitting, AreKin, AreKnown, Asking, Gaining, IsKin, IsNow, IsPermitting, itself, kin_itself, known_itself, none_asks, none_gained, with_lists, with_permissions}
use Rattle.turn_client_proto_step_laws.proofs.Permits.{asks_by, permits_ip}
use Rattle.turn_client_proto_timers.specs.TurnRuns.Messages as run
use Rattle.turn_client_proto_timers.specs.Messages.declared.request.TurnRequest.TheVariants.{CreatePermission}

-- ---- one permission

module _ (Now : Asking) (old : List Permission) where
  -- The same permission with no request.
  kin_settled : (q : Permission) (expiry : ℕ) → IsIn q old → IsKin Now old (record q { expiry = expiry; renewals = [] })
  kin_settled q expiry listed = record { before = q; listed = listed; ip = refl; renewals = λ n has. absurd has }

  kin_polled : (over : Option ℕ) (q : Permission) → IsIn q old → IsKin Now old (polled_permission over q)
  unfolding polled_permission
  kin_polled over q listed =
      elim (is_among over q.renewals) as (λ b. IsKin Now old (if b then record q { renewals = [] } else q)) [
        | true ↦ kin_settled q q.expiry listed
        | false ↦ kin_itself Now old q listed
      ]

  kin_renewed : (number expiry : ℕ) (q : Permission) → IsIn q old → IsKin Now old (renewed_permission number expiry q)
  unfolding renewed_permission
  kin_renewed number expiry q listed =
      elim (renews_permission number q) as (λ b. IsKin Now old (if b then record q { expiry = expiry; renewals = [] } else q)) [
        | true ↦ kin_settled q expiry listed
        | false ↦ kin_itself Now old q listed
      ]

  pub all_polled : (over : Option ℕ) (now : ℕ) → AreKin Now old (polled_permissions over now old)
  all_polled over now p listed =
      let image = in_map (polled_permission over) p (standing now old) listed in
      subst (λ (x : Permission). IsKin Now old x) (sym image.is)
      (kin_polled over image.source (in_filter (λ q. not (has_expired now q)) image.source old image.listed).0)

  pub all_renewed : (number expiry : ℕ) → AreKin Now old (map (renewed_permission number expiry) old)
  all_renewed number expiry p listed =
      let image = in_map (renewed_permission number expiry) p old listed in
      subst (λ (x : Permission). IsKin Now old x) (sym image.is) (kin_renewed number expiry image.source image.listed)

  pub fewer : (keeps : Permission → Bool) → AreKin Now old (filter keeps old)
  fewer keeps p listed = kin_itself Now old p (in_filter keeps p old listed).0

-- One more request renews the permission.
module _ (Now : Asking) (number : ℕ) (now : IsNow Now number) (old : List Permission) where
  kin_awaiting : (q : Permission) → IsIn q old → IsKin Now old (awaiting number q)
  kin_awaiting q listed = record {
    before = q;
    listed = listed;
    ip = refl;
    renewals = λ n has. elim (in_either n q.renewals (number ∷ []) has) [
      | inl was ↦ inl was
      | inr own ↦ elim own [ inl same ↦ inr (subst (λ (k : ℕ). IsNow Now k) same now) | inr none ↦ absurd none ]
    ];
  }

  pub one_awaiting : (passes : Permission → Bool) → AreKin Now old (change_first passes (awaiting number) old)
  one_awaiting passes p listed = elim (in_changed passes (awaiting number) p old listed) [
    | inl was ↦ kin_itself Now old p was
    | inr image ↦ subst (λ (x : Permission). IsKin Now old x) (sym image.is) (kin_awaiting image.source image.listed)
  ]

-- ---- those that were requested

pub fewer_requested : (Now : Asking) (transport : TransportType) (old : List PendingPermission) (keeps : PendingPermission → Bool) → AreKnown Now transport old (filter keeps old)
fewer_requested Now transport old keeps p listed n has ip named = known_itself Now transport old p (in_filter keeps p old listed).0 n has ip named

-- The first permission that a request asks for is requested once more.
module _ (Now : Asking) (transport : TransportType) (before number : ℕ) (old : List PendingPermission)
    (now : (p : PendingPermission) → find (asks_for_permission before) old ≡ Some p → (ip : IpAddr) → IsIn ip (addresses_of p) → Now (run.Permission transport ip) number) where
  pub once_more : AreKnown Now transport old (requested_again before number old)
  once_more p listed n has ip named =
      elim (in_first (asks_for_permission before) (with_number number) p old listed) [
        | inl was ↦ known_itself Now transport old p was n has ip named
        | inr changed ↦
            let q : PendingPermission = changed.0 in
            let there : IsIn q old = found_in (asks_for_permission before) old q changed.1 in
            let same : IsIn ip (addresses_of q) = subst (λ (x : PendingPermission). IsIn ip (addresses_of x)) changed.2 named in
            elim (in_either n q.numbers (number ∷ []) (subst (λ (x : PendingPermission). IsIn n x.numbers) changed.2 has)) [
              | inl was ↦ inl (record { before = q; listed = there; named = same; has = was })
              | inr new ↦ elim new [
                | inl is ↦ inr (subst (λ (k : ℕ). Now (run.Permission transport ip) k) is (now q changed.1 ip same))
                | inr none ↦ absurd none
              ]
            ]
      ]

-- One permission more is requested, for these addresses.
pub one_more : (Now : Asking) (transport : TransportType) (own : PendingPermission) (number : ℕ) (old : List PendingPermission) → own.numbers ≡ number ∷ []
    → ((ip : IpAddr) → IsIn ip (addresses_of own) → Now (run.Permission transport ip) number) → AreKnown Now transport old (old ++ own ∷ [])
one_more Now transport own number old numbered now p listed n has ip named =
    elim (in_either p old (own ∷ []) listed) [
      | inl was ↦ known_itself Now transport old p was n has ip named
      | inr last ↦ elim last [
        | inl same ↦
            let asked : Now (run.Permission transport ip) number = now ip (subst (λ (x : PendingPermission). IsIn ip (addresses_of x)) (sym same) named) in
            elim (subst (λ (l : List ℕ). IsIn n l) (ap (λ (x : PendingPermission). x.numbers) (sym same) ∙ numbered) has) [
              | inl is ↦ inr (subst (λ (k : ℕ). Now (run.Permission transport ip) k) is asked)
              | inr none ↦ absurd none
            ]
        | inr none ↦ absurd none
      ]
    ]

-- ---- one allocation

pub polled_permitting : (over : Option ℕ) (now : ℕ) (a : Allocation) → IsPermitting none_gained none_asks a (polled over now a)
unfolding polled
polled_permitting over now a =
    with_lists none_gained none_asks a (polled_permissions over now a.permissions) (not_over over a.pending_permissions)
    (all_polled none_asks a.permissions over now) (fewer_requested none_asks a.transport a.pending_permissions (λ p. not (is_over over p)))

pub rejected_permitting : (number : ℕ) (a : Allocation) → IsPermitting none_gained none_asks a (rejected number a)
unfolding rejected
rejected_permitting number a =
    with_lists none_gained none_asks a (not_renewed_by number a.permissions) (not_pending_request number a.pending_permissions)
    (fewer none_asks a.permissions (λ p. not (renews_permission number p))) (fewer_requested none_asks a.transport a.pending_permissions (λ p. not (asks_for_permission number p)))

pub rejected_alike : (number : ℕ) (a : Allocation) → ((rejected number a).channels ≡ a.channels) × ((rejected number a).pending_channels ≡ a.pending_channels)
unfolding rejected
rejected_alike number a = (refl, refl)

pub renewed_alike : (number now : ℕ) (a : Allocation) → ((renewed number now a).channels ≡ a.channels) × ((renewed number now a).pending_channels ≡ a.pending_channels)
unfolding renewed
renewed_alike number now a = (refl, refl)

pub renewed_permitting : (number now : ℕ) (a : Allocation) → IsPermitting none_gained none_asks a (renewed number now a)
unfolding renewed
renewed_permitting number now a =
    with_lists none_gained none_asks a (map (renewed_permission number (permission_end now)) a.permissions) a.pending_permissions
    (all_renewed none_asks a.permissions number (permission_end now)) (known_itself none_asks a.transport a.pending_permissions)

-- A CREATE_PERMISSION that renews a permission.
abbrev renews_now : (ip : IpAddr) (number : ℕ) (a : Allocation) → IsNow (asks_by (CreatePermission (ip ∷ [])) number) number
renews_now ip number a = (run.Permission a.transport ip, permits_ip (ip ∷ []) ip (inl refl) number a.transport)

pub renewing_again_permitting : (transport : TransportType) (ip : IpAddr) (before number : ℕ) (a : Allocation) → IsPermitting none_gained (asks_by (CreatePermission (ip ∷ [])) number) a (reissued_under (Renewal transport ip) before number a)
renewing_again_permitting transport ip before number a =
    with_lists none_gained (asks_by (CreatePermission (ip ∷ [])) number) a (renewed_again before number a.permissions) a.pending_permissions
    (one_awaiting (asks_by (CreatePermission (ip ∷ [])) number) number (renews_now ip number a) a.permissions (renews_permission before)) (known_itself (asks_by (CreatePermission (ip ∷ [])) number) a.transport a.pending_permissions)

pub renewing_permitting : (ip : IpAddr) (now number : ℕ) (a : Allocation) → IsPermitting none_gained (asks_by (CreatePermission (ip ∷ [])) number) a (renewing now number a)
renewing_permitting ip now number a =
    with_lists none_gained (asks_by (CreatePermission (ip ∷ [])) number) a (renewed_first now number a.permissions) a.pending_permissions
    (one_awaiting (asks_by (CreatePermission (ip ∷ [])) number) number (renews_now ip number a) a.permissions (wants_renewal now)) (known_itself (asks_by (CreatePermission (ip ∷ [])) number) a.transport a.pending_permissions)

-- What the first pending permission names is requested once more.
pub asking_again_permitting : (transport : TransportType) (ip : IpAddr) (before number : ℕ) (a : Allocation) (p : PendingPermission) → find (asks_for_permission before) a.pending_permissions ≡ Some p
    → IsPermitting none_gained (asks_by (CreatePermission (addresses_of p)) number) a (reissued_under (NewPermission transport ip) before number a)
asking_again_permitting transport ip before number a p at =
    with_lists none_gained (asks_by (CreatePermission (addresses_of p)) number) a a.permissions (requested_again before number a.pending_permissions)
    (kin_itself (asks_by (CreatePermission (addresses_of p)) number) a.permissions)
    (once_more (asks_by (CreatePermission (addresses_of p)) number) a.transport before number a.pending_permissions
    (λ q found x named. permits_ip (addresses_of p) x (subst (λ (y : PendingPermission). IsIn x (addresses_of y)) (inside (sym found ∙ at)) named) number a.transport))

-- A permission that a request with this transaction ID asks for.
abbrev pub pending_for : (ip : IpAddr) (others : List IpAddr) → ℕ → PendingPermission
pending_for ip others number = record { ip = ip; others = others; numbers = number ∷ [] }

pub asking_permitting : (ip : IpAddr) (others : List IpAddr) (number : ℕ) (a : Allocation)
    → IsPermitting none_gained (asks_by (CreatePermission (each_once (ip ∷ others))) number) a (asking (pending_for ip others number) a)
asking_permitting ip others number a =
    let Now : Asking = asks_by (CreatePermission (each_once (ip ∷ others))) number in
    with_lists none_gained Now a a.permissions (a.pending_permissions ++ pending_for ip others number ∷ [])
    (kin_itself Now a.permissions)
    (one_more Now a.transport (pending_for ip others number) number a.pending_permissions refl (λ x named. permits_ip (each_once (ip ∷ others)) x named number a.transport))

-- Each of these addresses gets a permission.
pub permitted_permitting : (New : Gaining) (Now : Asking) (ips : List IpAddr) (number now : ℕ) (a : Allocation) → ((ip : IpAddr) → IsIn ip ips → New (run.Permission a.transport ip))
    → IsPermitting New Now a (permitted_all ips number now a)
permitted_permitting New Now ips number now a new =
    with_permissions New Now a (map (λ ip. granted_for ip now) ips) (not_pending_request number a.pending_permissions) granted_each
    (fewer_requested Now a.transport a.pending_permissions (λ p. not (asks_for_permission number p)))
  where
    granted_each : (p : Permission) → IsIn p (map (λ ip. granted_for ip now) ips) → (p.renewals ≡ []) × New (run.Permission a.transport p.ip)
    granted_each p listed =
        let image = in_map (λ ip. granted_for ip now) p ips listed in (
          ap (λ (x : Permission). x.renewals) image.is,
          subst (λ (x : Permission). New (run.Permission a.transport x.ip)) (sym image.is) (new image.source image.listed),
        )

-- ---- all of them

-- The first allocation that passes is changed in this way.
pub first_permitting : (New : Gaining) (Now : Asking) (passes : Allocation → Bool) (f : Allocation → Allocation) (old : List Allocation)
    → ((a : Allocation) → find passes old ≡ Some a → IsPermitting New Now a (f a)) → ArePermitting New Now old (change_first passes f old)
first_permitting New Now passes f old is a listed = elim (in_first passes f a old listed) [
  | inl was ↦ record { before = a; listed = was; is = itself New Now a }
  | inr changed ↦ record {
    before = changed.0;
    listed = found_in passes old changed.0 changed.1;
    is = subst (λ (x : Allocation). IsPermitting New Now changed.0 x) (sym changed.2) (is changed.0 changed.1);
  }
]
