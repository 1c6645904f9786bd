-- Equality of settings.
use Rattle.std.specs.Prelude.{◌≡◌, refl, Bool, true, false, not, nat_eq}
use Rattle.std.specs.Ordering.{on, eq_of_both}
use Rattle.std.specs.Cmp.{IsEquivalence, on_equiv, and_equiv, nat_eq_equiv}
use Rattle.std.specs.Cmp.Lexicographic.{pointwise, nat_list_eq_equiv, options_equiv}
use Rattle.std.specs.Option.{option_eq}
use Rattle.turn_types_attributes.specs.StunTypesIntegrity.Credentials.{NameAndPassword}
use Rattle.stun_types_base.specs.contracts.transport.TransportTypePartialEq.TheImpl as transport
use Rattle.stun_types_base.specs.contracts.transport.TransportTypeEq.TheImpl.Laws as transport_laws
use Rattle.stun_proto_auth.specs.contracts.feature.FeaturePartialEq.TheImpl as feature
use Rattle.stun_proto_auth.specs.contracts.feature.FeatureEq.TheImpl.Laws as feature_laws
use Rattle.stun_proto_auth.specs.contracts.supported.SupportedIntegrityPartialEq.TheImpl as supported
use Rattle.stun_proto_auth.specs.contracts.supported.SupportedIntegrityEq.TheImpl.Laws as supported_laws
use Rattle.turn_client_proto_api.specs.contracts.families.RequestedFamiliesPartialEq.TheImpl as families
use Rattle.turn_client_proto_api.specs.contracts.families.RequestedFamiliesEq.TheImpl.Laws as families_laws
use Rattle.turn_client_proto_api.specs.contracts.options.AllocateOptionsPartialEq.TheImpl as options
use Rattle.turn_client_proto_api.specs.contracts.options.AllocateOptionsEq.TheImpl.Laws as options_laws
use Rattle.turn_client_proto_api.specs.Config.{Config}
use Rattle.turn_client_proto_api.specs.SameWaits.{same_waits, same_waits_equiv}

-- Name and password are equal.
abbrev pub same_account : NameAndPassword → NameAndPassword → Bool
same_account = eq_of_both (on (λ (c : NameAndPassword). c.username) (pointwise nat_eq))
    (on (λ (c : NameAndPassword). c.password) (pointwise nat_eq))

same_account_equiv : IsEquivalence same_account
same_account_equiv = and_equiv (on_equiv (λ (c : NameAndPassword). c.username) nat_list_eq_equiv)
    (on_equiv (λ (c : NameAndPassword). c.password) nat_list_eq_equiv)

-- Both are true, or neither is.
abbrev pub same_bool : Bool → Bool → Bool
same_bool true other = other
same_bool false other = not other

bool_refl : (x : Bool) → same_bool x x ≡ true
bool_refl true = refl
bool_refl false = refl

bool_symm : (x y : Bool) → same_bool x y ≡ same_bool y x
bool_symm true true = refl
bool_symm true false = refl
bool_symm false true = refl
bool_symm false false = refl

bool_congr : (x y z : Bool) → same_bool x y ≡ true → same_bool x z ≡ same_bool y z
bool_congr true true z same = refl
bool_congr false false z same = refl
bool_congr true false z same = absurd (Prim.cc same)
bool_congr false true z same = absurd (Prim.cc same)

same_bool_equiv : IsEquivalence same_bool
same_bool_equiv = record { refl = bool_refl; symm = bool_symm; congr = bool_congr }

-- All fields are equal, each by its own `==`.
abbrev pub same_config : Config → Config → Bool
same_config = eq_of_both (on (λ (c : Config). c.credentials) same_account)
    (eq_of_both (on (λ (c : Config). c.transport) (transport.eq-value).it)
    (eq_of_both (on (λ (c : Config). c.families) (families.eq-value).it)
    (eq_of_both (on (λ (c : Config). c.algorithms) (supported.eq-value).it)
    (eq_of_both (on (λ (c : Config). c.anonymous_username) (feature.eq-value).it)
    (eq_of_both (on (λ (c : Config). c.hardened) same_bool)
    (eq_of_both (on (λ (c : Config). c.max_connection_attempts) (option_eq nat_eq))
    (eq_of_both (on (λ (c : Config). c.short_lifetimes) same_bool)
    (eq_of_both (on (λ (c : Config). c.attempt_indications) same_bool)
    (eq_of_both (on (λ (c : Config). c.options) (options.eq-value).it)
    (eq_of_both (on (λ (c : Config). c.pace) nat_eq)
    (on (λ (c : Config). c.waits) same_waits)))))))))))

pub same_config_equiv : IsEquivalence same_config
same_config_equiv = and_equiv (on_equiv (λ (c : Config). c.credentials) same_account_equiv)
    (and_equiv (on_equiv (λ (c : Config). c.transport) transport_laws.laws-law)
    (and_equiv (on_equiv (λ (c : Config). c.families) families_laws.laws-law)
    (and_equiv (on_equiv (λ (c : Config). c.algorithms) supported_laws.laws-law)
    (and_equiv (on_equiv (λ (c : Config). c.anonymous_username) feature_laws.laws-law)
    (and_equiv (on_equiv (λ (c : Config). c.hardened) same_bool_equiv)
    (and_equiv (on_equiv (λ (c : Config). c.max_connection_attempts) (options_equiv nat_eq_equiv))
    (and_equiv (on_equiv (λ (c : Config). c.short_lifetimes) same_bool_equiv)
    (and_equiv (on_equiv (λ (c : Config). c.attempt_indications) same_bool_equiv)
    (and_equiv (on_equiv (λ (c : Config). c.options) options_laws.laws-law)
    (and_equiv (on_equiv (λ (c : Config). c.pace) nat_eq_equiv)
    (on_equiv (λ (c : Config). c.waits) same_waits_equiv)))))))))))
