-- Whether a client and a server core can come together.
use Rattle.std.proofs.Common.{◌≡◌, Bool, true, false, refl, sym, ap, ◌∙◌, inl, inr}
use Rattle.std.specs.Prelude.{◌&&◌, not}
use Rattle.turn_desk_core.specs.StunTypesWire.declared.algorithm.IntegrityAlgorithm.{IntegrityAlgorithm}
use Rattle.turn_client_proto_messages.specs.StunProtoClient.Challenges.{ChallengeFields, is_anonymous_enough, is_listed_enough, lacks_list, list_for_choice}
use Rattle.turn_client_proto_messages.specs.StunProtoClient.Choice.{supports, takes}
use Rattle.turn_client_proto_api.specs.StunProtoAuth.declared.feature.Feature.{Feature}
use Rattle.turn_client_proto_api.specs.StunProtoAuth.declared.feature.Feature.TheVariants.{Auto, Required, Disabled}
use Rattle.turn_client_proto_api.specs.StunProtoAuth.Nonce.{features_in, takes_anonymous_username}
use Rattle.turn_desk_core.specs.StunProtoServer.Server.{Server}
use Rattle.turn_client_proto_api.specs.Config.{Config}
use Rattle.turn_client_proto_handshake_laws.specs.Choosing.{IsAnsweredBy, IsBarring}
use Rattle.turn_desk_progress_laws.specs.Promises.{AreApart, IsStrongestOf, MustShowName}
use Rattle.turn_desk_progress_laws.specs.Standing.{IsOfSettings}
use Rattle.turn_desk_progress_laws.proofs.Serving.{first_true, second_true}

both_true : (a b : Bool) → a ≡ true → b ≡ true → (a && b) ≡ true
both_true true b one other = other
both_true false b one other = absurd (Prim.cc one)

clash : {A : Type 0} (b : Bool) → b ≡ true → b ≡ false → A
clash b t f = absurd (Prim.cc (sym t ∙ f))

module _ (config : Config) (server : Server) (reported : ChallengeFields) (of : IsOfSettings server reported) where
  -- ---- the name

  shows_enough : (own other : Feature) → own ≡ Required → other ≡ Disabled → (features_in reported.nonce).anonymous_username ≡ takes_anonymous_username other → is_anonymous_enough own reported.nonce ≡ true → ⊥
  shows_enough Required Disabled one two hides enough = clash (features_in reported.nonce).anonymous_username enough hides
  shows_enough Auto other one two hides enough = absurd (Prim.cc one)
  shows_enough Disabled other one two hides enough = absurd (Prim.cc one)
  shows_enough Required Auto one two hides enough = absurd (Prim.cc two)
  shows_enough Required Required one two hides enough = absurd (Prim.cc two)

  must_show : (own other : Feature) → (features_in reported.nonce).anonymous_username ≡ takes_anonymous_username other → is_anonymous_enough own reported.nonce ≡ false → MustShowName own other
  must_show Required Disabled hides not_enough = (refl, refl)
  must_show Auto other hides not_enough = absurd (Prim.cc not_enough)
  must_show Disabled other hides not_enough = absurd (Prim.cc not_enough)
  must_show Required Auto hides not_enough = clash (features_in reported.nonce).anonymous_username hides not_enough
  must_show Required Required hides not_enough = clash (features_in reported.nonce).anonymous_username hides not_enough

  -- ---- both cases

  module _ (algorithm : IntegrityAlgorithm) (by : IsAnsweredBy config reported algorithm) where
    is_own : supports config.algorithms algorithm ≡ true
    is_own = first_true (supports config.algorithms algorithm) (takes config.hardened (list_for_choice config.hardened reported) algorithm) by.strongest.common

    is_other : supports server.algorithms algorithm ≡ true
    is_other = sym (of.takes_own config.hardened algorithm) ∙ second_true (supports config.algorithms algorithm) (takes config.hardened (list_for_choice config.hardened reported) algorithm) by.strongest.common

    pub together : AreApart config server → ⊥
    together (inl none) = none algorithm is_own is_other
    together (inr shows) = shows_enough config.anonymous_username server.anonymous_username shows.0 shows.1 of.hides by.anonymous

    pub strongest_of_both : IsStrongestOf config.algorithms server.algorithms algorithm
    strongest_of_both = record {
      is_own = is_own;
      is_other = is_other;
      greatest = λ other mine theirs. by.strongest.greatest other (both_true (supports config.algorithms other) (takes config.hardened (list_for_choice config.hardened reported) other) mine (of.takes_own config.hardened other ∙ theirs));
    }

  -- The list that the challenge announces is there.
  lists : (hardened : Bool) → is_listed_enough hardened reported ≡ false → ⊥
  lists false bare = Prim.cc bare
  lists true bare = clash (not (lacks_list reported)) (ap not of.listed) bare

  pub are_apart : IsBarring config reported → AreApart config server
  are_apart (inl none) = inl (λ other mine theirs. clash _ (both_true (supports config.algorithms other) (takes config.hardened (list_for_choice config.hardened reported) other) mine (of.takes_own config.hardened other ∙ theirs)) (none other))
  are_apart (inr (inl plain)) = inr (must_show config.anonymous_username server.anonymous_username of.hides plain)
  are_apart (inr (inr bare)) = absurd (lists config.hardened bare)
