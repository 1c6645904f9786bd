-- A server core that stored nothing for an address at first stores a nonce for it that announces what it
-- accepts.
use Rattle.std.proofs.Common.{◌≡◌, ℕ, true, false, List, Option, Some, None, cond, refl, sym, ap, ◌∙◌}
use Rattle.std.specs.Prelude.{if◌then◌else◌}
use Rattle.std.specs.Cmp.{eq_by_cmp_equiv}
use Rattle.std.specs.FinMap as map
use Rattle.std.specs.Ordering.{is_eq}
use Rattle.std.specs.declared.net.socket_addr.SocketAddr.{SocketAddr}
use Rattle.rand_core.specs.Stream.{Stream}
use Rattle.turn_desk_core.specs.StunTypesWire.declared.algorithm.IntegrityAlgorithm.{IntegrityAlgorithm}
use Rattle.turn_desk_core.specs.StunTypesBase.SocketAddrs.{socket_addr_cmp, socket_addr_cmp_total}
use Rattle.turn_client_proto_api.proofs.StunProtoAuth.NonceLemmas.{features_in-nonce_text}
use Rattle.turn_client_proto_api.specs.StunProtoAuth.declared.feature.Feature.{Feature}
use Rattle.turn_desk_core.specs.StunProtoVerify.Knowledge.{Outcome}
use Rattle.turn_client_proto_api.specs.StunProtoAuth.Nonce.{features_offered, features_in}
use Rattle.turn_desk_core.specs.StunProtoServer.Server.{Client, Server, has_standing_nonce, new_client, refreshed, room_for, set_outcome, with_new_nonce, with_outcome}
use Rattle.turn_desk_progress_laws.specs.Joining.{ReportsOwn}

put_there : (clients : map.FinMap socket_addr_cmp Client) (from : SocketAddr) (c : Client) → map.get (map.insert clients from c) from ≡ Some c
put_there clients from c =
    let same : is_eq (socket_addr_cmp from from) ≡ true = (eq_by_cmp_equiv socket_addr_cmp_total).refl from in
    map.get-insert socket_addr_cmp_total clients from c from ∙ ap (λ b. cond b (Some c) (map.get clients from)) same

module _ (algorithms : List IntegrityAlgorithm) (anonymous : Feature) (old : Server) (own : old.algorithms ≡ algorithms) (hides : old.anonymous_username ≡ anonymous) (from : SocketAddr) (now : ℕ) (stream : Stream) where
  transmitted_reports : ReportsOwn algorithms anonymous from (with_new_nonce old from now stream)
  transmitted_reports stored there =
      let same : stored ≡ new_client old now stream = Prim.cc (sym there ∙ put_there (room_for old.max_clients old.clients from) from (new_client old now stream)) in
      ap (λ (c : Client). features_in c.nonce) same
      ∙ (features_in-nonce_text (features_offered old.algorithms old.anonymous_username) _
      ∙ (ap (λ (l : List IntegrityAlgorithm). features_offered l old.anonymous_username) own ∙ ap (features_offered algorithms) hides))

  refreshed_reports : ReportsOwn algorithms anonymous from old → ReportsOwn algorithms anonymous from (refreshed old from now stream)
  refreshed_reports decodes = elim (has_standing_nonce old from now) as (λ b. ReportsOwn algorithms anonymous from (if b then old else with_new_nonce old from now stream)) [
    | true ↦ decodes
    | false ↦ transmitted_reports
  ]

module _ (algorithms : List IntegrityAlgorithm) (anonymous : Feature) (server : Server) (from : SocketAddr) (outcome : Option Outcome) (decodes : ReportsOwn algorithms anonymous from server) where
  outcome_by : (found : Option Client) → map.get server.clients from ≡ found → (stored : Client) → map.get (set_outcome server.clients from outcome found) from ≡ Some stored → features_in stored.nonce ≡ features_offered algorithms anonymous
  outcome_by None none stored there = decodes stored there
  outcome_by (Some was) found stored there =
      let same : stored ≡ record was { outcome = outcome } = Prim.cc (sym there ∙ put_there server.clients from (record was { outcome = outcome })) in
      ap (λ (c : Client). features_in c.nonce) same ∙ decodes was found

  pub outcome_reports : ReportsOwn algorithms anonymous from (with_outcome server from outcome)
  outcome_reports stored there = outcome_by (map.get server.clients from) refl stored there

pub answered_reports : (algorithms : List IntegrityAlgorithm) (anonymous : Feature) (old : Server) → old.algorithms ≡ algorithms → old.anonymous_username ≡ anonymous → (from : SocketAddr) (now : ℕ) (stream : Stream) (outcome : Option Outcome)
    → ReportsOwn algorithms anonymous from old → ReportsOwn algorithms anonymous from (with_outcome (refreshed old from now stream) from outcome)
answered_reports algorithms anonymous old own hides from now stream outcome decodes =
    outcome_reports algorithms anonymous (refreshed old from now stream) from outcome (refreshed_reports algorithms anonymous old own hides from now stream decodes)
