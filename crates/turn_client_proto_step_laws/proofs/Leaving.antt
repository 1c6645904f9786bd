-- A response that renews or removes permissions and channels is a step of a run.
use Rattle.std.proofs.Common.{◌≡◌, ℕ, List, [], ◌∷◌, None, sym, ◌∙◌, subst}
use Rattle.turn_client_proto_timers.specs.Peers.Channel.Numbers.{AreDistinct}
use Rattle.turn_client_proto_timers.specs.Core.declared.protocol.Protocol.{Protocol}
use Rattle.turn_client_proto_step_laws.specs.Held.{Allocation}
use Rattle.turn_client_proto_step_laws.specs.RunClient.{Client, parts_of}
use Rattle.turn_client_proto_step_laws.specs.RunSteps.{IsRunStep}
use Rattle.turn_client_proto_step_laws.proofs.Adding.{adds_both}
use Rattle.turn_client_proto_step_laws.proofs.Asking.{IsUnderWay}
use Rattle.turn_client_proto_step_laws.proofs.Orderly.{until_all}
use Rattle.turn_client_proto_step_laws.proofs.Fitting.{none_fit, permitting_orderly}
use Rattle.turn_client_proto_step_laws.proofs.Permitting.{ArePermitting, allocations_permitting, none_asks, none_gained}
use Rattle.turn_client_proto_step_laws.proofs.Plain.{counts_none, nothing_transmitted, notices, quiet, run_step}

-- The client is left with these allocations, and with events that report nothing more as created.
pub left_step : (c : Client) (mid : Protocol) (bytes : List ℕ) → IsUnderWay c (bytes ∷ []) mid → (core : Protocol) (left : List Allocation) → ArePermitting none_gained none_asks mid.allocations left → AreDistinct left
    → core ≡ record mid { allocations = left; events = core.events } → notices core.events ≡ notices mid.events → IsRunStep c (bytes ∷ []) None [] core
left_step c mid bytes under_way core left are distinct is reported =
    let after : Protocol = record mid { allocations = left; events = core.events } in
    subst (λ (p : Protocol). IsRunStep c (bytes ∷ []) None [] p) (sym is)
    (run_step [] (bytes ∷ []) None [] c c.transmitted after
    (quiet None [] c c.transmitted after (counts_none c after under_way.rng) under_way.realms
    (adds_both [] (parts_of c.core) (parts_of mid) (record (parts_of mid) { allocations = left }) under_way.adds (allocations_permitting [] none_asks (parts_of mid) left are (λ held n h. absurd h)))
    (nothing_transmitted [] c) (reported ∙ under_way.reported))
    (permitting_orderly none_gained none_asks (parts_of mid) left are (none_fit mid.agent) under_way.orderly distinct) (until_all mid.phase (record {
      account = under_way.can_ask.account;
      settled = under_way.can_ask.settled;
      texts = under_way.can_ask.texts;
      settings = under_way.can_ask.settings;
      words = under_way.can_ask.words;
    })))
