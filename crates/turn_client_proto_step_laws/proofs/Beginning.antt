-- The invariant holds of a new client, and nothing was called on it.
use Rattle.std.proofs.Common.{◌≡◌, ℕ, ◌*◌, ◌≤◌, List, length, Some, None, refl, sym, ap, ◌∙◌, subst}
use Rattle.std.specs.FinMap as map
use Rattle.std.specs.Ordering.{nat_cmp}
use Rattle.std.specs.declared.net.socket_addr.SocketAddr.{SocketAddr}
use Rattle.rand_chacha.specs.ChaCha.{of_seed}
use Rattle.rand_core.specs.Stream.{Stream}
use Rattle.turn_client_proto_timers.specs.StunTypesWire.Generated.{number_words}
use Rattle.turn_client_proto_timers.specs.StunTypesBase.GeneratorWords.{stream_after}
use Rattle.turn_client_proto_timers.specs.StunTypesWire.Registry.{longest_username}
use Rattle.turn_client_proto_timers.specs.StunTypesBase.declared.family.AddressFamily.{AddressFamily}
use Rattle.turn_client_proto_timers.specs.StunTypesBase.declared.transport.TransportType.{TransportType}
use Rattle.turn_client_proto_timers.specs.StunProtoTransaction.Agents.{Transaction}
use Rattle.turn_client_proto_recv.specs.StunProtoClient.Client as signers
use Rattle.turn_client_proto_timers.specs.StunProtoAgent.State.{Agent}
use Rattle.turn_client_proto_timers.proofs.StunProtoAgent.Numbers.{fresh_shows}
use Rattle.turn_client_proto_timers.specs.TurnRuns.Members.{IsIn}
use Rattle.turn_client_proto_timers.specs.TurnRuns.Runs as runs
use Rattle.turn_client_proto_timers.specs.TurnRuns.Words.{DeskWords}
use Rattle.turn_client_proto_timers.specs.Api.Config.{Config}
use Rattle.turn_client_proto_timers.specs.Messages.Judging.{signer_of}
use Rattle.turn_client_proto_timers.specs.Messages.ShortTexts.{HasShortTexts}
use Rattle.turn_client_proto_timers.proofs.Messages.Short.{fresh_short}
use Rattle.turn_client_proto_timers.specs.Core.Authenticating.{numbers_sent}
use Rattle.turn_client_proto_timers.specs.Core.Beginning.{IsNew}
use Rattle.turn_client_proto_timers.specs.Messages.Waiting.{Queued}
use Rattle.turn_client_proto_timers.specs.Core.declared.protocol.Phase.{Phase}
use Rattle.turn_client_proto_timers.specs.Core.declared.protocol.Protocol.{Protocol}
use Rattle.turn_client_proto_step_laws.specs.Beginning.{first_client}
use Rattle.turn_client_proto_step_laws.specs.ClientWords.{IsAttempted, IsWaiting, IsAnswered, IsTaken, Outstanding, Allocating, Pending, challenge_in, challenge_of, realm_in, run_words}
use Rattle.turn_client_proto_step_laws.specs.Held.{Allocation}
use Rattle.turn_client_proto_step_laws.specs.RunClient.{parts_of}
use Rattle.turn_client_proto_step_laws.specs.Sound.{IsOrderly, IsSound, stream_from}
use Rattle.turn_client_proto_timers.specs.Peers.Channel.Numbers.{AreDistinct}
use Rattle.turn_client_proto_step_laws.proofs.Lessening.{none_distinct}
use Rattle.turn_client_proto_step_laws.proofs.Orderly.{before_all, until_all}
use Rattle.turn_client_proto_step_laws.proofs.Plain.{notices}

none_after : (seed : Stream) → stream_after (number_words * 0) seed ≡ seed
unfolding stream_after
none_after seed = refl

module _ (transport : TransportType) (here server : SocketAddr) (config : Config) (seed : List ℕ) (p : Protocol) (is : IsNew transport here server config seed p) where
  pub none_there : {A : Type 0} (n : ℕ) (t : Transaction) → map.get p.agent.outstanding n ≡ Some t → A
  none_there n t there = absurd (Prim.cc (sym (map.get-empty nat_cmp n) ∙ sym (ap (λ (a : Agent). map.get a.outstanding n) is.agent) ∙ there))

  none_listed : {A : Type 0} (a : Allocation) → IsIn a p.allocations → A
  none_listed a listed = absurd (subst (λ (l : List Allocation). IsIn a l) is.allocations listed)

  none_queued : {A : Type 0} (q : Queued) → IsIn q p.queue → A
  none_queued q listed = absurd (subst (λ (l : List Queued). IsIn q l) is.queue listed)

  none_sent : {A : Type 0} (n : ℕ) → IsIn n (numbers_sent p.phase) → A
  none_sent n listed = absurd (subst (λ (f : Phase). IsIn n (numbers_sent f)) is.phase listed)

  orderly : IsOrderly (parts_of p)
  orderly = record {
    numbers = fresh_shows p.agent (ap (λ (a : Agent). a.outstanding) is.agent);
    messages = λ n t there. none_there n t there;
    allocates = before_all p.phase (λ n t there. none_there n t there);
    queued = λ q h. none_queued q h;
    lifetimes = λ a h. none_listed a h;
    permissions = λ a h. none_listed a h;
    channels = λ a h. none_listed a h;
    peers = λ a h. none_listed a h;
    connects = λ a h. none_listed a h;
    distinct = subst AreDistinct (sym is.allocations) none_distinct;
  }

  pub new_sound : length config.credentials.username ≤ longest_username → length config.families ≤ 2 → IsSound (first_client config.credentials seed p)
  new_sound short few = record {
    orderly = orderly;
    can_ask = until_all p.phase (record {
      account = ap (λ (a : signers.Client). a.account) is.auth;
      settled = ap (λ (a : signers.Client). a.next_account) is.auth;
      texts = subst HasShortTexts (sym is.auth) (fresh_short (signer_of config) refl refl refl short);
      settings = (subst (λ (l : List AddressFamily). length l ≤ 2) (sym is.families) few, refl);
      words = ap stream_from is.rng ∙ sym (none_after (stream_from (of_seed seed)));
    });
  }

  pub none_taken : (n : ℕ) → IsTaken (parts_of p) n → ⊥
  none_taken n (Outstanding t there) = none_there n t there
  none_taken n (Allocating listed) = none_sent n listed
  none_taken n (Pending a listed pending) = none_listed a listed

  none_attempted : (n : ℕ) → IsAttempted p.allocations p.queue n → ⊥
  none_attempted n (IsWaiting a listed w has number) = none_listed a listed
  none_attempted n (IsAnswered q listed response number) = none_queued q listed

  pub new_realm : realm_in (challenge_of p) ≡ None
  new_realm =
      ap (λ (f : Phase). realm_in (challenge_in f p.auth.challenge)) is.phase
      ∙ ap (λ (a : signers.Client). realm_in a.challenge) is.auth

  pub new_unasked : {D : Type 0} (desk : DeskWords D) → runs.IsNew (run_words desk) (first_client config.credentials seed p)
  new_unasked desk = record {
    none_outstanding = λ m h. none_there h.number h.transaction h.there;
    none_queued = λ m h. none_queued h.queued h.listed;
    none_taken = none_taken;
    none_stored = λ h k. none_listed k.allocation k.listed;
    none_waits = λ number peer h. none_listed h.allocation h.listed;
    none_attempted = none_attempted;
    none_buffered = λ bytes h. absurd h;
    none_created = ap notices is.events;
  }
