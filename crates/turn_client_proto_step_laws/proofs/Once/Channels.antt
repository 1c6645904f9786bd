-- The result of a call for a channel and the client afterwards are determined, unless memory runs out.
use Rattle.std.proofs.Common.{◌≡◌, ◌≢◌, ℕ, ◌<◌, Bool, Option, Some, None, Result, Ok, Err, IfNone, IfSome, refl, sym, ap, ◌∙◌, subst, inl, inr}
use Rattle.std.proofs.lemmas.Bool.{cases_order}
use Rattle.std.specs.Prelude.{MatchOption, MatchResult}
use Rattle.std.specs.declared.net.socket_addr.SocketAddr.{SocketAddr}
use Rattle.turn_client_proto_timers.specs.StunTypesBase.declared.transport.TransportType.{TransportType}
use Rattle.turn_client_proto_timers.specs.Api.declared.error.BindChannelError.{BindChannelError}
use Rattle.turn_client_proto_timers.specs.Api.declared.error.BindChannelError.TheVariants as channels
use Rattle.turn_client_proto_timers.specs.Peers.Channel.Numbers.{IsLeastUntaken, is_taken}
use Rattle.turn_client_proto_timers.specs.Core.Binding.{IsBindAnswered, IsBindTried, IsChannelRequested, after_binding, allocation_to, bind_refusal, bind_refused_in}
use Rattle.turn_client_proto_timers.specs.Core.Numbering.{after_number}
use Rattle.turn_client_proto_timers.specs.Core.declared.protocol.Protocol.{Protocol}
use Rattle.turn_client_proto_step_laws.proofs.Once.Numbering.{next_same}

-- ---- the least number that is free

module _ (taken : ℕ → Bool) where
  none_some : {A : Type 0} (number : ℕ) → IsLeastUntaken taken None → IsLeastUntaken taken (Some number) → A
  none_some number none one = absurd (Prim.cc (sym (none number one.0 one.1) ∙ one.2))

  no_less : {A : Type 0} (number other : ℕ) → IsLeastUntaken taken (Some number) → IsLeastUntaken taken (Some other) → number < other → A
  no_less number other one two less = absurd (Prim.cc (sym (two.3 number one.0 less) ∙ one.2))

  some_same : (number other : ℕ) → IsLeastUntaken taken (Some number) → IsLeastUntaken taken (Some other) → number ≡ other
  some_same number other one two = elim (cases_order number other) [
    | inl same ↦ same
    | inr apart ↦ elim apart [
      | inl less ↦ no_less number other one two less
      | inr more ↦ no_less other number two one more
    ]
  ]

  pub least_free_same : (one other : Option ℕ) → IsLeastUntaken taken one → IsLeastUntaken taken other → one ≡ other
  least_free_same None None a b = refl
  least_free_same None (Some other) a b = none_some other a b
  least_free_same (Some number) None a b = none_some number b a
  least_free_same (Some number) (Some other) a b = ap (λ (n : ℕ). Some n) (some_same number other a b)

-- ---- the call

module _ (old : Protocol) (transport : TransportType) (peer : SocketAddr) (now : ℕ) where
  -- What is done with the least free number, or if there is none.
  abbrev Outcome : Option ℕ → Result (Unit {0}) BindChannelError → Protocol → Type 0
  Outcome free answer new = MatchOption free
      ((answer ≡ Err channels.NoChannel) × (new ≡ old))
      (λ channel. MatchResult answer (λ _. IsChannelRequested old transport peer channel now new) (λ error. (error ≡ channels.NoMemory) × (new ≡ after_number old)))

  requested_same : (channel : ℕ) (one other : Protocol) → IsChannelRequested old transport peer channel now one → IsChannelRequested old transport peer channel now other → one ≡ other
  requested_same channel one other a b = a.after ∙ ap (λ (n : ℕ). after_binding transport peer channel n now old) (next_same old a.number b.number a.is_next b.is_next) ∙ sym b.after

  outcome_same : (free again_free : Option ℕ) (answer again : Result (Unit {0}) BindChannelError) (one other : Protocol) → free ≡ again_free → answer ≢ Err channels.NoMemory → again ≢ Err channels.NoMemory
      → Outcome free answer one → Outcome again_free again other → (answer ≡ again) × (one ≡ other)
  outcome_same None None answer again one other same enough ample a b = (a.0 ∙ sym b.0, a.1 ∙ sym b.1)
  outcome_same None (Some channel) answer again one other same enough ample a b = absurd (Prim.cc same)
  outcome_same (Some channel) None answer again one other same enough ample a b = absurd (Prim.cc same)
  outcome_same (Some channel) (Some number) (Err error) again one other same enough ample a b = absurd (enough (ap (λ (e : BindChannelError). Err e) a.0))
  outcome_same (Some channel) (Some number) (Ok _) (Err error) one other same enough ample a b = absurd (ample (ap (λ (e : BindChannelError). Err e) b.0))
  outcome_same (Some channel) (Some number) (Ok _) (Ok _) one other same enough ample a b =
      let alike : channel ≡ number = Prim.cc same in
      (refl, requested_same number one other (subst (λ (n : ℕ). IsChannelRequested old transport peer n now one) alike a) b)

  tried_same : (answer again : Result (Unit {0}) BindChannelError) (one other : Protocol) → answer ≢ Err channels.NoMemory → again ≢ Err channels.NoMemory
      → IsBindTried old transport peer now answer one → IsBindTried old transport peer now again other → (answer ≡ again) × (one ≡ other)
  tried_same answer again one other enough ample a b =
      outcome_same a.free b.free answer again one other (least_free_same (λ n. is_taken n now old.allocations) a.free b.free a.least b.least) enough ample a.outcome b.outcome

  by_refusal : (refusal : Option BindChannelError) (answer again : Result (Unit {0}) BindChannelError) (one other : Protocol) → answer ≢ Err channels.NoMemory → again ≢ Err channels.NoMemory
      → IfSome refusal (λ error. (answer ≡ Err error) × (one ≡ bind_refused_in (allocation_to transport peer old) transport peer now old)) → IfNone refusal (IsBindTried old transport peer now answer one)
      → IfSome refusal (λ error. (again ≡ Err error) × (other ≡ bind_refused_in (allocation_to transport peer old) transport peer now old)) → IfNone refusal (IsBindTried old transport peer now again other)
      → (answer ≡ again) × (one ≡ other)
  by_refusal (Some error) answer again one other enough ample a x b y = (a.0 ∙ sym b.0, a.1 ∙ sym b.1)
  by_refusal None answer again one other enough ample a x b y = tried_same answer again one other enough ample x y

  pub bind_same : (answer again : Result (Unit {0}) BindChannelError) (one other : Protocol) → answer ≢ Err channels.NoMemory → again ≢ Err channels.NoMemory
      → IsBindAnswered old transport peer now answer one → IsBindAnswered old transport peer now again other → (answer ≡ again) × (one ≡ other)
  bind_same answer again one other enough ample a b = by_refusal (bind_refusal old transport peer now) answer again one other enough ample a.refused a.tried b.refused b.tried
