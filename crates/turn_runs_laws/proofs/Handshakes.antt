-- How each request, its response and its grant fit together.
use Rattle.std.proofs.Common.{◌≡◌, ◌≢◌, ℕ, zero, suc, [], ◌∷◌, Some, refl, ap, sym, ◌∙◌, subst, ◌⊎◌, inl, inr, arith}
use Rattle.turn_types.specs.StunTypesBase.declared.transport.TransportType.TheVariants.{Tcp}
use Rattle.turn_runs.specs.Members.{IsIn, NoneTwice}
use Rattle.turn_runs.specs.Messages.{Holds, Knows, Asks, Brings, IsGrantFor, Notice, IsOf, PermissionCreated, ChannelCreated}
use Rattle.turn_runs.specs.Names.{SocketAddr, socket_ip, Request, Success}
use Rattle.turn_runs.specs.Steps.{Reported, reported_for, WasKnown}
use Rattle.turn_types.specs.Attributes.TurnRegistry.{connection_attempt_method}
use Rattle.turn_runs_laws.specs.Handshakes.{Addresses, number_at, request_at, response_at, grant_at, reported_at, WaitsAfter}
use Rattle.turn_runs_laws.specs.Rounds.{waiting}
use Rattle.turn_runs_laws.specs.SmallWords.{small_client}

module _ (a : Addresses) where
  pub request_class : (n : ℕ) → (request_at a n).class ≡ Request
  request_class zero = refl
  request_class (suc zero) = refl
  request_class (suc (suc zero)) = refl
  request_class (suc (suc (suc zero))) = refl
  request_class (suc (suc (suc (suc zero)))) = refl
  request_class (suc (suc (suc (suc (suc n))))) = refl

  pub response_class : (n : ℕ) → (response_at a n).class ≡ Success
  response_class zero = refl
  response_class (suc zero) = refl
  response_class (suc (suc zero)) = refl
  response_class (suc (suc (suc zero))) = refl
  response_class (suc (suc (suc (suc zero)))) = refl
  response_class (suc (suc (suc (suc (suc n))))) = refl

  pub not_attempt : (n : ℕ) → (request_at a n).method ≢ connection_attempt_method
  not_attempt zero = λ e. omega (arith, e)
  not_attempt (suc zero) = λ e. omega (arith, e)
  not_attempt (suc (suc zero)) = λ e. omega (arith, e)
  not_attempt (suc (suc (suc zero))) = λ e. omega (arith, e)
  not_attempt (suc (suc (suc (suc zero)))) = λ e. omega (arith, e)
  not_attempt (suc (suc (suc (suc (suc n))))) = λ e. omega (arith, e)

  pub request_number : (n : ℕ) → (request_at a n).number ≡ number_at n
  request_number zero = refl
  request_number (suc zero) = refl
  request_number (suc (suc zero)) = refl
  request_number (suc (suc (suc zero))) = refl
  request_number (suc (suc (suc (suc zero)))) = refl
  request_number (suc (suc (suc (suc (suc n))))) = refl

  pub response_number : (n : ℕ) → (response_at a n).number ≡ number_at n
  response_number zero = refl
  response_number (suc zero) = refl
  response_number (suc (suc zero)) = refl
  response_number (suc (suc (suc zero))) = refl
  response_number (suc (suc (suc (suc zero)))) = refl
  response_number (suc (suc (suc (suc (suc n))))) = refl

  -- What is reported was requested by the request and is brought by the response.
  pub record IsReported (n : ℕ) (t : Reported) : Type 0 where
    pub number_is : t.number ≡ number_at n
    pub is_of : IsOf t.notice t.held
    pub asks : Asks (request_at a n) (Holds t.held)
    pub brings : Brings (response_at a n) (Holds t.held)
    pub known : WasKnown (small_client a) (waiting n) t.held

  moved : (n : ℕ) (one other : Reported) → one ≡ other → IsReported n one → IsReported n other
  moved n one other e h = subst (λ t. IsReported n t) e h

  pub reported_so : (n : ℕ) (t : Reported) → IsIn t (reported_at a n) → IsReported n t
  reported_so zero t i = elim i [
    | inl e ↦ moved zero _ t e (record { number_is = refl; is_of = refl; asks = (refl, refl); brings = (refl, inl refl); known = tt })
    | inr none ↦ absurd none
  ]
  reported_so (suc zero) t i = elim i [
    | inl e ↦ moved 1 _ t e (record { number_is = refl; is_of = refl; asks = inl (refl, record { peer = a.peer; listed = inl refl; ip_is = refl }); brings = refl; known = tt })
    | inr none ↦ absurd none
  ]
  reported_so (suc (suc zero)) t i = elim i [
    | inl e ↦ moved 2 _ t e (record { number_is = refl; is_of = refl; asks = inr (refl, (a.peer, refl, refl)); brings = refl; known = tt })
    | inr j ↦ elim j [
      | inl e ↦ moved 2 _ t e (record { number_is = refl; is_of = (0x4000, refl); asks = (refl, refl, refl); brings = refl; known = tt })
      | inr none ↦ absurd none
    ]
  ]
  reported_so (suc (suc (suc zero))) t i = absurd i
  reported_so (suc (suc (suc (suc zero)))) t i = elim i [
    | inl e ↦ moved 4 _ t e (record { number_is = refl; is_of = (a.local, 7, refl); asks = (refl, refl); brings = refl; known = (refl, refl) })
    | inr none ↦ absurd none
  ]
  reported_so (suc (suc (suc (suc (suc n))))) t i = absurd i

  pub reported_once : (n : ℕ) → NoneTwice reported_for (reported_at a n)
  reported_once zero = ((λ y i e. i), tt)
  reported_once (suc zero) = ((λ y i e. i), tt)
  reported_once (suc (suc zero)) = (
    (λ y i e. elim i [
      | inl f ↦ (let no : PermissionCreated Tcp (socket_ip a.peer) ≡ ChannelCreated Tcp a.peer = sym (ap (λ (x : Notice × ℕ). x.0) e) ∙ ap (λ (t : Reported). t.notice) (sym f) in let never : ⊥ = cc in never)
      | inr none ↦ none
    ]),
    ((λ y i e. i), tt),
  )
  reported_once (suc (suc (suc zero))) = tt
  reported_once (suc (suc (suc (suc zero)))) = ((λ y i e. i), tt)
  reported_once (suc (suc (suc (suc (suc n))))) = tt

  -- The connection may be bound once the CONNECT is answered.
  pub waits_next : (n : ℕ) (number : ℕ) (to : SocketAddr) → WaitsAfter a (suc n) number to →
      WaitsAfter a n number to
      ⊎ (Asks (request_at a n) (Knows number to) × Brings (response_at a n) (Knows number to))
  waits_next zero number to w = absurd w
  waits_next (suc zero) number to w = absurd w
  waits_next (suc (suc zero)) number to w = absurd w
  waits_next (suc (suc (suc zero))) number to w = inr ((refl, ap (λ (p : SocketAddr). p ∷ []) (sym w.1)), (inl refl, ap Some (sym w.0)))
  waits_next (suc (suc (suc (suc n)))) number to w = inl w

  pub grant_for : (n : ℕ) → IsGrantFor (request_at a n) (response_at a n) (grant_at a n)
  grant_for zero = record {
    method_answered = refl;
    number_answered = refl;
    method_is = refl;
    number_is = refl;
    allocates = λ e. (refl, refl, refl);
    refreshes = λ e. refl;
    permits = λ e. refl;
    binds = λ e. absurd (omega (arith, e));
    connects = λ e. absurd (omega (arith, e));
    attaches = λ e. refl;
  }
  grant_for (suc zero) = record {
    method_answered = refl;
    number_answered = refl;
    method_is = refl;
    number_is = refl;
    allocates = λ e. absurd (omega (arith, e));
    refreshes = λ e. refl;
    permits = λ e. refl;
    binds = λ e. absurd (omega (arith, e));
    connects = λ e. absurd (omega (arith, e));
    attaches = λ e. refl;
  }
  grant_for (suc (suc zero)) = record {
    method_answered = refl;
    number_answered = refl;
    method_is = refl;
    number_is = refl;
    allocates = λ e. absurd (omega (arith, e));
    refreshes = λ e. refl;
    permits = λ e. absurd (omega (arith, e));
    binds = λ e. (refl, λ peer f. f);
    connects = λ e. absurd (omega (arith, e));
    attaches = λ e. refl;
  }
  grant_for (suc (suc (suc zero))) = record {
    method_answered = refl;
    number_answered = refl;
    method_is = refl;
    number_is = refl;
    allocates = λ e. absurd (omega (arith, e));
    refreshes = λ e. refl;
    permits = λ e. absurd (omega (arith, e));
    binds = λ e. absurd (omega (arith, e));
    connects = λ e. ((λ peer f. f), refl);
    attaches = λ e. absurd (omega (arith, e));
  }
  grant_for (suc (suc (suc (suc zero)))) = record {
    method_answered = refl;
    number_answered = refl;
    method_is = refl;
    number_is = refl;
    allocates = λ e. absurd (omega (arith, e));
    refreshes = λ e. refl;
    permits = λ e. refl;
    binds = λ e. absurd (omega (arith, e));
    connects = λ e. absurd (omega (arith, e));
    attaches = λ e. refl;
  }
  grant_for (suc (suc (suc (suc (suc n))))) = record {
    method_answered = refl;
    number_answered = refl;
    method_is = refl;
    number_is = refl;
    allocates = λ e. absurd (omega (arith, e));
    refreshes = λ e. refl;
    permits = λ e. refl;
    binds = λ e. absurd (omega (arith, e));
    connects = λ e. absurd (omega (arith, e));
    attaches = λ e. refl;
  }

  pub from_local : (n : ℕ) → (grant_at a n).from ≡ a.local
  from_local zero = refl
  from_local (suc zero) = refl
  from_local (suc (suc zero)) = refl
  from_local (suc (suc (suc zero))) = refl
  from_local (suc (suc (suc (suc zero)))) = refl
  from_local (suc (suc (suc (suc (suc n))))) = refl
