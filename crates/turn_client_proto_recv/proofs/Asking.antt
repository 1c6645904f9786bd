-- Requests for buffered data: first the bytes from a connection's peer, and then the data in the stream.
use Rattle.std.proofs.Common.{◌≡◌, ℕ, true, List, [], ◌∷◌, Option, Some, None, option_map, Bool, refl, sym, ap, ◌∙◌, subst, inl, inr}
use Rattle.std.proofs.lemmas.Bool.{cases_Bool}
use Rattle.std.specs.List.{find, list_any}
use Rattle.std.specs.Prelude.{IfOk, MatchOption, OnErr, Result, Ok, Err}
use Rattle.std.specs.declared.net.socket_addr.SocketAddr.{SocketAddr}
use Rattle.stun_types_base.specs.declared.transport.TransportType.TheVariants.{Tcp}
use Rattle.turn_types_frame.specs.Streams.{Stream}
use Rattle.turn_client_proto_allocation.specs.declared.allocation.Allocation.{Allocation}
use Rattle.turn_client_proto_allocation.specs.declared.connection.Connection.{Connection}
use Rattle.turn_client_proto_api.specs.Payloads.{PeerPayload}
use Rattle.turn_client_proto_connection.specs.Streams.{emptied, first_raw, has_raw, is_any_raw, raw_in, raw_stored as stored_of}
use Rattle.turn_client_proto_core.specs.declared.protocol.Protocol.{Protocol}
use Rattle.turn_client_proto_recv.specs.Control.{Open}
use Rattle.turn_client_proto_recv.specs.Chunks.{IsFrameHandled, IsLostOn}
use Rattle.turn_client_proto_recv.specs.Pulls.{IsPulled}
use Rattle.turn_client_proto_recv.specs.Receipts.{IsFirstGiven, IsGivenBy, IsLostBy, control_of, over_tcp}
use Rattle.turn_client_proto_recv.specs.SocketChunks.{IsRawGiven, IsWaitingTaken, raw_waiting}

-- ---- nothing waits

-- If an element passes a test, one is found.
any_found : {X : Type 0} (p : X → Bool) (xs : List X) → list_any p xs ≡ true → find p xs ≡ None → ⊥
any_found p [] any none = absurd (Prim.cc any)
any_found p (x ∷ xs) any none = elim (cases_Bool (p x)) [
  | inl is ↦
      let here : find p (x ∷ xs) ≡ Some x = rw is refl in
      absurd (Prim.cc (sym here ∙ none))
  | inr not ↦
      let later : find p (x ∷ xs) ≡ find p xs = rw not refl in
      let rest : list_any p (x ∷ xs) ≡ list_any p xs = rw not refl in
      any_found p xs (sym rest ∙ any) (sym later ∙ none)
]

none_emptied : (all : List Allocation) → first_raw all ≡ None → emptied all ≡ all
none_emptied [] none = refl
none_emptied (a ∷ rest) none = elim (cases_Bool (is_any_raw a)) [
  | inl is ↦
      let here : first_raw (a ∷ rest) ≡ raw_in a = rw is refl in
      absurd (any_found has_raw a.connections is (sym here ∙ none))
  | inr not ↦
      let later : first_raw (a ∷ rest) ≡ first_raw rest = rw not refl in
      let following : emptied (a ∷ rest) ≡ a ∷ emptied rest = rw not refl in
      following ∙ ap (λ (l : List Allocation). a ∷ l) (none_emptied rest (sym later ∙ none))
]

-- ---- what is taken

-- The outcome, by the connection that was found.
abbrev TakenAs : Option Connection → Protocol → Option PeerPayload → Protocol → Type 0
TakenAs o old given new = MatchOption o ((given ≡ None) × (new ≡ old)) (λ c. IsRawGiven c old given new)

module _ (old new : Protocol) (is : new ≡ record old { allocations = emptied old.allocations }) where
  pub some_taken : (peer : SocketAddr) (bytes : List ℕ) → Some (peer, bytes) ≡ option_map stored_of (raw_waiting old) → IsWaitingTaken old (Some (record { payload = bytes; index = None; transport = Tcp; peer = peer })) new
  some_taken peer bytes given = by (raw_waiting old) given
    where
      found : PeerPayload
      found = record { payload = bytes; index = None; transport = Tcp; peer = peer }

      by : (o : Option Connection) → Some (peer, bytes) ≡ option_map stored_of o → TakenAs o old (Some found) new
      by None given = absurd (Prim.cc given)
      by (Some c) given =
          let same : (peer, bytes) ≡ stored_of c = Prim.cc given in
          record { gives = ap (λ (p : SocketAddr × List ℕ). Some (record { payload = p.1; index = None; transport = Tcp; peer = p.0 })) same; after = is }

  pub none_taken : None ≡ option_map stored_of (raw_waiting old) → IsWaitingTaken old None new
  none_taken given = by (raw_waiting old) refl given
    where
      by : (o : Option Connection) → raw_waiting old ≡ o → None ≡ option_map stored_of o → TakenAs o old None new
      by None at given = (refl, is ∙ ap (λ (l : List Allocation). record old { allocations = l }) (none_emptied old.allocations at))
      by (Some c) at given = absurd (Prim.cc given)

-- ---- the result

nothing_waits : (old new : Protocol) → IsWaitingTaken old None new → (raw_waiting old ≡ None) × (new ≡ old)
nothing_waits old new is = by (raw_waiting old) refl is
  where
    by : (o : Option Connection) → raw_waiting old ≡ o → TakenAs o old None new → (raw_waiting old ≡ None) × (new ≡ old)
    by None at is = (at, is.1)
    by (Some c) at is = absurd (Prim.cc is.gives)

module _ (now : ℕ) (control : Option Stream) (old : Protocol) where
  -- The result if bytes were buffered.
  pub raw_answered : (taken : Option PeerPayload) (given : PeerPayload) (new : Protocol) → taken ≡ Some given → IsWaitingTaken old taken new → IsGivenBy now (control_of control) old (Some given) (over_tcp new control)
  raw_answered taken given new reported is = by_control control (subst (λ (t : Option PeerPayload). IsWaitingTaken old t new) reported is)
    where
      first : (o : Option Connection) (ctl : Option Stream) → TakenAs o old (Some given) new → IsFirstGiven now o (control_of ctl) old (Some given) (over_tcp new ctl)
      first None ctl is = absurd (Prim.cc is.0)
      first (Some c) ctl is = (is, refl)

      by_control : (ctl : Option Stream) → IsWaitingTaken old (Some given) new → IsGivenBy now (control_of ctl) old (Some given) (over_tcp new ctl)
      by_control None is = first (raw_waiting old) None is
      by_control (Some stream) is = first (raw_waiting old) (Some stream) is

  -- The result if none were, and the stream has ended: no data.
  pub none_answered : (taken : Option PeerPayload) (mid : Protocol) → taken ≡ None → IsWaitingTaken old taken mid → control ≡ None → IsGivenBy now (control_of control) old None (over_tcp mid control)
  none_answered taken mid reported is ended =
      let nothing = nothing_waits old mid (subst (λ (t : Option PeerPayload). IsWaitingTaken old t mid) reported is) in
      subst (λ (c : Option Stream). IsGivenBy now (control_of c) old None (over_tcp mid c)) (sym ended)
      (subst (λ (o : Option Connection). IsFirstGiven now o (control_of None) old None (over_tcp mid None)) (sym nothing.0) (refl, nothing.1, refl))

  -- The result if none were, and the stream is open: what is pulled from it.
  module _ (taken : Option PeerPayload) (mid : Protocol) (reported : taken ≡ None) (is : IsWaitingTaken old taken mid) (stream left : Stream) (new : Protocol) (occurs : control ≡ Some stream) where
    pub pull_answered : {E : Type 0} (r : Result (Option PeerPayload) E) → IfOk r (λ given. IsPulled (IsFrameHandled now) stream mid given left new) → IfOk r (λ given. IsGivenBy now (control_of control) old given (over_tcp new (Some left)))
    pull_answered (Err e) pulled = tt
    pull_answered (Ok given) pulled =
        let nothing = nothing_waits old mid (subst (λ (t : Option PeerPayload). IsWaitingTaken old t mid) reported is) in
        subst (λ (c : Option Stream). IsGivenBy now (control_of c) old given (over_tcp new (Some left))) (sym occurs)
        (subst (λ (o : Option Connection). IsFirstGiven now o (Open stream) old given (over_tcp new (Some left))) (sym nothing.0)
        (record { left = left; occurs = refl; pulled = subst (λ (p : Protocol). IsPulled (IsFrameHandled now) stream p given left new) nothing.1 pulled }))

    pub loss_answered : {R E : Type 0} (r : Result R E) → OnErr r (IsLostOn now stream mid new) → OnErr r (IsLostBy now (control_of control) old (over_tcp new (Some left)))
    loss_answered (Ok x) lost = tt
    loss_answered (Err e) lost =
        let nothing = nothing_waits old mid (subst (λ (t : Option PeerPayload). IsWaitingTaken old t mid) reported is) in
        subst (λ (c : Option Stream). IsLostBy now (control_of c) old (over_tcp new (Some left))) (sym occurs)
        (record { no_raw = nothing.0; left = left; occurs = refl; lost = subst (λ (p : Protocol). IsLostOn now stream p new) nothing.1 lost })
