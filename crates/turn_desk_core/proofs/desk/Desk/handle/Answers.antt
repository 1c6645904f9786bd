use Rattle.std.specs.Prelude.{◌<◌, slice_index, Result, Ok, Err, OnErr}
use Rattle.std.proofs.Common.{false, rules, arith, ◌≡◌, ◌≢◌, inl, inr, List, ℕ, subst, sym, refl}
use Rattle.std.specs.declared.net.socket_addr.SocketAddr.{SocketAddr}
use Rattle.rand_core.specs.Stream.{Stream}
use Rattle.stun_proto_verify.specs.declared.error.LongTermServerAuthError.TheVariants.{NoMemory}
use Rattle.stun_proto_server.specs.Server.{SameFor, makes_room}
use Rattle.turn_desk_core.specs.Requests.{IsServed}
use Rattle.turn_desk_core.specs.State.{State}
use Rattle.turn_desk_core.specs.Steps.{IsAnswer, IsAuthAfter, IsUnauthenticated}
use Rattle.turn_desk_core.specs.Verdicts.{verdict_on}
use Rattle.turn_desk_core.proofs.Challenges.{challenged, refused_outcome}
use Rattle.turn_desk_core.proofs.Grants.{exactly_granted}
use Rattle.turn_desk_core.proofs.Keys.{answered, refusal_after, refused_nonce, takes, takes_key}
use Rattle.turn_desk_core.proofs.desk.Desk.handle.Goals as goal

-- The state that a call leaves when an allocation fails.
abbrev OutOfMemory : State → SocketAddr → List ℕ → ℕ → Stream → State → Type 0
OutOfMemory old from bytes now stream new =
    IsServed bytes × (new.grants ≡ old.grants) × IsAuthAfter old.auth from bytes now stream new.auth

on_err : {T E : Type 0} (result : Result T E) {P : Type 0} → P → OnErr result P
on_err (Ok value) holds = tt
on_err (Err error) holds = holds

pub answer-requires-clause-validated : goal.answer-requires-clause-validated
answer-requires-clause-validated g c =
    let stream = g.R.Rng.stream c.args.rng.now in
    takes_key c.self.inside.auth c.args.from c.in-Ok.request c.args.now stream c.validate_incoming_message.new.self
    (takes c.self.inside.auth c.args.from c.in-Ok.request c.args.now stream c.in-Ok-validate_incoming_message.field-0 c.validate_incoming_message.new.self c.in-Ok-validate_incoming_message.ensures.valid)

pub refuse_unauthenticated-requires : goal.refuse_unauthenticated-requires
refuse_unauthenticated-requires g c =
    let stream = g.R.Rng.stream c.args.rng.now in
    let served : IsServed c.in-Ok.request = search rules in
    let ample : c.in-Err.error ≢ NoMemory = search rules in
    let left = refusal_after c.self.inside.auth c.args.from c.in-Ok.request c.args.now stream c.validate_incoming_message.new.self served (c.in-Err.ensures.refused ample).1 in
    record {
      request = served;
      nonce = refused_nonce c.self.inside.auth c.args.from c.args.now stream c.validate_incoming_message.new.self left;
      unvalidated = refused_outcome c.self.inside.auth c.args.from c.args.now stream c.validate_incoming_message.new.self left;
    }

pub returns-in_ok-reply-in-Ok-validate_incoming_message-clause-answer : goal.returns-in_ok-reply-in-Ok-validate_incoming_message-clause-answer
returns-in_ok-reply-in-Ok-validate_incoming_message-clause-answer g c =
    let stream = g.R.Rng.stream c.args.rng.now in
    let old : State = record { auth = c.self.inside.auth; grants = c.self.inside.grants } in
    let what = verdict_on c.in-Ok.request c.args.decision.now in
    let reply = c.in_ok-reply-in-Ok-validate_incoming_message.reply.items in
    let served : IsServed c.in-Ok.request = search rules in
    let are : (i : ℕ) → slice_index c.in-Ok.request i < 256 = subst (λ (b : List ℕ). (i : ℕ) → slice_index b i < 256) (sym c.in-Ok.ensures.0) (λ i. omega (arith, c.type_inv.bytes i)) in
    let t = takes c.self.inside.auth c.args.from c.in-Ok.request c.args.now stream c.in-Ok-validate_incoming_message.field-0 c.validate_incoming_message.new.self c.in-Ok-validate_incoming_message.ensures.valid in
    let here : IsAnswer old c.args.from c.in-Ok.request c.args.now stream c.args.decision.now reply c.answer.new.self =
    inr (answered old c.answer.new.self c.args.from c.in-Ok.request c.args.now stream what c.validate_incoming_message.new.self reply are served t
    c.in_ok-reply-in-Ok-validate_incoming_message.ensures.reply c.in_ok-reply-in-Ok-validate_incoming_message.ensures.granted) in
    subst (λ (s : State). IsAnswer s c.args.from c.args.bytes.now c.args.now stream c.args.decision.now reply c.answer.new.self) c.self.view_is
    (subst (λ (b : List ℕ). IsAnswer old c.args.from b c.args.now stream c.args.decision.now reply c.answer.new.self) c.in-Ok.ensures.0 here)

pub returns-in_ok-reply-in-Ok-validate_incoming_message-clause-grants : goal.returns-in_ok-reply-in-Ok-validate_incoming_message-clause-grants
returns-in_ok-reply-in-Ok-validate_incoming_message-clause-grants g c grant =
    exactly_granted c.args.self.now c.answer.new.self c.args.from c.args.bytes.now c.args.now (g.R.Rng.stream c.args.rng.now) c.args.decision.now c.in_ok-reply-in-Ok-validate_incoming_message.reply.items grant (search rules)
    (returns-in_ok-reply-in-Ok-validate_incoming_message-clause-answer g c)

pub returns-in_ok-reply-in-Err : goal.returns-in_ok-reply-in-Err
returns-in_ok-reply-in-Err g c =
    let stream = g.R.Rng.stream c.args.rng.now in
    let old : State = record { auth = c.self.inside.auth; grants = c.self.inside.grants } in
    let new : State = record { auth = c.validate_incoming_message.new.self; grants = c.self.inside.grants } in
    let reply = c.in_ok-reply-in-Err.reply.items in
    let served : IsServed c.in-Ok.request = search rules in
    let ample : c.in-Err.error ≢ NoMemory = search rules in
    let are : (i : ℕ) → slice_index c.in-Ok.request i < 256 = subst (λ (b : List ℕ). (i : ℕ) → slice_index b i < 256) (sym c.in-Ok.ensures.0) (λ i. omega (arith, c.type_inv.bytes i)) in
    let away : IsUnauthenticated old.auth c.args.from c.in-Ok.request c.args.now stream c.in-Err.error new.auth = record {
      ample = ample;
      refused = (c.in-Err.ensures.refused ample).0;
      after = refusal_after c.self.inside.auth c.args.from c.in-Ok.request c.args.now stream c.validate_incoming_message.new.self served (c.in-Err.ensures.refused ample).1;
    } in
    let here : IsAnswer old c.args.from c.in-Ok.request c.args.now stream c.args.decision.now reply new =
    inl (challenged old new c.args.from c.in-Ok.request c.args.now stream c.in-Err.error reply are served away refl c.in_ok-reply-in-Err.ensures) in
    let there : IsAnswer c.args.self.now c.args.from c.args.bytes.now c.args.now stream c.args.decision.now reply new =
    subst (λ (s : State). IsAnswer s c.args.from c.args.bytes.now c.args.now stream c.args.decision.now reply new) c.self.view_is
    (subst (λ (b : List ℕ). IsAnswer old c.args.from b c.args.now stream c.args.decision.now reply new) c.in-Ok.ensures.0 here) in
    record {
      none = search rules;
      answer = there;
      grants = λ grant. exactly_granted c.args.self.now new c.args.from c.args.bytes.now c.args.now stream c.args.decision.now reply grant (subst IsServed c.in-Ok.ensures.0 served) there;
      memory = tt;
      stream = search rules;
      others = λ other different. subst (λ (s : State). makes_room s.auth c.args.from ≡ false → SameFor other s.auth c.validate_incoming_message.new.self) c.self.view_is (c.validate_incoming_message.ensures.others other different);
    }

pub returns-in_err-reply-in-Err : goal.returns-in_err-reply-in-Err
returns-in_err-reply-in-Err g c =
    let stream = g.R.Rng.stream c.args.rng.now in
    let old : State = record { auth = c.self.inside.auth; grants = c.self.inside.grants } in
    let after = c.validate_incoming_message.new.self in
    let new : State = record { auth = after; grants = c.self.inside.grants } in
    let served : IsServed c.in-Ok.request = search rules in
    let ample : c.in-Err.error ≢ NoMemory = search rules in
    let away : IsUnauthenticated c.self.inside.auth c.args.from c.in-Ok.request c.args.now stream c.in-Err.error after = record {
      ample = ample;
      refused = (c.in-Err.ensures.refused ample).0;
      after = refusal_after c.self.inside.auth c.args.from c.in-Ok.request c.args.now stream after served (c.in-Err.ensures.refused ample).1;
    } in
    let here : OutOfMemory old c.args.from c.in-Ok.request c.args.now stream new = (served, refl, inr (inl (c.in-Err.error, away))) in
    let named : OutOfMemory c.args.self.now c.args.from c.args.bytes.now c.args.now stream new =
    subst (λ (s : State). OutOfMemory s c.args.from c.args.bytes.now c.args.now stream new) c.self.view_is
    (subst (λ (b : List ℕ). OutOfMemory old c.args.from b c.args.now stream new) c.in-Ok.ensures.0 here) in
    record {
      none = search rules;
      answer = search rules;
      grants = search rules;
      memory = on_err c.from_residual-in_err-reply-in-Err.result named;
      stream = search rules;
      others = λ other different. subst (λ (s : State). makes_room s.auth c.args.from ≡ false → SameFor other s.auth c.validate_incoming_message.new.self) c.self.view_is (c.validate_incoming_message.ensures.others other different);
    }

pub returns-in_err-reply-in-Ok-validate_incoming_message-clause-memory :
    goal.returns-in_err-reply-in-Ok-validate_incoming_message-clause-memory
returns-in_err-reply-in-Ok-validate_incoming_message-clause-memory g c =
    let stream = g.R.Rng.stream c.args.rng.now in
    let old : State = record { auth = c.self.inside.auth; grants = c.self.inside.grants } in
    let after = c.validate_incoming_message.new.self in
    let served : IsServed c.in-Ok.request = search rules in
    let t = takes c.self.inside.auth c.args.from c.in-Ok.request c.args.now stream c.in-Ok-validate_incoming_message.field-0 after c.in-Ok-validate_incoming_message.ensures.valid in
    let auth : IsAuthAfter c.self.inside.auth c.args.from c.in-Ok.request c.args.now stream after = inr (inr (t.name, t.algorithm, t.taken)) in
    let here : OutOfMemory old c.args.from c.in-Ok.request c.args.now stream (record { auth = after; grants = c.self.inside.grants }) = (served, refl, auth) in
    let stored = subst (λ (new : State). OutOfMemory old c.args.from c.in-Ok.request c.args.now stream new) (sym c.in_err-reply-in-Ok-validate_incoming_message.ensures.err) here in
    let named : IsServed c.args.bytes.now × (c.answer.new.self.grants ≡ c.args.self.now.grants) × IsAuthAfter c.args.self.now.auth c.args.from c.args.bytes.now c.args.now stream c.answer.new.self.auth =
    subst (λ (s : State). OutOfMemory s c.args.from c.args.bytes.now c.args.now stream c.answer.new.self) c.self.view_is
    (subst (λ (b : List ℕ). OutOfMemory old c.args.from b c.args.now stream c.answer.new.self) c.in-Ok.ensures.0 stored) in
    on_err c.from_residual.result named

pub returns-in_err-reply-in-Ok-validate_incoming_message-clause-others :
    goal.returns-in_err-reply-in-Ok-validate_incoming_message-clause-others
returns-in_err-reply-in-Ok-validate_incoming_message-clause-others g c = λ other different.
    subst (λ (s : State). makes_room s.auth c.args.from ≡ false → SameFor other s.auth c.answer.new.self.auth) c.self.view_is
    (λ none. subst (λ (s : State). SameFor other c.self.inside.auth s.auth) (sym c.in_err-reply-in-Ok-validate_incoming_message.ensures.err) (c.validate_incoming_message.ensures.others other different none))

pub returns-in_ok-reply-in-Ok-validate_incoming_message-clause-others :
    goal.returns-in_ok-reply-in-Ok-validate_incoming_message-clause-others
returns-in_ok-reply-in-Ok-validate_incoming_message-clause-others g c = λ other different.
    subst (λ (s : State). makes_room s.auth c.args.from ≡ false → SameFor other s.auth c.answer.new.self.auth) c.self.view_is
    (λ none. subst (λ (s : State). SameFor other c.self.inside.auth s.auth) (sym c.in_ok-reply-in-Ok-validate_incoming_message.ensures.granted) (c.validate_incoming_message.ensures.others other different none))

pub returns-in-Err-NoMemory-clause-others : goal.returns-in-Err-NoMemory-clause-others
returns-in-Err-NoMemory-clause-others g c = λ other different.
    subst (λ (s : State). makes_room s.auth c.args.from ≡ false → SameFor other s.auth c.validate_incoming_message.new.self) c.self.view_is (c.validate_incoming_message.ensures.others other different)
