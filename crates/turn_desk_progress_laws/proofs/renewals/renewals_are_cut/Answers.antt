use Rattle.std.proofs.Common.{◌≡◌, ◌≢◌, ◌++◌, ℕ, List, [], ◌∷◌, Vec, refl, sym, ap, ◌∙◌, subst, append_assoc}
use Rattle.std.specs.declared.alloc.Global.{Global}
use Rattle.turn_desk_core.specs.StunTypesBase.declared.transport.TransportType.{TransportType}
use Rattle.turn_desk_core.specs.StunTypesBase.declared.transport.TransportType.TheVariants.{Tcp}
use Rattle.turn_client_proto_api.specs.Sent.{Sent}
use Rattle.turn_desk_event.specs.declared.answer.Answer.{Answer}
use Rattle.turn_desk_progress_laws.specs.Scripts.{BringsOn, IsCut, Plan, given}
use Rattle.turn_desk_progress_laws.specs.Turns.{Gives, IsDriven, Renewing, brought, renewed}
use Rattle.turn_desk_progress_laws.proofs.renewals.renewals_are_cut.Goals as goal

none_of : (one other : List ℕ) → [] ≡ one ++ other → one ≡ []
none_of [] other is = refl
none_of (byte ∷ one) other is = absurd (Prim.cc is)

module _ (plan : Plan) (tcp : plan.client.transport ≡ Tcp) (request : Sent) (reply : List ℕ) (lifetime now : ℕ) where
  on : (head chunk rest : List ℕ) → chunk ≢ [] → reply ≡ (head ++ chunk) ++ rest → BringsOn plan.client.transport reply head chunk rest
  on head chunk rest some all = subst (λ (t : TransportType). BringsOn t reply head chunk rest) (sym tcp) (some, all)

  -- What is left gets shorter by a chunk.
  chunks_on : (head left : List ℕ) (chunks : List (Vec ℕ Global × Answer)) → reply ≡ head ++ left → IsCut left chunks → IsDriven plan (brought request reply head left lifetime now) (given request now chunks) (renewed lifetime now)
  unfolding IsCut IsDriven
  chunks_on head [] [] all cut = refl
  chunks_on head [] (chunk ∷ chunks) all cut = absurd (cut.0 (none_of chunk.0.items cut.1 cut.2))
  chunks_on head (byte ∷ left) [] all cut = absurd (Prim.cc cut)
  chunks_on head (byte ∷ left) (chunk ∷ chunks) all cut =
      let so : reply ≡ (head ++ chunk.0.items) ++ cut.1 = all ∙ ap (λ (l : List ℕ). head ++ l) cut.2 ∙ sym (append_assoc head chunk.0.items cut.1) in (
        brought request reply (head ++ chunk.0.items) cut.1 lifetime now,
        Gives request reply head cut.1 lifetime now chunk.0 refl (on head chunk.0.items cut.1 cut.0 so) refl refl,
        chunks_on (head ++ chunk.0.items) cut.1 chunks so cut.3,
      )

pub returns : goal.returns
returns c = λ plan request reply lifetime now chunks tcp some cut. by plan request reply lifetime now chunks tcp some cut
  where
    by : (plan : Plan) (request : Sent) (reply : List ℕ) (lifetime now : ℕ) (chunks : List (Vec ℕ Global × Answer)) → plan.client.transport ≡ Tcp → reply ≢ [] → IsCut reply chunks
        → IsDriven plan (Renewing request reply [] lifetime now) (given request now chunks) (renewed lifetime now)
    by plan request [] lifetime now chunks tcp some cut = absurd (some refl)
    by plan request (byte ∷ reply) lifetime now chunks tcp some cut = chunks_on plan tcp request (byte ∷ reply) lifetime now [] (byte ∷ reply) chunks refl cut
