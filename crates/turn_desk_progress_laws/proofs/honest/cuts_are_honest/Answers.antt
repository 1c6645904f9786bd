use Rattle.std.proofs.Common.{◌≡◌, ◌≢◌, ◌++◌, ℕ, List, [], ◌∷◌, Vec, refl, sym, ap, ◌∙◌, subst, append_assoc}
use Rattle.std.specs.declared.alloc.Global.{Global}
use Rattle.std.specs.declared.net.socket_addr.SocketAddr.{SocketAddr}
use Rattle.turn_desk_core.specs.StunTypesBase.declared.transport.TransportType.{TransportType}
use Rattle.turn_desk_core.specs.StunTypesBase.declared.transport.TransportType.TheVariants.{Tcp}
use Rattle.turn_client_proto_api.specs.Sent.{Sent}
use Rattle.turn_desk_event.specs.declared.answer.Answer.{Answer}
use Rattle.turn_desk_progress_laws.specs.Scripts.{BringsOn, Came, Challenged, Done, GiveFirst, GiveSecond, Granted, IsCut, IsScript, Plan, brought_first, brought_second, given}
use Rattle.turn_desk_progress_laws.proofs.honest.cuts_are_honest.Goals as goal

none_of : (one other : List ℕ) → [] ≡ one ++ other → one ≡ []
none_of [] other is = refl
none_of (byte ∷ one) other is = absurd (Prim.cc is)

module _ (plan : Plan) (tcp : plan.client.transport ≡ Tcp) (request : Sent) (reply : List ℕ) where
  -- What is left gets shorter by a chunk.
  less : (head left chunk rest : List ℕ) → reply ≡ head ++ left → left ≡ chunk ++ rest → reply ≡ (head ++ chunk) ++ rest
  less head left chunk rest all parts = all ∙ ap (λ (l : List ℕ). head ++ l) parts ∙ sym (append_assoc head chunk rest)

  on : (head chunk rest : List ℕ) → chunk ≢ [] → reply ≡ (head ++ chunk) ++ rest → BringsOn plan.client.transport reply head chunk rest
  on head chunk rest some all = subst (λ (t : TransportType). BringsOn t reply head chunk rest) (sym tcp) (some, all)

  first : (head left : List ℕ) (chunks : List (Vec ℕ Global × Answer)) → reply ≡ head ++ left → IsCut left chunks → IsScript plan (brought_first request reply head left) (given request plan.client.made chunks) Came
  unfolding IsCut IsScript
  first head [] [] all cut = refl
  first head [] (chunk ∷ chunks) all cut = absurd (cut.0 (none_of chunk.0.items cut.1 cut.2))
  first head (byte ∷ left) [] all cut = absurd (Prim.cc cut)
  first head (byte ∷ left) (chunk ∷ chunks) all cut =
      let so = less head (byte ∷ left) chunk.0.items cut.1 all cut.2 in (
        brought_first request reply (head ++ chunk.0.items) cut.1,
        GiveFirst request reply head cut.1 chunk.0 refl (on head chunk.0.items cut.1 cut.0 so) refl refl,
        first (head ++ chunk.0.items) cut.1 chunks so cut.3,
      )

  module _ (address : SocketAddr) (lifetime : ℕ) where
    second : (head left : List ℕ) (chunks : List (Vec ℕ Global × Answer)) → reply ≡ head ++ left → IsCut left chunks
        → IsScript plan (brought_second request address lifetime reply head left) (given request plan.second chunks) (Done request address lifetime reply)
    unfolding IsCut IsScript
    second head [] [] all cut = refl
    second head [] (chunk ∷ chunks) all cut = absurd (cut.0 (none_of chunk.0.items cut.1 cut.2))
    second head (byte ∷ left) [] all cut = absurd (Prim.cc cut)
    second head (byte ∷ left) (chunk ∷ chunks) all cut =
        let so = less head (byte ∷ left) chunk.0.items cut.1 all cut.2 in (
          brought_second request address lifetime reply (head ++ chunk.0.items) cut.1,
          GiveSecond request address lifetime reply head cut.1 chunk.0 refl (on head chunk.0.items cut.1 cut.0 so) refl refl,
          second (head ++ chunk.0.items) cut.1 chunks so cut.3,
        )

pub returns-clause-first : goal.returns-clause-first
returns-clause-first c = λ plan request reply chunks tcp some cut. by plan request reply chunks tcp some cut
  where
    by : (plan : Plan) (request : Sent) (reply : List ℕ) (chunks : List (Vec ℕ Global × Answer)) → plan.client.transport ≡ Tcp → reply ≢ [] → IsCut reply chunks → IsScript plan (Challenged request reply []) (given request plan.client.made chunks) Came
    by plan request [] chunks tcp some cut = absurd (some refl)
    by plan request (byte ∷ reply) chunks tcp some cut = first plan tcp request (byte ∷ reply) [] (byte ∷ reply) chunks refl cut

pub returns-clause-second : goal.returns-clause-second
returns-clause-second c = λ plan request address lifetime reply chunks tcp some cut. by plan request address lifetime reply chunks tcp some cut
  where
    by : (plan : Plan) (request : Sent) (address : SocketAddr) (lifetime : ℕ) (reply : List ℕ) (chunks : List (Vec ℕ Global × Answer)) → plan.client.transport ≡ Tcp → reply ≢ [] → IsCut reply chunks
        → IsScript plan (Granted request address lifetime reply []) (given request plan.second chunks) (Done request address lifetime reply)
    by plan request address lifetime [] chunks tcp some cut = absurd (some refl)
    by plan request address lifetime (byte ∷ reply) chunks tcp some cut = second plan tcp request (byte ∷ reply) address lifetime [] (byte ∷ reply) chunks refl cut
