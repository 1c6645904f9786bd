use Rattle.std.proofs.Common.{◌++◌, [], refl, sym, inl, inr, ◌∙◌, append-nil}
use Rattle.turn_client_proto_messages.specs.TurnTypesFrame.Streams.{alive}
use Rattle.turn_client_proto_progress_laws.proofs.TcpBinding.Over.{socket_bound, socket_challenged}
use Rattle.turn_client_proto_progress_laws.proofs.TcpBinding.Chunks.{chunk_fed, chunk_stored}
use Rattle.turn_client_proto_progress_laws.proofs.connections.messages_reach_sockets.Goals as goal

pub returns-clause-chunk : goal.returns-clause-chunk
returns-clause-chunk g c = λ h older permissions here peer connection number made last head events old new came now answer message is apart come over some part received.
    elim (chunk_fed h older permissions here peer connection number made last head events old is apart g.T.AsSlice.items (alive []) come came over now answer new some received) [
      | inl f ↦ (let k = chunk_stored h older permissions here peer connection number made last head events old is apart g.T.AsSlice.items (alive []) come came over now answer new some message part f in inl (k.0, k.1 ∙ come))
      | inr reported ↦ inr reported
    ]

pub returns-clause-bound : goal.returns-clause-bound
returns-clause-bound g c = λ h older permissions here peer connection number made last head events old new came now answer message more is apart come over some whole parts success received.
    elim (chunk_fed h older permissions here peer connection number made last head events old is apart g.T.AsSlice.items (alive []) come came over now answer new some received) [
      | inl f ↦ (let b = socket_bound h older permissions here peer connection number made last head events old is apart g.T.AsSlice.items (alive []) come came over now answer new some f message more whole parts success in inl (b.0, b.1 ∙ come))
      | inr reported ↦ inr reported
    ]

pub returns-clause-challenged : goal.returns-clause-challenged
returns-clause-challenged g c = λ h older permissions here peer connection number made last head events old new came now answer reported choice is apart come over some whole challenge can received.
    elim (chunk_fed h older permissions here peer connection number made last head events old is apart g.T.AsSlice.items (alive []) come came over now answer new some received) [
      | inl f ↦ (let a = socket_challenged h older permissions here peer connection number made last head events old is apart g.T.AsSlice.items (alive []) come came over now answer new some f
          (head ++ g.T.AsSlice.items came.bytes) [] whole (sym (append-nil (head ++ g.T.AsSlice.items came.bytes))) reported challenge choice can refl
          c.proof_requests_are_read.ensures.number c.proof_texts_stay_short.ensures.stay c.texts_stay_read.ensures.stay in
          inl (a.choice, a.answerable, a.next, a.fits, a.requested_is, a.stays ∙ come))
      | inr reported ↦ inr reported
    ]
